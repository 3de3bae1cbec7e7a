-- Laws of what commands answer.
use Rattle.std.specs.Prelude.{◌≡◌, ℕ, List, Ok, Option, Some}
use Rattle.std.proofs.Common.{subst}
use Rattle.view_rules.specs.declared.profile.Profile.{Profile}
use Rattle.view_rules.specs.declared.profile.Profile.TheVariants.{Plain}
use Rattle.apfs_check.specs.WellFormed.{IsWellFormed}
use Rattle.path_search.specs.declared.answer.Answer.{Answer}
use Rattle.cmd_lines.specs.declared.words.Checks.{Checks}
use Rattle.cmd_lines.specs.declared.words.Checks.TheVariants.{Quick, First}
use Rattle.cmd_texts.specs.ByCommand.{IsText, IsAnswer, RestsOn, profile_in, profile_of}
use Rattle.cmd_texts.specs.MeantView.{IsLawfulView}
use Rattle.cmd_texts.specs.Commands.Ls as ls
use Rattle.cmd_texts.specs.Commands.Tree as tree
use Rattle.cmd_texts.specs.Commands.Cat as cat
use Rattle.cmd_texts.specs.Commands.Xattr as xattr
use Rattle.cmd_texts.specs.Commands.Export as export
use Rattle.cmd_texts.specs.First.{ResultBy, RestsBy}
use Rattle.cmd_lines.specs.Words.{Asked, Check, Snapshots, Usage, Ls, Tree, Cat, Xattr, Export, Gen}
use Rattle.cmd_texts.proofs.Views.{text_no_answer, wanted_lawful, answer_lawful}
use Rattle.cmd_texts.proofs.Ways.{volume_or_none}

-- what can't both be without a check can't both be after one
not_both : (checks : Checks) (image : List ℕ) (A B : Type 0) → (A → B → ⊥) → ResultBy checks image A → ResultBy checks image B → ⊥
not_both Quick image A B clash a b = clash a b
not_both (First profile) image A B clash a b = clash a.1 b.1

-- what a result rests on without a check, nothing after one
rests_by : (checks : Checks) (image : List ℕ) (A R : Type 0) → (A → R) → ResultBy checks image A → RestsBy checks R
rests_by Quick image A R rests a = rests a
rests_by (First profile) image A R rests a = tt

-- a command doesn't answer where it has a text
pub text_or_answer : (command : Asked) (image text : List ℕ) (answer : Answer) → IsText command image text → IsAnswer command image answer → ⊥
text_or_answer (Snapshots volume) image text answer has is = volume_or_none image volume (record { seen = has.0; head = has.1; volume = has.2; is = has.3 }) is.1
text_or_answer (Usage volume) image text answer has is = volume_or_none image volume (record { seen = has.1.seen; head = has.1.volume.head; volume = has.1.volume; is = has.1.meant }) is.1.1
text_or_answer (Ls checks target) image text answer has is = not_both checks image (ls.IsText target image text) (ls.IsAnswer target image answer) (text_no_answer (ls.wanted target.path) target image text answer) has is
text_or_answer (Tree checks target) image text answer has is = not_both checks image (tree.IsText target image text) (tree.IsAnswer target image answer) (text_no_answer (tree.wanted target.path) target image text answer) has is
text_or_answer (Cat checks target) image text answer has is = not_both checks image (cat.IsText target image text) (cat.IsAnswer target image answer) (text_no_answer (cat.wanted target.path) target image text answer) has is
text_or_answer (Xattr checks target name) image text answer has is = not_both checks image (xattr.IsText target name image text) (xattr.IsAnswer target name image answer) (text_no_answer (xattr.wanted target.path name) target image text answer) has is
text_or_answer (Export target) image text answer has is = text_no_answer export.wanted target image text answer has.1 is.1
text_or_answer command image text answer has is = is

-- where a command has a text, what it rests on holds
pub text_rests : (command : Asked) (image text : List ℕ) → IsText command image text → RestsOn command image
text_rests (Ls checks target) image text has = rests_by checks image (ls.IsText target image text) (IsLawfulView image target) (wanted_lawful (ls.wanted target.path) target image (Ok text)) has
text_rests (Tree checks target) image text has = rests_by checks image (tree.IsText target image text) (IsLawfulView image target) (wanted_lawful (tree.wanted target.path) target image (Ok text)) has
text_rests (Cat checks target) image text has = rests_by checks image (cat.IsText target image text) (IsLawfulView image target) (wanted_lawful (cat.wanted target.path) target image (Ok text)) has
text_rests (Xattr checks target name) image text has = rests_by checks image (xattr.IsText target name image text) (IsLawfulView image target) (wanted_lawful (xattr.wanted target.path name) target image (Ok text)) has
text_rests command image text has = tt

-- so does it where a command has an answer
pub answer_rests : (command : Asked) (image : List ℕ) (answer : Answer) → IsAnswer command image answer → RestsOn command image
answer_rests (Ls checks target) image answer is = rests_by checks image (ls.IsAnswer target image answer) (IsLawfulView image target) (answer_lawful (ls.wanted target.path) target image answer) is
answer_rests (Tree checks target) image answer is = rests_by checks image (tree.IsAnswer target image answer) (IsLawfulView image target) (answer_lawful (tree.wanted target.path) target image answer) is
answer_rests (Cat checks target) image answer is = rests_by checks image (cat.IsAnswer target image answer) (IsLawfulView image target) (answer_lawful (cat.wanted target.path) target image answer) is
answer_rests (Xattr checks target name) image answer is = rests_by checks image (xattr.IsAnswer target name image answer) (IsLawfulView image target) (answer_lawful (xattr.wanted target.path name) target image answer) is
answer_rests command image answer is = tt

-- what a command that checks the container says rests on nothing, and is of a well-formed container
pub record OfSound (command : Asked) (profile : Profile) : Type 0 where
  pub rests : (image : List ℕ) → RestsOn command image
  pub text : (image text : List ℕ) → IsText command image text → IsWellFormed profile image
  pub answer : (image : List ℕ) (answer : Answer) → IsAnswer command image answer → IsWellFormed profile image

-- one that is well-formed under a profile is so under the one that is asked for, which is the same
right_as : (one profile : Profile) (image : List ℕ) → ◌≡◌ {A = Option Profile} (Some one) (Some profile) → IsWellFormed one image → IsWellFormed profile image
right_as one profile image e right =
    let same : one ≡ profile = Prim.cc in
    let P : Profile → Type 0 = λ p. IsWellFormed p image in
    subst P same right

right_by : (checks : Checks) (profile : Profile) (image : List ℕ) (A : Type 0) → profile_in checks ≡ Some profile → ResultBy checks image A → IsWellFormed profile image
right_by Quick profile image A e is = absurd Prim.cc
right_by (First other) profile image A e is = right_as other profile image e is.0

rests_on_none : (checks : Checks) (profile : Profile) (R : Type 0) → profile_in checks ≡ Some profile → RestsBy checks R
rests_on_none Quick profile R e = absurd Prim.cc
rests_on_none (First other) profile R e = tt

pub of_sound : (command : Asked) (profile : Profile) → profile_of command ≡ Some profile → OfSound command profile
of_sound (Check other) profile e = record {
  rests = λ image. tt;
  text = λ image text is. right_as other profile image e is.1.right;
  answer = λ image answer is. absurd is;
}
of_sound (Usage volume) profile e = record {
  rests = λ image. tt;
  text = λ image text is. right_as Plain profile image e is.0;
  answer = λ image answer is. right_as Plain profile image e is.0;
}
of_sound (Export target) profile e = record {
  rests = λ image. tt;
  text = λ image text is. right_as Plain profile image e is.0;
  answer = λ image answer is. right_as Plain profile image e is.0;
}
of_sound (Gen n) profile e = record {
  rests = λ image. tt;
  text = λ image text is. right_as Plain profile image e is.1.right;
  answer = λ image answer is. absurd is;
}
of_sound (Ls checks target) profile e = record {
  rests = λ image. rests_on_none checks profile (IsLawfulView image target) e;
  text = λ image text is. right_by checks profile image (ls.IsText target image text) e is;
  answer = λ image answer is. right_by checks profile image (ls.IsAnswer target image answer) e is;
}
of_sound (Tree checks target) profile e = record {
  rests = λ image. rests_on_none checks profile (IsLawfulView image target) e;
  text = λ image text is. right_by checks profile image (tree.IsText target image text) e is;
  answer = λ image answer is. right_by checks profile image (tree.IsAnswer target image answer) e is;
}
of_sound (Cat checks target) profile e = record {
  rests = λ image. rests_on_none checks profile (IsLawfulView image target) e;
  text = λ image text is. right_by checks profile image (cat.IsText target image text) e is;
  answer = λ image answer is. right_by checks profile image (cat.IsAnswer target image answer) e is;
}
of_sound (Xattr checks target name) profile e = record {
  rests = λ image. rests_on_none checks profile (IsLawfulView image target) e;
  text = λ image text is. right_by checks profile image (xattr.IsText target name image text) e is;
  answer = λ image answer is. right_by checks profile image (xattr.IsAnswer target name image answer) e is;
}
of_sound command profile e = absurd Prim.cc
