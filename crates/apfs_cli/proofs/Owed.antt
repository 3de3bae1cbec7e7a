-- What each command owes: what the clauses on statuses rest on beside the outcomes.
use Rattle.std.specs.Prelude.{◌≡◌, ℕ, List, Some}
use Rattle.view_rules.specs.declared.profile.Profile.{Profile}
use Rattle.apfs_check.specs.WellFormed.{IsWellFormed}
use Rattle.path_search.specs.declared.answer.Answer.{Answer}
use Rattle.cmd_texts.specs.ByCommand.{IsText, IsAnswer, RestsOn, profile_of, HasResult}
use Rattle.cmd_lines.specs.Words.{Asked}
use Rattle.apfs_cli.proofs.Answered.{text_or_answer, text_rests, answer_rests, of_sound}
use Rattle.cmd_texts.proofs.Checked.{sound_result}

-- what a command owes
pub record IsOwed (command : Asked) : Type 0 where
  -- it has no text and an answer of one image
  pub apart : (image text : List ℕ) (answer : Answer) → IsText command image text → IsAnswer command image answer → ⊥
  -- where it has one of them, what it rests on holds
  pub text_rests : (image text : List ℕ) → IsText command image text → RestsOn command image
  pub answer_rests : (image : List ℕ) (answer : Answer) → IsAnswer command image answer → RestsOn command image
  -- where it checks the container, it rests on nothing, has them of a well-formed container alone, and has one of them of each such
  pub rests : (profile : Profile) → profile_of command ≡ Some profile → (image : List ℕ) → RestsOn command image
  pub text_sound : (profile : Profile) → profile_of command ≡ Some profile → (image text : List ℕ) → IsText command image text → IsWellFormed profile image
  pub answer_sound : (profile : Profile) → profile_of command ≡ Some profile → (image : List ℕ) (answer : Answer) → IsAnswer command image answer → IsWellFormed profile image
  pub result : (profile : Profile) → profile_of command ≡ Some profile → (image : List ℕ) → IsWellFormed profile image → HasResult command image

-- each command owes it
pub owed : (command : Asked) → IsOwed command
owed command = record {
  apart = text_or_answer command;
  text_rests = text_rests command;
  answer_rests = answer_rests command;
  rests = λ profile e image. (of_sound command profile e).rests image;
  text_sound = λ profile e image text has. (of_sound command profile e).text image text has;
  answer_sound = λ profile e image answer is. (of_sound command profile e).answer image answer is;
  result = λ profile e image right. sound_result command profile image e right;
}
