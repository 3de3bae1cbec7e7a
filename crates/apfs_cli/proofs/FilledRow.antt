-- What a folder has after a run, by the items of the command.
use Rattle.std.specs.Prelude.{◌≡◌, ◌⊎◌, ℕ, Bool, true, false, List, [], ◌∷◌, ◌++◌, Option, Some, None, refl}
use Rattle.std.proofs.Common.{inl, inr, sym, ◌∙◌, ap, subst}
use Rattle.std.proofs.lemmas.List.{append-nil}
use Rattle.apfs_model.specs.Sink.{Wrote}
use Rattle.blk_folder.specs.Items.{Item, IsFront}
use Rattle.blk_folder.specs.Put.{FilledPart}
use Rattle.cmd_words.specs.Asked.{AskedTarget}
use Rattle.nx_ring.specs.Checkpoint.{Seen, site_of}
use Rattle.vol_view.specs.Volumes.{Loaded}
use Rattle.vol_view.specs.declared.volume.View.{View}
use Rattle.view_rules.specs.Rules.{view_facts}
use Rattle.tree_export.specs.Exported.{exported}
use Rattle.cmd_texts.specs.ByCommand.{from_of, takes_folder, lead_of, AreItems, RestsOn}
use Rattle.cmd_texts.specs.Commands.Export as export
use Rattle.cmd_texts.specs.Handed.{Looked, Stored}
use Rattle.cmd_lines.specs.Outcome.{Outcome, Written, OutOfMemory, text_of}
use Rattle.apfs_cli.specs.Rows.{IsAsked, HasDefinedItems, HasMore, HasFrontMore, IsFilledWith, HasSafeMore}
use Rattle.cmd_lines.specs.Texts.{IsPrefix}
use Rattle.cmd_texts.specs.Says.{AreFrontIf, AreItemsBy, FillsBy, FillsOn, IsSame, IsSource, StopsTable, PutFailed, IsUntouched, Ran, Says, CameTo, wrong_words, no_image, no_folder, no_part, ran, no_memory}
use Rattle.cmd_lines.specs.Words.{Asked, Line, Export}
use Rattle.cmd_lines.specs.Written.{Sunk}
use Rattle.cmd_texts.proofs.Fillings.{none_safe}
use Rattle.apfs_cli.proofs.Statuses.{text_row, part_filled, fills_none, given_source, one_line}
use Rattle.cmd_texts.proofs.Views.{same_view}

-- ---- the items of a command

-- a command that takes no folder has none
none_there : (command : Asked) (image : List ℕ) (items : List Item) → takes_folder command ≡ false → AreItems command image items → items ≡ []
none_there (Export target) image items e are = absurd Prim.cc
none_there command image items e are = are

-- the items of a view are the ones
one_export : (target : AskedTarget) (image : List ℕ) (a b : List Item) → export.AreItems target image a → export.AreItems target image b → a ≡ b
one_export target image a b first second =
    let P : Seen → Loaded → View → Type 0 = λ s l v. a ≡ exported (site_of s).block_size image (view_facts image (site_of s) l v) in
    same_view image target first.seen second.seen first.volume second.volume first.view second.view P first.is second.is first.same ∙ sym second.same

-- so are those of a command that takes a folder; it rests on nothing
one_items : (command : Asked) (image : List ℕ) (a b : List Item) → takes_folder command ≡ true → (RestsOn command image → AreItems command image a) → AreItems command image b → a ≡ b
one_items (Export target) image a b e first second = one_export target image a b (first tt).1 second.1
one_items command image a b e first second = absurd Prim.cc

-- ---- the folder

-- nothing is a front of all items
none_front : (items : List Item) → IsFront [] items
none_front items = record { whole = []; rest = items; split = refl; end = inl refl }

same_front : (folder : Stored) (items : List Item) → IsSame folder → FilledPart folder.old folder.new items
same_front folder items same held told = ([], none_front items, same held told)

-- where a command came to write its text the folder has its items more
whole_fills : (command : Asked) (image : List ℕ) (source : Looked) (folder : Stored) (text : List ℕ) (items : List Item) → source.bytes ≡ Some image → AreItems command image items → FillsBy command source folder (Written text) →
    HasMore (Some folder) items
whole_fills command image source folder text items told are f = go (takes_folder command) refl
  where
    go : (b : Bool) → takes_folder command ≡ b → HasMore (Some folder) items
    go true e = let P : List Item → Type 0 = λ l. HasMore (Some folder) l in subst P (one_items command image f.added items e (f.are image told) are) f.put
    go false e = let P : List Item → Type 0 = λ l. HasMore (Some folder) l in subst P (sym (none_there command image items e are)) (fills_none command source folder (Written text) e f)

-- of a command's items, or a front of them, these are
front_of : (command : Asked) (image : List ℕ) (added items : List Item) → takes_folder command ≡ true → AreItems command image items → AreFrontIf command image added → IsFront added items
front_of command image added items e are (inl none) = let P : List Item → Type 0 = λ l. IsFront l items in subst P (sym none) (none_front items)
front_of command image added items e are (inr some) = let P : List Item → Type 0 = λ l. IsFront added l in subst P (one_items command image some.0 items e some.1 are) some.2

all_front : (items : List Item) → IsFront items items
all_front items = record { whole = items; rest = []; split = sym (append-nil items); end = inl refl }

part_of : (command : Asked) (image part : List ℕ) (added items : List Item) → takes_folder command ≡ true → AreItems command image items → AreItemsBy command part image added → IsFront added items
part_of command image part added items e are (inl all) = let P : List Item → Type 0 = λ l. IsFront l items in subst P (sym (one_items command image added items e all are)) (all_front items)
part_of command image part added items e are (inr some) = front_of command image added items e are some.1

-- whatever part of its text was written, the folder has a front of them more
front_part : (command : Asked) (image part : List ℕ) (source : Looked) (folder : Stored) (items : List Item) → source.bytes ≡ Some image → AreItems command image items → FillsBy command source folder (OutOfMemory part) → FilledPart folder.old folder.new items
front_part command image part source folder items told are f = go (takes_folder command) refl
  where
    go : (b : Bool) → takes_folder command ≡ b → FilledPart folder.old folder.new items
    go false e = same_front folder items (fills_none command source folder (OutOfMemory part) e f)
    go true e = λ held before. (f.added, part_of command image part f.added items e are (f.are image told), f.put held before)

nothing_before : (part : List ℕ) → IsPrefix part [] → part ≡ []
nothing_before [] before = refl
nothing_before (byte ∷ part) before = let e : ◌≡◌ {A = List ℕ} [] ((byte ∷ part) ++ before.0) = before.1 in absurd Prim.cc

-- a command that takes a folder has no lead
no_lead : (command : Asked) (part : List ℕ) → takes_folder command ≡ true → IsPrefix part (lead_of command) → part ≡ []
no_lead (Export target) part e before = nothing_before part before
no_lead command part e before = absurd Prim.cc

-- the folder has all of them more, or nothing was written
whole_part : (command : Asked) (image part : List ℕ) (source : Looked) (folder : Stored) (items : List Item) → source.bytes ≡ Some image → AreItems command image items → FillsBy command source folder (OutOfMemory part) →
    HasMore (Some folder) items ⊎ (part ≡ [])
whole_part command image part source folder items told are f = go (takes_folder command) refl
  where
    go : (b : Bool) → takes_folder command ≡ b → HasMore (Some folder) items ⊎ (part ≡ [])
    go false e = let P : List Item → Type 0 = λ l. HasMore (Some folder) l in inl (subst P (sym (none_there command image items e are)) (fills_none command source folder (OutOfMemory part) e f))
    go true e = elim (f.are image told) as (λ _. HasMore (Some folder) items ⊎ (part ≡ [])) [
      | inl all ↦ let P : List Item → Type 0 = λ l. HasMore (Some folder) l in inl (subst P (one_items command image f.added items e all are) f.put)
      | inr some ↦ inr (no_lead command part e some.0)
    ]

-- ---- the run

-- the command of a run, and the bytes of its source, are those that are asked for
record IsRunOf (asked : Option Line) (image : Option Looked) (folder : Option Stored) (out : Sunk) (o : Outcome) (command : Asked) (bytes : List ℕ) : Type 0 where
  source : Looked
  told : source.bytes ≡ Some bytes
  fills : FillsOn command source folder o
  part : FillsOn command source folder (OutOfMemory (text_of o))

run_of : (asked : Option Line) (image : Option Looked) (folder : Option Stored) (out : Sunk) (o : Outcome) (command : Asked) (bytes : List ℕ) → IsAsked asked image folder command bytes → Ran asked image folder out o → IsRunOf asked image folder out o command bytes
run_of asked image folder out o command bytes is has =
    let one : has.line ≡ is.line = one_line asked has.line is.line has.words is.words in
    let P : Line → Type 0 = λ l. IsSource l image has.source in
    let Q : Line → Type 0 = λ l. FillsOn l.command has.source folder o in
    let R : Asked → Type 0 = λ c. FillsOn c has.source folder o in
    let Q' : Line → Type 0 = λ l. FillsOn l.command has.source folder (OutOfMemory (text_of o)) in
    let R' : Asked → Type 0 = λ c. FillsOn c has.source folder (OutOfMemory (text_of o)) in
    record {
      source = has.source;
      told = given_source (from_of is.line.command) is.line.in_partition image has.source bytes is.given (subst P one has.source_is);
      fills = subst R is.same (subst Q one has.fills);
      part = subst R' is.same (subst Q' one (part_filled has.line.command has.source folder (PutFailed out folder) o has.says has.fills));
    }

whole_on : (asked : Option Line) (image : Option Looked) (folder : Option Stored) (out : Sunk) (text : List ℕ) (command : Asked) (bytes : List ℕ) (items : List Item) → AreItems command bytes items → IsRunOf asked image folder out (Written text) command bytes → HasMore folder items
whole_on asked image None out text command bytes items are run = tt
whole_on asked image (Some folder) out text command bytes items are run = whole_fills command bytes run.source folder text items run.told are run.fills

front_on : (asked : Option Line) (image : Option Looked) (folder : Option Stored) (out : Sunk) (o : Outcome) (command : Asked) (bytes : List ℕ) (items : List Item) → AreItems command bytes items → IsRunOf asked image folder out o command bytes → HasFrontMore folder items
front_on asked image None out o command bytes items are run = tt
front_on asked image (Some folder) out o command bytes items are run = front_part command bytes (text_of o) run.source folder items run.told are run.part

part_on : (asked : Option Line) (image : Option Looked) (folder : Option Stored) (out : Sunk) (o : Outcome) (command : Asked) (bytes : List ℕ) (items : List Item) → AreItems command bytes items → IsRunOf asked image folder out o command bytes →
    HasMore folder items ⊎ (text_of o ≡ [])
part_on asked image None out o command bytes items are run = inl tt
part_on asked image (Some folder) out o command bytes items are run = whole_part command bytes (text_of o) run.source folder items run.told are run.part

untouched_front : (folder : Option Stored) (items : List Item) → IsUntouched folder → HasFrontMore folder items
untouched_front None items same = tt
untouched_front (Some folder) items same = same_front folder items same

whole_row : (asked : Option Line) (image : Option Looked) (folder : Option Stored) (items : List Item) (result : ℕ) (out err : Sunk) → CameTo asked image folder result out err → HasDefinedItems asked image folder items → result ≡ 0 → HasMore folder items
whole_row asked image folder items result out err a has e =
    let text = text_row asked image folder result out err a e in
    whole_on asked image folder out text.0 has.command has.bytes items has.defined (run_of asked image folder out (Written text.0) has.command has.bytes has.is text.1)

front_row : (asked : Option Line) (image : Option Looked) (folder : Option Stored) (items : List Item) (result : ℕ) (out err : Sunk) → CameTo asked image folder result out err → HasDefinedItems asked image folder items → HasFrontMore folder items
front_row asked image folder items result out err (o, says, ends) has = go says
  where
    go : Says asked image folder out o → HasFrontMore folder items
    go (wrong_words none e same) = untouched_front folder items same
    go (no_image lacks e same) = untouched_front folder items same
    go (no_folder lacks e same) = untouched_front folder items same
    go (no_part lacks same) = untouched_front folder items same
    go (ran run) = front_on asked image folder out o has.command has.bytes items has.defined (run_of asked image folder out o has.command has.bytes has.is run)
    go (no_memory e same) = untouched_front folder items same

-- no words, nothing that was handed in and a fault of the table of partitions leave nothing written
table_wrote : (disk : Looked) (o : Outcome) → StopsTable disk o → text_of o ≡ []
table_wrote disk o (inl fault) = ap text_of fault.1
table_wrote disk o (inr read) = ap text_of read.0

unwritten : (out : Sunk) (text : List ℕ) → text ≡ [] → Wrote out.old out.new text → Wrote out.old out.new []
unwritten out text none wrote = let P : List ℕ → Type 0 = λ l. Wrote out.old out.new l in subst P none wrote

before_row : (asked : Option Line) (image : Option Looked) (folder : Option Stored) (items : List Item) (result : ℕ) (out err : Sunk) → CameTo asked image folder result out err → HasDefinedItems asked image folder items →
    HasMore folder items ⊎ Wrote out.old out.new []
before_row asked image folder items result out err (o, says, ends) has = elim (go says) as (λ _. HasMore folder items ⊎ Wrote out.old out.new []) [ inl more ↦ inl more | inr none ↦ inr (unwritten out (text_of o) none ends.text) ]
  where
    go : Says asked image folder out o → HasMore folder items ⊎ (text_of o ≡ [])
    go (wrong_words none e same) = inr (ap text_of e)
    go (no_image lacks e same) = inr (ap text_of e)
    go (no_folder lacks e same) = inr (ap text_of e)
    go (no_part lacks same) = inr (table_wrote lacks.disk o lacks.stops)
    go (ran run) = part_on asked image folder out o has.command has.bytes items has.defined (run_of asked image folder out o has.command has.bytes has.is run)
    go (no_memory e same) = inr (ap text_of e)

-- the folder has the items more with status 0, and a front of them with each other one; it has them all before anything is written
pub filled_row : (asked : Option Line) (image : Option Looked) (folder : Option Stored) (result : ℕ) (out err : Sunk) → CameTo asked image folder result out err → (items : List Item) → HasDefinedItems asked image folder items → IsFilledWith result out folder items
filled_row asked image folder result out err a items has = record {
  whole = λ e. whole_row asked image folder items result out err a has e;
  front = front_row asked image folder items result out err a has;
  before_text = before_row asked image folder items result out err a has;
}

-- ---- the paths

untouched_safe : (folder : Option Stored) → IsUntouched folder → HasSafeMore folder
untouched_safe None same = tt
untouched_safe (Some folder) same = ([], same, none_safe)

filled_safe : (command : Asked) (source : Looked) (folder : Option Stored) (part : List ℕ) → FillsOn command source folder (OutOfMemory part) → HasSafeMore folder
filled_safe command source None part f = tt
filled_safe command source (Some folder) part f = (f.added, f.put, f.safe)

-- what the folder has more stays in it, whatever the source tells
pub safe_row : (asked : Option Line) (image : Option Looked) (folder : Option Stored) (result : ℕ) (out err : Sunk) → CameTo asked image folder result out err → HasSafeMore folder
safe_row asked image folder result out err (o, says, ends) = go says
  where
    go : Says asked image folder out o → HasSafeMore folder
    go (wrong_words none e same) = untouched_safe folder same
    go (no_image lacks e same) = untouched_safe folder same
    go (no_folder lacks e same) = untouched_safe folder same
    go (no_part lacks same) = untouched_safe folder same
    go (ran run) = filled_safe run.line.command run.source folder (text_of o) (part_filled run.line.command run.source folder (PutFailed out folder) o run.says run.fills)
    go (no_memory e same) = untouched_safe folder same
