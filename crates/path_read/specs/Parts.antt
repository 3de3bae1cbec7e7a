-- What the parts of the calls on attributes give. These are for the contracts of this crate's own functions.
use Rattle.std.specs.Prelude.{◌≡◌, ℕ, Bool, true, false, List, [], ◌∷◌, ◌++◌, Option, None, Some, Result, Ok, Err, if◌then◌else◌}
use Rattle.apfs_model.specs.Lists.{In, and_then}
use Rattle.bt_node.specs.Shape.{Shape}
use Rattle.bt_node.specs.Entries.{Pair}
use Rattle.bt_keys.specs.RecordKey.{record_kind_of, attribute_record}
use Rattle.bt_cursor.specs.Gaps.{Gapped}
use Rattle.bt_cursor.specs.From.{run_in, is_of_kind, starts_whole}
use Rattle.fs_record.specs.Attributes.{Body, Attribute}
use Rattle.fs_record.specs.Attributes.Body.{Embedded, Streamed}
use Rattle.fs_record.specs.Facts.{read_attribute, all_for}
use Rattle.fs_record.specs.declared.fault.RecFault.{RecFault}
use Rattle.view_rules.specs.Facts.{Facts}
use Rattle.path_search.specs.Places.{Place}
use Rattle.path_search.specs.Found.{found}
use Rattle.path_search.specs.Parts.{with_read}
use Rattle.path_search.specs.declared.answer.Answer.{Answer}
use Rattle.path_read.specs.declared.kept.KeptBody.{KeptBody}
use Rattle.path_read.specs.declared.kept.KeptBody.TheVariants as kept
use Rattle.path_read.specs.declared.search.Took.{Took}
use Rattle.path_read.specs.declared.search.Took.TheVariants.{One, End, Refused}

-- what an attribute holds, by what is kept of it
abbrev pub body_of : KeptBody → Body
body_of (kept.Embedded bytes) = Embedded bytes
body_of (kept.Stream id size) = Streamed id size

-- the attributes of an id at the start of some records, after others; nothing where one of them is refused
abbrev pub run_attributes : {K : Type 0} → Shape K → ℕ → List Attribute → List Pair → Option (List Attribute)
run_attributes shape id before [] = Some before
run_attributes shape id before (pair ∷ pairs) =
    if run_in shape (is_of_kind id attribute_record) pair
    then with_read (read_attribute pair) (λ (a : Attribute). run_attributes shape id (before ++ a ∷ []) pairs)
    else Some before

-- what is taken of one more record, whatever comes after it
abbrev pub Takes : {K : Type 0} → Shape K → ℕ → Pair → List Attribute → List Attribute → Took → Type 0
Takes shape id pair old new One = (pairs : List Pair) → run_attributes shape id old (pair ∷ pairs) ≡ run_attributes shape id new pairs
Takes shape id pair old new End = (pairs : List Pair) → run_attributes shape id old (pair ∷ pairs) ≡ Some new
Takes shape id pair old new Refused = (pairs : List Pair) → run_attributes shape id old (pair ∷ pairs) ≡ None

-- what is taken of the records that are left
abbrev pub TakesNext : {K : Type 0} → Shape K → ℕ → List Pair → List Pair → List Attribute → List Attribute → Took → Type 0
TakesNext shape id left left_then old new One = run_attributes shape id old left ≡ run_attributes shape id new left_then
TakesNext shape id left left_then old new End = run_attributes shape id old left ≡ Some new
TakesNext shape id left left_then old new Refused = run_attributes shape id old left ≡ None

-- whether a record that isn't refused is an attribute of an id
abbrev pub IsOfRun : {K : Type 0} → Shape K → ℕ → Pair → Took → Type 0
IsOfRun shape id pair One = run_in shape (is_of_kind id attribute_record) pair ≡ true
IsOfRun shape id pair End = run_in shape (is_of_kind id attribute_record) pair ≡ false
IsOfRun shape id pair Refused = Unit {0}

-- no gap stands among the attributes of an id that are left
abbrev pub are_whole : {K : Type 0} → Shape K → ℕ → List (Gapped Pair) → Bool
are_whole shape id left = starts_whole shape (is_of_kind id attribute_record) left

-- whether one does, where one more of them was taken
abbrev pub GoesWhole : {K : Type 0} → Shape K → ℕ → List (Gapped Pair) → List (Gapped Pair) → Took → Type 0
GoesWhole shape id left left_then One = are_whole shape id left ≡ are_whole shape id left_then
GoesWhole shape id left left_then End = are_whole shape id left ≡ true
GoesWhole shape id left left_then Refused = Unit {0}

-- a record of an attribute is refused
pub record HasRefused (pairs : List Pair) : Type 0 where
  pub pair : Pair
  pub one : In pair pairs
  pub kind : record_kind_of pair.key ≡ attribute_record
  pub why : RecFault
  pub refusal : read_attribute pair ≡ Err why

-- the attributes of what a path leads to, in record order, or the answer
abbrev pub attributes_at : Facts → List ℕ → Result (List Attribute) Answer
attributes_at facts path = and_then (found facts path) (λ (place : Place). Ok (all_for place.id facts.attributes))
