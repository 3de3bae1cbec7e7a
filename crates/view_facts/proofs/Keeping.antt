-- What is kept after one more item.
use Rattle.std.proofs.Common.{◌≡◌, ℕ, zero, suc, ◌+◌, ◌<◌, Bool, true, false, cond, List, [], ◌∷◌, ◌++◌, length, map, Option, Some, None, inl, inr, refl, ap, sym, ◌∙◌, subst, arith, length-append, append-nil}
use Rattle.std.specs.Prelude.{slice_get, min, ◌^◌, ◌-◌}
use Rattle.std.proofs.lemmas.Bool.Decides.{nat_tests}
use Rattle.apfs_model.specs.Counts.{given}
use Rattle.apfs_model.proofs.Searches.{in-append}
use Rattle.bt_cursor.specs.Line.{Item, is_leaf_item}
use Rattle.bt_cursor.specs.WholeTree.{leaf_pairs}
use Rattle.bt_cursor.proofs.Lines.{leaf_pairs-append, leaf_pairs-inner}
use Rattle.fs_name.specs.declared.naming.Names.{Names}
use Rattle.fs_record.specs.Facts.{refused}
use Rattle.fs_record.specs.declared.fault.RecFault.{RecFault}
use Rattle.view_rules.specs.Facts.{Facts, facts_in}
use Rattle.view_rules.specs.Rules.{refusal_of, HasRecords, IsRecord}
use Rattle.view_facts.specs.Contents.{kept_facts}
use Rattle.view_facts.specs.Adding.{facts_with}
use Rattle.view_facts.specs.Refusals.{or_this, IsRefusal}
use Rattle.view_facts.specs.Kept.{IsKeptOf}
use Rattle.view_facts.specs.declared.keep.Refusal.{Refusal}
use Rattle.view_facts.proofs.Adds.{facts-more}

-- one more of a number that is given
given-more : (old n new : ℕ) → old ≡ given n → new ≡ min (old + 1) (2 ^ 64 - 1) → new ≡ given (n + 1)
given-more old n new a b = omega arith

get-left : {X : Type 0} (xs ys : List X) (i : ℕ) (x : X) → slice_get xs i ≡ Some x → slice_get (xs ++ ys) i ≡ Some x
get-left [] ys i x e = absurd cc
get-left (y ∷ xs) ys zero x e = e
get-left (y ∷ xs) ys (suc i) x e = get-left xs ys i x e

get-here : {X : Type 0} (xs : List X) (x : X) → slice_get (xs ++ x ∷ []) (length xs) ≡ Some x
get-here [] x = refl
get-here (y ∷ xs) x = get-here xs x

length-more : {X : Type 0} (xs : List X) (x : X) → length (xs ++ x ∷ []) ≡ length xs + 1
length-more xs x = length-append xs (x ∷ [])

-- a refusal stays
record-more : (names : Names) (line : List Item) (item : Item) (at : ℕ) (why : RecFault) → IsRecord names line at why → IsRecord names (line ++ item ∷ []) at why
record-more names line item at why r = record { number = r.number; item = r.item; found = get-left line (item ∷ []) r.number r.item r.found; part = r.part; same = r.same }

-- the next item is refused
record-here : (names : Names) (line : List Item) (item : Item) (at : ℕ) (why : RecFault) → at ≡ given (length line) → refusal_of names item ≡ Some why → IsRecord names (line ++ item ∷ []) at why
record-here names line item at why counted part = record { number = length line; item = item; found = get-here line item; part = part; same = counted }

-- the next item isn't refused
records-more : (names : Names) (line : List Item) (item : Item) → HasRecords names line → refusal_of names item ≡ None → HasRecords names (line ++ item ∷ [])
records-more names line item all fine other listed = elim (in-append other line (item ∷ []) listed) as (λ _. refusal_of names other ≡ None) [
  | inl before ↦ all other before
  | inr here ↦ elim here as (λ _. refusal_of names other ≡ None) [ inl same ↦ ap (refusal_of names) same ∙ fine | inr none ↦ absurd none ]
]

refusal-more : (names : Names) (line : List Item) (item : Item) (refusal : Option Refusal) (at : ℕ) (why : Option RecFault) → at ≡ given (length line) → refusal_of names item ≡ why → IsRefusal names line refusal → IsRefusal names (line ++ item ∷ []) (or_this refusal at why)
refusal-more names line item (Some r) at why counted part had = record-more names line item r.item r.why had
refusal-more names line item None at None counted part had = records-more names line item had part
refusal-more names line item None at (Some w) counted part had = record-here names line item at w counted part

refusal-leaf : (names : Names) (item : Item) → item.level ≡ 0 → refusal_of names item ≡ refused names item.pair
unfolding refusal_of
refusal-leaf names item leaf = let t : is_leaf_item item ≡ true = grind (arith, nat_tests) in ap (λ (b : Bool). cond b (refused names item.pair) None) t

refusal-inner : (names : Names) (item : Item) → 0 < item.level → refusal_of names item ≡ None
unfolding refusal_of
refusal-inner names item inner = let t : is_leaf_item item ≡ false = grind (arith, nat_tests) in ap (λ (b : Bool). cond b (refused names item.pair) None) t

leaf-more : (line : List Item) (item : Item) → item.level ≡ 0 → leaf_pairs (line ++ item ∷ []) ≡ leaf_pairs line ++ item.pair ∷ []
leaf-more line item leaf =
    let t : is_leaf_item item ≡ true = grind (arith, nat_tests) in
    let one : leaf_pairs (item ∷ []) ≡ item.pair ∷ [] = ap (λ (b : Bool). map (λ (i : Item). i.pair) (cond b (item ∷ []) [])) t in
    leaf_pairs-append line (item ∷ []) ∙ ap (λ ps. leaf_pairs line ++ ps) one

-- no item was passed yet
pub kept-none : (files : Bool) (facts : Facts) → facts ≡ kept_facts files (facts_in facts.names []) → IsKeptOf files facts 0 0 None []
kept-none files facts said = record { said = said; passed = refl; counted = refl; refused = λ item listed. absurd listed }

-- one more record
pub kept-leaf : (files : Bool) (facts later : Facts) (items items' records records' : ℕ) (refusal : Option Refusal) (why : Option RecFault) (line : List Item) (item : Item) → item.level ≡ 0 → IsKeptOf files facts items records refusal line
    → later ≡ facts_with files facts item.pair → items' ≡ min (items + 1) (2 ^ 64 - 1) → records' ≡ min (records + 1) (2 ^ 64 - 1) → why ≡ refused facts.names item.pair → IsKeptOf files later items' records' (or_this refusal items why) (line ++ item ∷ [])
kept-leaf files facts later items items' records records' refusal why line item leaf had added i r w =
    let pairs = leaf-more line item leaf in
    let said : facts_with files facts item.pair ≡ kept_facts files (facts_in facts.names (leaf_pairs (line ++ item ∷ []))) =
    ap (λ (f : Facts). facts_with files f item.pair) had.said ∙ (sym (facts-more files facts.names (leaf_pairs line) item.pair) ∙ ap (λ ps. kept_facts files (facts_in facts.names ps)) (sym pairs)) in
    subst (λ (f : Facts). IsKeptOf files f items' records' (or_this refusal items why) (line ++ item ∷ [])) (sym added) (record {
      said = said;
      passed = given-more items (length line) items' had.passed i ∙ ap given (sym (length-more line item));
      counted = given-more records (length (leaf_pairs line)) records' had.counted r ∙ ap given (sym (ap length pairs ∙ length-more (leaf_pairs line) item.pair));
      refused = refusal-more facts.names line item refusal items why had.passed (refusal-leaf facts.names item leaf ∙ sym w) had.refused;
    })

-- one more item above the leaves
pub kept-inner : (files : Bool) (facts : Facts) (items items' records : ℕ) (refusal : Option Refusal) (line : List Item) (item : Item) → 0 < item.level → IsKeptOf files facts items records refusal line → items' ≡ min (items + 1) (2 ^ 64 - 1) → IsKeptOf files facts items' records refusal (line ++ item ∷ [])
kept-inner files facts items items' records refusal line item inner had i =
    let pairs : leaf_pairs (line ++ item ∷ []) ≡ leaf_pairs line =
    leaf_pairs-append line (item ∷ []) ∙ (ap (λ ps. leaf_pairs line ++ ps) (leaf_pairs-inner item.node item.at item.level item.pair [] inner) ∙ append-nil (leaf_pairs line)) in
    let keeps : or_this refusal items None ≡ refusal = elim refusal as (λ (o : Option Refusal). or_this o items None ≡ o) [ None ↦ refl | Some r ↦ refl ] in
    record {
      said = had.said ∙ ap (λ ps. kept_facts files (facts_in facts.names ps)) (sym pairs);
      passed = given-more items (length line) items' had.passed i ∙ ap given (sym (length-more line item));
      counted = had.counted ∙ ap (λ ps. given (length ps)) (sym pairs);
      refused = subst (λ (o : Option Refusal). IsRefusal facts.names (line ++ item ∷ []) o) keeps (refusal-more facts.names line item refusal items None had.passed (refusal-inner facts.names item inner) had.refused);
    }
