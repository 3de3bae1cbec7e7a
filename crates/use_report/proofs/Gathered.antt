-- What a walk over the files of a view gathers.
use Rattle.std.proofs.Common.{◌≡◌, ℕ, Bool, true, false, ◌≤◌, ◌==◌, cond, List, [], ◌∷◌, ◌++◌, length, map, Option, Some, None, Result, Ok, Err, refl, ap, sym, ◌∙◌}
use Rattle.std.specs.Prelude.{option_map, option_to_list, if◌then◌else◌}
use Rattle.std.specs.List.{cons_option}
use Rattle.std.proofs.lemmas.List.{map-append}
use Rattle.std.proofs.lemmas.List.Elements.{filter_map-append}
use Rattle.apfs_model.specs.Lists.{value_of}
use Rattle.bt_node.specs.Entries.{Pair}
use Rattle.bt_node.specs.Shape.{Shape}
use Rattle.bt_keys.specs.RecordKey.{record_kind_of, file_extent_record}
use Rattle.bt_keys.specs.FsTree.{IsFsShape}
use Rattle.bt_keys.proofs.FsKeys.{extent_long}
use Rattle.bt_cursor.specs.Gathered.{children_of}
use Rattle.bt_cursor.specs.Line.{Item, is_leaf_item}
use Rattle.bt_cursor.specs.WholeTree.{child_id, leaf_pairs}
use Rattle.bt_cursor.proofs.Lines.{leaf_pairs-append}
use Rattle.fs_record.specs.Facts.{Fact, told_by, fact_of, read_extent, extents_of}
use Rattle.fs_record.specs.declared.extents.FileExt.{FileExt}
use Rattle.fs_record.specs.declared.fault.RecFault.{RecFault}
use Rattle.use_report.specs.Gathered.{some_extent, extent_in, extent_at, said, Gathers}

-- the key of an extent that was read has its logical address
pub long_read : {K : Type 0} (hashed : Bool) (shape : Shape K) (key : List ℕ) (k : K) (kind : ℕ) → IsFsShape hashed shape → shape.read key ≡ Some k → kind ≡ (shape.rank k).kind → kind ≡ file_extent_record → 16 ≤ length key
long_read hashed shape key k kind law e is eight =
    let known = law.reads key k e in
    extent_long hashed key known.whole (sym known.kind ∙ (sym is ∙ eight))

-- nothing was gathered
pub gathers_none : (below : List ℕ) (extents : List FileExt) → below ≡ [] → extents ≡ [] → Gathers below extents []
unfolding extents_of
gathers_none below extents b e = record { nodes = b; same = e }

-- ---- what one more item gives
one-option : {X : Type 0} (o : Option X) → cons_option o [] ≡ option_to_list o
one-option None = refl
one-option (Some x) = refl

abbrev what : Fact FileExt → FileExt
what f = f.what

said-option : (o : Option (Fact FileExt)) → map what (option_to_list o) ≡ option_to_list (option_map what o)
said-option None = refl
said-option (Some f) = refl

said-append : (ps qs : List Pair) → said (extents_of (ps ++ qs)) ≡ said (extents_of ps) ++ said (extents_of qs)
unfolding extents_of
said-append ps qs = ap (map what) (filter_map-append (fact_of file_extent_record read_extent) ps qs) ∙ map-append what (extents_of ps) (extents_of qs)

read-some : (pair : Pair) (r : Result FileExt RecFault) (extent : Option FileExt) → some_extent r ≡ Ok extent → option_map what (option_map (told_by pair) (value_of r)) ≡ extent
read-some pair (Ok e) extent s = cc
read-some pair (Err why) extent s = absurd (cc)

-- the extent of a record
record-extent : (pair : Pair) (extent : Option FileExt) → extent_in pair ≡ Ok extent → said (extents_of (pair ∷ [])) ≡ option_to_list extent
unfolding extent_in extents_of
record-extent pair extent e =
    let read : Result FileExt RecFault = read_extent pair in
    let go : (b : Bool) → (if b then some_extent read else Ok None) ≡ Ok extent → option_map what (if b then option_map (told_by pair) (value_of read) else None) ≡ extent =
    λ b. elim b as (λ b. (if b then some_extent read else Ok None) ≡ Ok extent → option_map what (if b then option_map (told_by pair) (value_of read) else None) ≡ extent) [
      | true ↦ λ s. read-some pair read extent s
      | false ↦ λ s. let z : ◌≡◌ {A = Result (Option FileExt) RecFault} (Ok None) (Ok extent) = s in cc
    ] in
    ap (map what) (one-option (fact_of file_extent_record read_extent pair)) ∙ (said-option (fact_of file_extent_record read_extent pair) ∙ ap option_to_list (go (record_kind_of pair.key == file_extent_record) e))

-- the extent of an item; one above the leaves gives none
item-extent : (item : Item) (extent : Option FileExt) → extent_at item ≡ Ok extent → said (extents_of (leaf_pairs (item ∷ []))) ≡ option_to_list extent
unfolding extent_at extents_of
item-extent item extent e =
    let go : (b : Bool) → (if b then extent_in item.pair else Ok None) ≡ Ok extent → said (extents_of (map (λ (i : Item). i.pair) (cond b (item ∷ []) []))) ≡ option_to_list extent =
    λ b. elim b as (λ b. (if b then extent_in item.pair else Ok None) ≡ Ok extent → said (extents_of (map (λ (i : Item). i.pair) (cond b (item ∷ []) []))) ≡ option_to_list extent) [
      | true ↦ λ s. record-extent item.pair extent s
      | false ↦ λ s. let z : ◌≡◌ {A = Result (Option FileExt) RecFault} (Ok None) (Ok extent) = s in let none : None ≡ extent = cc in ap option_to_list none
    ] in
    go (is_leaf_item item) e

-- what one more item gives was gathered
pub gathers-more : (below further : List ℕ) (extents later : List FileExt) (items : List Item) (item : Item) (child : Option ℕ) (extent : Option FileExt) → Gathers below extents items → child ≡ child_id item → Ok extent ≡ extent_at item
    → further ≡ below ++ option_to_list child → later ≡ extents ++ option_to_list extent → Gathers further later (items ++ item ∷ [])
gathers-more below further extents later items item child extent had c e f l = record {
  nodes = f ∙ (ap (λ o. below ++ option_to_list o) c ∙ (ap (λ xs. xs ++ option_to_list (child_id item)) had.nodes ∙ (ap (λ xs. children_of items ++ xs) (sym (one-option (child_id item))) ∙ sym (filter_map-append child_id items (item ∷ [])))));
  same = l ∙ (ap (λ xs. xs ++ option_to_list extent) had.same ∙ (ap (λ xs. said (extents_of (leaf_pairs items)) ++ xs) (sym (item-extent item extent (sym e)))
      ∙ (sym (said-append (leaf_pairs items) (leaf_pairs (item ∷ []))) ∙ ap (λ ps. said (extents_of ps)) (sym (leaf_pairs-append items (item ∷ []))))));
}
