-- The entries and the inodes of a tree in order stand by ids that don't fall.
use Rattle.std.proofs.Common.{◌≡◌, ◌==◌, ℕ, ◌≤◌, Bool, true, false, cond, List, [], ◌∷◌, map, Option, Some, None, Result, inl, inr, refl, ap, sym, subst, arith, All}
use Rattle.std.specs.Prelude.{filter, option_map, IsSome}
use Rattle.std.specs.List.{cons_option}
use Rattle.std.proofs.lemmas.Bool.{false≢true}
use Rattle.std.proofs.lemmas.Bool.Decides.{nat_tests}
use Rattle.apfs_model.specs.Lists.{In, value_of}
use Rattle.apfs_model.proofs.Searches.{from-map, from-filter}
use Rattle.bt_node.specs.Shape.{Shape}
use Rattle.bt_node.specs.Rank.{is_below}
use Rattle.bt_node.specs.Entries.{Pair}
use Rattle.bt_node.specs.declared.key.Rank.{Rank}
use Rattle.bt_keys.specs.FsTree.{IsFsShape}
use Rattle.bt_keys.specs.RecordKey.{id_of, record_kind_of, entry_record, inode_record}
use Rattle.bt_cursor.specs.Line.{Item, is_leaf_item}
use Rattle.bt_cursor.specs.WholeTree.{leaf_pairs}
use Rattle.bt_cursor.specs.Order.{rank_of, rank_or_least, ranks_below, is_ordered}
use Rattle.bt_cursor.specs.Search.{IsInOrder}
use Rattle.bt_cursor.proofs.Ranks.{ordered-means}
use Rattle.fs_name.specs.declared.naming.Names.{Names}
use Rattle.fs_record.specs.Facts.{Fact, told_by, fact_of, facts_of, read_inode, read_entry, inodes_of, entries_of}
use Rattle.fs_record.specs.declared.fault.RecFault.{RecFault}
use Rattle.omap_map.proofs.Lists.{all-in}
use Rattle.path_search.specs.Parts.{Rises}
use Rattle.path_search.proofs.Searched.{HasKeys}
use Rattle.path_search.proofs.Tallies.{in-given}

-- no record ranks below one before it
PairsRise : {K : Type 0} → Shape K → List Pair → Type 0
PairsRise shape [] = Unit {0}
PairsRise shape (p ∷ ps) = ((q : Pair) → In q ps → is_below (rank_of shape q) (rank_of shape p) ≡ false) × PairsRise shape ps

rise-if : {K : Type 0} (shape : Shape K) (item : Item) (items : List Item) (b : Bool) → All (λ (after : Item). ranks_below shape after item ≡ false) items → PairsRise shape (leaf_pairs items) → PairsRise shape (map (λ (i : Item). i.pair) (cond b (item ∷ filter is_leaf_item items) (filter is_leaf_item items)))
unfolding PairsRise
rise-if shape item items false above rest = rest
rise-if shape item items true above rest = (
  λ q h.
      let t = from-map (λ (i : Item). i.pair) (filter is_leaf_item items) q h in
      subst (λ (p : Pair). is_below (rank_of shape p) (rank_of shape item.pair) ≡ false) (sym t.1.1) (all-in (λ (after : Item). ranks_below shape after item ≡ false) items above t.0 (from-filter is_leaf_item t.0 items t.1.0)),
  rest,
)

pairs-rise : {K : Type 0} (shape : Shape K) (items : List Item) → IsInOrder shape items → PairsRise shape (leaf_pairs items)
unfolding PairsRise
pairs-rise shape [] order = tt
pairs-rise shape (item ∷ items) order = rise-if shape item items (is_leaf_item item) order.0 (pairs-rise shape items order.1)

above-id : (r s : Rank) → is_below r s ≡ false → s.id ≤ r.id
above-id r s e = grind (arith, nat_tests)

key-id : {K : Type 0} (hashed : Bool) (shape : Shape K) → IsFsShape hashed shape → (pair : Pair) (o : Option K) → shape.read pair.key ≡ o → IsSome o → (rank_or_least shape o).id ≡ id_of pair.key
key-id hashed shape law pair None e some = absurd (false≢true some)
key-id hashed shape law pair (Some key) e some = (law.reads pair.key key e).id

fact-id : {X : Type 0} (kind : ℕ) (read : Pair → Result X RecFault) (pair : Pair) (f : Fact X) (a : Bool) (o : Option X) → cond a (option_map (told_by pair) o) None ≡ Some f → f.id ≡ id_of pair.key
fact-id {X} kind read pair f true (Some x) e = let s : told_by pair x ≡ f = cc in sym (ap (λ (g : Fact X). g.id) s)
fact-id kind read pair f b o e = absurd cc

rise-step : {K X : Type 0} (hashed : Bool) (shape : Shape K) → IsFsShape hashed shape → (kind : ℕ) (read : Pair → Result X RecFault) (pair : Pair) (pairs : List Pair) → HasKeys shape (pair ∷ pairs) → ((q : Pair) → In q pairs → is_below (rank_of shape q) (rank_of shape pair) ≡ false) → (o : Option (Fact X)) → fact_of kind read pair ≡ o → Rises (facts_of kind read pairs) → Rises (cons_option o (facts_of kind read pairs))
rise-step hashed shape law kind read pair pairs keys above None e rest = rest
rise-step {K} {X} hashed shape law kind read pair pairs keys above (Some f) e rest = (
  λ g h.
      let t = in-given (fact_of kind read) pairs g h in
      let a : f.id ≡ id_of pair.key = fact-id kind read pair f (record_kind_of pair.key == kind) (value_of (read pair)) e in
      let b : g.id ≡ id_of t.0.key = fact-id kind read t.0 g (record_kind_of t.0.key == kind) (value_of (read t.0)) t.1.1 in
      let c : (rank_of shape pair).id ≡ id_of pair.key = key-id hashed shape law pair (shape.read pair.key) refl (keys pair (inl refl)) in
      let d : (rank_of shape t.0).id ≡ id_of t.0.key = key-id hashed shape law t.0 (shape.read t.0.key) refl (keys t.0 (inr t.1.0)) in
      let k : (rank_of shape pair).id ≤ (rank_of shape t.0).id = above-id (rank_of shape t.0) (rank_of shape pair) (above t.0 t.1.0) in
      omega arith,
  rest,
)

facts-rise : {K X : Type 0} (hashed : Bool) (shape : Shape K) → IsFsShape hashed shape → (kind : ℕ) (read : Pair → Result X RecFault) (pairs : List Pair) → HasKeys shape pairs → PairsRise shape pairs → Rises (facts_of kind read pairs)
unfolding PairsRise
facts-rise hashed shape law kind read [] keys rise = tt
facts-rise hashed shape law kind read (pair ∷ pairs) keys rise =
    rise-step hashed shape law kind read pair pairs keys rise.0 (fact_of kind read pair) refl (facts-rise hashed shape law kind read pairs (λ p h. keys p (inr h)) rise.1)

-- the entries and the inodes of items in order, whose keys can be read, are by ids that don't fall
pub entries_rise : {K : Type 0} (hashed : Bool) (shape : Shape K) → IsFsShape hashed shape → (names : Names) (items : List Item) → HasKeys shape (leaf_pairs items) → is_ordered shape items ≡ true → Rises (entries_of names (leaf_pairs items))
unfolding entries_of
entries_rise hashed shape law names items keys ordered = facts-rise hashed shape law entry_record (read_entry names) (leaf_pairs items) keys (pairs-rise shape items (ordered-means shape items ordered))

pub inodes_rise : {K : Type 0} (hashed : Bool) (shape : Shape K) → IsFsShape hashed shape → (items : List Item) → HasKeys shape (leaf_pairs items) → is_ordered shape items ≡ true → Rises (inodes_of (leaf_pairs items))
unfolding inodes_of
inodes_rise hashed shape law items keys ordered = facts-rise hashed shape law inode_record read_inode (leaf_pairs items) keys (pairs-rise shape items (ordered-means shape items ordered))
