-- The records of a view are those of the leaves that a walk over it meets, and so are its extents.
use Rattle.std.proofs.Common.{◌≡◌, ℕ, zero, suc, Bool, true, false, ◌==◌, List, [], ◌∷◌, Option, Some, None, Result, Ok, Err, inl, inr, refl, ap, sym, ◌∙◌, subst, arith, if◌then◌else◌}
use Rattle.std.specs.Prelude.{option_map}
use Rattle.std.specs.List.{range_with_len, flat_map, filter_map, cons_option}
use Rattle.apfs_model.specs.Lists.{In, through, value_of}
use Rattle.apfs_model.proofs.BoolTests.{in-range, from-range}
use Rattle.apfs_model.proofs.Searches.{in-flat_map, from-flat_map, in-map, from-map}
use Rattle.obj_base.specs.declared.stop.Stop.{Stop}
use Rattle.bt_node.specs.Node.{level_of, count_of}
use Rattle.bt_node.specs.Entries.{Pair, pair_of, pairs_of}
use Rattle.bt_node.specs.declared.node.NodeAt.{NodeAt}
use Rattle.bt_keys.specs.RecordKey.{record_kind_of, file_extent_record}
use Rattle.bt_cursor.specs.declared.fault.WalkFault.{WalkFault}
use Rattle.bt_cursor.specs.Tree.{Tree, root_place, child_place}
use Rattle.bt_cursor.specs.Flat.{flat_part, flat_of}
use Rattle.bt_cursor.specs.Met.{IsMet, first, after}
use Rattle.bt_cursor.proofs.Places.{IsLevelled}
use Rattle.fs_record.specs.Facts.{Fact, told_by, fact_of, read_extent, extents_of}
use Rattle.fs_record.specs.declared.extents.FileExt.{FileExt}
use Rattle.fs_record.specs.declared.fault.RecFault.{RecFault}
use Rattle.reach_gather.proofs.VolumeLemmas.Heads.{from-filter_map}
use Rattle.use_report.specs.Gathered.{some_extent, extent_in}

-- ---- records
-- a record of a leaf that is met
pub record IsInLeaf {K : Type 0} (tree : Tree K) (root : ℕ) (pair : Pair) : Type 0 where
  pub at : NodeAt
  pub node : List ℕ
  pub met : IsMet tree root at
  pub found : tree.look at ≡ Ok node
  pub leaf : level_of node ≡ 0
  pub one : In pair (pairs_of tree.shape node)

through-pair : (x : Pair) (o : Result (List ℕ) (Stop WalkFault)) (f : List ℕ → List Pair) → In x (through (value_of o) f) → (node : List ℕ) × ((o ≡ Ok node) × In x (f node))
through-pair x (Ok node) f h = (node, (refl, h))
through-pair x (Err stop) f h = absurd h

part-leaf : {K : Type 0} (tree : Tree K) (root : ℕ) → IsLevelled tree → (level : ℕ) (at : NodeAt) (node : List ℕ) (p x : Pair) → IsMet tree root at → tree.look at ≡ Ok node → level_of node ≡ level → In p (pairs_of tree.shape node) → In x (flat_part tree level p) → IsInLeaf tree root x
part-leaf tree root levelled zero at node p x met found high one (inl e) = record { at = at; node = node; met = met; found = found; leaf = high; one = subst (λ q. In q (pairs_of tree.shape node)) (sym e) one }
part-leaf tree root levelled zero at node p x met found high one (inr h) = absurd h
part-leaf tree root levelled (suc level) at node p x met found high one h =
    let f : List ℕ → List Pair = λ n. flat_map (flat_part tree level) (pairs_of tree.shape n) in
    let below = through-pair x (tree.look (child_place level p)) f h in
    let q = from-flat_map (flat_part tree level) x (pairs_of tree.shape below.0) below.1.1 in
    let i = from-map (pair_of tree.shape node) (range_with_len 0 (count_of node)) p one in
    let low = from-range 0 (count_of node) i.0 i.1.0 in
    let there : IsMet tree root (child_place level p) = subst (λ r. IsMet tree root (child_place level r)) (sym i.1.1) (after at node level i.0 met found high (omega (arith, low))) in
    part-leaf tree root levelled level (child_place level p) below.0 q.0 x there below.1.0 (levelled level p below.0 below.1.0) q.1.0 q.1.1

-- a record of the flat list stands in such a leaf
pub flat-leaf : {K : Type 0} (tree : Tree K) (root : ℕ) → IsLevelled tree → (x : Pair) → In x (flat_of tree root) → IsInLeaf tree root x
flat-leaf tree root levelled x h =
    let f : List ℕ → List Pair = λ n. flat_map (flat_part tree (level_of n)) (pairs_of tree.shape n) in
    let t = through-pair x (tree.look (root_place root)) f h in
    let q = from-flat_map (flat_part tree (level_of t.0)) x (pairs_of tree.shape t.0) t.1.1 in
    part-leaf tree root levelled (level_of t.0) (root_place root) t.0 q.0 x first t.1.0 refl q.1.0 q.1.1

-- what stands below a place that is met is in the flat list
below-flat : {K : Type 0} (tree : Tree K) (root : ℕ) → IsLevelled tree → (at : NodeAt) → IsMet tree root at → (node : List ℕ) → tree.look at ≡ Ok node → (x : Pair) → In x (flat_map (flat_part tree (level_of node)) (pairs_of tree.shape node)) → In x (flat_of tree root)
below-flat tree root levelled at (first) node found x h =
    let f : List ℕ → List Pair = λ n. flat_map (flat_part tree (level_of n)) (pairs_of tree.shape n) in
    subst (λ o. In x (through (value_of o) f)) (sym found) h
below-flat tree root levelled at (after above upper level i met seen high low) node found x h =
    let pair : Pair = pair_of tree.shape upper i in
    let g : List ℕ → List Pair = λ n. flat_map (flat_part tree level) (pairs_of tree.shape n) in
    let here : In x (g node) = subst (λ l. In x (flat_map (flat_part tree l) (pairs_of tree.shape node))) (levelled level pair node found) h in
    let part : In x (flat_part tree (suc level) pair) = subst (λ o. In x (through (value_of o) g)) (sym found) here in
    let listed : In pair (pairs_of tree.shape upper) = in-map (pair_of tree.shape upper) (range_with_len 0 (count_of upper)) i (in-range 0 (count_of upper) i (omega arith) (omega (arith, low))) in
    let all : In x (flat_map (flat_part tree (suc level)) (pairs_of tree.shape upper)) = in-flat_map (flat_part tree (suc level)) pair x (pairs_of tree.shape upper) listed part in
    below-flat tree root levelled above met upper seen x (subst (λ l. In x (flat_map (flat_part tree l) (pairs_of tree.shape upper))) (sym high) all)

-- and so is each record of such a leaf
pub leaf-flat : {K : Type 0} (tree : Tree K) (root : ℕ) → IsLevelled tree → (x : Pair) → IsInLeaf tree root x → In x (flat_of tree root)
leaf-flat tree root levelled x l =
    let all : In x (flat_map (flat_part tree 0) (pairs_of tree.shape l.node)) = in-flat_map (flat_part tree 0) x x (pairs_of tree.shape l.node) l.one (inl refl) in
    below-flat tree root levelled l.at l.met l.node l.found x (subst (λ k. In x (flat_map (flat_part tree k) (pairs_of tree.shape l.node))) (sym l.leaf) all)

-- ---- extents
in-filter_map : {X Y : Type 0} (f : X → Option Y) (x : X) (y : Y) (xs : List X) → In x xs → f x ≡ Some y → In y (filter_map f xs)
in-filter_map f x y [] h e = absurd h
in-filter_map {X} {Y} f x y (z ∷ zs) (inl s) e =
    let here : f z ≡ Some y = ap f (sym s) ∙ e in
    subst (λ (o : Option Y). In y (cons_option o (filter_map f zs))) (sym here) (inl refl)
in-filter_map {X} {Y} f x y (z ∷ zs) (inr h) e =
    let later : In y (filter_map f zs) = in-filter_map f x y zs h e in
    elim (f z) as (λ (o : Option Y). In y (cons_option o (filter_map f zs))) [ None ↦ later | Some w ↦ inr later ]

-- the fact of a record whose extent is read
read-fact : (pair : Pair) (e : FileExt) (r : Result FileExt RecFault) → some_extent r ≡ Ok (Some e) → option_map (told_by pair) (value_of r) ≡ Some (told_by pair e)
read-fact pair e (Ok x) s =
    let z : ◌≡◌ {A = Result (Option FileExt) RecFault} (Ok (Some x)) (Ok (Some e)) = s in
    let same : x ≡ e = cc in
    ap (λ (y : FileExt). Some (told_by pair y)) same
read-fact pair e (Err why) s = absurd (let z : ◌≡◌ {A = Result (Option FileExt) RecFault} (Err why) (Ok (Some e)) = s in let q : ⊥ = cc in q)

fact-read : (pair : Pair) (f : Fact FileExt) (r : Result FileExt RecFault) → option_map (told_by pair) (value_of r) ≡ Some f → some_extent r ≡ Ok (Some f.what)
fact-read pair f (Ok x) s =
    let z : ◌≡◌ {A = Option (Fact FileExt)} (Some (told_by pair x)) (Some f) = s in
    let same : told_by pair x ≡ f = cc in
    ap (λ (g : Fact FileExt). Ok (Some g.what)) same
fact-read pair f (Err why) s = absurd (let z : ◌≡◌ {A = Option (Fact FileExt)} None (Some f) = s in let q : ⊥ = cc in q)

extent-fact : (pair : Pair) (e : FileExt) → extent_in pair ≡ Ok (Some e) → fact_of file_extent_record read_extent pair ≡ Some (told_by pair e)
unfolding extent_in
extent-fact pair e s =
    let read : Result FileExt RecFault = read_extent pair in
    let go : (b : Bool) → (if b then some_extent read else Ok None) ≡ Ok (Some e) → (if b then option_map (told_by pair) (value_of read) else None) ≡ Some (told_by pair e) =
    λ b. elim b as (λ b. (if b then some_extent read else Ok None) ≡ Ok (Some e) → (if b then option_map (told_by pair) (value_of read) else None) ≡ Some (told_by pair e)) [
      | true ↦ λ k. read-fact pair e read k
      | false ↦ λ k. absurd (let z : ◌≡◌ {A = Result (Option FileExt) RecFault} (Ok None) (Ok (Some e)) = k in let q : ⊥ = cc in q)
    ] in
    go (record_kind_of pair.key == file_extent_record) s

fact-extent : (pair : Pair) (f : Fact FileExt) → fact_of file_extent_record read_extent pair ≡ Some f → extent_in pair ≡ Ok (Some f.what)
unfolding extent_in
fact-extent pair f s =
    let read : Result FileExt RecFault = read_extent pair in
    let go : (b : Bool) → (if b then option_map (told_by pair) (value_of read) else None) ≡ Some f → (if b then some_extent read else Ok None) ≡ Ok (Some f.what) =
    λ b. elim b as (λ b. (if b then option_map (told_by pair) (value_of read) else None) ≡ Some f → (if b then some_extent read else Ok None) ≡ Ok (Some f.what)) [
      | true ↦ λ k. fact-read pair f read k
      | false ↦ λ k. absurd (let z : ◌≡◌ {A = Option (Fact FileExt)} None (Some f) = k in let q : ⊥ = cc in q)
    ] in
    go (record_kind_of pair.key == file_extent_record) s

-- an extent of records is that of one of them
pub fact-from : (pairs : List Pair) (f : Fact FileExt) → In f (extents_of pairs) → (pair : Pair) × (In pair pairs × (extent_in pair ≡ Ok (Some f.what)))
unfolding extents_of
fact-from pairs f h = let t = from-filter_map (fact_of file_extent_record read_extent) f pairs h in (t.0, (t.1.0, fact-extent t.0 f t.1.1))

pub fact-in : (pairs : List Pair) (pair : Pair) (e : FileExt) → In pair pairs → extent_in pair ≡ Ok (Some e) → In (told_by pair e) (extents_of pairs)
unfolding extents_of
fact-in pairs pair e h s = in-filter_map (fact_of file_extent_record read_extent) pair (told_by pair e) pairs h (extent-fact pair e s)
