-- One more child.
use Rattle.std.proofs.Common.{◌≡◌, ℕ, suc, ◌+◌, List, [], ◌∷◌, ◌++◌, length, map, ap, sym, ◌∙◌, append_assoc, arith}
use Rattle.std.specs.List.{range_with_len}
use Rattle.std.proofs.lemmas.List.FromFn.{map-range_with_len_more, length-map-range_with_len}
use Rattle.bt_node.specs.Shape.{Shape}
use Rattle.bt_node.specs.Entries.{child_of}
use Rattle.omap_map.specs.declared.records.OmapRecord.{OmapRecord}
use Rattle.view_sweep.specs.declared.wanted.SweptView.{SweptView}
use Rattle.view_sweep.specs.declared.wanted.Wanted.{Wanted}
use Rattle.view_sweep.specs.Found.{kid, kids_from}

-- the first so many children of a node
abbrev pub children_to : {K : Type 0} → Shape K → List ℕ → ℕ → List ℕ
children_to shape node n = map (child_of shape node) (range_with_len 0 n)

kids-push : (v : SweptView) (r : OmapRecord) (level i k : ℕ) (oids : List ℕ) (oid : ℕ) → k ≡ i + length oids → kids_from v r level i (oids ++ oid ∷ []) ≡ kids_from v r level i oids ++ kid v r level k oid ∷ []
kids-push v r level i k [] oid e = let s : i ≡ k = omega arith in ap (λ n. kid v r level n oid ∷ []) s
kids-push v r level i k (o ∷ os) oid e = let s : k ≡ suc i + length os = omega arith in ap (λ ws. kid v r level i o ∷ ws) (kids-push v r level (suc i) k os oid s)

pub kids_more : {K : Type 0} (shape : Shape K) (node : List ℕ) (front out : List Wanted) (v : SweptView) (r : OmapRecord) (level n : ℕ) → out ≡ front ++ kids_from v r level 0 (children_to shape node n) → out ++ kid v r level n (child_of shape node n) ∷ [] ≡ front ++ kids_from v r level 0 (children_to shape node (n + 1))
kids_more shape node front out v r level n e =
    let more : children_to shape node (n + 1) ≡ children_to shape node n ++ child_of shape node n ∷ [] = map-range_with_len_more (child_of shape node) 0 n n (omega arith) in
    let count : length (children_to shape node n) ≡ n = length-map-range_with_len (child_of shape node) 0 n in
    ap (λ ws. ws ++ kid v r level n (child_of shape node n) ∷ []) e
    ∙ (append_assoc front (kids_from v r level 0 (children_to shape node n)) (kid v r level n (child_of shape node n) ∷ [])
    ∙ ap (λ ws. front ++ ws) (sym (ap (kids_from v r level 0) more ∙ kids-push v r level 0 n (children_to shape node n) (child_of shape node n) (omega (arith, count)))))
