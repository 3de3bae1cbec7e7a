-- The leaves of a tree, by its outline.
use Rattle.std.proofs.Common.{◌≡◌, ◌∙◌, ℕ, zero, ◌+◌, ◌≤◌, Bool, true, false, not, ◌==◌, cond, List, [], ◌∷◌, ◌++◌, length, Option, None, Some, refl, ap, subst, arith}
use Rattle.std.specs.Prelude.{nat_lt, is_some}
use Rattle.std.specs.List.{filter, flat_map}
use Rattle.std.proofs.lemmas.Bool.{false≢true}
use Rattle.std.proofs.lemmas.Bool.Decides.{nat_tests}
use Rattle.std.proofs.lemmas.Grind.{flat_map-append}
use Rattle.apfs_model.specs.Lists.{passes, through}
use Rattle.obj_base.specs.declared.site.Site.{Site}
use Rattle.bt_node.specs.Entries.{Pair}
use Rattle.bt_node.specs.declared.node.NodeAt.{NodeAt}
use Rattle.bt_cursor.specs.Tree.{Tree, node_at}
use Rattle.bt_cursor.specs.Line.{Item, entries_of, line_part, line_of}
use Rattle.bt_cursor.specs.Met.{places_under, places_in, places_of}
use Rattle.bt_cursor.specs.Seen.{reads_for}
use Rattle.view_change.specs.declared.leaf.Leaf.{Leaf}
use Rattle.view_change.specs.declared.outline.Outline.{Outline}
use Rattle.view_change.specs.declared.outline.Separator.{Separator}
use Rattle.view_change.specs.Leaves.{is_leaf_place, leaf_at, leaves_at, uppers_in}
use Rattle.view_change.specs.Outline.{node_place, reads_in, leaves_in, items_in, LeadsTo, AreSeparators, IsOutlined}

-- the items of a leaf lead to no place
leaf-line : {K : Type 0} (tree : Tree K) (oid : ℕ) (es : List (ℕ × Pair)) → places_in (flat_map (line_part tree zero oid) es) ≡ []
leaf-line tree oid [] = refl
leaf-line tree oid (e ∷ es) = leaf-line tree oid es

leaf-found : {K : Type 0} (tree : Tree K) (oid : ℕ) (found : Option (List ℕ)) → places_in (through found (λ node. flat_map (line_part tree zero oid) (entries_of tree.shape node))) ≡ []
leaf-found tree oid None = refl
leaf-found tree oid (Some node) = leaf-line tree oid (entries_of tree.shape node)

leaf-none : {K : Type 0} (tree : Tree K) (child : Option ℕ) → places_in (items_in tree zero child) ≡ []
leaf-none tree None = refl
leaf-none tree (Some oid) = leaf-found tree oid (node_at tree (node_place zero oid))

-- the places of a separator and of those after it
places-next : {K : Type 0} (tree : Tree K) (next : Separator) (left : List Separator) (items : List Item) → (these : AreSeparators tree zero (next ∷ left) items) → places_in items ≡ these.1.1.0.separates.at ∷ places_in these.1.0
places-next tree next left items these =
    let g : Item → List NodeAt = λ (other : Item). places_under other.level other.pair in
    let own = items_in tree zero next.child in
    let rest = these.1.0 in
    let at = these.1.1.0.separates.at in
    ap places_in these.1.1.1
    ∙ (ap (λ (ats : List NodeAt). ats ++ places_in (own ++ rest)) these.1.1.0.separates.upper
    ∙ ap (λ (ats : List NodeAt). at ∷ ats) (flat_map-append g own rest ∙ ap (λ (ats : List NodeAt). ats ++ places_in rest) (leaf-none tree next.child)))

above-leaf : (level : Option ℕ) → passes level (nat_lt 0) ≡ true → passes level (λ l. l == 0) ≡ false
above-leaf None e = absurd (false≢true e)
above-leaf (Some l) e = grind (arith, nat_tests)

-- a separator leads to a leaf exactly if its child is still to be read
one-leaf : {K : Type 0} (tree : Tree K) (site : Site) (named : ℕ → Option ℕ) (child : Option ℕ) (at : NodeAt) (ats : List NodeAt) → LeadsTo tree zero child at
    → leaves_at site named (at ∷ ats) ≡ through child (λ oid. leaf_at site named (node_place 0 oid)) ++ leaves_at site named ats
one-leaf tree site named None at ats leads = ap (λ (b : Bool). flat_map (leaf_at site named) (cond b (at ∷ filter is_leaf_place ats) (filter is_leaf_place ats))) (above-leaf at.level leads.1)
one-leaf tree site named (Some oid) at ats leads = ap (λ (a : NodeAt). leaves_at site named (a ∷ ats)) leads

one-upper : {K : Type 0} (tree : Tree K) (child : Option ℕ) (at : NodeAt) (ats : List NodeAt) → LeadsTo tree zero child at → length (uppers_in (at ∷ ats)) + reads_for (is_some child) ≡ 1 + length (uppers_in ats)
one-upper tree None at ats leads = let same = ap (λ (b : Bool). length (cond (not b) (at ∷ uppers_in ats) (uppers_in ats))) (above-leaf at.level leads.1) in omega (arith, same)
one-upper tree (Some oid) at ats leads = let same = ap (λ (a : NodeAt). length (uppers_in (a ∷ ats))) leads in omega (arith, same)

-- the leaves to which separators lead are those of their items
separators-leaves : {K : Type 0} (tree : Tree K) (site : Site) (named : ℕ → Option ℕ) (xs : List Separator) (items : List Item) → AreSeparators tree zero xs items → leaves_at site named (places_in items) ≡ leaves_in site named xs
separators-leaves tree site named [] items none = ap (λ (is : List Item). leaves_at site named (places_in is)) none
separators-leaves tree site named (x ∷ xs) items these =
    ap (leaves_at site named) (places-next tree x xs items these)
    ∙ (one-leaf tree site named x.child these.1.1.0.separates.at (places_in these.1.0) these.1.1.0.leads
    ∙ ap (λ (ls : List Leaf). through x.child (λ oid. leaf_at site named (node_place 0 oid)) ++ ls) (separators-leaves tree site named xs these.1.0 these.1.1.2))

separators-uppers : {K : Type 0} (tree : Tree K) (xs : List Separator) (items : List Item) → AreSeparators tree zero xs items → length (uppers_in (places_in items)) + reads_in xs ≡ length xs
separators-uppers tree [] items none = ap (λ (is : List Item). length (uppers_in (places_in is)) + 0) none
separators-uppers tree (x ∷ xs) items these =
    let same = ap (λ (ats : List NodeAt). length (uppers_in ats)) (places-next tree x xs items these) in
    omega (arith, same, one-upper tree x.child these.1.1.0.separates.at (places_in these.1.0) these.1.1.0.leads, separators-uppers tree xs these.1.0 these.1.1.2)

line-separators : {K : Type 0} (tree : Tree K) (root start reads : ℕ) (outline : Outline) → IsOutlined tree root start reads outline → outline.level ≡ 0 → AreSeparators tree zero outline.separators.items (line_of tree root)
line-separators tree root start reads outline is end = subst (λ (l : ℕ). AreSeparators tree l outline.separators.items (line_of tree root)) end is.line

-- the leaves of a tree
pub tree-leaves : {K : Type 0} (tree : Tree K) (site : Site) (named : ℕ → Option ℕ) (root start reads : ℕ) (outline : Outline) → IsOutlined tree root start reads outline → outline.level ≡ 0 → leaves_at site named (places_of tree root) ≡ leaves_in site named outline.separators.items
tree-leaves tree site named root start reads outline is end = separators-leaves tree site named outline.separators.items (line_of tree root) (line-separators tree root start reads outline is end)

-- an outline down to the leaves takes no more reads than there are nodes above them
pub tree-uppers : {K : Type 0} (tree : Tree K) (root start reads : ℕ) (outline : Outline) → IsOutlined tree root start reads outline → outline.level ≡ 0 → reads ≤ start + length (uppers_in (places_of tree root))
tree-uppers tree root start reads outline is end = omega (arith, is.few, separators-uppers tree outline.separators.items (line_of tree root) (line-separators tree root start reads outline is end))
