-- The leaves of two small views, and what is read of the later one, worked out by hand.
use Rattle.std.proofs.Common.{◌≡◌, ◌<◌, ◌+◌, ℕ, List, [], ◌∷◌, ◌++◌, length, Some, refl, ap, arith, length-append}
use Rattle.std.specs.Prelude.{Option}
use Rattle.obj_base.specs.declared.site.Site.{Site}
use Rattle.bt_node.specs.declared.node.NodeAt.{NodeAt}
use Rattle.bt_cursor.specs.Tree.{root_place}
use Rattle.view_change.specs.declared.leaf.Leaf.{Leaf}
use Rattle.view_change.specs.Leaves.{leaves_at, uppers_in}
use Rattle.view_change.specs.Outline.{node_place}
use Rattle.view_change.specs.Shared.{shared_leaves, new_leaves, StayInOrder, ShareLeaves}

abbrev leaf : ℕ → ℕ → Leaf
leaf oid block = record { oid = oid; block = block }

abbrev site : Site
site = record { block_size = 4096; blocks = 500; max_xid = 9 }

-- each id names the block of the number 90 above its own
abbrev named : ℕ → Option ℕ
named oid = Some (oid + 90)

-- a root of id 7 above nodes 8 and 9, which have leaves 11 and 12, and leaf 13
abbrev places : List NodeAt
places = root_place 7 ∷ node_place 1 8 ∷ node_place 0 11 ∷ node_place 0 12 ∷ node_place 1 9 ∷ node_place 0 13 ∷ []

uppers : uppers_in places ≡ root_place 7 ∷ node_place 1 8 ∷ node_place 1 9 ∷ []
uppers = refl

leaves : leaves_at site named places ≡ leaf 11 101 ∷ leaf 12 102 ∷ leaf 13 103 ∷ []
leaves = refl

-- of three leaves one lies in another block in the later view, and one has come
abbrev later : List Leaf
later = leaf 11 101 ∷ leaf 12 202 ∷ leaf 13 103 ∷ leaf 14 204 ∷ []

shared : shared_leaves (leaves_at site named places) later ≡ leaf 11 101 ∷ leaf 13 103 ∷ []
shared = refl

new : new_leaves (leaves_at site named places) later ≡ leaf 12 202 ∷ leaf 14 204 ∷ []
new = refl

-- so two are read
few : (first gone : List Leaf) (stays : Leaf) (rest : List Leaf) → leaves_at site named places ≡ first ++ (gone ++ stays ∷ rest) → length gone < 256
few first gone stays rest split = omega (arith, ap (λ (ls : List Leaf). length ls) split, length-append first (gone ++ stays ∷ rest), length-append gone (stays ∷ rest))

stay : StayInOrder (leaves_at site named places) later
stay = record { order = refl; near = λ first gone stays rest split none there. few first gone stays rest split }

share : ShareLeaves (leaves_at site named places) later
share = record { stay = stay; earlier = omega arith; later = omega arith }
