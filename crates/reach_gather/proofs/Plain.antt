-- In a tree that has all its nodes, each naming that is live from the root's resolves to a sound object without a feature.
use Rattle.std.proofs.Common.{◌≡◌, ℕ, zero, suc, ◌+◌, ◌<◌, true, List, [], ◌∷◌, ◌++◌, map, Option, Ok, is_ok, inl, inr, refl, ap, sym, ◌∙◌, subst, arith}
use Rattle.std.specs.List.{range_with_len}
use Rattle.apfs_model.specs.Lists.{In, through}
use Rattle.apfs_model.proofs.BoolTests.{all-in, clash, from-range}
use Rattle.apfs_model.proofs.Searches.{from-map}
use Rattle.bt_node.specs.Shape.{Shape}
use Rattle.bt_node.specs.Node.{level_of, count_of}
use Rattle.bt_node.specs.Entries.{Pair, pair_of, pairs_of}
use Rattle.bt_node.specs.declared.node.NodeAt.{NodeAt}
use Rattle.bt_cursor.specs.Tree.{Tree, root_place, child_in, child_place, tree_in}
use Rattle.bt_cursor.specs.Met.{IsMet, first, after, places_of, has_node, is_walkable}
use Rattle.bt_cursor.proofs.Places.{tree-levelled, places-met}
use Rattle.nx_ring.specs.Checkpoint.{Seen, site_of}
use Rattle.reach_rules.specs.declared.naming.LookUp.{LookUp}
use Rattle.reach_rules.specs.declared.naming.Object.{Object}
use Rattle.reach_rules.specs.declared.naming.Namer.{Namer}
use Rattle.reach_rules.specs.declared.naming.Namer.TheVariants.{Whole}
use Rattle.reach_rules.specs.declared.naming.TreeKind.{TreeKind}
use Rattle.reach_rules.specs.declared.naming.Expected.{Expected}
use Rattle.reach_rules.specs.declared.naming.Expected.TheVariants.{TreeRoot, TreeNode}
use Rattle.reach_rules.specs.declared.naming.Naming.{Naming}
use Rattle.reach_rules.specs.Resolved.{Found}
use Rattle.reach_rules.specs.Tested.{Answer, tested}
use Rattle.reach_rules.specs.Next.{next, child_namings}
use Rattle.reach_rules.specs.Live.{Live, rooted, led}
use Rattle.reach_rules.specs.Features.{used_features, field_features, tested_features, features_through}
use Rattle.reach_gather.specs.Namings.{IsPlainNaming}
use Rattle.reach_gather.proofs.Law.{IsTreeOf, Expects, IsAt, HasNode, Sees, sees, kids_of, next-root, next-child}

-- a child that is named
record IsKid (kind : TreeKind) (how : LookUp) (level : ℕ) (pairs : List Pair) (m : Naming) : Type 0 where
  pair : Pair
  listed : In pair pairs
  expected_is : m.expected ≡ TreeNode kind level
  how_is : m.how ≡ how
  oid_is : m.oid ≡ child_in pair

from-children : (namer : Namer) (kind : TreeKind) (how : LookUp) (level i : ℕ) (pairs : List Pair) (m : Naming) → In m (child_namings namer kind how level i (map child_in pairs)) → IsKid kind how level pairs m
from-children namer kind how level i [] m h = absurd h
from-children namer kind how level i (pair ∷ pairs) m (inl e) = record { pair = pair; listed = inl refl; expected_is = ap (λ (n : Naming). n.expected) e; how_is = ap (λ (n : Naming). n.how) e; oid_is = ap (λ (n : Naming). n.oid) e }
from-children namer kind how level i (pair ∷ pairs) m (inr h) =
    let k = from-children namer kind how level (suc i) pairs m h in
    record { pair = k.pair; listed = inr k.listed; expected_is = k.expected_is; how_is = k.how_is; oid_is = k.oid_is }

from-kids : (namer : Namer) (kind : TreeKind) (how : LookUp) (level : ℕ) (pairs : List Pair) (m : Naming) → In m (kids_of namer kind how level 0 (map child_in pairs)) → (below : ℕ) × ((level ≡ suc below) × IsKid kind how below pairs m)
from-kids namer kind how zero pairs m h = absurd h
from-kids namer kind how (suc level) pairs m h = (level, (refl, from-children namer kind how level 0 pairs m h))

-- a place that is met, for a naming
record IsMetAt {K : Type 0} (tree : Tree K) (root : ℕ) (kind : TreeKind) (how : LookUp) (m : Naming) : Type 0 where
  at : NodeAt
  met : IsMet tree root at
  is : IsAt kind how at m

-- the place of a child of a node that is met
kid-met : {K : Type 0} (image : List ℕ) (seen : Seen) (kind : TreeKind) (how : LookUp) (shape : Shape K) (named : ℕ → Option ℕ) (root : ℕ) (at : NodeAt) (node : List ℕ) (level : ℕ) (m : Naming) →
    IsMet (tree_in shape (site_of seen) named image) root at → (tree_in shape (site_of seen) named image).look at ≡ Ok node → level_of node ≡ suc level → IsKid kind how level (pairs_of shape node) m →
    IsMetAt (tree_in shape (site_of seen) named image) root kind how m
kid-met image seen kind how shape named root at node level m met look high kid =
    let t = from-map (pair_of shape node) (range_with_len 0 (count_of node)) kid.pair kid.listed in
    let i : ℕ = t.0 in
    let low : i < 0 + count_of node = from-range 0 (count_of node) i t.1.0 in
    record {
      at = child_place level (pair_of shape node i);
      met = after at node level i met look high (omega (arith, low));
      is = record { how_is = kid.how_is; oid_is = kid.oid_is ∙ ap child_in t.1.1; expects = inr (level, (pair_of shape node i, (kid.expected_is, refl))) };
    }

-- what the naming of a place that is met leads to
next-met : {K : Type 0} (image : List ℕ) (seen : Seen) (kind : TreeKind) (how : LookUp) (object : ℕ → Object) (shape : Shape K) (named : ℕ → Option ℕ) (root : ℕ) (at : NodeAt) (n m : Naming) → IsTreeOf image seen kind how object shape named →
    IsMet (tree_in shape (site_of seen) named image) root at → IsAt kind how at n → (h : HasNode image seen object shape named at n) → Expects kind at n.expected → In m (next image seen n) → IsMetAt (tree_in shape (site_of seen) named image) root kind how m
next-met image seen kind how object shape named root at n m tree met is h (inl (e, place)) listed =
    let k = from-kids (Whole (object at.oid)) kind how (level_of h.node) (pairs_of shape h.node) m (subst (In m) (next-root image seen kind how object shape named at n tree is e h) listed) in
    kid-met image seen kind how shape named root at h.node k.0 m met h.look k.1.0 k.1.1
next-met image seen kind how object shape named root at n m tree met is h (inr (level, (pair, (e, place)))) listed =
    let k = from-kids (Whole (object at.oid)) kind how level (pairs_of shape h.node) m (subst (In m) (next-child image seen kind how object shape named at n level tree is e h) listed) in
    let high : level_of h.node ≡ level = tree-levelled shape (site_of seen) named image level pair h.node (subst (λ p. (tree_in shape (site_of seen) named image).look p ≡ Ok h.node) place h.look) in
    kid-met image seen kind how shape named root at h.node k.0 m met h.look (high ∙ k.1.0) k.1.1

seen-met : {K : Type 0} (image : List ℕ) (seen : Seen) (kind : TreeKind) (how : LookUp) (object : ℕ → Object) (shape : Shape K) (named : ℕ → Option ℕ) (root : ℕ) (at : NodeAt) (n m : Naming) → IsTreeOf image seen kind how object shape named →
    IsMet (tree_in shape (site_of seen) named image) root at → IsAt kind how at n → Sees image seen object shape named at n → In m (next image seen n) → IsMetAt (tree_in shape (site_of seen) named image) root kind how m
seen-met image seen kind how object shape named root at n m tree met is (inl h) listed = next-met image seen kind how object shape named root at n m tree met is h is.expects listed
seen-met image seen kind how object shape named root at n m tree met is (inr h) listed = absurd (subst (In m) h.leads listed)

live-met : {K : Type 0} (image : List ℕ) (seen : Seen) (kind : TreeKind) (object : ℕ → Object) (shape : Shape K) (named : ℕ → Option ℕ) (n m : Naming) → IsTreeOf image seen kind n.how object shape named → n.expected ≡ TreeRoot kind →
    Live (n ∷ []) (next image seen) m → IsMetAt (tree_in shape (site_of seen) named image) n.oid kind n.how m
live-met {K} image seen kind object shape named n m tree e (rooted _ h) = elim h as (λ _. IsMetAt (tree_in shape (site_of seen) named image) n.oid kind n.how m) [
  | inl s ↦ record { at = root_place n.oid; met = first; is = subst (IsAt kind n.how (root_place n.oid)) (sym s) (record { how_is = refl; oid_is = refl; expects = inl (e, refl) }) }
  | inr k ↦ absurd k
]
live-met image seen kind object shape named n m tree e (led p _ live h) =
    let t = live-met image seen kind object shape named n p tree e live in
    seen-met image seen kind n.how object shape named n.oid t.at p m tree t.met t.is (sees image seen kind n.how object shape named t.at p tree t.is) h

-- a node's fields have no feature
fields-plain : (image : List ℕ) (seen : Seen) (kind : TreeKind) (at : NodeAt) (e : Expected) (block : ℕ) (bytes : List ℕ) → Expects kind at e → field_features image seen e block bytes ≡ []
fields-plain image seen kind at e block bytes (inl (p, q)) = ap (λ x. field_features image seen x block bytes) p
fields-plain image seen kind at e block bytes (inr (level, (pair, (p, q)))) = ap (λ x. field_features image seen x block bytes) p

node-plain : {K : Type 0} (image : List ℕ) (seen : Seen) (kind : TreeKind) (how : LookUp) (object : ℕ → Object) (shape : Shape K) (named : ℕ → Option ℕ) (at : NodeAt) (n : Naming) → IsTreeOf image seen kind how object shape named → IsAt kind how at n →
    (h : HasNode image seen object shape named at n) → features_through image seen n ≡ []
unfolding features_through
node-plain image seen kind how object shape named at n tree is h =
    let f : Found = h.thing in
    ap (λ o. through o (λ (g : Found). used_features (site_of seen) g.object ++ tested_features image seen n.expected g (tested (site_of seen) n.expected n.oid g.bytes))) h.found
    ∙ (ap (λ o. used_features (site_of seen) o ++ tested_features image seen n.expected f (tested (site_of seen) n.expected n.oid f.bytes)) h.object_is
    ∙ (ap (λ xs. xs ++ tested_features image seen n.expected f (tested (site_of seen) n.expected n.oid f.bytes)) (tree.unmarked at.oid)
    ∙ (ap (tested_features image seen n.expected f) h.passes
    ∙ fields-plain image seen kind at n.expected f.block f.bytes is.expects)))

plain-seen : {K : Type 0} (image : List ℕ) (seen : Seen) (kind : TreeKind) (how : LookUp) (object : ℕ → Object) (shape : Shape K) (named : ℕ → Option ℕ) (at : NodeAt) (n : Naming) → IsTreeOf image seen kind how object shape named → IsAt kind how at n →
    has_node (tree_in shape (site_of seen) named image) at ≡ true → Sees image seen object shape named at n → IsPlainNaming image seen n
plain-seen image seen kind how object shape named at n tree is some (inl h) = record {
  object = h.thing;
  found = h.found;
  sound = ap (λ (a : Answer). is_ok a) h.passes;
  plain = node-plain image seen kind how object shape named at n tree is h;
}
plain-seen {K} image seen kind how object shape named at n tree is some (inr h) = clash (has_node (tree_in shape (site_of seen) named image) at) some (ap (λ o. is_ok o) h.look)

-- each such naming is plain
pub live-plain : {K : Type 0} (image : List ℕ) (seen : Seen) (kind : TreeKind) (object : ℕ → Object) (shape : Shape K) (named : ℕ → Option ℕ) (n m : Naming) → IsTreeOf image seen kind n.how object shape named → n.expected ≡ TreeRoot kind →
    is_walkable (tree_in shape (site_of seen) named image) n.oid ≡ true → Live (n ∷ []) (next image seen) m → IsPlainNaming image seen m
live-plain {K} image seen kind object shape named n m tree e all live =
    let t : Tree K = tree_in shape (site_of seen) named image in
    let p = live-met image seen kind object shape named n m tree e live in
    let here : In p.at (places_of t n.oid) = (places-met t n.oid (tree-levelled shape (site_of seen) named image)).1 p.at p.met in
    plain-seen image seen kind n.how object shape named p.at m tree p.is (all-in (has_node t) (places_of t n.oid) all p.at here) (sees image seen kind n.how object shape named p.at m tree p.is)
