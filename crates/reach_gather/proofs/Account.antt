-- What the parts and the views of a container tell of its account.
use Rattle.std.proofs.Common.{◌≡◌, ℕ, Bool, not, ◌==◌, List, inl, inr, refl, ap, sym, ◌∙◌, subst, arith}
use Rattle.std.specs.List.{filter}
use Rattle.apfs_model.specs.Lists.{Lists}
use Rattle.apfs_model.proofs.Searches.{in-filter, from-filter, filter-test}
use Rattle.apfs_model.proofs.BoolTests.{not-true}
use Rattle.nx_ring.specs.Checkpoint.{Seen}
use Rattle.omap_map.specs.declared.records.OmapRecord.{OmapRecord}
use Rattle.reach_rules.specs.declared.naming.TreeKind.{TreeKind}
use Rattle.reach_rules.specs.declared.naming.TreeKind.TheVariants.{Files}
use Rattle.reach_rules.specs.declared.naming.Expected.{Expected}
use Rattle.reach_rules.specs.declared.naming.Expected.TheVariants.{TreeRoot, TreeNode, ExtendedMetadata}
use Rattle.reach_rules.specs.declared.naming.Naming.{Naming}
use Rattle.reach_rules.specs.declared.owner.Owner.{Owner}
use Rattle.reach_rules.specs.Trees.{tree_line, misplaced, has_counts, IsRightTree}
use Rattle.reach_rules.specs.Accounted.{AreNamed, AreInOrder}
use Rattle.reach_rules.specs.Reached.{HasBlocks}
use Rattle.reach_gather.specs.ViewParts.{ExpectsOfView, AreJoined}
use Rattle.reach_gather.specs.Account.{AreCovered, AreRightTrees, has_blocks, AccountTold}
use Rattle.reach_gather.proofs.ViewParts.{view-live, joined-tells}

names-told : (image : List ℕ) (seen : Seen) (all views : List Naming) (records : List (ℕ × OmapRecord)) → AreJoined image seen all views records → AreCovered image seen all records → AreNamed image seen
names-told image seen all views records j covered =
    let t = joined-tells image seen all views records j in
    record {
      named = t.named;
      once = λ m n a b once how oid. t.once m n a b once how oid;
      used = λ within map of r h kept. elim (covered within map of r h kept) [
        | inl k ↦ t.used (map, r) k
        | inr s ↦ t.used_by s.0 (map, r) s.1.0 s.1.1
      ];
    }

-- the tree of a view's files isn't looked at here
files-right : (image : List ℕ) (seen : Seen) (hashed : Bool) (root : ℕ) → IsRightTree image seen (Files hashed) root
unfolding tree_line misplaced has_counts
files-right image seen hashed root = record { ordered = refl; counted = refl; long = λ number low. absurd (omega arith) }

-- what a view names as the root of a tree is that of its files
view-right : (image : List ℕ) (seen : Seen) (e : Expected) (kind : TreeKind) (root : ℕ) → ExpectsOfView e → e ≡ TreeRoot kind → IsRightTree image seen kind root
view-right image seen e kind root (inl (hashed, s)) t =
    let z : TreeRoot (Files hashed) ≡ TreeRoot kind = sym s ∙ t in
    let k : Files hashed ≡ kind = cc in
    subst (λ x. IsRightTree image seen x root) k (files-right image seen hashed root)
view-right image seen e kind root (inr (inl (hashed, (level, s)))) t = absurd (let z : TreeNode (Files hashed) level ≡ TreeRoot kind = sym s ∙ t in let q : ⊥ = cc in q)
view-right image seen e kind root (inr (inr s)) t = absurd (let z : ExtendedMetadata ≡ TreeRoot kind = sym s ∙ t in let q : ⊥ = cc in q)

trees-told : (image : List ℕ) (seen : Seen) (all views : List Naming) (records : List (ℕ × OmapRecord)) → AreJoined image seen all views records → AreRightTrees image seen all → AreInOrder image seen
trees-told image seen all views records j right n kind live e = elim (j.part.split n live) as (λ _. IsRightTree image seen kind n.oid) [
  | inl h ↦ right n kind h e
  | inr l ↦ let v = view-live image seen n l in view-right image seen n.expected kind n.oid v.expects e
]

blocks-told : (P : Owner → Type 0) (owners : List Owner) → Lists owners P → Lists (filter has_blocks owners) (HasBlocks P)
blocks-told P owners l = (
  (λ a h. record { one = l.0 a (from-filter has_blocks a owners h); some = not-true (a.blocks == 0) (filter-test has_blocks a owners h) }),
  (λ a h. in-filter has_blocks a owners (l.1 a h.one) (ap not h.some)),
)

pub account-told : (image : List ℕ) (seen : Seen) → AccountTold image seen
account-told image seen = record {
  names = names-told image seen;
  trees = trees-told image seen;
  plain = λ all views records j e. record { first = e; all = (joined-tells image seen all views records j).plain };
  owners = λ owners l. blocks-told _ owners l;
  pool_owners = λ owners l. blocks-told _ owners l;
}
