-- Of each volume there are the numbers of the blocks that its views hold: what a view holds can be listed.
use Rattle.std.proofs.Common.{◌≡◌, ℕ, zero, suc, ◌+◌, ◌≤◌, Bool, true, false, not, ◌==◌, nat_le, nat_lt, List, [], ◌∷◌, ◌++◌, length, map, filter, Option, Some, None, inl, inr, refl, ap, sym, arith}
use Rattle.std.specs.Prelude.{flat_map}
use Rattle.std.specs.List.{AllZip, range_with_len}
use Rattle.apfs_model.specs.Blocks.{is_in}
use Rattle.apfs_model.specs.Lists.{In, Lists, has, through}
use Rattle.apfs_model.proofs.BoolTests.{left-true, right-true, both-true, denied, test_or, false-not, below-from, from-below, upto-from, from-upto, equal-from, unequal-from, never-true, not-true, in-range, from-range}
use Rattle.apfs_model.specs.Counts.{given as number_given}
use Rattle.apfs_model.proofs.Finite.{Either, IsOnce, once}
use Rattle.apfs_model.proofs.Searches.{in-left, in-right, in-append, in-flat_map, from-flat_map, in-filter, from-filter, filter-test, in-has, has-in}
use Rattle.bt_node.specs.declared.node.NodeAt.{NodeAt}
use Rattle.nx_ring.specs.Checkpoint.{Seen, site_of}
use Rattle.fs_record.specs.Facts.{Fact}
use Rattle.fs_record.specs.StreamExtents.{extent_blocks, is_hole}
use Rattle.fs_record.specs.declared.extents.FileExt.{FileExt}
use Rattle.vol_view.specs.Volumes.{Loaded}
use Rattle.vol_view.specs.Views.{past_of, view_named, views_of, is_view_walkable}
use Rattle.vol_view.specs.Placed.{view_nodes}
use Rattle.vol_view.specs.declared.volume.Snapshot.{Snapshot}
use Rattle.vol_view.specs.declared.volume.View.{View}
use Rattle.ext_ref.specs.Ranges.{node_blocks_of}
use Rattle.reach_rules.specs.Tally.{IsNumberOf}
use Rattle.view_rules.specs.Rules.{view_facts}
use Rattle.use_report.specs.Files.{IsNamedBlock, IsMetadataBlock}
use Rattle.use_report.specs.Given.{IsGiven}
use Rattle.use_report.specs.Held.{IsExtentHeld, IsHeld, IsOnlyHeld, IsHeldByAny}
use Rattle.use_report.specs.Numbers.{Told, IsUse, IsUsage}
use Rattle.use_report.specs.Views.{pasts_kept, views_kept}
use Rattle.use_report.specs.declared.kept.KeptView.{KeptView}
use Rattle.use_report.specs.declared.numbers.ViewUse.{ViewUse}
use Rattle.use_report.proofs.Walked.{record-walked}

-- ---- lists of what may be there

abbrev only_if_some : Option ℕ → List ℕ
only_if_some o = through o (λ block. block ∷ [])

in_some : (o : Option ℕ) (block : ℕ) → o ≡ Some block → In block (only_if_some o)
in_some None block e = absurd Prim.cc
in_some (Some b) block e = let same : block ≡ b = Prim.cc in inl same

from_some : (o : Option ℕ) (block : ℕ) → In block (only_if_some o) → o ≡ Some block
from_some None block h = absurd h
from_some (Some b) block (inl e) = ap (λ (n : ℕ). Some n) (sym e)
from_some (Some b) block (inr h) = absurd h

abbrev unless : Bool → List ℕ → List ℕ
unless true blocks = []
unless false blocks = blocks

in_unless : (b : Bool) (blocks : List ℕ) (block : ℕ) → b ≡ false → In block blocks → In block (unless b blocks)
in_unless true blocks block e h = absurd Prim.cc
in_unless false blocks block e h = h

from_unless : (b : Bool) (blocks : List ℕ) (block : ℕ) → In block (unless b blocks) → (b ≡ false) × In block blocks
from_unless true blocks block h = absurd h
from_unless false blocks block h = (refl, h)

at_least : (first n k : ℕ) → In k (range_with_len first n) → first ≤ k
at_least first zero k h = absurd h
at_least first (suc n) k (inl e) = omega arith
at_least first (suc n) k (inr h) = let l : first + 1 ≤ k = at_least (first + 1) n k h in omega arith

-- a range has the blocks that lie in it
covered : (block first n : ℕ) → is_in block first n ≡ true → In block (range_with_len first n)
covered block first n e =
    in-range first n block (upto-from first block (left-true (nat_le first block) (nat_lt block (first + n)) e)) (below-from block (first + n) (right-true (nat_le first block) (nat_lt block (first + n)) e))

covers : (block first n : ℕ) → In block (range_with_len first n) → is_in block first n ≡ true
covers block first n h =
    both-true (nat_le first block) (nat_lt block (first + n)) (from-upto first block (at_least first n block h)) (from-below block (first + n) (from-range first n block h))

-- two blocks are one, or they aren't
one_block : (a b : ℕ) → Either (a ≡ b)
one_block a b = elim (test_or (a == b)) as (λ _. Either (a ≡ b)) [ inl e ↦ inl (equal-from a b e) | inr n ↦ inr (unequal-from a b n) ]

differs : (a b : ℕ) → (a ≡ b → ⊥) → (a == b) ≡ false
differs a b apart = never-true (a == b) (λ e. apart (equal-from a b e))

-- how many blocks of a fact there are, where a list has all of them
number_of : (P : ℕ → Type 0) (blocks : List ℕ) → Lists blocks P → (number : ℕ) × IsNumberOf P number
number_of P blocks lists =
    let t : IsOnce blocks = once one_block blocks in
    (number_given (length t.all), record { all = t.all; lists = (λ block h. lists.0 block (t.into block h), λ block p. t.back block (lists.1 block p)); apart = t.apart; same = refl })

-- ---- the view of each is one of the volume's

past_view : (volume : Loaded) (i : ℕ) (snapshots : List Snapshot) (kept : KeptView) → In kept (pasts_kept volume i snapshots) → In kept.view (map (past_of volume) snapshots)
past_view volume i [] kept h = absurd h
past_view volume i (snapshot ∷ snapshots) kept (inl e) = inl (ap (λ (k : KeptView). k.view) e)
past_view volume i (snapshot ∷ snapshots) kept (inr h) = inr (past_view volume (suc i) snapshots kept h)

kept_view : (volume : Loaded) (seen : Seen) (kept : KeptView) → In kept (views_kept volume seen) → In kept.view (views_of volume seen)
kept_view volume seen kept (inl e) = inl (ap (λ (k : KeptView). k.view) e)
kept_view volume seen kept (inr h) = inr (past_view volume 0 volume.snaps kept h)

-- ---- what the views of a volume hold

module _ (image : List ℕ) (seen : Seen) (volume : Loaded) (given : IsGiven image seen volume) (walkable : (view : View) → In view (views_of volume seen) → is_view_walkable image (site_of seen) volume view ≡ true) where
  -- the ids of the nodes of a view's files
  abbrev oids : KeptView → List ℕ
  oids kept = map (λ (at : NodeAt). at.oid) (view_nodes image (site_of seen) volume kept.view)

  abbrev named_by : KeptView → ℕ → List ℕ
  named_by kept oid = only_if_some (view_named (site_of seen) volume kept.view oid)

  abbrev nodes : KeptView → List ℕ
  nodes kept = flat_map (named_by kept) (oids kept)

  abbrev metadata : KeptView → List ℕ
  metadata kept = unless (kept.meta_ext == 0) (named_by kept kept.meta_ext)

  abbrev of_extent : Fact FileExt → List ℕ
  of_extent fact = unless (is_hole fact.what) (range_with_len fact.what.block (extent_blocks (site_of seen).block_size fact.what))

  abbrev extents : KeptView → List ℕ
  extents kept = flat_map of_extent (view_facts image (site_of seen) volume kept.view).extents

  abbrev references : KeptView → List ℕ
  references kept = node_blocks_of image (site_of seen) kept.extents_root

  -- the blocks that a view holds, however often each stands there
  abbrev blocks : KeptView → List ℕ
  blocks kept = nodes kept ++ (metadata kept ++ (extents kept ++ (references kept ++ only_if_some kept.super_block)))

  node_in : (kept : KeptView) (block : ℕ) → IsNamedBlock (site_of seen) volume kept.view (oids kept) block → In block (nodes kept)
  node_in kept block (oid, one, is) = in-flat_map (named_by kept) oid block (oids kept) one (in_some (view_named (site_of seen) volume kept.view oid) block is)

  node_from : (kept : KeptView) (block : ℕ) → In block (nodes kept) → IsNamedBlock (site_of seen) volume kept.view (oids kept) block
  node_from kept block h =
      let t = from-flat_map (named_by kept) block (oids kept) h in
      (t.0, t.1.0, from_some (view_named (site_of seen) volume kept.view t.0) block t.1.1)

  metadata_in : (kept : KeptView) (block : ℕ) → IsMetadataBlock (site_of seen) volume kept block → In block (metadata kept)
  metadata_in kept block is = in_unless (kept.meta_ext == 0) (named_by kept kept.meta_ext) block is.0 (in_some (view_named (site_of seen) volume kept.view kept.meta_ext) block is.1)

  metadata_from : (kept : KeptView) (block : ℕ) → In block (metadata kept) → IsMetadataBlock (site_of seen) volume kept block
  metadata_from kept block h =
      let t = from_unless (kept.meta_ext == 0) (named_by kept kept.meta_ext) block h in
      (t.0, from_some (view_named (site_of seen) volume kept.view kept.meta_ext) block t.1)

  extent_in : (kept : KeptView) (block : ℕ) → IsExtentHeld image seen volume kept block → In block (extents kept)
  extent_in kept block h =
      let size : ℕ = extent_blocks (site_of seen).block_size h.extent.what in
      in-flat_map of_extent h.extent block (view_facts image (site_of seen) volume kept.view).extents h.one
      (in_unless (is_hole h.extent.what) (range_with_len h.extent.what.block size) block h.no_hole (covered block h.extent.what.block size h.covers))

  extent_from : (kept : KeptView) (block : ℕ) → In block (extents kept) → IsExtentHeld image seen volume kept block
  extent_from kept block h =
      let t = from-flat_map of_extent block (view_facts image (site_of seen) volume kept.view).extents h in
      let size : ℕ = extent_blocks (site_of seen).block_size t.0.what in
      let u = from_unless (is_hole t.0.what) (range_with_len t.0.what.block size) block t.1.1 in
      record { extent = t.0; one = t.1.0; no_hole = u.0; covers = covers block t.0.what.block size u.1 }

  -- a block is in that list where the view holds it
  held_in : (kept : KeptView) → In kept (views_kept volume seen) → (block : ℕ) → IsHeld image seen volume kept block → In block (blocks kept)
  held_in kept one block h =
      let a : List ℕ = only_if_some kept.super_block in
      let b : List ℕ = references kept ++ a in
      let c : List ℕ = extents kept ++ b in
      let d : List ℕ = metadata kept ++ c in
      let after : In block c → In block (blocks kept) = λ k. in-right block (nodes kept) d (in-right block (metadata kept) c k) in
      let walked = record-walked image seen volume kept (oids kept) block given one (walkable kept.view (kept_view volume seen kept one)) refl in
      elim h as (λ _. In block (blocks kept)) [
        | inl record_held ↦ elim (walked.0 record_held) as (λ _. In block (blocks kept)) [
          | inl node ↦ in-left block (nodes kept) d (node_in kept block node)
          | inr meta ↦ in-right block (nodes kept) d (in-left block (metadata kept) c (metadata_in kept block meta))
        ]
        | inr more ↦ elim more as (λ _. In block (blocks kept)) [
          | inl extent ↦ after (in-left block (extents kept) b (extent_in kept block extent))
          | inr rest ↦ elim rest as (λ _. In block (blocks kept)) [
            | inl node ↦ after (in-right block (extents kept) b (in-left block (references kept) a node))
            | inr super ↦ after (in-right block (extents kept) b (in-right block (references kept) a (in_some kept.super_block block super)))
          ]
        ]
      ]

  -- and only there
  held_from : (kept : KeptView) → In kept (views_kept volume seen) → (block : ℕ) → In block (blocks kept) → IsHeld image seen volume kept block
  held_from kept one block h =
      let Held : Type 0 = IsHeld image seen volume kept block in
      let a : List ℕ = only_if_some kept.super_block in
      let b : List ℕ = references kept ++ a in
      let c : List ℕ = extents kept ++ b in
      let walked = record-walked image seen volume kept (oids kept) block given one (walkable kept.view (kept_view volume seen kept one)) refl in
      elim (in-append block (nodes kept) (metadata kept ++ c) h) as (λ _. Held) [
        | inl node ↦ inl (walked.1 (inl (node_from kept block node)))
        | inr h1 ↦ elim (in-append block (metadata kept) c h1) as (λ _. Held) [
          | inl meta ↦ inl (walked.1 (inr (metadata_from kept block meta)))
          | inr h2 ↦ elim (in-append block (extents kept) b h2) as (λ _. Held) [
            | inl extent ↦ inr (inl (extent_from kept block extent))
            | inr h3 ↦ elim (in-append block (references kept) a h3) as (λ _. Held) [ inl node ↦ inr (inr (inl node)) | inr super ↦ inr (inr (inr (from_some kept.super_block block super))) ]
          ]
        ]
      ]

  -- the blocks that the other views hold
  abbrev is_other : KeptView → KeptView → Bool
  is_other kept other = not (other.place == kept.place)

  abbrev others : KeptView → List ℕ
  others kept = flat_map blocks (filter (is_other kept) (views_kept volume seen))

  abbrev is_alone : KeptView → ℕ → Bool
  is_alone kept block = not (has (others kept) block)

  only_in : (kept : KeptView) → In kept (views_kept volume seen) → (block : ℕ) → IsOnlyHeld image seen volume kept block → In block (filter (is_alone kept) (blocks kept))
  only_in kept one block h =
      let views : List KeptView = views_kept volume seen in
      let none : has (others kept) block ≡ false = never-true (has (others kept) block) (λ e.
      let t = from-flat_map blocks block (filter (is_other kept) views) (has-in block (others kept) e) in
      let there : In t.0 views = from-filter (is_other kept) t.0 views t.1.0 in
      let apart : (t.0.place == kept.place) ≡ false = not-true (t.0.place == kept.place) (filter-test (is_other kept) t.0 views t.1.0) in
      h.alone t.0 there (unequal-from t.0.place kept.place apart) (held_from t.0 there block t.1.1)) in
      in-filter (is_alone kept) block (blocks kept) (held_in kept one block h.held) (false-not (has (others kept) block) none)

  only_from : (kept : KeptView) → In kept (views_kept volume seen) → (block : ℕ) → In block (filter (is_alone kept) (blocks kept)) → IsOnlyHeld image seen volume kept block
  only_from kept one block h =
      let views : List KeptView = views_kept volume seen in
      record {
        held = held_from kept one block (from-filter (is_alone kept) block (blocks kept) h);
        alone = λ other there apart held.
            let listed : In other (filter (is_other kept) views) = in-filter (is_other kept) other views there (false-not (other.place == kept.place) (differs other.place kept.place apart)) in
            denied (has (others kept) block) (in-has block (others kept) (in-flat_map blocks other block (filter (is_other kept) views) listed (held_in other there block held)))
            (filter-test (is_alone kept) block (blocks kept) h);
      }

  any_from : (block : ℕ) → In block (flat_map blocks (views_kept volume seen)) → IsHeldByAny image seen volume block
  any_from block h = let t = from-flat_map blocks block (views_kept volume seen) h in (t.0, t.1.0, held_from t.0 t.1.0 block t.1.1)

  any_in : (block : ℕ) → IsHeldByAny image seen volume block → In block (flat_map blocks (views_kept volume seen))
  any_in block h = in-flat_map blocks h.0 block (views_kept volume seen) h.1 (held_in h.0 h.1 block h.2)

  -- the numbers of a view
  use_of : (kept : KeptView) → In kept (views_kept volume seen) → (numbers : ViewUse) × IsUse image seen volume kept numbers
  use_of kept one =
      let held = number_of (IsHeld image seen volume kept) (blocks kept) (held_from kept one, held_in kept one) in
      let only = number_of (IsOnlyHeld image seen volume kept) (filter (is_alone kept) (blocks kept)) (only_from kept one, only_in kept one) in
      (record { xid = kept.view.xid; held = held.0; only = only.0 }, record { xid_is = refl; held = held.1; only = only.1 })

  uses_of : (views : List KeptView) → ((kept : KeptView) → In kept views → In kept (views_kept volume seen)) → (uses : List ViewUse) × AllZip (IsUse image seen volume) views uses
  uses_of [] into = ([], tt)
  uses_of (kept ∷ views) into =
      let first = use_of kept (into kept (inl refl)) in
      let rest = uses_of views (λ other h. into other (inr h)) in
      (first.0 ∷ rest.0, (first.1, rest.1))

  -- the numbers of a volume are there
  pub numbers_there : (told : Told) × IsUsage image seen volume told
  numbers_there =
      let uses = uses_of (views_kept volume seen) (λ kept h. h) in
      let all = number_of (IsHeldByAny image seen volume) (flat_map blocks (views_kept volume seen)) (any_from, any_in) in
      (record { views = uses.0; all = all.0 }, record { views = uses.1; all = all.1 })
