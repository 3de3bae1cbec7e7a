-- The rules on streams and targets: ExtentOrder, LinkTarget.
use Rattle.std.proofs.Common.{◌≡◌, ℕ, Bool, true, false, List, map, inl, inr, ap, sym, ◌∙◌}
use Rattle.std.specs.Prelude.{filter, not, ◌&&◌, ◌==◌, bytes_eq}
use Rattle.std.specs.List.{list_any}
use Rattle.apfs_model.proofs.BoolTests.{test_or, clash, left-true}
use Rattle.fs_record.specs.Inodes.{inode_kind}
use Rattle.fs_record.specs.Facts.{Fact, link_kind}
use Rattle.fs_record.specs.StreamExtents.{are_extents_ordered}
use Rattle.fs_record.specs.declared.extents.FileExt.{FileExt}
use Rattle.view_rules.specs.Facts.{Facts}
use Rattle.view_rules.specs.Extents.{is_disordered, HasExtentOrder}
use Rattle.view_rules.specs.Inodes.{target_name, holds_target, gives_target, lacks_target, HasTargets}
use Rattle.rule_changes.specs.Changes.{IsChange, is_of, has_fact, is_stripped, is_rewritten, IsClearWhere}
use Rattle.rule_changes.proofs.Weaving.{any-in, none-counted, filter-stays}
use Rattle.rule_changes.proofs.Kept.{asked, answered}
use Rattle.rule_changes.proofs.Counted.{neither-from, was-there, still-any}

pub extent-order-kept : (block_size : ℕ) (before after gone come same : Facts) → IsChange before after gone come same → HasExtentOrder block_size before → IsClearWhere (is_rewritten gone come) (is_disordered block_size after) after.extents → HasExtentOrder block_size after
unfolding is_disordered
extent-order-kept block_size before after gone come same c b n f h = elim (test_or (is_rewritten gone come f.id)) as (λ _. is_disordered block_size after f ≡ false) [
  | inl touched ↦ n f h touched
  | inr calm ↦
      let two = neither-from (has_fact f.id gone.extents) (has_fact f.id come.extents) calm in
      let p : Fact FileExt → Bool = is_of f.id in
      let self : (e : Fact FileExt) → p e ≡ true → p e ≡ true = λ e t. t in
      let all : filter p after.extents ≡ filter p before.extents = filter-stays p c.made.extents (none-counted p p self come.extents two.1) ∙ sym (filter-stays p c.left.extents (none-counted p p self gone.extents two.0)) in
      ap (λ (fs : List (Fact FileExt)). not (are_extents_ordered block_size (map (λ (f : Fact FileExt). f.what) fs))) all ∙ b f (was-there c.left.extents c.made.extents f h two.1)
]

pub targets-kept : (before after gone come same : Facts) → IsChange before after gone come same → HasTargets before → IsClearWhere (is_stripped gone come) (lacks_target after) after.inodes → HasTargets after
unfolding lacks_target
targets-kept before after gone come same c b n f h = elim (test_or (is_stripped gone come f.id)) as (λ _. lacks_target after f ≡ false) [
  | inl touched ↦ n f h touched
  | inr calm ↦
      let two = neither-from (has_fact f.id come.inodes) (has_fact f.id gone.attributes) calm in
      answered (inode_kind f.what == link_kind) (list_any (gives_target f.id) after.attributes) (λ is_link.
      still-any (gives_target f.id) c.left.attributes c.made.attributes
      (λ a lost t. clash (has_fact f.id gone.attributes) (any-in (is_of f.id) gone.attributes a lost (left-true (a.id == f.id) (bytes_eq a.what.name target_name && holds_target a.what.body) t)) two.1)
      (asked (inode_kind f.what == link_kind) (list_any (gives_target f.id) before.attributes) (b f (was-there c.left.inodes c.made.inodes f h two.0)) is_link))
]
