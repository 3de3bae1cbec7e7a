use Rattle.std.proofs.Common.{◌≡◌, inl, inr, true, get_or, sym, ◌∙◌, subst}
use Rattle.fs_record.specs.StreamExtents.{is_extent_placed}
use Rattle.fs_record.specs.declared.extents.FileExt.{FileExt}
use Rattle.use_report.specs.Files.{IsOfExtent}
use Rattle.use_report.proofs.Adding.{grows-next}
use Rattle.use_report.proofs.Lists.{got-in, taken-more}
use Rattle.use_report.proofs.holding.add_extents.Goals as goal

no_extent : FileExt
no_extent = record { logical = 0; length = 0; block = 0 }

pub returns-then-not-placed-clause-leaves : goal.returns-then-not-placed-clause-leaves
unfolding no_extent
returns-then-not-placed-clause-leaves c = λ _.
    let xs = c.args.extents.now in
    let i = c.extents.extent-index in
    (get_or xs i no_extent, got-in xs i no_extent c.extents-test.true, sym c.in_ok-placed.ensures.placed ∙ c.if-not-placed.true)

pub extents-preserved : goal.extents-preserved
unfolding no_extent
extents-preserved c =
    let site = c.args.site.now in
    let xs = c.args.extents.now in
    let i = c.extents.extent-index in
    let low = c.extents-test.true in
    record {
      grows = grows-next (IsOfExtent site) xs i no_extent c.args.held.now c.extents.held c.add_extent.new.held low c.extents.invariant.grows (c.in_ok-placed.ensures.added c.if-not-placed.false);
      inside = λ e h. elim ((taken-more xs i no_extent e low).0 h) as (λ _. is_extent_placed site.block_size site.blocks e ≡ true) [
        | inl k ↦ c.extents.invariant.inside e k
        | inr s ↦ subst (λ x. is_extent_placed site.block_size site.blocks x ≡ true) (sym s) (sym c.in_ok-placed.ensures.placed ∙ c.if-not-placed.false)
      ];
    }
