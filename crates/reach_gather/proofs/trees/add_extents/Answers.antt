use Rattle.std.proofs.Common.{◌≡◌, ◌∙◌, ◌++◌, ◌+◌, ◌≤◌, map, ap, refl, sym, subst, List, length}
use Rattle.obj_base.specs.Stops.{Tells}
use Rattle.obj_base.specs.declared.site.Site.{Site}
use Rattle.bt_cursor.specs.declared.step.Step.{Step}
use Rattle.nx_ring.specs.Checkpoint.{Seen}
use Rattle.ext_ref.specs.Ranges.{node_blocks_of}
use Rattle.ext_ref.specs.Stops.{IsExtStop}
use Rattle.ext_ref.specs.Scanned.{IsScanned, IsExtFeature}
use Rattle.reach_rules.specs.Features.{HasFeature}
use Rattle.reach_rules.specs.declared.naming.LookUp.TheVariants.{ByBlock}
use Rattle.reach_rules.specs.declared.naming.Object.TheVariants.{InBlock}
use Rattle.reach_rules.specs.declared.naming.TreeKind.TheVariants.{ExtentRefs}
use Rattle.reach_rules.specs.declared.naming.Naming.{Naming}
use Rattle.reach_rules.specs.Owners.{told_from, new_ranges_of}
use Rattle.reach_rules.specs.Reached.{IsReachedFault}
use Rattle.reach_gather.specs.Namings.{step_naming}
use Rattle.reach_gather.specs.Steps.{block_steps, block_owner}
use Rattle.reach_gather.proofs.Branches.{tree-adds}
use Rattle.reach_gather.proofs.Noted.{tree-read, no-err}
use Rattle.reach_gather.proofs.Scanned.{scanned-whole, scanned-namings, scanned-reads, extents-tells}
use Rattle.reach_gather.proofs.Told.{range_of_new, told-after}
use Rattle.reach_gather.proofs.trees.add_extents.Goals as goal

pub returns-in-Err-clause-present : goal.returns-in-Err-clause-present
returns-in-Err-clause-present g c = λ image told live.
    let seen : Seen = c.args.cp.now in
    subst (Tells (IsReachedFault image seen) (HasFeature image seen)) (sym c.raise_extents.ensures)
    (extents-tells image seen c.args.root.oid
    (record {
      naming = c.args.root;
      live = live;
      expected_is = c.requires.kind;
      how_is = c.requires.how;
      oid_is = refl;
    }) c.in-Err.stop
    (subst (λ (s : Site). Tells (IsExtStop image s c.args.root.oid) (IsExtFeature image s c.args.root.oid) c.in-Err.stop) c.site-site.ensures (c.in-Err.ensures.present image told)))

pub returns : goal.returns
returns g c = record {
  clear = (λ image told.
      let seen : Seen = c.args.cp.now in
      let root : Naming = c.args.root in
      let how = c.requires.how in
      let kind = c.requires.kind in
      let taken : List Step = c.in-Ok.scanned.steps.items in
      let scanned = subst (λ (s : Site). IsScanned image s c.args.root.oid taken c.in-Ok.scanned.ranges.items) c.site-site.ensures (c.in-Ok.ensures.clear image told) in
      let steps : c.deref.result.now ≡ taken = c.deref.ensures.value in
      let ranges : c.as_slice.result.now ≡ c.in-Ok.scanned.ranges.items = c.as_slice.ensures.value in
      tree-adds image seen ExtentRefs root taken c.args.out.now c.tell_all.new.out c.note_blocks.new.out how kind (scanned-namings image seen root taken c.in-Ok.scanned.ranges.items c.requires.some how kind scanned)
      (scanned-whole image seen c.args.root.oid taken c.in-Ok.scanned.ranges.items c.requires.some scanned).right
      refl
      (c.tell_all.ensures.namings ∙ c.in_ok-note_block.ensures.namings)
      (told-after c.args.out.now.owners c.note_block.new.self.owners c.tell_all.new.out.owners (block_owner root) (told_from root 0 (map range_of_new c.as_slice.result.now)) (told_from root 0 (new_ranges_of image seen root.oid)) c.in_ok-note_block.ensures.owners c.in_ok-tell_all.ensures.owners
      (ap (told_from root 0) (ap (map range_of_new) (ranges ∙ scanned.ranges_are))))
      (c.tell_all.ensures.pool_owners ∙ c.note_block.ensures.pool_owners)
      (c.in_ok-note_blocks.ensures.namings ∙ ap (λ (xs : List Step). c.tell_all.new.out.namings ++ block_steps ExtentRefs xs) steps)
      (c.in_ok-note_blocks.ensures.owners ∙ ap (λ (xs : List Step). c.tell_all.new.out.owners ++ map block_owner (block_steps ExtentRefs xs)) steps)
      c.note_blocks.ensures.pool_owners);
  present = λ image told live. tt;
  reads = (λ image told.
      let taken : List Step = c.in-Ok.scanned.steps.items in
      let scanned = subst (λ (s : Site). IsScanned image s c.args.root.oid taken c.in-Ok.scanned.ranges.items) c.site-site.ensures (c.in-Ok.ensures.clear image told) in
      let few = subst (λ (s : Site). g.S.BlockSource.reads c.scan.new.src ≤ g.S.BlockSource.reads c.args.src.now + length (node_blocks_of image s c.args.root.oid)) c.site-site.ensures (c.in-Ok.ensures.reads image told) in
      tree-read (step_naming InBlock ExtentRefs ByBlock) c.args.root c.deref.result.now taken c.args.out.now.namings c.tell_all.new.out.namings c.note_blocks.new.out.namings (g.S.BlockSource.reads c.args.src.now) (g.S.BlockSource.reads c.scan.new.src)
      (c.tell_all.ensures.namings ∙ c.in_ok-note_block.ensures.namings) c.in_ok-note_blocks.ensures.namings c.deref.ensures.value
      (scanned-reads image c.args.cp.now c.args.root.oid taken c.in-Ok.scanned.ranges.items (g.S.BlockSource.reads c.args.src.now) (g.S.BlockSource.reads c.scan.new.src) c.requires.some scanned few));
  cause = λ e. absurd (no-err _ _ e);
  kept = c.scan.ensures.kept;
}
