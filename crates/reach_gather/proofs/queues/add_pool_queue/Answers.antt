use Rattle.std.proofs.Common.{◌≡◌, ◌∙◌, ◌++◌, ◌==◌, ℕ, map, ap, false, sym, subst, List}
use Rattle.obj_base.specs.Stops.{Tells}
use Rattle.bt_cursor.specs.declared.step.Step.{Step}
use Rattle.nx_ring.specs.Checkpoint.{Seen}
use Rattle.space_pool.specs.Queues.{queue_root}
use Rattle.space_pool.specs.declared.entry.Queue.TheVariants.{Pool}
use Rattle.reach_rules.specs.Features.{HasFeature}
use Rattle.reach_rules.specs.declared.naming.LookUp.TheVariants.{ByMapping}
use Rattle.reach_rules.specs.declared.naming.Object.TheVariants.{OfId}
use Rattle.reach_rules.specs.declared.naming.TreeKind.TheVariants.{FreeQueue}
use Rattle.reach_rules.specs.declared.naming.Naming.{Naming}
use Rattle.reach_rules.specs.Owners.{told_from, queued_ranges_of}
use Rattle.reach_rules.specs.Reached.{IsReachedFault}
use Rattle.reach_rules.specs.Trees.{IsRightTree}
use Rattle.reach_gather.specs.Namings.{step_naming}
use Rattle.reach_gather.specs.Steps.{id_steps}
use Rattle.reach_gather.proofs.Branches.{queue-adds}
use Rattle.reach_gather.proofs.Noted.{tree-read, no-err}
use Rattle.reach_gather.proofs.Scanned.{queued-whole, queued-namings, queue-tells}
use Rattle.reach_gather.proofs.Spaced.{all-pooled}
use Rattle.reach_gather.proofs.Told.{range_of_entry, told-next, told-none}
use Rattle.space_pool.specs.Queues.{queue_entries}
use Rattle.reach_gather.proofs.queues.add_pool_queue.Goals as goal

pub returns-in-Err-clause-present : goal.returns-in-Err-clause-present
returns-in-Err-clause-present g c = λ image told is.
    let seen : Seen = c.args.cp.now in
    subst (Tells (IsReachedFault image seen) (HasFeature image seen)) (sym c.raise_pool.ensures) (queue-tells image seen c.args.space.now Pool is c.in-Err.stop (c.in-Err.ensures.present image told))

pub returns : goal.returns
returns g c = record {
  clear = (λ image told.
      let seen : Seen = c.args.cp.now in
      let root : Naming = c.args.root in
      let manager : List ℕ = c.args.space.now.manager in
      let how = c.requires.how in
      let kind = c.requires.kind in
      let some : (queue_root Pool manager == 0) ≡ false = subst (λ (oid : ℕ). (oid == 0) ≡ false) c.requires.root c.requires.some in
      let taken : List Step = c.in-Ok.queued.steps.items in
      let queued = c.in-Ok.ensures.clear image told in
      let steps : c.deref.result.now ≡ taken = c.deref.ensures.value in
      let entries : c.as_slice.result.now ≡ c.in-Ok.queued.entries.items = c.as_slice.ensures.value in
      let ranges = ap (told_from root 0) (ap (map range_of_entry) (entries ∙ (queued.same ∙ ap (queue_entries image seen) (sym c.requires.root)))) in
      queue-adds image seen (FreeQueue Pool) root taken c.args.out.now c.tell_all_pool.new.out c.note_ids.new.out how kind (queued-namings image seen Pool manager root taken c.in-Ok.queued.entries.items some how kind c.requires.root queued (c.in-Ok.ensures.steps image told))
      (subst (IsRightTree image seen (FreeQueue Pool)) (sym c.requires.root) (queued-whole image seen Pool manager c.in-Ok.queued.entries.items some queued).right)
      (c.tell_all_pool.ensures.namings ∙ c.in_ok-note_id.ensures.namings)
      (told-none c.args.out.now.owners c.note_id.new.self.owners c.tell_all_pool.new.out.owners c.note_id.ensures.owners c.tell_all_pool.ensures.owners)
      (told-next c.args.out.now.pool_owners c.note_id.new.self.pool_owners c.tell_all_pool.new.out.pool_owners (told_from root 0 (map range_of_entry c.as_slice.result.now)) (told_from root 0 (queued_ranges_of image seen root.oid)) c.note_id.ensures.pool_owners c.in_ok-tell_all_pool.ensures.pool_owners ranges)
      (c.in_ok-note_ids.ensures.namings ∙ ap (λ (xs : List Step). c.tell_all_pool.new.out.namings ++ id_steps (FreeQueue Pool) xs) steps)
      c.note_ids.ensures.owners
      c.note_ids.ensures.pool_owners);
  queued = (λ image told.
      let queued = c.in-Ok.ensures.clear image told in
      all-pooled image c.args.cp.now c.args.space.now.manager c.in-Ok.queued.entries.items queued.same queued.placed);
  present = λ image told is. tt;
  reads = λ image told.
      tree-read (step_naming OfId (FreeQueue Pool) ByMapping) c.args.root c.deref.result.now c.in-Ok.queued.steps.items c.args.out.now.namings c.tell_all_pool.new.out.namings c.note_ids.new.out.namings (g.S.BlockSource.reads c.args.src.now) (g.S.BlockSource.reads c.queue_walk.new.src)
      (c.tell_all_pool.ensures.namings ∙ c.in_ok-note_id.ensures.namings) c.in_ok-note_ids.ensures.namings c.deref.ensures.value (c.in-Ok.ensures.by_steps image told);
  cause = λ e. absurd (no-err _ _ e);
  kept = c.queue_walk.ensures.kept;
}
