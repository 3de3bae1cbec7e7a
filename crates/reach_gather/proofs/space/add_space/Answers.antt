use Rattle.std.proofs.Common.{◌≡◌, ◌∙◌, ◌++◌, ℕ, map, ap}
use Rattle.nx_block.specs.Super.{space_oid_of}
use Rattle.nx_ring.specs.Checkpoint.{Seen}
use Rattle.space_map.specs.Stops.{Known}
use Rattle.reach_gather.specs.Infos.{known_cabs, known_cibs, bitmaps_from}
use Rattle.reach_gather.specs.Steps.{block_owner}
use Rattle.reach_gather.proofs.Spaced.{space-adds}
use Rattle.reach_gather.specs.Container.{manager_naming}
use Rattle.reach_gather.proofs.Noted.{space-read, kept-on, no-err}
use Rattle.reach_gather.proofs.space.add_space.Goals as goal

pub returns-in-Err-clause-present : goal.returns-in-Err-clause-present
returns-in-Err-clause-present g c = λ image told is. c.in-Err.ensures.present image told is

pub returns-in-Err-add_main-clause-present : goal.returns-in-Err-add_main-clause-present
returns-in-Err-add_main-clause-present g c = λ image told is. c.in-Err-add_main.ensures.present image (c.add_pool.ensures.kept.same_bytes ∙ told) is

pub returns : goal.returns
returns g c = record {
  clear = (λ image told is.
      let seen : Seen = c.args.cp.now in
      let space : Known = c.args.space.now in
      let by : c.space_oid.result ≡ space_oid_of seen.nx = c.space_oid.ensures ∙ ap space_oid_of c.nx.ensures in
      space-adds image seen space c.args.out.now c.add_manager.new.out c.add_pool.new.out c.add_main.new.out c.note_space.new.out is
      c.in_ok-add_manager.ensures.namings
      c.in_ok-add_manager.ensures.owners
      c.add_manager.ensures.pool_owners
      (c.in-Ok.ensures.clear image told)
      (c.in-Ok-add_main.ensures.clear image (c.add_pool.ensures.kept.same_bytes ∙ told))
      (c.in_ok-note_space.ensures.namings ∙ ap (λ (oid : ℕ). (c.add_main.new.out.namings ++ known_cabs oid space) ++ known_cibs oid space) by)
      c.note_space.ensures.owners
      (c.in_ok-note_space.ensures.pool_owners ∙ ap (λ (oid : ℕ). ((c.add_main.new.out.pool_owners ++ map block_owner (known_cabs oid space)) ++ map block_owner (known_cibs oid space)) ++ bitmaps_from 0 space.chunks) by));
  queued = c.in-Ok.ensures.queued;
  present = λ image told is. tt;
  reads = λ image told is.
      space-read image c.args.cp.now c.args.space.now c.space_oid.result (manager_naming c.args.cp.now.nx) c.args.out.now.namings c.add_manager.new.out.namings c.add_pool.new.out.namings c.add_main.new.out.namings c.note_space.new.out.namings (g.S.BlockSource.reads c.args.src.now) (g.S.BlockSource.reads c.add_pool.new.src) (g.S.BlockSource.reads c.add_main.new.src) is
      c.in_ok-add_manager.ensures.namings
      (c.in-Ok.ensures.reads image told)
      (c.in-Ok-add_main.ensures.reads image (c.add_pool.ensures.kept.same_bytes ∙ told))
      c.in_ok-note_space.ensures.namings;
  cause = λ e. absurd (no-err _ _ e);
  kept = kept-on g.S.BlockSource.bytes g.S.BlockSource.bytes_len g.S.BlockSource.faults c.args.src.now c.add_pool.new.src c.add_main.new.src c.add_pool.ensures.kept c.add_main.ensures.kept;
}
