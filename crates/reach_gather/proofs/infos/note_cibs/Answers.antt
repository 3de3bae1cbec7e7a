use Rattle.std.proofs.Common.{◌∙◌}
use Rattle.reach_gather.specs.Infos.{known_cib}
use Rattle.reach_gather.proofs.Numbered.{named-more, owned-more}
use Rattle.reach_gather.proofs.infos.note_cibs.Goals as goal

pub loop-i-preserved : goal.loop-i-preserved
loop-i-preserved c = record {
  namings = named-more (known_cib c.args.oid c.args.space.now) c.loop-i.i c.cib.result c.args.out.now.namings c.loop-i.out.namings c.note_info.new.self.namings c.cib.ensures c.loop-i.invariant.namings c.in_ok-note_info.ensures.namings;
  owners = c.note_info.ensures.owners ∙ c.loop-i.invariant.owners;
  pool_owners = owned-more (known_cib c.args.oid c.args.space.now) c.loop-i.i c.cib.result c.args.out.now.pool_owners c.loop-i.out.pool_owners c.note_info.new.self.pool_owners c.cib.ensures c.loop-i.invariant.pool_owners c.in_ok-note_info.ensures.pool_owners;
}
