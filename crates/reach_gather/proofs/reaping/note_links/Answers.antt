use Rattle.std.proofs.Common.{◌∙◌}
use Rattle.reach_gather.specs.Chain.{reap_at}
use Rattle.reach_gather.proofs.Numbered.{named-more}
use Rattle.reach_gather.proofs.reaping.note_links.Goals as goal

pub loop-i-preserved : goal.loop-i-preserved
loop-i-preserved c = record {
  namings = named-more (reap_at c.args.ids.now) c.loop-i.i c.link.result c.args.out.now.namings c.loop-i.out.namings c.note_id.new.self.namings c.link.ensures c.loop-i.invariant.namings c.in_ok-note_id.ensures.namings;
  owners = c.note_id.ensures.owners ∙ c.loop-i.invariant.owners;
  pool_owners = c.note_id.ensures.pool_owners ∙ c.loop-i.invariant.pool_owners;
}
