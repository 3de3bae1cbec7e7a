use Rattle.view_facts.proofs.Adds.{facts-none}
use Rattle.view_facts.proofs.Keeping.{kept-none}
use Rattle.view_facts.proofs.keep.Keep.new.Goals as goal

pub returns-clause-none : goal.returns-clause-none
returns-clause-none g c =
    kept-none _ _ (facts-none _ _ c.new.ensures.items c.new-2.ensures.items c.new-3.ensures.items c.new-4.ensures.items c.new-5.ensures.items c.new-6.ensures.items)
