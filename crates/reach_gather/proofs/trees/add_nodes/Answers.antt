use Rattle.reach_gather.proofs.Mapped.{nodes-noted, nodes-owned}
use Rattle.reach_gather.proofs.trees.add_nodes.Goals as goal

pub returns-clause-namings : goal.returns-clause-namings
returns-clause-namings c = nodes-noted c.args.tree c.args.root c.args.steps.now c.args.out.now.namings c.note_block.new.self.namings c.note_blocks.new.out.namings c.in_ok-note_block.ensures.namings c.in_ok-note_blocks.ensures.namings

pub returns-clause-owners : goal.returns-clause-owners
returns-clause-owners c = nodes-owned c.args.tree c.args.root c.args.steps.now c.args.out.now.owners c.note_block.new.self.owners c.note_blocks.new.out.owners c.in_ok-note_block.ensures.owners c.in_ok-note_blocks.ensures.owners
