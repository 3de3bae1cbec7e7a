use Rattle.std.proofs.Common.{◌∙◌, ◌++◌, map, ap}
use Rattle.reach_gather.specs.Steps.{block_owner}
use Rattle.reach_gather.proofs.Mapped.{records-are, loaded-adds, loaded-noted}
use Rattle.reach_gather.proofs.maps.add_map.Goals as goal

pub returns : goal.returns
returns c = record {
  clear = (λ image seen part same.
      let records = records-are c.args.naming.oid c.args.omap.now c.root-root.result c.tree.result c.steps.result.now c.root-root.ensures c.tree.ensures c.steps.ensures in
      loaded-adds image seen c.args.naming c.args.omap.now c.args.out.now c.note_block.new.self c.add_nodes.new.out c.add_past.new.out c.requires.how c.requires.kind part same
      c.in_ok-note_block.ensures.namings c.in_ok-note_block.ensures.owners c.note_block.ensures.pool_owners
      (c.in_ok-add_nodes.ensures.namings ∙ ap (λ xs. c.note_block.new.self.namings ++ xs) records)
      (c.in_ok-add_nodes.ensures.owners ∙ ap (λ xs. c.note_block.new.self.owners ++ map block_owner xs) records)
      c.add_nodes.ensures.pool_owners
      c.in_ok-add_past.ensures.namings c.in_ok-add_past.ensures.owners c.add_past.ensures.pool_owners);
  namings = (let records = records-are c.args.naming.oid c.args.omap.now c.root-root.result c.tree.result c.steps.result.now c.root-root.ensures c.tree.ensures c.steps.ensures in
      loaded-noted c.args.naming c.args.omap.now c.args.out.now.namings c.note_block.new.self.namings c.add_nodes.new.out.namings c.add_past.new.out.namings c.in_ok-note_block.ensures.namings
      (c.in_ok-add_nodes.ensures.namings ∙ ap (λ xs. c.note_block.new.self.namings ++ xs) records) c.in_ok-add_past.ensures.namings);
}
