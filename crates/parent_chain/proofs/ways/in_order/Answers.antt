use Rattle.std.proofs.Common.{rules}
use Rattle.std.proofs.lemmas.List.Sorted.{IsNonDecreasingBy-from_sort_by_key, answers_always}
use Rattle.parent_chain.specs.declared.ways.Way.{Way}
use Rattle.parent_chain.proofs.WayLooks.{ways-sorted}
use Rattle.parent_chain.proofs.ways.in_order.Goals as goal

pub returns-clause-same : goal.returns-clause-same
returns-clause-same c =
    ways-sorted c.args.list.items c.sort_by_key.new.self.items (c.sort_by_key.ensures.stable (λ (w : Way). w.id) (answers_always _ _ _ (λ f a r g h. search rules)))

pub returns-clause-ascending : goal.returns-clause-ascending
returns-clause-ascending c = IsNonDecreasingBy-from_sort_by_key (λ (w : Way). w.id) _ c.in_ok-sort_by_key.ensures.sorted (λ a r f k. search rules)
