use Rattle.std.proofs.Common.{[], ◌++◌, ap, sym, ◌∙◌}
use Rattle.std.specs.Prelude.{flat_map}
use Rattle.std.proofs.lemmas.List.{flat_map_more}
use Rattle.reach_gather.specs.Held.{Held}
use Rattle.reach_gather.specs.Kept.{owners_in}
use Rattle.reach_gather.proofs.gathered.Gathered.put_pool.Goals as goal

pub returns-clause-owners : goal.returns-clause-owners
returns-clause-owners c = ap (λ (h : Held). h.owners) c.self.view_is

pub returns-clause-pool_owners : goal.returns-clause-pool_owners
returns-clause-pool_owners c =
    ap (flat_map owners_in) c.in_ok-push.ensures.items
    ∙ (sym (flat_map_more owners_in [] c.self.inside.pool.items c.args.one) ∙ ap (λ (h : Held). h.pool_owners ++ owners_in c.args.one) c.self.view_is)
