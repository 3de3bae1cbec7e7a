use Rattle.std.proofs.Common.{[], ◌++◌, ap, sym, ◌∙◌}
use Rattle.std.specs.Prelude.{flat_map}
use Rattle.std.proofs.lemmas.List.{flat_map_more}
use Rattle.reach_gather.specs.Held.{Held}
use Rattle.reach_gather.specs.Kept.{namings_in, owners_in}
use Rattle.reach_gather.proofs.gathered.Gathered.put.Goals as goal

pub returns-clause-namings : goal.returns-clause-namings
returns-clause-namings c =
    ap (flat_map namings_in) c.in_ok-push.ensures.items
    ∙ (sym (flat_map_more namings_in [] c.self.inside.noted.items c.args.one) ∙ ap (λ (h : Held). h.namings ++ namings_in c.args.one) c.self.view_is)

pub returns-clause-owners : goal.returns-clause-owners
returns-clause-owners c =
    ap (flat_map owners_in) c.in_ok-push.ensures.items
    ∙ (sym (flat_map_more owners_in [] c.self.inside.noted.items c.args.one) ∙ ap (λ (h : Held). h.owners ++ owners_in c.args.one) c.self.view_is)

pub returns-clause-pool_owners : goal.returns-clause-pool_owners
returns-clause-pool_owners c = ap (λ (h : Held). h.pool_owners) c.self.view_is
