use Rattle.std.proofs.Common.{◌≡◌, List, ap, ◌∙◌, subst}
use Rattle.std.specs.Prelude.{flat_map}
use Rattle.std.proofs.lemmas.Result.{IfOk-weaker}
use Rattle.reach_rules.specs.declared.owner.Owner.{Owner}
use Rattle.reach_gather.specs.Held.{Held}
use Rattle.reach_gather.specs.Kept.{owners_in}
use Rattle.reach_gather.specs.Finished.{AreRangesOnce}
use Rattle.reach_gather.proofs.gathered.Gathered.pool_ranges.Goals as goal

pub returns : goal.returns
returns c =
    let from : flat_map owners_in c.deref.result.now ≡ c.args.self.now.pool_owners = ap (flat_map owners_in) c.deref.ensures.value ∙ ap (λ (h : Held). h.pool_owners) c.self.view_is in
    IfOk-weaker c.ranges_once.result (λ v. AreRangesOnce (flat_map owners_in c.deref.result.now) v.items) (λ v. AreRangesOnce c.args.self.now.pool_owners v.items) (λ v once. subst (λ (os : List Owner). AreRangesOnce os v.items) from once) c.ranges_once.ensures
