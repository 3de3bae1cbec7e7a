use Rattle.std.proofs.Common.{◌≡◌, List, map, ap, ◌∙◌, subst}
use Rattle.std.specs.Prelude.{flat_map, ◌↔◌}
use Rattle.std.specs.List.Sorted.{IsStrictlyIncreasing}
use Rattle.std.proofs.lemmas.Result.{IfOk-weaker}
use Rattle.apfs_model.specs.Lists.{In}
use Rattle.reach_rules.specs.declared.owner.Owner.{Owner}
use Rattle.reach_rules.specs.Reached.{range_of}
use Rattle.reach_gather.specs.Kept.{owners_in}
use Rattle.reach_gather.specs.Finished.{AreRangesOnce, first_of}
use Rattle.reach_gather.proofs.Finishes.{ranges-once}
use Rattle.reach_gather.proofs.Rising.{rising-once}
use Rattle.reach_gather.proofs.Ties.{owner-one}
use Rattle.reach_gather.proofs.finishing.ranges_once.Goals as goal

pub distinct-requires : goal.distinct-requires
distinct-requires c = record { one = owner-one }

pub returns-then-do_rise : goal.returns-then-do_rise
returns-then-do_rise c =
    let rise : IsStrictlyIncreasing (map first_of c.deref.result.now) = c.do_rise.ensures.0 c.if-do_rise.true in
    rising-once (flat_map owners_in c.args.kept.now) c.in_ok-ranges.ranges.items c.sort_unstable.new.self.items c.in_ok-ranges.ensures c.sort_unstable.ensures.permutation
    (subst (λ rs. IsStrictlyIncreasing (map first_of rs)) c.deref.ensures.value rise)

pub returns : goal.returns
returns c =
    let same : (x : Owner) → In x (flat_map owners_in c.args.kept.now) ↔ In x c.distinct.new.items.items =
    subst (λ (os : List Owner). (x : Owner) → In x os ↔ In x c.distinct.new.items.items) c.in_ok-owners.ensures c.distinct.ensures.same in
    IfOk-weaker c.ranges_alone.result (λ v. v.items ≡ map range_of c.deref-2.result.now) (λ v. AreRangesOnce (flat_map owners_in c.args.kept.now) v.items)
    (λ v e. ranges-once (flat_map owners_in c.args.kept.now) c.distinct.new.items.items same c.distinct.ensures.apart v.items (e ∙ ap (map range_of) c.deref-2.ensures.value))
    c.ranges_alone.ensures
