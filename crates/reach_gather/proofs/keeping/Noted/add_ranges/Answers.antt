use Rattle.std.proofs.Common.{◌≡◌, ◌++◌, ◌∙◌, map, OnOk, ap, sym, subst}
use Rattle.reach_rules.specs.Reached.{range_of}
use Rattle.reach_gather.specs.Kept.{owners_in, some_ranges}
use Rattle.reach_gather.proofs.Kepts.{told-ranges}
use Rattle.reach_gather.proofs.keeping.Noted.add_ranges.Goals as goal

pub returns-in-Those : goal.returns-in-Those
returns-in-Those c =
    let same : some_ranges c.as_slice.result.now ≡ map range_of (owners_in c.args.self.now) =
    ap some_ranges c.as_slice.ensures.value ∙ (sym (told-ranges c.in-Those.field-0 0 c.in-Those.ranges.items) ∙ ap (λ k. map range_of (owners_in k)) (sym c.in-Those.is)) in
    subst (λ rs. OnOk c.add_ranges.result (c.add_ranges.new.out.items ≡ c.args.out.now.items ++ rs)) same c.add_ranges.ensures
