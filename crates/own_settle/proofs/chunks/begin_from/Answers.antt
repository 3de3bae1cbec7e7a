use Rattle.std.proofs.Common.{ℕ, ◌<◌, ◌≡◌, ◌^◌, false, nat_le}
use Rattle.std.proofs.lemmas.Bool.{OnTrue_from}
use Rattle.reach_rules.specs.Settled.{is_held}
use Rattle.own_settle.proofs.OrderLemmas.{begin-by}
use Rattle.own_settle.proofs.chunks.begin_from.Goals as goal

pub returns-in-Some : goal.returns-in-Some
returns-in-Some c =
    OnTrue_from (nat_le c.args.end c.in-Some.range.now.0) ((block : ℕ) → block < c.args.end → is_held c.args.ranges.now block ≡ false)
    (λ by. begin-by (2 ^ 64) c.args.end c.args.ranges.now c.in-Some.range.now c.in-Some.ensures.value c.requires by)
