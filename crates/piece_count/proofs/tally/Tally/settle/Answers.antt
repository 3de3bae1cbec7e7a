use Rattle.std.proofs.Common.{List, min, max, ◌-◌, ◌+◌, refl, ap, ◌∙◌, set}
use Rattle.piece_count.specs.declared.tally.ViewCount.{ViewCount}
use Rattle.piece_count.proofs.Numbers.{one-got}
use Rattle.piece_count.proofs.Tallies.{settle-tally}
use Rattle.piece_count.proofs.tally.Tally.settle.Goals as goal

pub returns-clause-settled : goal.returns-clause-settled
returns-clause-settled c = λ blocks views has few low up h.
    let t = c.args.self.now in
    let old : List ViewCount = t.counts.views.items in
    let n = c.saturating_add-count.result in
    let more = c.beyond-more.result in
    let found = c.index_mut-count.ensures.value ∙ one-got old t.top c.index_mut-count.result.now (record { held = 0; only = 0 }) c.requires in
    settle-tally blocks views has t h _ c.args.first n more few low up refl refl refl refl refl refl
    (ap (λ (v : ViewCount). set old t.top (record { held = v.held; only = n })) found)
    (c.beyond-more.ensures ∙ ap (λ m. m - max t.at t.second) c.min.ensures)
    (c.saturating_add-count.ensures ∙ ap (λ (v : ViewCount). min (v.only + more) 18446744073709551615) found)
