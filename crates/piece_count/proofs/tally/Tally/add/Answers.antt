use Rattle.std.proofs.Common.{List, ◌+◌, ◌-◌, min, max, refl, ap, ◌∙◌, set, arith}
use Rattle.piece_count.specs.declared.tally.Counts.{Counts}
use Rattle.piece_count.specs.declared.tally.ViewCount.{ViewCount}
use Rattle.piece_count.proofs.Numbers.{one-got}
use Rattle.piece_count.proofs.Tallies.{top-kept, add-tally}
use Rattle.piece_count.proofs.tally.Tally.add.Goals as goal

pub returns-clause-added : goal.returns-clause-added
returns-clause-added c = λ blocks views has few short here h.
    let t = c.args.self.now in
    let old : List ViewCount = t.counts.views.items in
    let view = c.args.view in
    let n = c.saturating_add-count.result in
    let more = c.beyond-more.result in
    let m = h.many in
    let q = c.requires.counted in
    let found = c.index_mut-count.ensures.value ∙ one-got old view c.index_mut-count.result.now (record { held = 0; only = 0 }) q in
    add-tally blocks views has t h view c.args.first c.args.end few short here (omega (arith, q, m)) c.raise.new.self n more c.beyond.result c.raise.ensures.same_at
    (c.raise.ensures.top blocks views short (top-kept blocks views has t h _ refl refl refl refl)) c.raise.ensures.reach
    (ap (λ (k : Counts). k.views.items) c.raise.ensures.same_counts ∙ ap (λ (v : ViewCount). set old view (record { held = n; only = v.only })) found)
    (c.beyond-more.ensures ∙ ap (λ m. c.args.end - max c.args.first m) (c.index.ensures ∙ one-got t.reach.items view _ 0 c.requires.reached))
    (c.saturating_add-count.ensures ∙ ap (λ (v : ViewCount). min (v.held + more) 18446744073709551615) found)
    c.beyond.ensures
    (ap (λ (k : Counts). k.all) c.raise.ensures.same_counts ∙ c.saturating_add-self.ensures)
