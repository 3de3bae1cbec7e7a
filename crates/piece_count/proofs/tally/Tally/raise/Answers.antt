use Rattle.std.proofs.Common.{max, set, refl, ap, ◌∙◌, arith}
use Rattle.piece_count.proofs.Numbers.{one-got}
use Rattle.piece_count.proofs.Tallies.{top-beneath}
use Rattle.piece_count.proofs.tally.Tally.raise.Goals as goal

pub returns-else-self-end : goal.returns-else-self-end
returns-else-self-end c =
    let t = c.args.self.now in
    let view = c.args.view in
    let far = ap (λ m. set t.reach.items view m) (c.max.ensures ∙ ap (λ m. max m c.args.end) (c.index.ensures ∙ one-got t.reach.items view _ 0 c.requires)) in
    let q = c.requires in
    let under = c.if-self-end.false in
    record {
      same_counts = refl;
      same_at = refl;
      reach = far;
      top = λ blocks views short h.
          let r = h.reaches in
          top-beneath blocks views view c.args.end t _ h (omega (arith, q, r)) short far c.if-view-self.false (omega (arith, under)) refl refl c.max-self-else-self-end.ensures;
    }
