use Rattle.std.proofs.Common.{◌≡◌, ◌+◌, ◌∙◌, false, sym, refl, arith}
use Rattle.bt_cursor.specs.Seen.{falls_below}
use Rattle.view_change.proofs.Passes.{seen-separator}
use Rattle.view_change.proofs.seen.Seen.after_separator.Goals as goal

pub returns : goal.returns
returns g c keys nodes items item has separates =
    let seen = c.args.self in
    let low : falls_below c.args.rank seen.before ≡ false = sym c.falls.ensures ∙ c.if-falls.false in
    let one : c.in_ok-checked_sub.field-0 + 1 ≡ seen.nodes = omega (arith, c.in_ok-checked_sub.ensures.0, c.in_ok-checked_sub.ensures.1) in
    seen-separator g.K.TreeKey.shape keys nodes items item seen _ c.args.rank has separates low refl refl refl one
