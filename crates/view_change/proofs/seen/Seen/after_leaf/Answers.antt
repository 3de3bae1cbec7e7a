use Rattle.std.proofs.Common.{◌≡◌, ◌+◌, ◌∙◌, ◌&&◌, Bool, false, ap, sym, refl, arith}
use Rattle.bt_cursor.specs.Seen.{falls_below, is_again}
use Rattle.view_change.proofs.Passes.{seen-leaf, and-no}
use Rattle.view_change.proofs.seen.Seen.after_leaf.Goals.{else-ends-via-then-ends+else-repeats, else-ends-via-else-ends}
use Rattle.view_change.proofs.seen.Seen.after_leaf.Goals as goal

pub returns : goal.returns
returns g c keys nodes items site image leaf has told =
    let seen = c.args.self in
    let ends = c.args.ends.now in
    let low : falls_below ends.first seen.before ≡ false = sym c.falls.ensures ∙ c.if-falls.false in
    let once : (ends.strict && is_again ends.first seen.leaf) ≡ false =
    elim c.else-ends.branch [
      | else-ends-via-then-ends+else-repeats w ↦ and-no ends.strict (is_again ends.first seen.leaf) (sym w.repeats.ensures ∙ w.if-repeats.false)
      | else-ends-via-else-ends w ↦ ap (λ (b : Bool). b && is_again ends.first seen.leaf) w.if-ends.false
    ] in
    let more : c.in_ok-checked_sub.field-0 + ends.count ≡ seen.keys = omega (arith, c.in_ok-checked_sub.ensures.0, c.in_ok-checked_sub.ensures.1) in
    seen-leaf g.K.TreeKey.shape keys nodes items site image leaf ends seen _ has told low once refl refl more refl
