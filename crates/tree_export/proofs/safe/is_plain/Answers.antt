-- The bytes so far, and the one at hand.
use Rattle.std.proofs.Common.{◌≡◌, ◌<◌, ℕ, true, false, not, eqb, get_or, length, refl, subst, arith}
use Rattle.tree_export.proofs.Plains.{plain_more, plain_end, plain_same}
use Rattle.tree_export.proofs.safe.is_plain.Goals as goal

pub bytes-init : goal.bytes-init
bytes-init c = λ plain. plain

pub bytes-preserved : goal.bytes-preserved
bytes-preserved c =
    let low : c.bytes.byte-index < length c.args.path.now = omega arith in
    plain_more c.args.path.now c.bytes.byte-index c.bytes.before (get_or c.args.path.now c.bytes.byte-index 0) low refl (c.may_follow.ensures c.if-not-may_follow.false) c.bytes.invariant

pub returns : goal.returns
returns c = λ e. plain_same c.args.path.now (c.bytes.invariant (plain_end c.args.path.now c.bytes.byte-index c.bytes.before (omega arith) (λ same. let P : ℕ → Type 0 = λ n. not (eqb n 47) ≡ true in let both : false ≡ true = subst P same e in absurd cc)))
