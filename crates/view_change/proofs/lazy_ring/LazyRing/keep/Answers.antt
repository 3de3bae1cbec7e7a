use Rattle.std.proofs.Common.{◌≡◌, ◌-◌, ◌++◌, ◌∙◌, length, take, min, ap, arith}
use Rattle.view_change.proofs.Rings.{waits-taken}
use Rattle.view_change.proofs.lazy_ring.LazyRing.keep.Goals as goal

pub returns-clause-taken : goal.returns-clause-taken
returns-clause-taken g c =
    let ring = c.self.inside.ring in
    let few : c.min-more.result ≡ min c.args.number (length ring.0 - c.self.inside.waiting) = omega (arith, c.min-more.ensures, c.left.ensures) in
    waits-taken ring.0 ring.1 c.self.inside.waiting c.min-more.result c.args.number few ∙ ap (λ v. v.1 ++ take c.args.number v.0) c.self.view_is
