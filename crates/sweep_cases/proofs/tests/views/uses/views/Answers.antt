use Rattle.std.proofs.Common.{◌≡◌, ℕ, true, ap, arith}
use Rattle.view_sweep.specs.declared.wanted.SweptView.{SweptView}
use Rattle.view_sweep.proofs.Placed.{placed-none, placed-more, told-placed, below-placed}
use Rattle.sweep_cases.proofs.tests.views.uses.views.Invariants.{view_by}
use Rattle.sweep_cases.proofs.tests.views.uses.views.Goals as goal

pub loop-place-init : goal.loop-place-init
loop-place-init c = placed-none view_by c.new-heads.result.items c.new-heads.ensures.items

seen-at : (place xid : ℕ) → xid ≡ (view_by place).xid → ◌≡◌ {A = SweptView} (record { slot = 0; place = place; xid = xid; map = 52; hashed = true; volume = 0 }) (view_by place)
seen-at place xid e = ap (λ (x : ℕ). record { slot = 0; place = place; xid = x; map = 52; hashed = true; volume = 0 }) e

pub loop-place-preserved : goal.loop-place-preserved
loop-place-preserved c = placed-more view_by c.loop-place.heads.items c.push.new.self.items _ c.in_ok-push.ensures.items (seen-at _ c.xid_of.result c.xid_of.ensures) c.loop-place.invariant

pub returns-clause-told : goal.returns-clause-told
returns-clause-told c = told-placed view_by c.loop-place.heads.items c.loop-place.invariant

pub returns-clause-below : goal.returns-clause-below
returns-clause-below c = below-placed view_by 1 c.loop-place.heads.items (λ place. omega arith) c.loop-place.invariant
