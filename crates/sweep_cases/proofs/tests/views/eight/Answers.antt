use Rattle.std.proofs.Common.{refl, arith}
use Rattle.view_sweep.proofs.Placed.{placed-none, placed-more, told-placed, below-placed, view_among}
use Rattle.sweep_cases.proofs.tests.views.eight.Goals as goal

pub loop-place-init : goal.loop-place-init
loop-place-init c = placed-none (view_among c.args.volumes) c.new-heads.result.items c.new-heads.ensures.items

pub loop-place-preserved : goal.loop-place-preserved
loop-place-preserved c = placed-more (view_among c.args.volumes) c.loop-place.heads.items c.push.new.self.items _ c.in_ok-push.ensures.items refl c.loop-place.invariant

pub returns-clause-told : goal.returns-clause-told
returns-clause-told c = told-placed (view_among c.args.volumes) c.loop-place.heads.items c.loop-place.invariant

pub returns-clause-below : goal.returns-clause-below
returns-clause-below c = below-placed (view_among c.args.volumes) c.args.volumes c.loop-place.heads.items (λ place. omega (arith, c.requires.some)) c.loop-place.invariant

pub returns-clause-within : goal.returns-clause-within
returns-clause-within c = below-placed (view_among c.args.volumes) 2 c.loop-place.heads.items (λ place. omega (arith, c.requires.some, c.requires.few)) c.loop-place.invariant
