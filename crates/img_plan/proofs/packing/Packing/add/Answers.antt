use Rattle.std.proofs.Common.{◌≡◌, ◌+◌, ◌-◌, ◌≤◌, ◌<◌, ◌^◌, min, [], ◌∷◌, ◌++◌, ap, ◌∙◌, arith}
use Rattle.img_plan.specs.Nodes.{bytes_in_node}
use Rattle.img_plan.specs.declared.packing.Packing.{Packing}
use Rattle.img_plan.proofs.PackingSteps.{stays_in, goes_next}
use Rattle.img_plan.proofs.packing.Packing.add.Goals as goal
use Rattle.img_plan.proofs.packing.Packing.add.Goals.{then-saturating_add-gt-MOST_OF_A_LEAF+in_ok-close, else-saturating_add-gt-MOST_OF_A_LEAF}

pub returns-clause-packing : goal.returns-clause-packing
returns-clause-packing c = λ items was.
    let old = c.args.self.now in
    let kept = c.if-saturating_add-gt-MOST_OF_A_LEAF.self in
    let item = c.args.item in
    let new : Packing = record { first = kept.first; leaves = kept.leaves; last = c.push.new.self; bytes = c.saturating_add-self.result } in
    let size = bytes_in_node item.0.len item.1.len in
    elim c.if-saturating_add-gt-MOST_OF_A_LEAF.branch [
      | then-saturating_add-gt-MOST_OF_A_LEAF+in_ok-close w ↦
          let full : 4000 < min (old.bytes + min size (2 ^ 64 - 1)) (2 ^ 64 - 1) = omega arith in
          let counted : c.saturating_add-self.result ≡ min (w.close.new.self.bytes + min size (2 ^ 64 - 1)) (2 ^ 64 - 1) = omega (arith, ap (λ (p : Packing). p.bytes) w.self-is) in
          goes_next old w.close.new.self new items item was w.in_ok-close.ensures full
          (ap (λ (p : Packing). p.first) w.self-is) (ap (λ (p : Packing). p.leaves.items) w.self-is) (c.in_ok-push.ensures.items ∙ ap (λ (p : Packing). p.last.items ++ item ∷ []) w.self-is) counted
      | else-saturating_add-gt-MOST_OF_A_LEAF w ↦
          let room : min (old.bytes + min size (2 ^ 64 - 1)) (2 ^ 64 - 1) ≤ 4000 = omega arith in
          let counted : c.saturating_add-self.result ≡ min (old.bytes + min size (2 ^ 64 - 1)) (2 ^ 64 - 1) = omega (arith, ap (λ (p : Packing). p.bytes) w.self-is) in
          stays_in old new items item was room
          (ap (λ (p : Packing). p.first) w.self-is) (ap (λ (p : Packing). p.leaves.items) w.self-is) (c.in_ok-push.ensures.items ∙ ap (λ (p : Packing). p.last.items ++ item ∷ []) w.self-is) counted
    ]
