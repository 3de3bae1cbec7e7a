use Rattle.std.proofs.Common.{◌≡◌, ◌<◌, ◌≤◌, ◌-◌, ℕ, length, List, get_or, ap, sym, ◌∙◌, arith}
use Rattle.std.proofs.lemmas.Bool.{ltb-true}
use Rattle.std.proofs.lemmas.List.{get_or_default}
use Rattle.fs_record.specs.Inodes.{Inode}
use Rattle.fs_record.specs.Facts.{Fact}
use Rattle.path_walk.proofs.Rising.{point_here}
use Rattle.path_walk.proofs.files.is_point.Goals as goal
use Rattle.path_walk.proofs.files.is_point.Goals.{then-at-inodes-2+else-id, else-at-inodes-2}

-- an inode at a place, whatever stands past the end
id-at : (list : List (Fact Inode)) (at id : ℕ) (d e : Fact Inode) → at < length list → e ≡ get_or list at e → id ≡ e.id → (get_or list at d).id ≡ id
id-at list at id d e low there same = ap (λ (f : Fact Inode). f.id) (get_or_default list at d e low ∙ sym there) ∙ sym same

pub returns-then-at-eq0-clause-split : goal.returns-then-at-eq0-clause-split
returns-then-at-eq0-clause-split c rise test =
    let list : List (Fact Inode) = c.args.inodes.now in
    point_here c.args.id c.args.at list rise (omega arith)
    (elim c.if-at-inodes-2.branch as (λ _. (d : Fact Inode) → c.args.at < length list → c.args.id ≤ (get_or list c.args.at d).id) [
      | then-at-inodes-2+else-id w ↦ λ d low.
          let same : (get_or list c.args.at d).id ≡ w.id.result = id-at list c.args.at w.id.result d w.index-inodes-at.result low w.index-inodes-at.is w.id.ensures in
          omega (arith, w.if-id.false)
      | else-at-inodes-2 w ↦ λ d low. absurd (omega (arith, w.if-at-inodes-2.false))
    ])
    (λ d above. absurd (omega (arith, c.if-at-eq0.true)))

pub returns-clause-split : goal.returns-clause-split
returns-clause-split c rise test =
    let list : List (Fact Inode) = c.args.inodes.now in
    point_here c.args.id c.args.at list rise (omega arith)
    (elim c.if-at-inodes-2.branch as (λ _. (d : Fact Inode) → c.args.at < length list → c.args.id ≤ (get_or list c.args.at d).id) [
      | then-at-inodes-2+else-id w ↦ λ d low.
          let same : (get_or list c.args.at d).id ≡ w.id.result = id-at list c.args.at w.id.result d w.index-inodes-at.result low w.index-inodes-at.is w.id.ensures in
          omega (arith, w.if-id.false)
      | else-at-inodes-2 w ↦ λ d low. absurd (omega (arith, w.if-at-inodes-2.false))
    ])
    (λ d above.
    let same : (get_or list (c.args.at - 1) d).id ≡ c.id-2.result = id-at list (c.args.at - 1) c.id-2.result d c.index-inodes-at-2.result (omega arith) c.index-inodes-at-2.is c.id-2.ensures in
    let less = ltb-true c.id-2.result c.args.id test in
    omega arith)
