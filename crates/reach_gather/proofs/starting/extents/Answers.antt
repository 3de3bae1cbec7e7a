use Rattle.std.proofs.Common.{◌∙◌, ◌++◌, ◌∷◌, [], ℕ, List, map, ap, sym, arith}
use Rattle.std.proofs.lemmas.List.FromFn.{map-range_with_len_more}
use Rattle.std.specs.List.{range_with_len}
use Rattle.nx_block.specs.Jump.{jump_extent_of}
use Rattle.reach_gather.proofs.starting.extents.Goals as goal

pub extents-preserved : goal.extents-preserved
extents-preserved c =
    c.in_ok-push.ensures.items
    ∙ (ap (λ (xs : List (ℕ × ℕ)). xs ++ c.extent.result ∷ []) c.extents.invariant
    ∙ (ap (λ (x : ℕ × ℕ). map (jump_extent_of c.args.jump.now) (range_with_len 0 c.extents.i) ++ x ∷ []) c.extent.ensures
    ∙ sym (map-range_with_len_more (jump_extent_of c.args.jump.now) 0 c.extents.i c.extents.i (omega arith))))
