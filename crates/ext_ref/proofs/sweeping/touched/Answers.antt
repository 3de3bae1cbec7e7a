use Rattle.std.proofs.Common.{List, ℕ, sym, subst}
use Rattle.std.specs.List.Sorted.{IsPermutation}
use Rattle.std.proofs.lemmas.List.Sorted.{IsPermutation-refl}
use Rattle.fs_record.specs.declared.extents.FileExt.{FileExt}
use Rattle.ext_ref.proofs.sweeping.touched.Goals as goal

pub returns-then-are_in_order-clause-counts : goal.returns-then-are_in_order-clause-counts
returns-then-are_in_order-clause-counts c = c.touched_in_order.ensures.counts c.args.extents.now (IsPermutation-refl c.args.extents.now)

pub returns-clause-counts : goal.returns-clause-counts
returns-clause-counts c =
    c.touched_in_order-2.ensures.counts c.args.extents.now (subst (λ (xs : List (ℕ × FileExt)). IsPermutation c.args.extents.now xs) (sym c.deref.ensures.value) c.in_ok-sorted.ensures.same)
