-- A partition is placed exactly where its last sector isn't below its first, and the byte after it isn't beyond the disk's end.
use Rattle.std.proofs.Common.{◌≡◌, ◌≤◌, ◌+◌, ◌*◌, ◌^◌, ◌∙◌, ap, ℕ, arith}
use Rattle.apfs_model.specs.Bytes.{u64_at}
use Rattle.img_gpt.proofs.Tables.{not-placed, placed, part-is, mul-low, mul-one, over_from_none, value_from_some}
use Rattle.img_gpt.proofs.table.part_in.Goals as goal
use Rattle.img_gpt.proofs.table.part_in.Goals.{else-first-last-via-then-first-last+else-end-disk_size, else-first-last-via-else-first-last}

pub returns-in_default-clause-part : goal.returns-in_default-clause-part
returns-in_default-clause-part c disk i long is =
    let first : c.u64_at-first.result ≡ u64_at c.args.entry.now 32 = c.u64_at-first.ensures in
    let over : 2 ^ 64 ≤ c.u64_at-first.result * c.args.sector = over_from_none c.checked_mul.result _ _ c.checked_mul.ensures c.in_default.not-Some in
    not-placed disk c.args.entry.now c.args.sector i c.args.disk_size long is
    (λ order.
    let more : c.u64_at-first.result * c.args.sector ≤ (u64_at c.args.entry.now 40 + 1) * c.args.sector = mul-low c.u64_at-first.result (u64_at c.args.entry.now 40 + 1) c.args.sector (omega (arith, first, order)) in
    omega (arith, over, more, c.ranges.disk_size.fits))

pub returns-in_default-checked_add-clause-part : goal.returns-in_default-checked_add-clause-part
returns-in_default-checked_add-clause-part c disk i long is =
    let last : c.u64_at-last.result ≡ u64_at c.args.entry.now 40 = c.u64_at-last.ensures in
    let over : 2 ^ 64 ≤ c.u64_at-last.result + 1 = over_from_none c.checked_add.result _ _ c.checked_add.ensures c.in_default-checked_add.not-Some in
    not-placed disk c.args.entry.now c.args.sector i c.args.disk_size long is
    (λ order.
    let more : u64_at c.args.entry.now 40 + 1 ≤ (u64_at c.args.entry.now 40 + 1) * c.args.sector = mul-one (u64_at c.args.entry.now 40 + 1) c.args.sector c.requires.sector in
    omega (arith, over, last, more, c.ranges.disk_size.fits))

pub returns-in_default-checked_mul-clause-part : goal.returns-in_default-checked_mul-clause-part
returns-in_default-checked_mul-clause-part c disk i long is =
    let after : c.in-Some-checked_add.after ≡ u64_at c.args.entry.now 40 + 1 = value_from_some c.checked_add.result _ _ c.in-Some-checked_add.after c.checked_add.ensures c.in-Some-checked_add.is ∙ ap (λ (k : ℕ). k + 1) c.u64_at-last.ensures in
    let over : 2 ^ 64 ≤ c.in-Some-checked_add.after * c.args.sector = over_from_none c.checked_mul-2.result _ _ c.checked_mul-2.ensures c.in_default-checked_mul.not-Some in
    let same : c.in-Some-checked_add.after * c.args.sector ≡ (u64_at c.args.entry.now 40 + 1) * c.args.sector = ap (λ (k : ℕ). k * c.args.sector) after in
    not-placed disk c.args.entry.now c.args.sector i c.args.disk_size long is (λ order. omega (arith, over, same, c.ranges.disk_size.fits))

pub returns-then-end-disk_size-clause-part : goal.returns-then-end-disk_size-clause-part
returns-then-end-disk_size-clause-part c disk i long is =
    let order : u64_at c.args.entry.now 32 ≤ u64_at c.args.entry.now 40 = omega (arith, c.if-first-last.true, c.u64_at-first.ensures, c.u64_at-last.ensures) in
    let start : c.in-Some.start ≡ u64_at c.args.entry.now 32 * c.args.sector = value_from_some c.checked_mul.result _ _ c.in-Some.start c.checked_mul.ensures c.in-Some.is ∙ ap (λ (k : ℕ). k * c.args.sector) c.u64_at-first.ensures in
    let after : c.in-Some-checked_add.after ≡ u64_at c.args.entry.now 40 + 1 = value_from_some c.checked_add.result _ _ c.in-Some-checked_add.after c.checked_add.ensures c.in-Some-checked_add.is ∙ ap (λ (k : ℕ). k + 1) c.u64_at-last.ensures in
    let end : c.in-Some-checked_mul.end ≡ (u64_at c.args.entry.now 40 + 1) * c.args.sector = value_from_some c.checked_mul-2.result _ _ c.in-Some-checked_mul.end c.checked_mul-2.ensures c.in-Some-checked_mul.is ∙ ap (λ (k : ℕ). k * c.args.sector) after in (
      placed disk c.args.entry.now c.args.sector i c.args.disk_size long is order (omega (arith, c.if-end-disk_size.true, end)),
      part-is disk c.args.entry.now c.args.sector i c.in-Some.start c.in-Some-checked_mul.end is order start end,
    )

pub returns-clause-part : goal.returns-clause-part
returns-clause-part c disk i long is =
    let after : c.in-Some-checked_add.after ≡ u64_at c.args.entry.now 40 + 1 = value_from_some c.checked_add.result _ _ c.in-Some-checked_add.after c.checked_add.ensures c.in-Some-checked_add.is ∙ ap (λ (k : ℕ). k + 1) c.u64_at-last.ensures in
    let end : c.in-Some-checked_mul.end ≡ (u64_at c.args.entry.now 40 + 1) * c.args.sector = value_from_some c.checked_mul-2.result _ _ c.in-Some-checked_mul.end c.checked_mul-2.ensures c.in-Some-checked_mul.is ∙ ap (λ (k : ℕ). k * c.args.sector) after in
    not-placed disk c.args.entry.now c.args.sector i c.args.disk_size long is
    (λ order.
    elim c.else-first-last.branch [
      | else-first-last-via-then-first-last+else-end-disk_size w ↦ omega (arith, w.if-end-disk_size.false, end)
      | else-first-last-via-else-first-last w ↦ absurd (omega (arith, w.if-first-last.false, order, c.u64_at-first.ensures, c.u64_at-last.ensures))
    ])
