-- The numbers of the header are a table's exactly where the tests say so.
use Rattle.std.proofs.Common.{◌≡◌, ◌≤◌, ◌+◌, ◌*◌, ◌^◌, ◌∙◌, true, false, ◌&&◌, refl, ap, sym, ℕ, arith}
use Rattle.std.specs.Prelude.{nat_le}
use Rattle.std.proofs.lemmas.Bool.{lt-leb, and_left, and_right, and_from}
use Rattle.apfs_model.specs.Bytes.{u32_at, u64_at}
use Rattle.img_gpt.specs.Table.{is_entry_count, is_entry_size}
use Rattle.img_gpt.proofs.Tables.{table-is, table-of, over_from_none, value_from_some}
use Rattle.img_gpt.proofs.table.table_in.Goals as goal
use Rattle.img_gpt.proofs.table.table_in.Goals.{else-is_between-via-then-is_between+else-has_room, else-is_between-via-else-is_between}

pub returns-in_default-clause-table : goal.returns-in_default-clause-table
returns-in_default-clause-table c disk long is =
    let over : 2 ^ 64 ≤ c.u64_at.result * c.args.sector = over_from_none c.checked_mul.result _ _ c.checked_mul.ensures c.in_default.not-Some in
    let same : c.u64_at.result * c.args.sector ≡ u64_at c.args.header.now 72 * c.args.sector = ap (λ (k : ℕ). k * c.args.sector) c.u64_at.ensures in
    table-is disk c.args.header.now c.args.sector c.args.disk_size long is
    ∙ and_right _ _ (and_right _ _ (lt-leb _ c.args.disk_size (omega (arith, over, same, c.ranges.disk_size.fits))))

pub returns-then-has_room-clause-table : goal.returns-then-has_room-clause-table
returns-then-has_room-clause-table c disk long is =
    let entries : c.in-Some.entries ≡ u64_at c.args.header.now 72 * c.args.sector = value_from_some c.checked_mul.result _ _ c.in-Some.entries c.checked_mul.ensures c.in-Some.is ∙ ap (λ (k : ℕ). k * c.args.sector) c.u64_at.ensures in
    let count : c.u32_at-count.result ≡ u32_at c.args.header.now 80 = c.u32_at-count.ensures in
    let size : c.u32_at-size.result ≡ u32_at c.args.header.now 84 = c.u32_at-size.ensures in
    let few : is_entry_count (u32_at c.args.header.now 80) ≡ true = ap is_entry_count (sym count) ∙ sym c.is_between.ensures ∙ c.if-is_between.true in
    let room : (is_entry_size c.u32_at-size.result && nat_le (c.in-Some.entries + c.u32_at-count.result * c.u32_at-size.result) c.args.disk_size) ≡ true = sym c.has_room.ensures ∙ c.if-has_room.true in
    let room_there : (is_entry_size (u32_at c.args.header.now 84) && nat_le (u64_at c.args.header.now 72 * c.args.sector + u32_at c.args.header.now 80 * u32_at c.args.header.now 84) c.args.disk_size) ≡ true = cc in (
      refl,
      table-is disk c.args.header.now c.args.sector c.args.disk_size long is ∙ and_from _ _ few room_there,
      table-of disk c.args.header.now _ is entries count size,
    )

pub returns-clause-table : goal.returns-clause-table
returns-clause-table c disk long is =
    let entries : c.in-Some.entries ≡ u64_at c.args.header.now 72 * c.args.sector = value_from_some c.checked_mul.result _ _ c.in-Some.entries c.checked_mul.ensures c.in-Some.is ∙ ap (λ (k : ℕ). k * c.args.sector) c.u64_at.ensures in
    let count : c.u32_at-count.result ≡ u32_at c.args.header.now 80 = c.u32_at-count.ensures in
    let size : c.u32_at-size.result ≡ u32_at c.args.header.now 84 = c.u32_at-size.ensures in
    table-is disk c.args.header.now c.args.sector c.args.disk_size long is
    ∙ elim c.else-is_between.branch [
      | else-is_between-via-then-is_between+else-has_room w ↦
          let room : (is_entry_size c.u32_at-size.result && nat_le (c.in-Some.entries + c.u32_at-count.result * c.u32_at-size.result) c.args.disk_size) ≡ false = sym w.has_room.ensures ∙ w.if-has_room.false in
          let room_there : (is_entry_size (u32_at c.args.header.now 84) && nat_le (u64_at c.args.header.now 72 * c.args.sector + u32_at c.args.header.now 80 * u32_at c.args.header.now 84) c.args.disk_size) ≡ false = cc in
          and_right _ _ room_there
      | else-is_between-via-else-is_between w ↦ and_left _ _ (ap is_entry_count (sym count) ∙ sym c.is_between.ensures ∙ w.if-is_between.false)
    ]
