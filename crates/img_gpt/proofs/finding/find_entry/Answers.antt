-- The first entry of the type, with none before it.
use Rattle.std.proofs.Common.{◌≡◌, ◌+◌, ◌*◌, ◌∙◌, sym, ap, ℕ, false, arith, below_more}
use Rattle.apfs_model.specs.Bytes.{part_at}
use Rattle.img_gpt.specs.Table.{is_container_entry}
use Rattle.img_gpt.proofs.Tables.{entry-is, first-entry, no-entry}
use Rattle.img_gpt.proofs.finding.find_entry.Goals as goal

pub returns-then-eq-clause-found : goal.returns-then-eq-clause-found
returns-then-eq-clause-found g c disk told is =
    let table = c.args.table.now in
    let place : c.from.result * c.from-in-entries.result ≡ c.entries.at * table.size = ap (λ (k : ℕ). k * c.from-in-entries.result) c.from.ensures ∙ ap (λ (k : ℕ). c.entries.at * k) c.from-in-entries.ensures in
    let read : c.in_ok-entry.entry ≡ part_at disk (table.entries + c.entries.at * table.size) 48 =
    c.in_ok-entry.ensures.found disk (c.entries.invariant.kept.same_bytes ∙ told) ∙ ap (λ (k : ℕ). part_at disk (table.entries + k) 48) place in
    let both = entry-is disk c.in_ok-entry.entry table c.entries.at is read in
    (first-entry disk table c.entries.at is c.entries-test.true (sym both.1 ∙ (sym c.eq.ensures ∙ c.if-eq.true)) (c.entries.invariant.none disk told is), both.0)

pub entries-preserved : goal.entries-preserved
entries-preserved g c = record {
  kept = record {
    same_bytes = c.in_ok-entry.ensures.kept.same_bytes ∙ c.entries.invariant.kept.same_bytes;
    same_size = c.in_ok-entry.ensures.kept.same_size ∙ c.entries.invariant.kept.same_size;
    later = omega (arith, c.in_ok-entry.ensures.kept.later, c.entries.invariant.kept.later);
  };
  none = λ disk told is.
      let table = c.args.table.now in
      let place : c.from.result * c.from-in-entries.result ≡ c.entries.at * table.size = ap (λ (k : ℕ). k * c.from-in-entries.result) c.from.ensures ∙ ap (λ (k : ℕ). c.entries.at * k) c.from-in-entries.ensures in
      let read : c.in_ok-entry.entry ≡ part_at disk (table.entries + c.entries.at * table.size) 48 =
      c.in_ok-entry.ensures.found disk (c.entries.invariant.kept.same_bytes ∙ told) ∙ ap (λ (k : ℕ). part_at disk (table.entries + k) 48) place in
      let both = entry-is disk c.in_ok-entry.entry table c.entries.at is read in
      below_more (λ k. is_container_entry disk table.sector k ≡ false) c.entries.at (c.entries.invariant.none disk told is) (sym both.1 ∙ (sym c.eq.ensures ∙ c.if-eq.false));
}

pub returns-clause-fault : goal.returns-clause-fault
returns-clause-fault g c disk told has is =
    let table = c.args.table.now in
    (table.sector, has, no-entry disk table is (λ k low. c.entries.invariant.none disk told is k (omega (arith, low, c.entries-test.false))))
