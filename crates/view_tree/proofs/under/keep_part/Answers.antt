use Rattle.std.proofs.Common.{rules, ◌≡◌, ◌==◌, ℕ, false, true, length, Some, sym, subst}
use Rattle.view_tree.specs.Met.{spot_in, is_user_id, IsEntryOf}
use Rattle.view_tree.proofs.Entered.{met_part}
use Rattle.std.specs.Ordering.{nat_cmp}
use Rattle.std.specs.BTreeMap.{get}
use Rattle.view_tree.proofs.Staying.{part_empty, part_none, part_kept}
use Rattle.view_tree.proofs.under.keep_part.Goals as goal

pub returns-in-Ok-clause-kept : goal.returns-in-Ok-clause-kept
returns-in-Ok-clause-kept c facts path named r memo gives =
    let some : (length c.args.part.now == 0) ≡ false = search rules in
    let t = met_part facts path c.args.names c.args.place c.args.part.now c.args.next.now c.directory.result.now c.in_ok-number.number c.in-Some.number c.is_opened_place.result named gives some (c.directory.ensures.all facts r) c.in_ok-number.ensures.named c.in-Some.is c.is_opened_place.ensures in
    c.in-Ok.ensures.kept facts path memo t.0 (subst (λ (i : ℕ). IsEntryOf facts (spot_in c.args.place c.in-Some.number) i) (sym c.id.ensures) t.1.0)

pub returns-in-Err-clause-stops : goal.returns-in-Err-clause-stops
returns-in-Err-clause-stops c facts path named r memo gives =
    let some : (length c.args.part.now == 0) ≡ false = search rules in
    let t = met_part facts path c.args.names c.args.place c.args.part.now c.args.next.now c.directory.result.now c.in_ok-number.number c.in-Some.number c.is_opened_place.result named gives some (c.directory.ensures.all facts r) c.in_ok-number.ensures.named c.in-Some.is c.is_opened_place.ensures in
    c.in-Err.ensures.stops facts path memo t.0 (subst (λ (i : ℕ). IsEntryOf facts (spot_in c.args.place c.in-Some.number) i) (sym c.id.ensures) t.1.0) (λ opens. subst (λ (i : ℕ). is_user_id facts i ≡ true) (sym c.id.ensures) (t.1.1 opens))

pub returns-then-is_empty-clause-all : goal.returns-then-is_empty-clause-all
returns-then-is_empty-clause-all c facts path named r memo gives =
    let none : (length c.args.part.now == 0) ≡ true = search rules in
    (λ id s there. there, part_empty facts c.args.memo.now c.args.place c.args.part.now none)

pub returns-in_default-clause-all : goal.returns-in_default-clause-all
returns-in_default-clause-all c facts path named r memo gives =
    (λ id s there. there, part_none facts c.args.memo.now c.args.names c.args.place c.args.part.now c.directory.result.now c.in_ok-number.number named (c.directory.ensures.all facts r) c.in_ok-number.ensures.named c.in_default.is)

pub returns-in-Ok-clause-all : goal.returns-in-Ok-clause-all
returns-in-Ok-clause-all c facts path named r memo gives = (
  c.in-Ok.ensures.stays,
  part_kept facts c.meet.new.memo path c.args.names c.args.place c.args.part.now c.args.next.now c.directory.result.now c.in_ok-number.number c.in-Some.number c.is_opened_place.result named gives (c.directory.ensures.all facts r) c.in_ok-number.ensures.named c.in-Some.is c.is_opened_place.ensures
      (λ opens. subst (λ (i : ℕ). get nat_cmp c.meet.new.memo i ≡ Some (c.args.place, c.in-Some.number)) c.id.ensures (c.in-Ok.ensures.holds opens)),
)
