use Rattle.std.proofs.Common.{◌≡◌, ◌==◌, ◌∙◌, ℕ, Some, ap, sym}
use Rattle.std.specs.Ordering.{nat_cmp}
use Rattle.std.specs.BTreeMap.{get}
use Rattle.apfs_model.proofs.BoolTests.{clash, equal-from}
use Rattle.view_tree.proofs.Memos.{memo_twice}
use Rattle.view_tree.proofs.Staying.{put_stays, one_spot}
use Rattle.view_tree.proofs.under.keep_spot.Goals as goal

pub returns-then-other-spot-clause-twice : goal.returns-then-other-spot-clause-twice
returns-then-other-spot-clause-twice c facts path kept met entry user differs =
    let there : get nat_cmp c.args.memo.now c.args.id ≡ Some c.in-Some.other = sym (c.in-Some.ensures ∙ c.get.ensures.value) in
    memo_twice facts path c.args.memo.now c.args.id c.args.spot c.in-Some.other kept met entry user there (λ a b. clash (c.in-Some.other.1 == c.args.spot.1) b differs)

pub returns-else-other-spot-clause-twice : goal.returns-else-other-spot-clause-twice
returns-else-other-spot-clause-twice c facts path kept met entry user differs =
    let there : get nat_cmp c.args.memo.now c.args.id ≡ Some c.in-Some.other = sym (c.in-Some.ensures ∙ c.get.ensures.value) in
    memo_twice facts path c.args.memo.now c.args.id c.args.spot c.in-Some.other kept met entry user there (λ a b. clash (c.in-Some.other.0 == c.args.spot.0) a differs)

pub returns-then-other-spot-clause-holds : goal.returns-then-other-spot-clause-holds
returns-then-other-spot-clause-holds c same =
    let there : get nat_cmp c.args.memo.now c.args.id ≡ Some c.in-Some.other = sym (c.in-Some.ensures ∙ c.get.ensures.value) in
    there ∙ ap (λ (t : ℕ × ℕ). Some t) (one_spot c.in-Some.other c.args.spot c.if-other-spot.true (equal-from c.in-Some.other.1 c.args.spot.1 same))

pub returns-else-other-spot-clause-holds : goal.returns-else-other-spot-clause-holds
returns-else-other-spot-clause-holds c same = absurd (c.if-other-spot.false (equal-from c.in-Some.other.0 c.args.spot.0 same))

pub returns-in-Ok-clause-stays : goal.returns-in-Ok-clause-stays
returns-in-Ok-clause-stays c = put_stays c.args.memo.now c.insert.new.self c.args.id c.args.spot (sym (c.in-None.ensures ∙ c.get.ensures.value)) c.in-Ok.ensures.updates
