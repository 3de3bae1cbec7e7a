use Rattle.std.proofs.Common.{◌≡◌, ℕ, true, false, sym, arith, List, ◌++◌, ◌==◌, ap, ◌∙◌}
use Rattle.std.proofs.lemmas.Bool.Decides.{nat_tests}
use Rattle.std.proofs.lemmas.List.{append-nil, take_all}
use Rattle.std.specs.List.{filter}
use Rattle.view_sweep.specs.declared.wanted.Asked.{Asked}
use Rattle.view_sweep.specs.Swept.{level_of}
use Rattle.view_sweep.proofs.Buffers.{filtered-more}
use Rattle.view_sweep.proofs.sweeping.add_level.Goals.{then-level+in_ok-push, else-level}
use Rattle.view_sweep.proofs.sweeping.add_level.Goals as goal

pub returns : goal.returns
returns c = c.loop-kid.invariant ∙ ap (λ (xs : List Asked). c.args.out.now.items ++ filter (λ (a : Asked). level_of a.wanted == c.args.level) xs) (take_all c.loop-kid.kid-index c.args.kids.now c.loop-kid-test.false)

same-tests : {m n : ℕ} → m ≡ n → (m == n) ≡ true
same-tests e = grind (arith, nat_tests)

others-test : {m n : ℕ} → (m ≡ n → ⊥) → (m == n) ≡ false
others-test differ = grind (arith, nat_tests)

pub loop-kid-preserved : goal.loop-kid-preserved
loop-kid-preserved c =
    let at : ℕ = c.loop-kid.kid-index in
    let kids : List Asked = c.args.kids.now in
    let before : List Asked = c.args.out.now.items in
    let old : List Asked = c.loop-kid.out.items in
    elim c.if-level.branch [
      | then-level+in_ok-push w ↦
          ap (λ v. v.items) w.out-is
          ∙ filtered-more (λ (a : Asked). level_of a.wanted == c.args.level) kids at _ before old w.push.new.self.items true c.loop-kid-test.true (same-tests (sym c.level.ensures ∙ w.if-level.true)) c.loop-kid.invariant w.in_ok-push.ensures.items
      | else-level w ↦
          ap (λ v. v.items) w.out-is
          ∙ filtered-more (λ (a : Asked). level_of a.wanted == c.args.level) kids at _ before old old false c.loop-kid-test.true (others-test (λ e. w.if-level.false (c.level.ensures ∙ e))) c.loop-kid.invariant (sym (append-nil old))
    ]
