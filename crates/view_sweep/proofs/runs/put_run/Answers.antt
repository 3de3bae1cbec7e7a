use Rattle.std.proofs.Common.{◌≡◌, ◌≤◌, List, [], ◌∷◌, ◌++◌, inl, inr, refl, ap, sym, ◌∙◌, subst, arith, append-nil}
use Rattle.apfs_model.specs.Lists.{In}
use Rattle.apfs_model.proofs.Searches.{in-left, in-right}
use Rattle.view_sweep.specs.declared.runs.Run.{Run}
use Rattle.view_sweep.proofs.Ranked.{in-push}
use Rattle.view_sweep.proofs.Rises.{put-rising, put-has, longer, longer-rising, longer-has}
use Rattle.view_sweep.proofs.runs.put_run.Goals as goal

pub returns-then-last-run : goal.returns-then-last-run
returns-then-last-run c = record {
  rising = put-rising c.pop.new.self.items c.args.runs.now.items c.push-then-last-run.new.self.items c.in-Some.last c.args.run c.in-Some.ensures.items (c.in_ok-push-in-Some-2.ensures.items ∙ ap (λ (xs : List Run). xs ++ c.args.run ∷ []) c.in_ok-push-in-Some.ensures.items) c.if-last-run.true c.requires.some;
  places = λ k. put-has c.args.runs.now.items c.push.new.self.items c.push-then-last-run.new.self.items c.args.run k (c.in-Some.ensures.items ∙ sym c.in_ok-push-in-Some.ensures.items) c.in_ok-push-in-Some-2.ensures.items;
  behind = λ r h. elim (in-push r c.push.new.self.items c.args.run (subst (In r) c.in_ok-push-in-Some-2.ensures.items h)) as (λ _. r.from ≤ c.args.run.from) [
    | inl k ↦ c.requires.behind r (subst (In r) (c.in_ok-push-in-Some.ensures.items ∙ sym c.in-Some.ensures.items) k)
    | inr e ↦ subst (λ (x : Run). x.from ≤ c.args.run.from) (sym e) (omega arith)
  ];
}

pub returns-in_ok-push-in-Some-3 : goal.returns-in_ok-push-in-Some-3
returns-in_ok-push-in-Some-3 c = record {
  rising = (let is : c.push-in-Some.new.self.items ≡ c.pop.new.self.items ++ longer c.in-Some.last c.args.run ∷ [] = c.in_ok-push-in-Some-3.ensures.items ∙ ap (λ end. c.pop.new.self.items ++ record { from = c.in-Some.last.from; end = end } ∷ []) c.max.ensures in
      longer-rising c.pop.new.self.items c.args.runs.now.items c.push-in-Some.new.self.items c.in-Some.last c.args.run c.in-Some.ensures.items is);
  places = (let is : c.push-in-Some.new.self.items ≡ c.pop.new.self.items ++ longer c.in-Some.last c.args.run ∷ [] = c.in_ok-push-in-Some-3.ensures.items ∙ ap (λ end. c.pop.new.self.items ++ record { from = c.in-Some.last.from; end = end } ∷ []) c.max.ensures in
      let begin : c.in-Some.last.from ≤ c.args.run.from = c.requires.behind c.in-Some.last (subst (In c.in-Some.last) (sym c.in-Some.ensures.items) (in-right c.in-Some.last c.pop.new.self.items (c.in-Some.last ∷ []) (inl refl))) in
      λ k. longer-has c.pop.new.self.items c.args.runs.now.items c.push-in-Some.new.self.items c.in-Some.last c.args.run k c.in-Some.ensures.items is begin (omega (arith, c.if-last-run.false)));
  behind = (λ r h.
      let begin : c.in-Some.last.from ≤ c.args.run.from = c.requires.behind c.in-Some.last (subst (In c.in-Some.last) (sym c.in-Some.ensures.items) (in-right c.in-Some.last c.pop.new.self.items (c.in-Some.last ∷ []) (inl refl))) in
      elim (in-push r c.pop.new.self.items _ (subst (In r) c.in_ok-push-in-Some-3.ensures.items h)) as (λ _. r.from ≤ c.args.run.from) [
        | inl k ↦ c.requires.behind r (subst (In r) (sym c.in-Some.ensures.items) (in-left r c.pop.new.self.items (c.in-Some.last ∷ []) k))
        | inr e ↦ subst (λ (x : Run). x.from ≤ c.args.run.from) (sym e) begin
      ]);
}

pub returns-in_ok-push-in-None-clause-places : goal.returns-in_ok-push-in-None-clause-places
returns-in_ok-push-in-None-clause-places c = λ k. put-has c.args.runs.now.items c.pop.new.self.items c.push-in-None.new.self.items c.args.run k (c.in-None.ensures.items ∙ append-nil c.pop.new.self.items) c.in_ok-push-in-None.ensures.items
