use Rattle.std.proofs.Common.{◌-◌, ◌≤◌, inl, inr, sym, ◌∙◌, subst, arith}
use Rattle.apfs_model.specs.Lists.{In}
use Rattle.view_sweep.specs.declared.runs.Run.{Run}
use Rattle.view_sweep.specs.Runs.{has_place}
use Rattle.view_sweep.proofs.Ranked.{in-push}
use Rattle.use_report.proofs.HeadRuns.{no-live, one-live}
use Rattle.use_report.proofs.runs.add_live.Goals as goal

pub returns-then-not-has_live-clause-live : goal.returns-then-not-has_live-clause-live
returns-then-not-has_live-clause-live c = λ view. no-live c.args.runs.now.items (has_place c.args.set.now (c.args.many - 1)) view c.requires.none (sym c.has_live.ensures ∙ c.if-not-has_live.true)

pub returns-then-not-has_live-clause-behind : goal.returns-then-not-has_live-clause-behind
returns-then-not-has_live-clause-behind c = λ r h. absurd (subst (In r) c.requires.none h)

pub returns-clause-live : goal.returns-clause-live
returns-clause-live c = λ view. one-live c.args.runs.now.items c.push.new.self.items (has_place c.args.set.now (c.args.many - 1)) view c.requires.none c.in_ok-push.ensures.items (sym c.has_live.ensures ∙ c.if-not-has_live.false)

pub returns-clause-behind : goal.returns-clause-behind
returns-clause-behind c = λ r h. elim (in-push r c.args.runs.now.items (record { from = 0; end = 1 }) (subst (In r) c.in_ok-push.ensures.items h)) as (λ _. r.from ≤ 0) [
  | inl k ↦ absurd (subst (In r) c.requires.none k)
  | inr e ↦ subst (λ (x : Run). x.from ≤ 0) (sym e) (omega arith)
]
