use Rattle.std.proofs.Common.{List, ◌+◌, ◌<◌, ◌++◌, ℕ, [], length, get_or, take, refl, ap, sym, ◌∙◌, subst}
use Rattle.std.proofs.lemmas.List.{take_all, length-map}
use Rattle.view_sweep.specs.declared.wanted.SweptView.{SweptView}
use Rattle.view_sweep.specs.declared.wanted.Head.{Head}
use Rattle.view_sweep.specs.Sets.{HaveSame, all_asked, IsSetOfOne, set_at}
use Rattle.view_sweep.specs.Wanted.{head_wants, heads_want}
use Rattle.view_sweep.proofs.Hits.{flat-more}
use Rattle.view_sweep.proofs.Members.{numbered-more}
use Rattle.view_sweep.proofs.Stretches.{head-view}
use Rattle.view_sweep.proofs.Waits.{nohead, asked-more, heads-more}
use Rattle.view_sweep.proofs.sweeping.wants.Goals as goal

pub keep_one-requires-clause-at : goal.keep_one-requires-clause-at
keep_one-requires-clause-at c = subst (λ (n : ℕ). c.loop-at.at < n) (sym (ap length c.requires.views ∙ length-map c.args.heads.now (λ (h : Head). h.view))) c.loop-at-test.true

pub loop-at-preserved : goal.loop-at-preserved
loop-at-preserved c =
    let head : Head = get_or c.args.heads.now c.loop-at.at nohead in
    record {
      sets = c.in_ok-set.ensures.sets c.loop-at.invariant.sets;
      numbers = asked-more (length c.keep_one.new.sets.items) c.loop-at.wants.items c.add_head.new.out.items (head_wants head) c.in_ok-set.set c.in_ok-set.ensures.inside c.in_ok-add_head.ensures
          (numbered-more (length c.loop-at.sets.items) (length c.keep_one.new.sets.items) c.loop-at.wants.items c.in_ok-set.ensures.kept.more c.loop-at.invariant.numbers);
      same = heads-more c.args.views.now c.loop-at.sets.items c.keep_one.new.sets.items c.loop-at.wants.items c.add_head.new.out.items head c.in_ok-set.set (heads_want (take c.loop-at.at c.args.heads.now)) (heads_want (take (c.loop-at.at + 1) c.args.heads.now))
          (sym (flat-more head_wants c.args.heads.now c.loop-at.at nohead [] (heads_want (take c.loop-at.at c.args.heads.now)) (heads_want (take c.loop-at.at c.args.heads.now) ++ head_wants head) c.loop-at-test.true refl refl))
          c.in_ok-set.ensures.kept c.loop-at.invariant.numbers (subst (λ (v : SweptView). IsSetOfOne c.args.views.now (set_at c.keep_one.new.sets.items c.in_ok-set.set) v) (head-view (λ (h : Head). h.view) c.args.views.now c.args.heads.now c.loop-at.at nohead c.requires.views c.loop-at-test.true) c.in_ok-set.ensures.one) c.in_ok-add_head.ensures c.loop-at.invariant.same;
    }

pub returns-clause-all : goal.returns-clause-all
returns-clause-all c = subst (λ (hs : List Head). HaveSame (all_asked c.args.views.now c.loop-at.sets.items c.loop-at.wants.items) (heads_want hs)) (take_all c.loop-at.at c.args.heads.now c.loop-at-test.false) c.loop-at.invariant.same
