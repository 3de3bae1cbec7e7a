use Rattle.std.proofs.Common.{List, ◌+◌, length, take, sym, subst}
use Rattle.std.proofs.lemmas.List.{take_all, take_more}
use Rattle.view_sweep.specs.declared.wanted.Asked.{Asked}
use Rattle.view_sweep.specs.Asked.{AreSought, nth_asked}
use Rattle.view_sweep.specs.Sets.{IsSetOf}
use Rattle.view_sweep.proofs.Joins.{sought-more}
use Rattle.view_sweep.proofs.Onces.{noasked, nth-numbered, set-rising}
use Rattle.view_sweep.proofs.joining.joined.Goals as goal

pub runs_of-set-requires : goal.runs_of-set-requires
runs_of-set-requires c = nth-numbered (length c.args.sets.now) c.args.asked.now c.loop-one.one-index c.requires.numbers c.loop-one-test.true

pub put-requires : goal.put-requires
put-requires c = record {
  all = λ s i. (c.loop-one.invariant.sets s i).rising;
  set = set-rising c.args.views.now c.args.sets.now c.args.asked.now c.loop-one.one-index c.runs_of-set.result.now c.requires.sets c.requires.numbers c.loop-one-test.true c.runs_of-set.ensures;
}

pub loop-one-preserved : goal.loop-one-preserved
loop-one-preserved c =
    let a : Asked = nth_asked c.args.asked.now c.loop-one.one-index in
    record {
      all = sought-more c.args.sets.now (take c.loop-one.one-index c.args.asked.now) (take (c.loop-one.one-index + 1) c.args.asked.now) a c.runs_of-set.result.now c.loop-one.all.items c.put.new.all.items
          (take_more c.args.asked.now c.loop-one.one-index noasked c.loop-one-test.true) c.runs_of-set.ensures c.loop-one.invariant.all c.in_ok-put.ensures.joined;
      sets = c.in_ok-put.ensures.sets c.args.views.now c.loop-one.invariant.sets
          (subst (IsSetOf c.args.views.now) (sym c.runs_of-set.ensures) (c.requires.sets a.set (nth-numbered (length c.args.sets.now) c.args.asked.now c.loop-one.one-index c.requires.numbers c.loop-one-test.true)));
    }

pub returns-clause-all : goal.returns-clause-all
returns-clause-all c = subst (λ (xs : List Asked). AreSought c.args.sets.now xs c.loop-one.all.items) (take_all c.loop-one.one-index c.args.asked.now c.loop-one-test.false) c.loop-one.invariant.all
