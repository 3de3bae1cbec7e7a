use Rattle.std.proofs.Common.{List, ◌+◌, ◌∷◌, [], ◌++◌, take, ap, sym, ◌∙◌, subst}
use Rattle.std.proofs.lemmas.List.{take_all, take_more}
use Rattle.apfs_model.specs.Lists.{In}
use Rattle.view_sweep.specs.declared.joining.Sought.{Sought}
use Rattle.view_sweep.specs.Hits.{AreHitsOf}
use Rattle.view_sweep.specs.Found.{looked}
use Rattle.view_sweep.specs.Asked.{IsOfSet, IsOfSought}
use Rattle.view_sweep.proofs.Losts.{lost-more}
use Rattle.view_sweep.proofs.Members.{kept-both}
use Rattle.view_sweep.proofs.Ranked.{place-in}
use Rattle.view_sweep.proofs.Splits.{hits-more}
use Rattle.view_sweep.proofs.looking.hits.Goals as goal

pub add_hits-requires-clause-set : goal.add_hits-requires-clause-set
add_hits-requires-clause-set c =
    let s : Sought = c.sought-item.result in
    c.requires.all s (subst (λ (x : Sought). In x c.args.all.now) (sym c.sought-item.is) (place-in c.args.all.now c.loop-sought.sought-index s c.loop-sought-test.true))

pub returns-in-Err-clause-stops : goal.returns-in-Err-clause-stops
returns-in-Err-clause-stops c =
    let s : Sought = c.sought-item.result in
    lost-more (looked c.args.volumes.now c.args.site.now) c.args.site.now.block_size (IsOfSet c.args.views.now s.wanted s.set.items) (IsOfSought c.args.views.now c.args.all.now)
    (λ x o. (s, (subst (λ (y : Sought). In y c.args.all.now) (sym c.sought-item.is) (place-in c.args.all.now c.loop-sought.sought-index s c.loop-sought-test.true), o))) c.in-Err.stop c.in-Err.ensures.stops

pub loop-sought-preserved : goal.loop-sought-preserved
loop-sought-preserved c =
    let s : Sought = c.sought-item.result in
    record {
      hits = hits-more (looked c.args.volumes.now c.args.site.now) c.args.site.now c.args.views.now c.loop-sought.sets.items c.add_hits.new.sets.items (take c.loop-sought.sought-index c.args.all.now) (take (c.loop-sought.sought-index + 1) c.args.all.now) s c.loop-sought.hits.items c.add_hits.new.out.items
          (take_more c.args.all.now c.loop-sought.sought-index s c.loop-sought-test.true ∙ ap (λ (x : Sought). take c.loop-sought.sought-index c.args.all.now ++ x ∷ []) (sym c.sought-item.is))
          c.in-Ok.ensures.kept c.loop-sought.invariant.hits c.in-Ok.ensures.hits;
      sets = c.in-Ok.ensures.sets;
      kept = kept-both c.args.sets.now.items c.loop-sought.sets.items c.add_hits.new.sets.items c.loop-sought.invariant.kept c.in-Ok.ensures.kept;
    }

pub returns-clause-hits : goal.returns-clause-hits
returns-clause-hits c =
    subst (λ (xs : List Sought). AreHitsOf (looked c.args.volumes.now c.args.site.now) c.args.site.now c.args.views.now c.loop-sought.sets.items xs c.loop-sought.hits.items) (take_all c.loop-sought.sought-index c.args.all.now c.loop-sought-test.false) c.loop-sought.invariant.hits
