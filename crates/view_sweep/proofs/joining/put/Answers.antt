use Rattle.std.proofs.Common.{[], ◌∷◌, ◌≡◌, ◌++◌, List, inl, refl, sym, ◌∙◌, subst}
use Rattle.apfs_model.specs.Lists.{In}
use Rattle.apfs_model.proofs.Searches.{in-right}
use Rattle.view_sweep.specs.declared.joining.Sought.{Sought}
use Rattle.view_sweep.proofs.Joins.{joined-last, sets-last}
use Rattle.view_sweep.proofs.joining.put.Goals as goal

pub add_views-requires-clause-own : goal.add_views-requires-clause-own
add_views-requires-clause-own c =
    let taken : c.args.all.now.items ≡ c.pop.new.self.items ++ c.unwrap-last.result ∷ [] = rw c.unwrap-last.ensures at c.pop.ensures.items in
    c.requires.all c.unwrap-last.result (subst (λ (ss : List Sought). In c.unwrap-last.result ss) (sym taken) (in-right c.unwrap-last.result c.pop.new.self.items (c.unwrap-last.result ∷ []) (inl refl)))

pub returns : goal.returns
returns c = record {
  joined = (let taken : c.args.all.now.items ≡ c.pop.new.self.items ++ c.unwrap-last.result ∷ [] = rw c.unwrap-last.ensures at c.pop.ensures.items in
      joined-last c.args.wanted.now c.args.set.now c.pop.new.self.items c.args.all.now.items c.push.new.self.items c.unwrap-last.result c.add_views.new.sought taken c.in_ok-push.ensures.items c.add_views.ensures.same
      (c.if-not-is_last_alike.ensures.alike refl c.pop.new.self.items c.unwrap-last.result (c.deref.ensures.value ∙ taken)) c.in_ok-add_views.ensures.places);
  sets = (λ views all is.
      let taken : c.args.all.now.items ≡ c.pop.new.self.items ++ c.unwrap-last.result ∷ [] = rw c.unwrap-last.ensures at c.pop.ensures.items in
      sets-last views c.args.set.now c.pop.new.self.items c.args.all.now.items c.push.new.self.items c.unwrap-last.result c.add_views.new.sought taken c.in_ok-push.ensures.items c.in_ok-add_views.ensures.rising c.in_ok-add_views.ensures.places all is);
}
