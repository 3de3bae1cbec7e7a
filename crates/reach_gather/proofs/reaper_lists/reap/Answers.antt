use Rattle.std.proofs.Common.{◌≡◌, ◌==◌, false, true, [], ◌∷◌, ap, sym, ◌∙◌, subst, arith}
use Rattle.std.proofs.lemmas.Grind.{common_steps}
use Rattle.std.specs.Ordering.{nat_cmp}
use Rattle.std.specs.BTreeSet.{contains}
use Rattle.apfs_model.specs.Apart.{Apart}
use Rattle.apfs_model.specs.Lists.{In, has}
use Rattle.apfs_model.proofs.BoolTests.{not-false, not-true}
use Rattle.apfs_model.proofs.Searches.{has-in}
use Rattle.obj_base.specs.declared.stop.Within.TheVariants.{Ephemeral}
use Rattle.nx_ring.proofs.Apart.{has_joined}
use Rattle.nx_ring.specs.Reading.{eph_ids}
use Rattle.space_map.proofs.Loads.{unequal}
use Rattle.reach_rules.specs.declared.naming.LookUp.TheVariants.{ByMapping}
use Rattle.reach_rules.specs.Naming.{naming}
use Rattle.reach_rules.specs.Live.{IsLive}
use Rattle.reach_rules.specs.Faults.{IsNamedTwice}
use Rattle.reach_gather.specs.Namings.{IsPlainNaming}
use Rattle.reach_gather.specs.Reaped.{expected_at, next_at, IsLink}
use Rattle.reach_gather.proofs.Ways.{none, namer_after, at_after, naming_after, IsWay, way-init, way-here, way-more, way-end, none-is, out-of, fewer, root-live, met-twice, met-clash, apart-push, known-push, few-ids}
use Rattle.reach_gather.proofs.reaper_lists.reap.Goals as goal

pub chain-init : goal.chain-init
chain-init c = record {
  way = λ image. way-init image c.args.cp.now c.new-ids.result.items c.nx.result c.reaper_oid-oid.result c.new-ids.ensures.items c.nx.ensures c.reaper_oid-oid.ensures;
  apart = subst (λ ns. Apart ns) (sym c.new-ids.ensures.items) tt;
  known = λ k h. absurd (subst (λ ns. In k ns) c.new-ids.ensures.items h);
  held = λ q. grind (arith, common_steps, c.new-met.ensures.empty, ap (λ ns. has ns q) c.new-ids.ensures.items);
}

pub returns-then-not-fresh-clause-present : goal.returns-then-not-fresh-clause-present
returns-then-not-fresh-clause-present c image =
    let stale : c.in_ok-fresh.fresh ≡ false = cc in
    let here : In c.chain.oid c.chain.ids.items = has-in c.chain.oid c.chain.ids.items (sym (c.chain.invariant.held c.chain.oid) ∙ not-false (contains nat_cmp c.chain.met c.chain.oid) (sym c.in_ok-fresh.ensures.added ∙ stale)) in
    subst (λ x. IsNamedTwice image c.args.cp.now Ephemeral c.chain.oid x) (sym c.xid.ensures)
    (met-twice image c.args.cp.now c.chain.ids.items c.chain.oid (unequal c.chain.oid c.chain-test.true) c.chain.invariant.apart here (c.chain.invariant.way image))

pub returns-then-not-fresh-clause-exact : goal.returns-then-not-fresh-clause-exact
returns-then-not-fresh-clause-exact c image right =
    let stale : c.in_ok-fresh.fresh ≡ false = cc in
    let here : In c.chain.oid c.chain.ids.items = has-in c.chain.oid c.chain.ids.items (sym (c.chain.invariant.held c.chain.oid) ∙ not-false (contains nat_cmp c.chain.met c.chain.oid) (sym c.in_ok-fresh.ensures.added ∙ stale)) in
    met-clash image c.args.cp.now c.chain.ids.items c.chain.oid (unequal c.chain.oid c.chain-test.true) c.chain.invariant.apart here (c.chain.invariant.way image) right

pub returns-in-Err-clause-present : goal.returns-in-Err-clause-present
returns-in-Err-clause-present c image =
    let first : c.is_empty-first.result ≡ none c.chain.ids.items = c.is_empty-first.ensures ∙ (ap (λ n. n == 0) c.chain.ids.ok.0 ∙ none-is c.chain.ids.items) in
    let here = way-here image c.args.cp.now c.chain.ids.items c.chain.oid (unequal c.chain.oid c.chain-test.true) (c.chain.invariant.way image) in
    c.in-Err.ensures.present image (namer_after c.chain.ids.items) (at_after c.chain.ids.items)
    (subst (λ b. IsLive image c.args.cp.now (naming (namer_after c.chain.ids.items) (at_after c.chain.ids.items) (expected_at b) ByMapping c.chain.oid)) (sym first) (root-live image c.args.cp.now (naming_after c.chain.ids.items c.chain.oid) here))

pub returns-in-Err-clause-exact : goal.returns-in-Err-clause-exact
returns-in-Err-clause-exact c image right =
    let first : c.is_empty-first.result ≡ none c.chain.ids.items = c.is_empty-first.ensures ∙ (ap (λ n. n == 0) c.chain.ids.ok.0 ∙ none-is c.chain.ids.items) in
    let here = way-here image c.args.cp.now c.chain.ids.items c.chain.oid (unequal c.chain.oid c.chain-test.true) (c.chain.invariant.way image) in
    c.in-Err.ensures.exact image (namer_after c.chain.ids.items) (at_after c.chain.ids.items)
    (subst (λ b. IsPlainNaming image c.args.cp.now (naming (namer_after c.chain.ids.items) (at_after c.chain.ids.items) (expected_at b) ByMapping c.chain.oid)) (sym first) (right.plain (naming_after c.chain.ids.items c.chain.oid) here))

pub chain-smaller : goal.chain-smaller
chain-smaller c =
    let new : c.in_ok-fresh.fresh ≡ true = cc in
    let absent : has c.chain.ids.items c.chain.oid ≡ false = sym (c.chain.invariant.held c.chain.oid) ∙ not-true (contains nat_cmp c.chain.met c.chain.oid) (sym c.in_ok-fresh.ensures.added ∙ new) in
    let link = c.in-Ok.ensures.clear [] (namer_after c.chain.ids.items) (at_after c.chain.ids.items) in
    let apart = apart-push c.chain.ids.items c.chain.oid c.chain.invariant.apart (out-of c.chain.ids.items c.chain.oid absent) in
    let known = known-push c.chain.ids.items (eph_ids c.args.cp.now) c.chain.oid c.chain.invariant.known link.mapped in
    fewer _ c.chain.ids.items c.push.new.self.items c.chain.oid c.in_ok-push.ensures.items
    (few-ids c.args.cp.now c.push.new.self.items (subst (λ ns. Apart ns) (sym c.in_ok-push.ensures.items) apart) (λ k h. known k (subst (λ ns. In k ns) c.in_ok-push.ensures.items h)))

pub chain-preserved : goal.chain-preserved
chain-preserved c =
    let new : c.in_ok-fresh.fresh ≡ true = cc in
    let absent : has c.chain.ids.items c.chain.oid ≡ false = sym (c.chain.invariant.held c.chain.oid) ∙ not-true (contains nat_cmp c.chain.met c.chain.oid) (sym c.in_ok-fresh.ensures.added ∙ new) in
    let first : c.is_empty-first.result ≡ none c.chain.ids.items = c.is_empty-first.ensures ∙ (ap (λ n. n == 0) c.chain.ids.ok.0 ∙ none-is c.chain.ids.items) in
    let link = c.in-Ok.ensures.clear [] (namer_after c.chain.ids.items) (at_after c.chain.ids.items) in
    record {
      way = λ image. subst (λ ns. IsWay image c.args.cp.now ns c.in-Ok.then) (sym c.in_ok-push.ensures.items)
          (way-more image c.args.cp.now c.chain.ids.items c.chain.oid c.in-Ok.then (unequal c.chain.oid c.chain-test.true) (c.chain.invariant.way image)
          (subst (λ b. IsLink image c.args.cp.now (naming (namer_after c.chain.ids.items) (at_after c.chain.ids.items) (expected_at b) ByMapping c.chain.oid) (next_at b) c.in-Ok.then) first
          (c.in-Ok.ensures.clear image (namer_after c.chain.ids.items) (at_after c.chain.ids.items))));
      apart = subst (λ ns. Apart ns) (sym c.in_ok-push.ensures.items) (apart-push c.chain.ids.items c.chain.oid c.chain.invariant.apart (out-of c.chain.ids.items c.chain.oid absent));
      known = λ k h. known-push c.chain.ids.items (eph_ids c.args.cp.now) c.chain.oid c.chain.invariant.known link.mapped k (subst (λ ns. In k ns) c.in_ok-push.ensures.items h);
      held = λ q. grind (arith, common_steps, ap (λ xs. has xs q) c.in_ok-push.ensures.items, has_joined c.chain.ids.items (c.chain.oid ∷ []) q, c.chain.invariant.held q, c.in_ok-fresh.ensures.updates);
    }

pub returns-clause-clear : goal.returns-clause-clear
returns-clause-clear c image = way-end image c.args.cp.now c.chain.ids.items c.chain.invariant.apart (subst (λ o. IsWay image c.args.cp.now c.chain.ids.items o) c.chain-test.false (c.chain.invariant.way image))
