use Rattle.std.proofs.Common.{◌≡◌, ◌∙◌, ◌-◌, ◌<◌, ◌≤◌, ◌∷◌, true, false, sym, ap, subst, arith, map, length, drop, cond, nat_cmp, Some}
use Rattle.std.specs.Prelude.{bytes_eq, is_some, ℕ, List}
use Rattle.std.specs.BTreeMap.{get_by}
use Rattle.std.specs.Cmp.Lexicographic.{slice_cmp}
use Rattle.std.proofs.lemmas.Map.Text.{btree_map_updates_str}
use Rattle.apfs_model.proofs.BoolTests.{never-true}
use Rattle.apfs_model.specs.Lists.{are_distinct}
use Rattle.vol_view.specs.Named.{named_by, xid_in}
use Rattle.vol_view.proofs.Indexes.{distinct-drop, drop-here, distinct-more, twice-there}
use Rattle.vol_view.proofs.named.index.Goals as goal

pub records-preserved : goal.records-preserved
records-preserved g c =
    let name = g.T.Named.name_of in
    let xid = g.T.Named.xid_of in
    let xs = c.args.records.now in
    let i = c.records.i in
    let told = c.index-records-i.result in
    let some : 0 < i = omega arith in
    let low : i ≤ length xs = c.records.invariant.inside in
    let cut : drop (i - 1) xs ≡ told ∷ drop i xs = drop-here xs i told some low c.index-records-i.is in
    let none : is_some (xid_in (map (named_by name xid) (drop i xs)) (name told)) ≡ false =
    ap is_some (ap (xid_in (map (named_by name xid) (drop i xs))) (sym c.name.ensures) ∙ (sym (c.records.invariant.found c.name.result.now) ∙ sym c.in_ok-before.ensures.old)) ∙ (sym c.is_some.ensures ∙ c.if-is_some.false) in
    record {
      inside = omega arith;
      found = λ text.
          btree_map_updates_str c.name.result.now c.records.index c.insert.new.self _ c.in_ok-before.ensures.updates text
          ∙ (ap (λ (n : List ℕ). cond (bytes_eq n text) (Some c.xid.result) (get_by (λ k. slice_cmp nat_cmp text k.now) c.records.index)) c.name.ensures
          ∙ (ap (λ (x : ℕ). cond (bytes_eq (name told) text) (Some x) (get_by (λ k. slice_cmp nat_cmp text k.now) c.records.index)) c.xid.ensures
          ∙ (ap (λ o. cond (bytes_eq (name told) text) (Some (xid told)) o) (c.records.invariant.found text)
          ∙ ap (λ ys. xid_in (map (named_by name xid) ys) text) (sym cut))));
      once = subst (λ ys. are_distinct (map name ys) ≡ true) (sym cut) (distinct-more name xid told (drop i xs) c.records.invariant.once none);
    }

pub returns-then-is_some-clause-twice : goal.returns-then-is_some-clause-twice
returns-then-is_some-clause-twice g c =
    let name = g.T.Named.name_of in
    let xid = g.T.Named.xid_of in
    let xs = c.args.records.now in
    let i = c.records.i in
    let told = c.index-records-i.result in
    let some : 0 < i = omega arith in
    let low : i ≤ length xs = c.records.invariant.inside in
    let cut : drop (i - 1) xs ≡ told ∷ drop i xs = drop-here xs i told some low c.index-records-i.is in
    let there : is_some (xid_in (map (named_by name xid) (drop i xs)) (name told)) ≡ true =
    ap is_some (ap (xid_in (map (named_by name xid) (drop i xs))) (sym c.name.ensures) ∙ (sym (c.records.invariant.found c.name.result.now) ∙ sym c.in_ok-before.ensures.old)) ∙ (sym c.is_some.ensures ∙ c.if-is_some.true) in
    never-true (are_distinct (map name xs)) (λ t. twice-there name xid told (drop i xs) there (subst (λ ys. are_distinct (map name ys) ≡ true) cut (distinct-drop name (i - 1) xs t)))
