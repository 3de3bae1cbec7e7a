use Rattle.std.proofs.Common.{◌≡◌, ◌+◌, ℕ, List, ◌∷◌, [], ◌++◌, length, take, drop, ap, sym, subst, ◌∙◌, arith}
use Rattle.std.specs.Prelude.{not}
use Rattle.std.specs.List.{list_any}
use Rattle.std.proofs.lemmas.List.{take_more, take_all}
use Rattle.fs_record.specs.Entries.{Entry}
use Rattle.fs_record.specs.Facts.{Fact, directory_kind}
use Rattle.rule_index.specs.declared.homes.Told.{Told}
use Rattle.rule_index.specs.Kins.{has_kind}
use Rattle.rule_index.specs.Homes.{is_astray, HasHomes}
use Rattle.rule_index.proofs.HomeCounts.{homes-sorted, written-back}
use Rattle.rule_index.proofs.Wholes.{still-whole}
use Rattle.rule_index.proofs.homes.Homes.of.Goals as goal

pub loop-e-preserved : goal.loop-e-preserved
loop-e-preserved c =
    let kins = c.args.kins.now in
    let entries = c.args.entries.now in
    let i = c.loop-e.e-index in
    let e = c.e-item.result in
    let before : HasHomes kins (take i entries) (c.deref_mut.result.now, c.loop-e.listed.items) = subst (λ (list : List Told). HasHomes kins (take i entries) (list, c.loop-e.listed.items)) (sym c.deref_mut.ensures.value) c.loop-e.invariant.homes in
    let after = c.in_ok-fits.ensures.homes (take i entries) before in
    let more : take (i + 1) entries ≡ take i entries ++ e ∷ [] = take_more entries i e c.loop-e-test.true ∙ ap (λ x. take i entries ++ x ∷ []) (sym c.e-item.is) in
    let back : take c.loop-e.places.len (c.add.new.places ++ drop (length c.add.new.places) c.loop-e.places.items) ≡ c.add.new.places =
    written-back c.add.new.places (drop (length c.add.new.places) c.loop-e.places.items) c.loop-e.places.len (omega arith) in
    record {
      homes =
          subst (λ (es : List (Fact Entry)). HasHomes kins es (take c.loop-e.places.len (c.add.new.places ++ drop (length c.add.new.places) c.loop-e.places.items), c.add.new.pairs.items)) (sym more)
          (subst (λ (list : List Told). HasHomes kins (take i entries ++ e ∷ []) (list, c.add.new.pairs.items)) (sym back) after);
      whole =
          still-whole (is_astray kins) (take i entries) e c.loop-e.whole c.in_ok-fits.fits c.are_still_whole-whole.result c.are_still_whole-whole.ensures c.loop-e.invariant.whole c.in_ok-fits.ensures.whole
          ∙ ap (λ (es : List (Fact Entry)). not (list_any (is_astray kins) es)) (sym more);
      seen = c.seen_of-seen.ensures.right ∙ ap (λ (n : ℕ). has_kind kins n directory_kind) (sym c.seen_of-seen.ensures.same);
    }

pub returns-clause-homes : goal.returns-clause-homes
returns-clause-homes c =
    let kins = c.args.kins.now in
    let entries = c.args.entries.now in
    homes-sorted kins entries c.loop-e.places.items c.loop-e.listed.items c.in_ok-pairs.pairs c.in_ok-pairs.ensures
    (subst (λ (es : List (Fact Entry)). HasHomes kins es (c.loop-e.places.items, c.loop-e.listed.items)) (take_all c.loop-e.e-index entries c.loop-e-test.false) c.loop-e.invariant.homes)

pub returns-clause-whole : goal.returns-clause-whole
returns-clause-whole c = c.loop-e.invariant.whole ∙ ap (λ (es : List (Fact Entry)). not (list_any (is_astray c.args.kins.now) es)) (take_all c.loop-e.e-index c.args.entries.now c.loop-e-test.false)
