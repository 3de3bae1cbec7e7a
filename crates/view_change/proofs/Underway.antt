-- Steps of a difference, leaf by leaf.
use Rattle.std.proofs.Common.{◌≡◌, ℕ, ◌+◌, List, [], ◌∷◌, ◌++◌, length, map, refl, ap, sym, ◌∙◌, subst, arith, append-nil, length-append}
use Rattle.std.specs.Prelude.{Bool, true, false, All, Option, None, Some, IfSome, IfNone, option_to_list, unwrap_or}
use Rattle.std.proofs.lemmas.List.{map-append, length-map}
use Rattle.std.proofs.lemmas.Grind.{flat_map-append}
use Rattle.std.proofs.lemmas.List.Elements.{All-nil, All-head, All-tail, All-push}
use Rattle.std.specs.List.{range_with_len}
use Rattle.std.specs.Bool.{then_some}
use Rattle.apfs_model.specs.Blocks.{block_of}
use Rattle.apfs_model.specs.Counts.{given}
use Rattle.apfs_model.specs.Lists.{through, value_of}
use Rattle.obj_base.specs.declared.site.Site.{Site}
use Rattle.bt_node.specs.Shape.{Shape}
use Rattle.bt_node.specs.Node.{count_of}
use Rattle.bt_node.specs.Entries.{Pair, pair_of, pairs_of}
use Rattle.bt_cursor.specs.Line.{entry_of, entries_of}
use Rattle.fs_name.specs.declared.naming.Names.{Names}
use Rattle.rule_changes.specs.Changes.{AreWoven}
use Rattle.view_rules.specs.Facts.{Facts}
use Rattle.view_change.specs.declared.leaf.Leaf.{Leaf}
use Rattle.view_change.specs.declared.leaf_taker.Ends.{Ends}
use Rattle.view_change.specs.declared.kept.Numbers.{Numbers}
use Rattle.view_change.specs.declared.kept.KeptLeaf.{KeptLeaf}
use Rattle.view_change.specs.declared.kept.Held.{Held}
use Rattle.view_change.specs.Leaves.{records_of, records_in}
use Rattle.view_change.specs.Ends.{leaf_item, leaf_items, HasEnds}
use Rattle.view_change.specs.Numbers.{numbers_of, numbers_since, no_facts_under, joined, behind, first_facts, rest_facts}
use Rattle.view_change.specs.Kept.{leaf_of, facts_said, AreReadable, IsKeptLeaf, AreKept, IsHeld}
use Rattle.view_change.specs.declared.changing.Changing.{Changing}
use Rattle.view_change.specs.Changing.{IsUnderway, HasDifference, HasChangedTo, HasSettledTo, facts_before, held_after}
use Rattle.view_change.specs.Settled.{AreSettled}
use Rattle.view_change.proofs.Joined.{joined-assoc, first-joined, rest-joined, since-joined, joined-none, behind-joined, behind-none, put-behind, behind-woven, said-append, said-none, joined-stay, none-woven}
use Rattle.view_change.proofs.Settles.{same_of, gone-settled, come-settled}

module _ {K : Type 0} (shape : Shape K) (site : Site) (image : List ℕ) where
  -- what is kept of the facts that the records of a leaf say
  abbrev said : Names → KeptLeaf → Facts
  said names kept = facts_said names (records_of shape site image kept.leaf)

  -- the facts of leaves are those of the first and those of the others
  kept-split : (names : Names) (kept : KeptLeaf) (more : List KeptLeaf) (facts : Facts) → AreKept shape site image names (kept ∷ more) facts
      → facts ≡ joined (said names kept) (facts_said names (records_in shape site image (map leaf_of more)))
  kept-split names kept more facts all = all.said ∙ said-append names (records_of shape site image kept.leaf) (records_in shape site image (map leaf_of more))

  kept-leaf : (names : Names) (kept : KeptLeaf) (more : List KeptLeaf) (facts : Facts) → AreKept shape site image names (kept ∷ more) facts → IsKeptLeaf shape site image names kept
  kept-leaf names kept more facts all = All-head (IsKeptLeaf shape site image names) kept more all.each

  -- the first facts are those of the first leaf
  kept-first : (names : Names) (kept : KeptLeaf) (more : List KeptLeaf) (facts : Facts) → AreKept shape site image names (kept ∷ more) facts → first_facts kept.numbers facts ≡ said names kept
  kept-first names kept more facts all =
      ap (λ (n : Numbers). first_facts n facts) (kept-leaf names kept more facts all).numbers
      ∙ (ap (first_facts (numbers_of (said names kept))) (kept-split names kept more facts all)
      ∙ first-joined (said names kept) (facts_said names (records_in shape site image (map leaf_of more))))

  -- the facts after them are those of the other leaves
  kept-rest : (names : Names) (kept : KeptLeaf) (more : List KeptLeaf) (facts : Facts) → AreKept shape site image names (kept ∷ more) facts → rest_facts kept.numbers facts ≡ facts_said names (records_in shape site image (map leaf_of more))
  kept-rest names kept more facts all =
      ap (λ (n : Numbers). rest_facts n facts) (kept-leaf names kept more facts all).numbers
      ∙ (ap (rest_facts (numbers_of (said names kept))) (kept-split names kept more facts all)
      ∙ rest-joined (said names kept) (facts_said names (records_in shape site image (map leaf_of more))) refl)

  rest-kept : (names : Names) (kept : KeptLeaf) (more : List KeptLeaf) (facts : Facts) → AreKept shape site image names (kept ∷ more) facts → AreKept shape site image names more (rest_facts kept.numbers facts)
  rest-kept names kept more facts all = record { each = All-tail (IsKeptLeaf shape site image names) kept more all.each; said = kept-rest names kept more facts all }

  -- the facts of the first leaf are passed
  pass-first : (names : Names) (kept : KeptLeaf) (more : List KeptLeaf) (before passed facts : Facts) → AreKept shape site image names (kept ∷ more) facts → before ≡ joined passed facts
      → before ≡ joined (joined passed (said names kept)) (rest_facts kept.numbers facts)
  pass-first names kept more before passed facts all split =
      split ∙ (ap (joined passed) (kept-split names kept more facts all)
      ∙ (sym (joined-assoc passed (said names kept) (facts_said names (records_in shape site image (map leaf_of more))))
      ∙ ap (joined (joined passed (said names kept))) (sym (kept-rest names kept more facts all))))

  -- a leaf of the view before is passed over
  pub passes-over : (before : Facts) (leaves : List Leaf) (kept : KeptLeaf) (more : List KeptLeaf) (left rest : Facts) (after : Held) (follows : Bool) (taken passed farther gone come : Facts)
      → rest ≡ rest_facts kept.numbers left → farther ≡ joined passed (first_facts kept.numbers left)
      → IsUnderway shape site image before leaves (kept ∷ more) left after follows taken passed gone come → IsUnderway shape site image before leaves more rest after follows taken farther gone come
  passes-over before leaves kept more left rest after follows taken passed farther gone come on over so =
      let first = kept-first before.names kept more left so.rest in
      subst (λ (f : Facts). IsUnderway shape site image before leaves more f after follows taken farther gone come) (sym on)
      (subst (λ (f : Facts). IsUnderway shape site image before leaves more (rest_facts kept.numbers left) after follows taken f gone come) (sym (over ∙ ap (joined passed) first)) (record {
        rest = rest-kept before.names kept more left so.rest;
        view = so.view;
        followed = λ on. let had = so.followed on in record {
          settled = had.settled;
          same = had.same;
          split = pass-first before.names kept more before (joined had.settled passed) left so.rest had.split ∙ ap (λ (f : Facts). joined f (rest_facts kept.numbers left)) (joined-assoc had.settled passed (said before.names kept));
          lost = had.lost;
          made = had.made;
          passed_names = had.passed_names;
          gone_names = had.gone_names;
          come_names = had.come_names;
        };
      }))

  -- the records of a leaf are as many as its items
  leaf-counted : (leaf : Leaf) (ends : Ends) → HasEnds shape site image leaf ends → length (records_of shape site image leaf) ≡ ends.count
  leaf-counted leaf ends has =
      let block = block_of site.block_size image leaf.block in
      let pairs : records_of shape site image leaf ≡ pairs_of shape block = ap (λ r. through (value_of r) (pairs_of shape)) has.there in
      let items : leaf_items shape site image leaf ≡ map (leaf_item leaf.oid) (entries_of shape block) = ap (λ r. through (value_of r) (λ node. map (leaf_item leaf.oid) (entries_of shape node))) has.there in
      let all = range_with_len 0 (count_of block) in
      ap length pairs ∙ (length-map all (pair_of shape block) ∙ (sym (length-map all (entry_of shape block)) ∙ (sym (length-map (entries_of shape block) (leaf_item leaf.oid)) ∙ (sym (ap length items) ∙ has.counted))))

  given-more : (old n m new : ℕ) → old ≡ given n → new ≡ given (old + m) → new ≡ given (n + m)
  given-more old n m new a b = omega (arith, a, b)

  records-more : (leaves : List Leaf) (leaf : Leaf) → records_in shape site image (leaves ++ leaf ∷ []) ≡ records_in shape site image leaves ++ records_of shape site image leaf
  records-more leaves leaf = flat_map-append (records_of shape site image) leaves (leaf ∷ []) ∙ ap (λ ps. records_in shape site image leaves ++ ps) (append-nil (records_of shape site image leaf))

  -- one more leaf is kept
  view-more : (names : Names) (leaves : List Leaf) (view new : Held) (kept : KeptLeaf) → IsKeptLeaf shape site image names kept → new.leaves.items ≡ view.leaves.items ++ kept ∷ [] → new.facts ≡ joined view.facts (said names kept)
      → new.records ≡ given (view.records + kept.ends.count) → IsHeld shape site image names leaves view → IsHeld shape site image names (leaves ++ kept.leaf ∷ []) new
  view-more names leaves view new kept one put said-too counted had =
      let all_leaves : map leaf_of new.leaves.items ≡ map leaf_of view.leaves.items ++ kept.leaf ∷ [] = ap (map leaf_of) put ∙ map-append leaf_of view.leaves.items (kept ∷ []) in
      let before = records_in shape site image (map leaf_of view.leaves.items) in
      let count = length (records_in shape site image leaves) in
      let lengths : length (records_in shape site image (leaves ++ kept.leaf ∷ [])) ≡ count + kept.ends.count =
      ap length (records-more leaves kept.leaf) ∙ (length-append (records_in shape site image leaves) (records_of shape site image kept.leaf) ∙ ap (λ n. count + n) (leaf-counted kept.leaf kept.ends one.ends)) in
      record {
        listed = all_leaves ∙ ap (λ ls. ls ++ kept.leaf ∷ []) had.listed;
        kept = record {
          each = subst (All (IsKeptLeaf shape site image names)) (sym put) (All-push (IsKeptLeaf shape site image names) view.leaves.items kept had.kept.each one);
          said = said-too ∙ (ap (λ (f : Facts). joined f (said names kept)) had.kept.said ∙ (sym (said-append names before (records_of shape site image kept.leaf))
              ∙ (ap (facts_said names) (sym (records-more (map leaf_of view.leaves.items) kept.leaf)) ∙ ap (λ ls. facts_said names (records_in shape site image ls)) (sym all_leaves))));
        };
        records = given-more view.records count kept.ends.count new.records had.records counted ∙ ap given (sym lengths);
      }

  -- the names of the facts after are compared as those before
  view-names : (names : Names) (leaves : List Leaf) (view : Held) → IsHeld shape site image names leaves view → view.facts.names ≡ names
  view-names names leaves view had = ap (λ (f : Facts). f.names) had.kept.said

  -- it is told what is gone and what has come
  pub settles : (start now new : Changing) (leaves : List Leaf) (left : List KeptLeaf) → new.after.leaves ≡ now.after.leaves → new.after.records ≡ now.after.records → new.follows ≡ now.follows
      → new.stock.0 ≡ now.stock.0 → new.stock.1 ≡ joined now.stock.1 now.after.facts → new.passed ≡ no_facts_under now.passed.names → new.after.facts ≡ no_facts_under now.after.facts.names
      → AreSettled now.passed now.after.facts now.gone new.gone now.come new.come → HasChangedTo shape site image leaves start left now → HasSettledTo shape site image leaves start left new
  settles start now new leaves left listed counted on stays put passed read told so =
      let before = facts_before start in
      let held : held_after new ≡ held_after now = (λ i. record { leaves = listed i; facts = behind (put i) (read i); records = counted i }) ∙ ap (λ (f : Facts). record { leaves = now.after.leaves; facts = f; records = now.after.records }) (put-behind now.stock.1 now.after.facts now.after.facts.names refl) in
      record {
        changed = record {
          rest = subst (AreKept shape site image before.names left) (sym stays) so.rest;
          view = subst (IsHeld shape site image before.names leaves) (sym held) so.view;
          followed = λ follows. let had = so.followed (sym on ∙ follows) in record {
            settled = joined had.settled now.passed;
            same = joined had.same (same_of told);
            split = had.split ∙ ((λ i. joined (sym (joined-none (joined had.settled now.passed) now.passed.names) i) (sym stays i)) ∙ ap (λ (f : Facts). joined (joined (joined had.settled now.passed) f) new.stock.0) (sym passed));
            lost = gone-settled had.lost told;
            made = subst (λ (f : Facts). AreWoven f (joined had.same (same_of told)) new.come) (sym put) (come-settled had.made told);
            passed_names = ap (λ (f : Facts). f.names) passed ∙ had.passed_names;
            gone_names = told.gone_names ∙ had.gone_names;
            come_names = told.come_names ∙ had.come_names;
          };
        };
        passed = passed ∙ ap (λ (f : Facts). no_facts_under f.names) (sym passed);
        read = read ∙ ap (λ (f : Facts). no_facts_under f.names) (sym read);
      }

  -- a leaf of the view before is one of the view after, and its facts are the same
  pub stays-too : (start now new : Changing) (leaves : List Leaf) (kept : KeptLeaf) (more : List KeptLeaf) → new.follows ≡ now.follows
      → new.stock.0 ≡ rest_facts kept.numbers now.stock.0 → new.stock.1 ≡ joined now.stock.1 (first_facts kept.numbers now.stock.0)
      → new.passed ≡ now.passed → new.gone ≡ now.gone → new.come ≡ now.come → new.after.facts ≡ now.after.facts
      → new.after.leaves.items ≡ now.after.leaves.items ++ kept ∷ [] → new.after.records ≡ given (now.after.records + kept.ends.count)
      → HasSettledTo shape site image leaves start (kept ∷ more) now → HasChangedTo shape site image (leaves ++ kept.leaf ∷ []) start more new
  stays-too start now new leaves kept more on over put passed gone come read listed counted settled =
      let so = settled.changed in
      let before = facts_before start in
      let first = kept-first before.names kept more now.stock.0 so.rest in
      let named = view-names before.names leaves (held_after now) so.view in
      let more-said : new.stock.1 ≡ joined now.stock.1 (said before.names kept) = put ∙ ap (joined now.stock.1) first in
      let none : new.after.facts ≡ no_facts_under now.after.facts.names = read ∙ settled.read in
      let was : behind now.stock.1 now.after.facts ≡ behind now.stock.1 (no_facts_under now.after.facts.names) = ap (behind now.stock.1) settled.read in
      let same : (held_after new).facts ≡ joined (held_after now).facts (said before.names kept) =
      (λ i. behind (more-said i) (none i)) ∙ (behind-none now.stock.1 (said before.names kept) now.after.facts.names ∙ ap (λ (f : Facts). joined f (said before.names kept)) (sym was)) in
      record {
        rest = subst (AreKept shape site image before.names more) (sym over) (rest-kept before.names kept more now.stock.0 so.rest);
        view = view-more before.names leaves (held_after now) (held_after new) kept (kept-leaf before.names kept more now.stock.0 so.rest) listed same counted so.view;
        followed = λ follows. let had = so.followed (sym on ∙ follows) in record {
          settled = joined had.settled (said before.names kept);
          same = joined had.same (said before.names kept);
          split = pass-first before.names kept more before had.settled now.stock.0 so.rest (had.split ∙ (ap (λ (f : Facts). joined (joined had.settled f) now.stock.0) settled.passed ∙ ap (λ (f : Facts). joined f now.stock.0) (joined-none had.settled now.passed.names)))
              ∙ ((λ i. joined (sym (joined-none (joined had.settled (said before.names kept)) now.passed.names) i) (sym over i)) ∙ ap (λ (f : Facts). joined (joined (joined had.settled (said before.names kept)) f) new.stock.0) (sym settled.passed ∙ sym passed));
          lost = subst (λ (f : Facts). AreWoven (joined had.settled (said before.names kept)) (joined had.same (said before.names kept)) f) (sym gone) (joined-stay (said before.names kept) had.lost);
          made = subst (λ (f : Facts). AreWoven f (joined had.same (said before.names kept)) new.come) (sym more-said) (subst (λ (f : Facts). AreWoven (joined now.stock.1 (said before.names kept)) (joined had.same (said before.names kept)) f) (sym come) (joined-stay (said before.names kept) had.made));
          passed_names = ap (λ (f : Facts). f.names) passed ∙ had.passed_names;
          gone_names = ap (λ (f : Facts). f.names) gone ∙ had.gone_names;
          come_names = ap (λ (f : Facts). f.names) come ∙ had.come_names;
        };
      }

  pub found-first : (before : Facts) (leaves : List Leaf) (found : Option KeptLeaf) (kept : KeptLeaf) (more : List KeptLeaf) (left : Facts) (after : Held) (follows : Bool) (taken passed gone come : Facts) → found ≡ Some kept
      → IsUnderway shape site image before leaves (option_to_list found ++ more) left after follows taken passed gone come → IsUnderway shape site image before leaves (kept ∷ more) left after follows taken passed gone come
  found-first before leaves found kept more left after follows taken passed gone come is so = subst (λ o. IsUnderway shape site image before leaves (option_to_list o ++ more) left after follows taken passed gone come) is so

  pub found-ends : (before : Facts) (leaves : List Leaf) (leaf : Leaf) (kept : KeptLeaf) (more : List KeptLeaf) (left : Facts) (after : Held) (follows : Bool) (taken passed gone come : Facts) → leaf ≡ kept.leaf
      → IsUnderway shape site image before leaves (kept ∷ more) left after follows taken passed gone come → HasEnds shape site image leaf kept.ends
  found-ends before leaves leaf kept more left after follows taken passed gone come one so = subst (λ (l : Leaf). HasEnds shape site image l kept.ends) (sym one) (kept-leaf before.names kept more left so.rest).ends

  -- another leaf is one of the view after
  pub comes-too : (before : Facts) (leaves : List Leaf) (kept : KeptLeaf) (left : List KeptLeaf) (facts : Facts) (after new : Held) (follows : Bool) (taken passed gone come : Facts)
      → IsKeptLeaf shape site image before.names kept → new.facts ≡ joined after.facts (said before.names kept)
      → new.leaves.items ≡ after.leaves.items ++ kept ∷ [] → new.records ≡ given (after.records + kept.ends.count)
      → IsUnderway shape site image before leaves left facts after follows taken passed gone come → IsUnderway shape site image before (leaves ++ kept.leaf ∷ []) left facts new follows taken passed gone come
  comes-too before leaves kept left facts after new follows taken passed gone come one said-too put counted so = record {
    rest = so.rest;
    view = view-more before.names leaves after new kept one put said-too counted so.view;
    followed = so.followed;
  }

  -- a leaf that was read is one of the view after
  pub read-too : (before : Facts) (leaves : List Leaf) (leaf : Leaf) (ends : Ends) (numbers : Numbers) (pairs : List Pair) (left : List KeptLeaf) (facts : Facts) (after new : Held) (follows : Bool) (stock fresh added passed gone come : Facts)
      → records_of shape site image leaf ≡ pairs → HasEnds shape site image leaf ends → after.facts ≡ behind stock fresh
      → added ≡ joined fresh (facts_said fresh.names pairs) → AreReadable fresh.names pairs
      → numbers ≡ numbers_since (numbers_of added) (numbers_of fresh) → new.facts ≡ behind stock added
      → new.leaves.items ≡ after.leaves.items ++ record { leaf = leaf; ends = ends; numbers = numbers } ∷ [] → new.records ≡ given (after.records + ends.count)
      → IsUnderway shape site image before leaves left facts after follows stock passed gone come → IsUnderway shape site image before (leaves ++ leaf ∷ []) left facts new follows stock passed gone come
  read-too before leaves leaf ends numbers pairs left facts after new follows stock fresh added passed gone come read has at adds readable numbered same put counted so =
      let kept : KeptLeaf = record { leaf = leaf; ends = ends; numbers = numbers } in
      let named : fresh.names ≡ before.names = sym (ap (λ (f : Facts). f.names) at) ∙ view-names before.names leaves after so.view in
      let said-here : facts_said fresh.names pairs ≡ said before.names kept = λ i. facts_said (named i) (sym read i) in
      let adds-here : added ≡ joined fresh (said before.names kept) = adds ∙ ap (joined fresh) said-here in
      comes-too before leaves kept left facts after new follows stock passed gone come
      (record {
        ends = has;
        numbers = numbered ∙ (ap (λ (f : Facts). numbers_since (numbers_of f) (numbers_of fresh)) adds-here ∙ since-joined fresh (said before.names kept));
        readable = subst (AreReadable before.names) (sym read) (subst (λ (n : Names). AreReadable n pairs) named readable);
      })
      (same ∙ (ap (behind stock) adds-here ∙ (behind-joined stock fresh (said before.names kept) ∙ ap (λ (f : Facts). joined f (said before.names kept)) (sym at)))) put counted so

  -- a view without leaves
  pub view-none : (names : Names) (view : Held) → view.leaves.items ≡ [] → view.facts ≡ no_facts_under names → view.records ≡ 0 → IsHeld shape site image names [] view
  view-none names view none free counted = record {
    listed = ap (map leaf_of) none;
    kept = record {
      each = subst (All (IsKeptLeaf shape site image names)) (sym none) (All-nil (IsKeptLeaf shape site image names));
      said = free ∙ (said-none names ∙ ap (λ ks. facts_said names (records_in shape site image (map leaf_of ks))) (sym none));
    };
    records = counted;
  }

  -- no leaf is taken yet
  pub begins : (names : Names) (leaves : List Leaf) (view : Held) (left : List KeptLeaf) (facts : Facts) (after : Held) (follows : Bool) (taken passed gone come : Facts)
      → IsHeld shape site image names leaves view → left ≡ view.leaves.items → facts ≡ view.facts → IsHeld shape site image view.facts.names [] after → taken ≡ no_facts_under view.facts.names
      → passed ≡ no_facts_under view.facts.names → gone ≡ no_facts_under view.facts.names → come ≡ no_facts_under view.facts.names → IsUnderway shape site image facts [] left facts after follows taken passed gone come
  begins names leaves view left facts after follows taken passed gone come had on same empty took over lost made =
      let named : names ≡ view.facts.names = sym (ap (λ (f : Facts). f.names) had.kept.said) in
      let kept : AreKept shape site image view.facts.names view.leaves.items view.facts = subst (λ (n : Names). AreKept shape site image n view.leaves.items view.facts) named had.kept in
      let n = view.facts.names in
      let none = no_facts_under n in
      let woven = none-woven n n n in
      subst (λ (f : Facts). IsUnderway shape site image f [] left f after follows taken passed gone come) (sym same) (record {
        rest = subst (λ ks. AreKept shape site image n ks view.facts) (sym on) kept;
        view = empty;
        followed = λ on. record {
          settled = none;
          same = none;
          split = ap (λ (f : Facts). joined (joined none f) view.facts) (sym over);
          lost = subst (λ (f : Facts). AreWoven none none f) (sym lost) woven;
          made = subst (λ (f : Facts). AreWoven f none come) (sym took) (subst (λ (f : Facts). AreWoven none none f) (sym made) woven);
          passed_names = ap (λ (f : Facts). f.names) over;
          gone_names = ap (λ (f : Facts). f.names) lost;
          come_names = ap (λ (f : Facts). f.names) made;
        };
      })

  -- the view before is let go
  pub lets-go : (before : Facts) (left none : List KeptLeaf) (facts free : Facts) (after new : Held) (follows : Bool) (taken fresh passed gone come : Facts) → none ≡ [] → free ≡ no_facts_under after.facts.names → IsHeld shape site image after.facts.names [] new
      → IsUnderway shape site image before [] left facts after follows taken passed gone come → IsUnderway shape site image before [] none free new false fresh passed gone come
  lets-go before left none facts free after new follows taken fresh passed gone come over empty anew so =
      let named = view-names before.names [] after so.view in
      record {
        rest = record {
          each = subst (All (IsKeptLeaf shape site image before.names)) (sym over) (All-nil (IsKeptLeaf shape site image before.names));
          said = empty ∙ (ap no_facts_under named ∙ (said-none before.names ∙ ap (λ ks. facts_said before.names (records_in shape site image (map leaf_of ks))) (sym over)));
        };
        view = subst (λ (n : Names). IsHeld shape site image n [] new) named anew;
        followed = λ on. absurd cc;
      }

  -- no facts are left where no leaf is
  none-left : (names : Names) (left : List KeptLeaf) (facts : Facts) → left ≡ [] → AreKept shape site image names left facts → facts ≡ no_facts_under names
  none-left names left facts none kept = kept.said ∙ (ap (λ ks. facts_said names (records_in shape site image (map leaf_of ks))) none ∙ sym (said-none names))

  -- the facts of the view after, where none is left of the one before
  ends-facts : (leaves : List Leaf) (start now : Changing) (facts : Facts) → facts ≡ behind (joined now.stock.0 now.stock.1) now.after.facts → HasChangedTo shape site image leaves start [] now → facts ≡ (held_after now).facts
  ends-facts leaves start now facts whole so =
      whole ∙ ap (λ (f : Facts). behind (joined f now.stock.1) now.after.facts) (none-left (facts_before start).names [] now.stock.0 refl so.rest)

  -- what is kept of it then
  pub ends-held : (leaves : List Leaf) (start now : Changing) (facts : Facts) → facts ≡ behind (joined now.stock.0 now.stock.1) now.after.facts → HasChangedTo shape site image leaves start [] now
      → IsHeld shape site image (facts_before start).names leaves (record { leaves = now.after.leaves; facts = facts; records = now.after.records })
  ends-held leaves start now facts whole so =
      subst (λ (f : Facts). IsHeld shape site image (facts_before start).names leaves (record { leaves = now.after.leaves; facts = f; records = now.after.records })) (sym (ends-facts leaves start now facts whole so)) so.view

  -- how its facts differ from those before
  pub ends-so : (leaves : List Leaf) (start now : Changing) (facts : Facts) → facts ≡ behind (joined now.stock.0 now.stock.1) now.after.facts → HasSettledTo shape site image leaves start [] now → now.follows ≡ true
      → HasDifference (facts_before start) facts (record { gone = now.gone; come = now.come })
  ends-so leaves start now facts whole settled on =
      let so = settled.changed in
      let before = facts_before start in
      let had = so.followed on in
      let free = none-left before.names [] now.stock.0 refl so.rest in
      let all : before ≡ had.settled = had.split ∙ ((λ i. joined (joined had.settled (settled.passed i)) (free i)) ∙ (joined-none (joined had.settled (no_facts_under now.passed.names)) before.names ∙ joined-none had.settled now.passed.names)) in
      let read : facts ≡ behind now.stock.1 (no_facts_under now.after.facts.names) = ends-facts leaves start now facts whole so ∙ ap (behind now.stock.1) settled.read in
      record {
        same = had.same;
        left = subst (λ (f : Facts). AreWoven f had.same now.gone) (sym all) had.lost;
        made = subst (λ (f : Facts). AreWoven f had.same now.come) (sym read) (behind-woven now.after.facts.names had.made);
        names = view-names before.names leaves (record { leaves = now.after.leaves; facts = facts; records = now.after.records }) (ends-held leaves start now facts whole so);
        gone_names = had.gone_names;
        come_names = had.come_names;
      }

-- what is given where something is so, is so of it
pub if-given : {X : Type 0} (P : X → Type 0) (is : Bool) (x : X) → (is ≡ true → P x) → IfSome (then_some is x) P
if-given P true x holds = holds refl
if-given P false x holds = tt

-- no leaf was found where none was looked for
pub none-found : (sought : Option Leaf) (found : Option KeptLeaf) (left : List KeptLeaf) → sought ≡ None → IfSome found (λ (kept : KeptLeaf). sought ≡ Some kept.leaf) → IfNone found (left ≡ []) → option_to_list found ++ left ≡ []
none-found sought None left none same over = over
none-found sought (Some kept) left none same over = absurd cc

-- the leaf that was sought was found
pub found-one : (leaf : Leaf) (found : Option KeptLeaf) (kept : KeptLeaf) → found ≡ Some kept → IfSome found (λ (other : KeptLeaf). Some leaf ≡ Some other.leaf) → leaf ≡ kept.leaf
found-one leaf found kept is same = ap (λ o. unwrap_or o leaf) (subst (λ o. IfSome o (λ (other : KeptLeaf). Some leaf ≡ Some other.leaf)) is same)
