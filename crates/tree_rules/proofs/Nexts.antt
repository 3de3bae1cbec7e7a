-- Why a view is right that comes after another: by its notes, and by its difference.
use Rattle.std.proofs.Common.{◌≡◌, ◌∙◌, ◌<◌, ◌≤◌, ◌+◌, ◌++◌, ℕ, suc, Bool, false, cond, List, [], ◌∷◌, length, map, filter, get_or, inl, inr, refl, ap, ap₂, sym, subst, arith}
use Rattle.std.specs.Prelude.{◌⊎◌, ◌==◌, count_by, Option, None, Some, IfSome, Result, Ok, Err, IfOk}
use Rattle.apfs_model.specs.Lists.{In}
use Rattle.apfs_model.proofs.BoolTests.{test_or, equal-from, below-from, never-true}
use Rattle.apfs_model.proofs.Empty.{left-none, right-none, map-none}
use Rattle.apfs_model.proofs.Searches.{in-filter, in-map, from-map}
use Rattle.obj_base.specs.declared.site.Site.{Site}
use Rattle.ext_ref.specs.declared.range.NewRange.{NewRange}
use Rattle.fs_record.specs.Inodes.{Inode}
use Rattle.fs_record.specs.Facts.{Fact}
use Rattle.fs_record.specs.declared.extents.FileExt.{FileExt}
use Rattle.vol_view.specs.Volumes.{Loaded}
use Rattle.vol_view.specs.declared.volume.View.{View}
use Rattle.fs_name.specs.declared.naming.Names.{Names}
use Rattle.view_rules.specs.Words.{IsClear}
use Rattle.view_rules.specs.Facts.{Facts}
use Rattle.view_rules.specs.Listed.{extents_with_ids}
use Rattle.view_rules.specs.Names.{HasNameHashes, has_other_name_hash}
use Rattle.view_rules.specs.Rules.{view_facts, HasFactRules}
use Rattle.view_rules.specs.declared.profile.Profile.{Profile}
use Rattle.view_rules.specs.declared.profile.Profile.TheVariants.{Plain, Strict}
use Rattle.parent_chain.specs.Directories.{Rise}
use Rattle.rule_index.specs.Order.{IsChain, inode_follows}
use Rattle.rule_changes.specs.Changes.{Weaves, ended, stays, AreWoven, IsChange, IsPlainChange, HasDistinctInodes, is_of}
use Rattle.rule_changes.specs.Known.{is_nameless}
use Rattle.rule_changes.proofs.Law.{change-keeps}
use Rattle.rule_changes.proofs.Weaving.{one-yes, one-no, in-stays, in-differs, in-woven}
use Rattle.view_facts.specs.Kept.{IsGatheredView}
use Rattle.view_change.specs.declared.kept_view.KeptView.{KeptView}
use Rattle.view_change.specs.declared.changing.Change.{Change}
use Rattle.view_change.specs.Numbers.{no_facts_under}
use Rattle.view_change.specs.Kept.{facts_of, records_kept}
use Rattle.view_change.specs.Changing.{HasDifference}
use Rattle.view_change.specs.Difference.{IsKeptOf, gathered_of}
use Rattle.tree_rules.specs.Notes.{hash_note, hash_notes, unnamed_note, unnamed_notes, is_unnamed}
use Rattle.tree_rules.specs.Tallies.{notes_of, IsTally}
use Rattle.tree_rules.specs.Known.{AreRight, IsKnown, AddExtents, IsCheckedNext}
use Rattle.tree_rules.specs.declared.next.CheckedNext.{CheckedNext}
use Rattle.view_rules.specs.declared.notes.Note.{Note}
use Rattle.tree_rules.proofs.Checks.{facts_clear, facts_tally}

-- ---- lists
pub none-clear : {X : Type 0} (test : X → Bool) (xs : List X) → filter test xs ≡ [] → IsClear test xs
none-clear test xs e x h = elim (test_or (test x)) as (λ _. test x ≡ false) [
  | inr f ↦ f
  | inl t ↦ absurd (subst (λ ys. In x ys) e (in-filter test x xs h t))
]

pub clear-none : {X : Type 0} (test : X → Bool) (xs : List X) → IsClear test xs → filter test xs ≡ []
clear-none test [] clear = refl
clear-none test (x ∷ xs) clear = ap (λ b. cond b (x ∷ filter test xs) (filter test xs)) (clear x (inl refl)) ∙ clear-none test xs (λ y h. clear y (inr h))

-- ---- notes
-- a view without notes on hashes has all hashes right
pub hashes-clear : (view : View) (facts : Facts) → hash_notes view facts ≡ [] → HasNameHashes facts
hashes-clear view facts e = none-clear (has_other_name_hash facts) facts.entries (map-none (hash_note view) (filter (has_other_name_hash facts) facts.entries) e)

pub clear-hashes : (view : View) (facts : Facts) → HasNameHashes facts → hash_notes view facts ≡ []
clear-hashes view facts clear = ap (map (hash_note view)) (clear-none (has_other_name_hash facts) facts.entries clear)

-- one without notes on inodes has a name for each
nameless-clear : (view : View) (facts : Facts) → unnamed_notes view facts ≡ [] → IsClear (is_nameless facts) facts.inodes
unfolding is_unnamed
nameless-clear view facts e = none-clear (is_unnamed facts) facts.inodes (map-none (unnamed_note view) (filter (is_unnamed facts) facts.inodes) e)

clear-nameless : (view : View) (facts : Facts) → IsClear (is_nameless facts) facts.inodes → unnamed_notes view facts ≡ []
unfolding is_unnamed
clear-nameless view facts clear = ap (map (unnamed_note view)) (clear-none (is_unnamed facts) facts.inodes clear)

-- facts that have their rules are right if nothing is noted of them
pub right-if-silent : (profile : Profile) (site : Site) (ranges : List NewRange) (view : View) (facts : Facts) → HasFactRules profile site ranges facts → HasDistinctInodes facts → notes_of profile view facts ≡ [] → AreRight profile site ranges facts
unfolding notes_of
right-if-silent Plain site ranges view facts rules distinct none = record {
  rules = rules;
  distinct = distinct;
  nameless = nameless-clear view facts (right-none (hash_notes view facts) (unnamed_notes view facts) none);
  hashes = hashes-clear view facts (left-none (hash_notes view facts) (unnamed_notes view facts) none);
}
right-if-silent Strict site ranges view facts rules distinct none = record {
  rules = rules;
  distinct = distinct;
  nameless = nameless-clear view facts none;
  hashes = rules.name_hashes refl;
}

-- nothing is noted of facts that are right
silent : (profile : Profile) (site : Site) (ranges : List NewRange) (view : View) (facts : Facts) → AreRight profile site ranges facts → notes_of profile view facts ≡ []
unfolding notes_of
silent Plain site ranges view facts right = ap₂ (λ (a b : List Note). a ++ b) (clear-hashes view facts right.hashes) (clear-nameless view facts right.nameless)
silent Strict site ranges view facts right = clear-nameless view facts right.nameless

-- ---- ids
above : (f : Fact Inode) (fs : List (Fact Inode)) → Rise (f ∷ fs) → (id : ℕ) → id ≤ f.id → count_by (is_of id) fs ≡ 0
above f [] rise id low = refl
above f (g ∷ gs) rise id low =
    let up : f.id < g.id = rise 0 f (omega arith) in
    let other : (g.id == id) ≡ false = never-true (g.id == id) (λ e. let same : g.id ≡ id = equal-from g.id id e in omega arith) in
    let one = one-no (is_of id) g gs other in
    let rest : count_by (is_of id) gs ≡ 0 = above g gs (λ k d few. rise (suc k) d (omega arith)) id (omega arith) in
    omega arith

once : (fs : List (Fact Inode)) → Rise fs → (id : ℕ) → count_by (is_of id) fs ≤ 1
once [] rise id = let none : count_by {X = Fact Inode} (is_of id) [] ≡ 0 = refl in omega arith
once (f ∷ fs) rise id = elim (test_or (f.id == id)) as (λ _. count_by (is_of id) (f ∷ fs) ≤ 1) [
  | inl e ↦
      let same : f.id ≡ id = equal-from f.id id e in
      let one = one-yes (is_of id) f fs e in
      let rest : count_by (is_of id) fs ≡ 0 = above f fs rise id (omega arith) in
      omega arith
  | inr n ↦
      let one = one-no (is_of id) f fs n in
      let rest : count_by (is_of id) fs ≤ 1 = once fs (λ k d few. rise (suc k) d (omega arith)) id in
      omega arith
]

-- no id has two inodes where they are in order
pub chain-distinct : (facts : Facts) → IsChain inode_follows facts.inodes → HasDistinctInodes facts
chain-distinct facts chain = once facts.inodes (λ k d low.
    let at : k + 1 ≡ suc k = omega arith in
    below-from (get_or facts.inodes k d).id (get_or facts.inodes (suc k) d).id (ap (λ j. inode_follows (get_or facts.inodes k d) (get_or facts.inodes j d)) (sym at) ∙ chain k d (omega arith)))

-- ---- what is told
-- what a fact of an answer gives
pub ok-so : {T E : Type 0} (r : Result T E) {P Q : T → Type 0} → ((x : T) → P x → Q x) → IfOk r P → IfOk r Q
ok-so (Ok x) give p = give x p
ok-so (Err e) give p = tt

-- what two facts of an answer give
pub both-ok : {T E : Type 0} (r : Result T E) {P Q R : T → Type 0} → ((x : T) → P x → Q x → R x) → IfOk r P → IfOk r Q → IfOk r R
both-ok (Ok x) give p q = give x p q
both-ok (Err e) give p q = tt

-- a list without length has nothing
pub none-long : {X : Type 0} (xs : List X) → length xs ≡ 0 → xs ≡ []
none-long [] e = refl
none-long (x ∷ xs) e = absurd (omega (arith, e))

-- what is kept of a view, by its parts
pub gathered-same : (image : List ℕ) (site : Site) (volume : Loaded) (view : View) (kept : KeptView) (facts : Facts) (records : ℕ) → facts ≡ facts_of kept → records ≡ records_kept kept → IsKeptOf image site volume view kept → IsGatheredView image site volume view (record { facts = facts; records = records })
gathered-same image site volume view kept facts records e r is =
    subst (λ (f : Facts). IsGatheredView image site volume view (record { facts = f; records = records })) (sym e)
    (subst (λ (n : ℕ). IsGatheredView image site volume view (record { facts = facts_of kept; records = n })) (sym r) is.gathered)

-- ---- a change
pub changed : (before after gone come same : Facts) → HasDistinctInodes before → HasDistinctInodes after → after.names ≡ before.names → AreWoven before same gone → AreWoven after same come → IsChange before after gone come same
changed before after gone come same one other names left made = record { names = names; left = left; made = made; distinct_before = one; distinct_after = other }

pub right-still : (profile : Profile) (site : Site) (ranges : List NewRange) (before after gone come same : Facts) → AreRight profile site ranges before → IsChange before after gone come same
    → IsPlainChange profile site ranges before after gone come → IsClear (is_nameless after) after.inodes → HasNameHashes after → AreRight profile site ranges after
right-still profile site ranges before after gone come same right change plain nameless hashes = record {
  rules = change-keeps profile site ranges before after gone come same right.rules change plain;
  distinct = change.distinct_after;
  nameless = nameless;
  hashes = hashes;
}

-- ---- extents
mapped-in : {X Y : Type 0} (f : X → Y) (xs ys : List X) → ((x : X) → In x xs → In x ys) → (y : Y) → In y (map f xs) → In y (map f ys)
mapped-in f xs ys all y h =
    let t = from-map f xs y h in
    subst (λ z. In z (map f ys)) (sym t.1.1) (in-map f ys t.0 (all t.0 t.1.0))

-- all extents of a view, whatever there was before
all-extents : (image : List ℕ) (site : Site) (volume : Loaded) (view : View) (before extents : List (ℕ × FileExt)) → extents ≡ extents_with_ids (view_facts image site volume view) → AddExtents image site volume view before extents
all-extents image site volume view before extents e = record {
  own = λ x h. subst (In x) e h;
  all = λ x h. inr (subst (In x) (sym e) h);
}

-- those that have come
come-extents : (image : List ℕ) (site : Site) (volume : Loaded) (view : View) (before after same come : Facts) (extents : List (ℕ × FileExt)) → after.extents ≡ (view_facts image site volume view).extents → Weaves after.extents same.extents come.extents → ((f : Fact FileExt) → In f same.extents → In f before.extents) → extents ≡ extents_with_ids come
    → AddExtents image site volume view (extents_with_ids before) extents
come-extents image site volume view before after same come extents these made old e =
    let say : Fact FileExt → ℕ × FileExt = λ f. (f.id, f.what) in
    record {
      own = λ x h. subst (λ fs. In x (map say fs)) these (mapped-in say come.extents after.extents (λ f k. in-differs made f k) x (subst (In x) e h));
      all = λ x h.
          let t = from-map say after.extents x (subst (λ fs. In x (map say fs)) (sym these) h) in
          elim (in-woven made t.0 t.1.0) as (λ _. In x (extents_with_ids before) ⊎ In x extents) [
            | inl k ↦ inl (subst (λ y. In y (map say before.extents)) (sym t.1.1) (in-map say before.extents t.0 (old t.0 k)))
            | inr k ↦ inr (subst (In x) (sym e) (subst (λ y. In y (map say come.extents)) (sym t.1.1) (in-map say come.extents t.0 k)))
          ];
    }

-- ---- what is told of a view
-- what is kept of its extents are its extents
kept-extents : (image : List ℕ) (site : Site) (volume : Loaded) (view : View) (kept : KeptView) → IsKeptOf image site volume view kept → (facts_of kept).extents ≡ (view_facts image site volume view).extents
kept-extents image site volume view kept is = ap (λ (facts : Facts). facts.extents) is.gathered.facts

-- by all of its facts
pub told-whole : (profile : Profile) (image : List ℕ) (site : Site) (volume : Loaded) (ranges : List NewRange) (view : View) (before : List (ℕ × FileExt)) (kept : KeptView) (next : CheckedNext) → IsKeptOf image site volume view kept → HasFactRules profile site ranges (facts_of kept)
    → IsTally profile image site volume view next.checked.tally → next.checked.extents.items ≡ extents_with_ids (facts_of kept) → IfSome next.kept (λ other. (other ≡ kept) × AreRight profile site ranges (facts_of kept)) → IsCheckedNext profile image site volume ranges view before next
told-whole profile image site volume ranges view before kept next is rules tally extents known = record {
  rules = facts_clear profile image site volume view ranges (gathered_of kept) is.gathered rules;
  tally = tally;
  extents = all-extents image site volume view before next.checked.extents.items (extents ∙ ap (map (λ (f : Fact FileExt). (f.id, f.what))) (kept-extents image site volume view kept is));
  known = if-some next.kept known;
}
  where
    if-some : (o : Option KeptView) → IfSome o (λ other. (other ≡ kept) × AreRight profile site ranges (facts_of kept)) → IfSome o (IsKnown profile image site volume ranges view)
    if-some None h = tt
    if-some (Some other) h = subst (IsKnown profile image site volume ranges view) (sym h.0) (record { is = is; right = h.1 })

-- by its difference
pub told-change : (profile : Profile) (image : List ℕ) (site : Site) (volume : Loaded) (ranges : List NewRange) (view : View) (before : Facts) (after : KeptView) (change : Change) (next : CheckedNext) → IsKeptOf image site volume view after → HasDifference before (facts_of after) change
    → AreRight profile site ranges (facts_of after) → next.checked.tally.records ≡ records_kept after → next.checked.tally.notes.items ≡ [] → next.checked.extents.items ≡ extents_with_ids change.come → next.kept ≡ Some after → IsCheckedNext profile image site volume ranges view (extents_with_ids before) next
told-change profile image site volume ranges view before after change next is d right records notes extents kept = record {
  rules = facts_clear profile image site volume view ranges (gathered_of after) is.gathered right.rules;
  tally = facts_tally profile image site volume view (gathered_of after) next.checked.tally is.gathered records (notes ∙ sym (silent profile site ranges view (facts_of after) right));
  extents = come-extents image site volume view before (facts_of after) d.same change.come next.checked.extents.items (kept-extents image site volume view after is) d.made.extents (λ f h. in-stays d.left.extents f h) extents;
  known = subst (λ (o : Option KeptView). IfSome o (IsKnown profile image site volume ranges view)) (sym kept) (record { is = is; right = right });
}

-- a list is the same where nothing else is woven into it
all-same : {X : Type 0} {all same : List X} → Weaves all same [] → all ≡ same
all-same ended = refl
all-same (stays x all same other w) = ap (λ xs. x ∷ xs) (all-same w)

-- facts are the same where none is gone and none has come
pub unchanged : (before after same : Facts) (n m : Names) → after.names ≡ before.names → AreWoven before same (no_facts_under n) → AreWoven after same (no_facts_under m) → before ≡ after
unchanged before after same n m named left made = λ i. record {
  names = sym named i;
  inodes = (all-same left.inodes ∙ sym (all-same made.inodes)) i;
  entries = (all-same left.entries ∙ sym (all-same made.entries)) i;
  attributes = (all-same left.attributes ∙ sym (all-same made.attributes)) i;
  links = (all-same left.links ∙ sym (all-same made.links)) i;
  siblings = (all-same left.siblings ∙ sym (all-same made.siblings)) i;
  extents = (all-same left.extents ∙ sym (all-same made.extents)) i;
}
