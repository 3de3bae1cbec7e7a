-- Views of a volume that have one tree have the same rules, records and extents, and notes where one has some.
use Rattle.std.proofs.Common.{◌≡◌, ◌∙◌, ℕ, Bool, true, cond, ◌&&◌, ◌==◌, List, [], ◌∷◌, ◌++◌, Option, length, map, filter, inl, inr, refl, ap, ap₂, sym, subst, arith}
use Rattle.std.specs.List.{list_all}
use Rattle.std.specs.Prelude.{◌<◌, ◌≤◌, ◌||◌, false, nat_le, nat_lt, if◌then◌else◌, option_map, option_and_then}
use Rattle.std.proofs.Math.Path.{fun_ext}
use Rattle.apfs_model.proofs.BoolTests.{left-true, right-true, either-from, never-true, below-from, upto-from, all-in}
use Rattle.apfs_model.proofs.Empty.{left-none, right-none, map-none}
use Rattle.apfs_model.specs.Blocks.{in_container}
use Rattle.apfs_model.specs.Counts.{given}
use Rattle.apfs_model.specs.Lists.{In, greatest}
use Rattle.obj_base.specs.declared.site.Site.{Site}
use Rattle.bt_keys.specs.Shapes.{fs_shape, fs_plain_shape}
use Rattle.bt_cursor.specs.Tree.{tree_in}
use Rattle.bt_cursor.specs.Flat.{flat_of}
use Rattle.bt_cursor.specs.Line.{Item, line_of}
use Rattle.bt_cursor.specs.Counts.{is_counted}
use Rattle.bt_cursor.specs.Met.{is_walkable}
use Rattle.bt_cursor.specs.Order.{is_ordered}
use Rattle.bt_node.specs.Entries.{Pair}
use Rattle.fs_name.specs.Normal.{are_hashed}
use Rattle.omap_map.specs.Resolve.{is_for, latest, unless_deleted, resolved, resolve, place_of, named_by}
use Rattle.omap_map.specs.declared.records.OmapRecord.{OmapRecord}
use Rattle.omap_map.specs.declared.records.Place.{Place}
use Rattle.vol_view.specs.Volumes.{Loaded}
use Rattle.vol_view.specs.Views.{view_named, view_flat, view_line, is_view_walkable, is_view_ordered, is_view_counted}
use Rattle.vol_view.specs.declared.volume.View.{View}
use Rattle.ext_ref.specs.declared.range.NewRange.{NewRange}
use Rattle.view_rules.specs.Facts.{Facts, facts_in}
use Rattle.view_rules.specs.Rules.{view_facts, HasRecords, HasFactRules, HasTreeRules}
use Rattle.view_rules.specs.declared.profile.Profile.{Profile}
use Rattle.view_rules.specs.declared.profile.Profile.TheVariants.{Plain, Strict}
use Rattle.tree_rules.specs.Notes.{hash_note, hash_notes, unnamed_note, unnamed_notes}
use Rattle.tree_rules.specs.Tallies.{notes_of}
use Rattle.view_rules.specs.declared.notes.Note.{Note}
use Rattle.apfs_check.specs.Again.{HaveOneTree, IsPassed}
use Rattle.apfs_check.specs.Volumes.{extent_of, view_extents}
use Rattle.apfs_check.specs.declared.views.Passed.{Passed}

filter-same : {X : Type 0} (p q : X → Bool) (xs : List X) → ((x : X) → In x xs → p x ≡ q x) → filter p xs ≡ filter q xs
filter-same p q [] same = refl
filter-same {X} p q (x ∷ xs) same =
    ap (λ (b : Bool). cond b (x ∷ filter p xs) (filter p xs)) (same x (inl refl))
    ∙ ap (λ (ys : List X). cond (q x) (x ∷ ys) ys) (filter-same p q xs (λ y h. same y (inr h)))

-- where the same records are seen, each id names the same block
named-same : (records : List OmapRecord) (x y blocks : ℕ) → ((r : OmapRecord) → In r records → nat_le r.xid x ≡ nat_le r.xid y) → named_by records x blocks ≡ named_by records y blocks
unfolding named_by resolve resolved latest
named-same records x y blocks same =
    fun_ext (λ oid.
    ap (λ (rs : List OmapRecord). option_and_then (λ (p : Place). in_container blocks p.block) (option_map place_of (option_and_then unless_deleted (greatest (λ (r : OmapRecord). r.xid) rs))))
    (filter-same (is_for oid x) (is_for oid y) records (λ r h. ap (λ (b : Bool). (r.oid == oid) && b) (same r h))))

named-again : (site : Site) (volume : Loaded) (v w : View) → HaveOneTree volume v w → view_named site volume v ≡ view_named site volume w
named-again site volume v w one = named-same volume.omap.records v.xid w.xid site.blocks one.seen

flat-again : (image : List ℕ) (site : Site) (volume : Loaded) (v w : View) → HaveOneTree volume v w → view_flat image site volume v ≡ view_flat image site volume w
unfolding view_flat
flat-again image site volume v w one =
    ap₂ (λ (name : ℕ → Option ℕ) (root : ℕ). if are_hashed volume.names then flat_of (tree_in fs_shape site name image) root else flat_of (tree_in fs_plain_shape site name image) root)
    (named-again site volume v w one) one.root

line-again : (image : List ℕ) (site : Site) (volume : Loaded) (v w : View) → HaveOneTree volume v w → view_line image site volume v ≡ view_line image site volume w
unfolding view_line
line-again image site volume v w one =
    ap₂ (λ (name : ℕ → Option ℕ) (root : ℕ). if are_hashed volume.names then line_of (tree_in fs_shape site name image) root else line_of (tree_in fs_plain_shape site name image) root)
    (named-again site volume v w one) one.root

walkable-again : (image : List ℕ) (site : Site) (volume : Loaded) (v w : View) → HaveOneTree volume v w → is_view_walkable image site volume v ≡ is_view_walkable image site volume w
unfolding is_view_walkable
walkable-again image site volume v w one =
    ap₂ (λ (name : ℕ → Option ℕ) (root : ℕ). if are_hashed volume.names then is_walkable (tree_in fs_shape site name image) root else is_walkable (tree_in fs_plain_shape site name image) root)
    (named-again site volume v w one) one.root

ordered-again : (image : List ℕ) (site : Site) (volume : Loaded) (v w : View) → HaveOneTree volume v w → is_view_ordered image site volume v ≡ is_view_ordered image site volume w
ordered-again image site volume v w one = ap (λ (line : List Item). if are_hashed volume.names then is_ordered fs_shape line else is_ordered fs_plain_shape line) (line-again image site volume v w one)

counted-again : (image : List ℕ) (site : Site) (volume : Loaded) (v w : View) → HaveOneTree volume v w → is_view_counted image site volume v ≡ is_view_counted image site volume w
unfolding is_view_counted
counted-again image site volume v w one =
    ap₂ (λ (name : ℕ → Option ℕ) (root : ℕ). if are_hashed volume.names then is_counted (tree_in fs_shape site name image) root else is_counted (tree_in fs_plain_shape site name image) root)
    (named-again site volume v w one) one.root

facts-again : (image : List ℕ) (site : Site) (volume : Loaded) (v w : View) → HaveOneTree volume v w → view_facts image site volume v ≡ view_facts image site volume w
facts-again image site volume v w one = ap (λ (pairs : List Pair). facts_in volume.names pairs) (flat-again image site volume v w one)

-- the rules of one are those of the other
pub rules-again : (profile : Profile) (image : List ℕ) (site : Site) (volume : Loaded) (v w : View) (ranges : List NewRange) → HaveOneTree volume v w → HasTreeRules profile image site volume v ranges → HasTreeRules profile image site volume w ranges
rules-again profile image site volume v w ranges one rules = record {
  walkable = sym (walkable-again image site volume v w one) ∙ rules.walkable;
  ordered = sym (ordered-again image site volume v w one) ∙ rules.ordered;
  counted = sym (counted-again image site volume v w one) ∙ rules.counted;
  records = subst (λ (line : List Item). HasRecords volume.names line) (line-again image site volume v w one) rules.records;
  facts = subst (λ (facts : Facts). HasFactRules profile site ranges facts) (facts-again image site volume v w one) rules.facts;
}

-- so are its extents
pub extents-again : (image : List ℕ) (site : Site) (volume : Loaded) (v w : View) → HaveOneTree volume v w → view_extents image site volume v ≡ view_extents image site volume w
extents-again image site volume v w one = ap (λ (facts : Facts). map extent_of facts.extents) (facts-again image site volume v w one)

-- notes tell of a view, but where one has none the other has none either
mapped-none : {X Y : Type 0} (f g : X → Y) (xs : List X) → map f xs ≡ [] → map g xs ≡ []
mapped-none f g xs e = ap (map g) (map-none f xs e)

notes-none : (profile : Profile) (v w : View) (facts : Facts) → notes_of profile v facts ≡ [] → notes_of profile w facts ≡ []
unfolding notes_of
notes-none Plain v w facts none =
    ap₂ (λ (xs ys : List Note). xs ++ ys) (mapped-none (hash_note v) (hash_note w) _ (left-none (hash_notes v facts) (unnamed_notes v facts) none))
    (mapped-none (unnamed_note v) (unnamed_note w) _ (right-none (hash_notes v facts) (unnamed_notes v facts) none))
notes-none Strict v w facts none = mapped-none (unnamed_note v) (unnamed_note w) _ none

-- a view that has the tree of one that passed passes too
pub passed-again : (profile : Profile) (image : List ℕ) (site : Site) (volume : Loaded) (ranges : List NewRange) (views : List View) (passed : Passed) (w : View) → IsPassed profile image site volume ranges views passed → HaveOneTree volume passed.view w
    → IsPassed profile image site volume ranges (w ∷ []) (record { view = w; records = passed.records })
passed-again profile image site volume ranges views passed w is one = record {
  one = inl refl;
  rules = rules-again profile image site volume passed.view w ranges one is.rules;
  records = is.records ∙ ap (λ (pairs : List Pair). given (length pairs)) (flat-again image site volume passed.view w one);
  notes = subst (λ (facts : Facts). notes_of profile w facts ≡ []) (facts-again image site volume passed.view w one) (notes-none profile passed.view w (view_facts image site volume passed.view) is.notes);
}

-- ---- how two views are found to have one tree
later : (x y : ℕ) → nat_lt y x ≡ true → nat_le x y ≡ false
later x y p = never-true (nat_le x y) (λ e. let low : y < x = below-from y x p in let up : x ≤ y = upto-from x y e in omega arith)

alike : (x y z : ℕ) → ((nat_le x y && nat_le x z) || (nat_lt y x && nat_lt z x)) ≡ true → nat_le x y ≡ nat_le x z
alike x y z e = elim (either-from (nat_le x y && nat_le x z) (nat_lt y x && nat_lt z x) e) as (λ _. nat_le x y ≡ nat_le x z) [
  | inl p ↦ left-true (nat_le x y) (nat_le x z) p ∙ sym (right-true (nat_le x y) (nat_le x z) p)
  | inr p ↦ later x y (left-true (nat_lt y x) (nat_lt z x) p) ∙ sym (later x z (right-true (nat_lt y x) (nat_lt z x) p))
]

pub one-tree : (volume : Loaded) (v w : View) (rs : List OmapRecord) (b : Bool) → v.root_oid ≡ w.root_oid → rs ≡ volume.omap.records → b ≡ list_all (λ (r : OmapRecord). (nat_le r.xid v.xid && nat_le r.xid w.xid) || (nat_lt v.xid r.xid && nat_lt w.xid r.xid)) rs → b ≡ true → HaveOneTree volume v w
one-tree volume v w rs b same these is e = record {
  root = same;
  seen = λ r h. alike r.xid v.xid w.xid (all-in (λ (r : OmapRecord). (nat_le r.xid v.xid && nat_le r.xid w.xid) || (nat_lt v.xid r.xid && nat_lt w.xid r.xid)) rs (sym is ∙ e) r (subst (In r) (sym these) h));
}
