-- What an answer on a path needs is there.
use Rattle.std.proofs.Common.{◌≡◌, ◌<◌, ◌+◌, ◌==◌, ℕ, Bool, true, false, cond, List, [], ◌∷◌, ◌++◌, length, map, take, drop, get_or, Option, Some, None, Result, Ok, Err, inl, inr, refl, ap, sym, ◌∙◌, subst, arith}
use Rattle.std.specs.Prelude.{filter, option_map, is_some, IfSome}
use Rattle.std.specs.List.{take_while}
use Rattle.std.proofs.lemmas.Bool.{false≢true}
use Rattle.std.proofs.lemmas.List.{take_more, take_all}
use Rattle.std.proofs.lemmas.List.Sums.{take_while-cons}
use Rattle.std.specs.Option.{ok_or}
use Rattle.apfs_model.specs.Lists.{In}
use Rattle.apfs_model.proofs.BoolTests.{clash, both-true, from-equal, equal-from}
use Rattle.apfs_model.proofs.Searches.{in-append, in-filter, from-map, from-filter, filter-test}
use Rattle.obj_base.specs.declared.site.Site.{Site}
use Rattle.obj_base.specs.declared.stop.Stop.{Stop}
use Rattle.obj_base.specs.declared.stop.Stop.TheVariants.{Found}
use Rattle.bt_node.specs.Shape.{Shape}
use Rattle.bt_node.specs.Entries.{Pair}
use Rattle.bt_node.specs.declared.key.Rank.{Rank}
use Rattle.bt_node.specs.declared.key.TreeKey as keys
use Rattle.bt_keys.specs.FsTree.{IsFsShape}
use Rattle.bt_keys.specs.Shapes.{fs_shape, fs_plain_shape}
use Rattle.bt_keys.specs.RecordKey.{id_of, record_kind_of, inode_record, attribute_record, sibling_link_record, file_extent_record, entry_record, sibling_map_record}
use Rattle.bt_cursor.specs.declared.namer.Namer as namers
use Rattle.bt_cursor.specs.declared.cursor.Cursor.{Cursor}
use Rattle.bt_cursor.specs.Cursors.{tree_of, left_of, gapped_left_of, passed_of, Moves}
use Rattle.bt_cursor.specs.Tree.{Tree}
use Rattle.bt_cursor.specs.Gaps.{all_met}
use Rattle.bt_cursor.specs.Flat.{flat_of}
use Rattle.bt_cursor.specs.Line.{Item, is_leaf_item, line_of}
use Rattle.bt_cursor.specs.WholeTree.{leaf_pairs}
use Rattle.bt_cursor.specs.Order.{is_ordered}
use Rattle.bt_cursor.specs.From.{from_rank, run_in, is_of_kind, is_kind_whole}
use Rattle.bt_cursor.specs.Whole.{is_whole}
use Rattle.bt_cursor.proofs.Flats.{line-pairs}
use Rattle.bt_cursor.proofs.Runs.{run-flat, run-kind, moved-whole, moved-over}
use Rattle.bt_cursor.proofs.Wholes.{whole_means}
use Rattle.fs_name.specs.Normal.{are_hashed}
use Rattle.fs_name.specs.declared.naming.Names.{Names}
use Rattle.fs_record.specs.Inodes.{Inode}
use Rattle.fs_record.specs.Entries.{Entry}
use Rattle.fs_record.specs.Facts.{Fact, fault_of, read_inode, read_attribute, read_link, read_sibling, read_extent, read_entry, refused, root_id}
use Rattle.fs_record.specs.declared.fault.RecFault.{RecFault}
use Rattle.vol_view.specs.Volumes.{Loaded}
use Rattle.vol_view.specs.Views.{hashed_tree, plain_tree, view_flat, view_line, is_view_ordered, is_view_whole}
use Rattle.vol_view.specs.Placed.{has_all_records}
use Rattle.vol_view.specs.declared.volume.View.{View}
use Rattle.view_rules.specs.Facts.{Facts, facts_in, has_inode, inode_at, is_directory}
use Rattle.view_rules.specs.Rules.{view_facts, refusal_of, HasRecords}
use Rattle.path_search.specs.Paths.{is_component, parts_of, components}
use Rattle.path_search.specs.Places.{Place, placed, root_name, root_of, target_of}
use Rattle.path_search.specs.Found.{entries_in, entry_named, place_by, step, found}
use Rattle.path_search.specs.Needs.{AreRead, HasKind, HasAll, HasEntriesOf, StepNeeds, WalkNeeds, PathNeeds, HaveFiles, ChildrenNeed, ListingNeeds, RestsOn}
use Rattle.path_search.specs.Calls.{IsNoAnswer}
use Rattle.path_search.specs.Parts.{whats, rooted, by_part, target_by, Leads, IsKnown, IsPlaceKnown, with_read, with_kept, run_entries, Takes, TakesNext, IsOfRun, GoesWhole, HasKindIn, HasEntriesIn, NeedsIn, PartNeeds, AlongNeeds, WhereLed, WhereTold}
use Rattle.path_search.specs.declared.answer.Answer.{Answer}
use Rattle.path_search.specs.declared.answer.Answer.TheVariants.{NotFound}
use Rattle.path_search.specs.declared.onward.Onward.{Onward}
use Rattle.path_search.specs.declared.onward.Onward.TheVariants.{To, Answered, Lost}
use Rattle.path_search.specs.declared.search.Took.{Took}
use Rattle.path_search.specs.declared.search.Took.TheVariants.{One, End, Refused}
use Rattle.path_search.specs.declared.stop.PathStop.{PathStop}
use Rattle.path_search.specs.declared.stop.PathStop.TheVariants as stops
use Rattle.path_search.specs.declared.target.Target.{Target}
use Rattle.path_search.proofs.Gapless.{kind_whole}
use Rattle.path_search.proofs.Laws.{ok-err}
use Rattle.path_search.proofs.Listed.{ok_same, drop-all, drop_at, whats-join}
use Rattle.path_search.proofs.Searched.{HasKeys, run_is, cursor_keys}
use Rattle.path_search.proofs.Viewed.{hashed_flat, plain_flat, hashed_ordered, plain_ordered}

-- ---- one component
some-same : {X : Type 0} (x y : X) → Some x ≡ Some y → x ≡ y
some-same x y e = cc

pub step_needs : (facts : Facts) (has_all : ℕ → Type 0) (place : Place) (name : List ℕ) (es : List Entry) (o : Option Entry) → has_all place.id → es ≡ entries_in facts place.id → o ≡ entry_named facts.names name es → ((e : Entry) → o ≡ Some e → has_inode facts e.file_id ≡ true) → StepNeeds facts has_all place name
step_needs facts has_all place name es o has same chosen file = λ d. (has, λ e h. file e (chosen ∙ (ap (entry_named facts.names name) same ∙ h)))

pub step_none_needs : (facts : Facts) (has_all : ℕ → Type 0) (place : Place) (name : List ℕ) (es : List Entry) → has_all place.id → es ≡ entries_in facts place.id → None ≡ entry_named facts.names name es → StepNeeds facts has_all place name
step_none_needs facts has_all place name es has same chosen = step_needs facts has_all place name es None has same chosen (λ e h. absurd cc)

pub step_to_needs : (facts : Facts) (has_all : ℕ → Type 0) (place : Place) (name : List ℕ) (es : List Entry) (e : Entry) → has_all place.id → es ≡ entries_in facts place.id → Some e ≡ entry_named facts.names name es → has_inode facts e.file_id ≡ true → StepNeeds facts has_all place name
step_to_needs facts has_all place name es e has same chosen file = step_needs facts has_all place name es (Some e) has same chosen (λ x h. subst (λ (y : Entry). has_inode facts y.file_id ≡ true) (some-same e x h) file)

pub file_needs : (facts : Facts) (has_all : ℕ → Type 0) (place : Place) (name : List ℕ) → is_directory place.inode ≡ false → StepNeeds facts has_all place name
file_needs facts has_all place name e = λ d. clash (is_directory place.inode) d e

pub has_file : (facts : Facts) (id : ℕ) (inode : Inode) → inode_at facts id ≡ Some inode → has_inode facts id ≡ true
has_file facts id inode e = ap (λ (o : Option Inode). is_some o) e

place-some : (e : Entry) (place : Place) (o : Option Inode) → option_map (placed e.file_id e.name) o ≡ Some place → is_some o ≡ true
place-some e place None h = absurd cc
place-some e place (Some x) h = refl

pub placed_file : (facts : Facts) (e : Entry) (place : Place) → place_by facts e ≡ Some place → has_inode facts e.file_id ≡ true
placed_file facts e place h = place-some e place (inode_at facts e.file_id) h

pub part_none : (facts : Facts) (has_all : ℕ → Type 0) (place : Place) (part : List ℕ) → (length part == 0) ≡ true → PartNeeds facts has_all place part
part_none facts has_all place [] e = λ h. absurd (false≢true h)
part_none facts has_all place (b ∷ bs) e = absurd (let h = equal-from (length (b ∷ bs)) 0 e in omega arith)

-- ---- entries and their files
files-more : (facts : Facts) (es : List Entry) (e : Entry) → HaveFiles facts es → has_inode facts e.file_id ≡ true → HaveFiles facts (es ++ e ∷ [])
files-more facts es e before here x h = elim (in-append x es (e ∷ []) h) as (λ _. has_inode facts x.file_id ≡ true) [
  | inl m ↦ before x m
  | inr m ↦ elim m as (λ _. has_inode facts x.file_id ≡ true) [
    | inl same ↦ subst (λ (y : Entry). has_inode facts y.file_id ≡ true) (sym same) here
    | inr none ↦ absurd none
  ]
]

pub files_next : (facts : Facts) (es : List (Fact Entry)) (i : ℕ) (e : Fact Entry) → i < length es → e ≡ get_or es i e → has_inode facts e.what.file_id ≡ true → HaveFiles facts (whats (take i es)) → HaveFiles facts (whats (take (i + 1) es))
files_next facts es i e low at here before =
    let more : whats (take (i + 1) es) ≡ whats (take i es) ++ e.what ∷ [] = ap whats (take_more es i e low ∙ ap (λ (f : Fact Entry). take i es ++ f ∷ []) (sym at)) ∙ whats-join (take i es) (e ∷ []) in
    subst (λ l. HaveFiles facts l) (sym more) (files-more facts (whats (take i es)) e.what before here)

pub files_done : (facts : Facts) (es : List (Fact Entry)) (i : ℕ) → i ≡ length es → HaveFiles facts (whats (take i es)) → HaveFiles facts (whats es)
files_done facts es i end before = subst (λ (l : List (Fact Entry)). HaveFiles facts (whats l)) (take_all i es (omega arith)) before

-- a target of an entry's file, whose inode is there
target-some : (facts : Facts) (e : Entry) (t : Target) (o : Option Place) → place_by facts e ≡ o → option_map target_of o ≡ Some t → has_inode facts e.file_id ≡ true
target-some facts e t None is h = absurd cc
target-some facts e t (Some place) is h = placed_file facts e place is

pub target_file : (facts : Facts) (e : Entry) (t : Target) → target_by facts e ≡ Some t → has_inode facts e.file_id ≡ true
target_file facts e t h = target-some facts e t (place_by facts e) refl h

-- ---- all components
go-needs : (facts : Facts) (has_all : ℕ → Type 0) (names : List (List ℕ)) (place : Place) (part : List ℕ) (b : Bool) → (b ≡ true → StepNeeds facts has_all place part) → ((next : Place) → cond b (step facts place part) (Ok place) ≡ Ok next → WalkNeeds facts has_all names next) →
    WalkNeeds facts has_all (cond b (part ∷ names) names) place
go-needs facts has_all names place part true needs rest = (needs refl, rest)
go-needs facts has_all names place part false needs rest = rest place refl

part-needs : (facts : Facts) (has_all : ℕ → Type 0) (parts : List (List ℕ)) (place : Place) (part : List ℕ) → PartNeeds facts has_all place part → ((next : Place) → by_part facts place part ≡ Ok next → AlongNeeds facts has_all parts next) → AlongNeeds facts has_all (part ∷ parts) place
part-needs facts has_all parts place part needs rest = go-needs facts has_all (filter is_component parts) place part (is_component part) needs rest

pub needs_next : {P : Type 0} (now : P → List ℕ) (facts : Facts) (has_all : ℕ → Type 0) (parts : List P) (i : ℕ) (d : P) (place next : Place) → i < length parts → PartNeeds facts has_all place (now (get_or parts i d)) → by_part facts place (now (get_or parts i d)) ≡ Ok next → AlongNeeds facts has_all (map now (drop (i + 1) parts)) next →
    AlongNeeds facts has_all (map now (drop i parts)) place
needs_next now facts has_all parts i d place next low needs goes rest =
    subst (λ ps. AlongNeeds facts has_all ps place) (sym (drop_at now parts i d low))
    (part-needs facts has_all (map now (drop (i + 1) parts)) place (now (get_or parts i d)) needs (λ n e. subst (λ p. AlongNeeds facts has_all (map now (drop (i + 1) parts)) p) (ok_same n next (sym e ∙ goes)) rest))

pub needs_ends : {P : Type 0} (now : P → List ℕ) (facts : Facts) (has_all : ℕ → Type 0) (parts : List P) (i : ℕ) (d : P) (place : Place) (a : Answer) → i < length parts → PartNeeds facts has_all place (now (get_or parts i d)) → by_part facts place (now (get_or parts i d)) ≡ Err a → AlongNeeds facts has_all (map now (drop i parts)) place
needs_ends now facts has_all parts i d place a low needs ends =
    subst (λ ps. AlongNeeds facts has_all ps place) (sym (drop_at now parts i d low))
    (part-needs facts has_all (map now (drop (i + 1) parts)) place (now (get_or parts i d)) needs (λ n e. absurd (ok-err n a (sym e ∙ ends))))

pub needs_done : {P : Type 0} (now : P → List ℕ) (facts : Facts) (has_all : ℕ → Type 0) (parts : List P) (i : ℕ) (place : Place) → i ≡ length parts → AlongNeeds facts has_all (map now (drop i parts)) place
needs_done now facts has_all parts i place end = subst (λ ps. AlongNeeds facts has_all (map now ps) place) (sym (ap (λ k. drop k parts) end ∙ drop-all parts)) tt

root-some : (root : Place) (o : Option Inode) → option_map (placed root_id root_name) o ≡ Some root → is_some o ≡ true
root-some root None e = absurd cc
root-some root (Some x) e = refl

rooted-some : (root : Place) (o : Option Place) → ok_or o NotFound ≡ Ok root → o ≡ Some root
rooted-some root None e = absurd cc
rooted-some root (Some x) e = let same : x ≡ root = cc in ap Some same

pub rooted_some : (facts : Facts) (root : Place) → rooted facts ≡ Ok root → root_of facts ≡ Some root
rooted_some facts root e = rooted-some root (root_of facts) e

pub path_needs : (facts : Facts) (has_all : ℕ → Type 0) (path : List ℕ) (root : Place) → root_of facts ≡ Some root → AlongNeeds facts has_all (parts_of path) root → PathNeeds facts has_all path
unfolding components
path_needs facts has_all path root there along = record {
  root = root-some root (inode_at facts root_id) there;
  way = λ place e. subst (λ p. AlongNeeds facts has_all (parts_of path) p) (some-same root place (sym there ∙ e)) along;
}

pub listing_needs : (facts : Facts) (has_all : ℕ → Type 0) (path : List ℕ) (place : Place) → PathNeeds facts has_all path → found facts path ≡ Ok place → (is_directory place.inode ≡ true → ChildrenNeed facts has_all place.id) → ListingNeeds facts has_all path
listing_needs facts has_all path place needs there children = record {
  led = needs;
  children = λ p e. subst (λ (q : Place). is_directory q.inode ≡ true → ChildrenNeed facts has_all q.id) (ok_same p place (sym e ∙ there)) children;
}

pub listing_ends : (facts : Facts) (has_all : ℕ → Type 0) (path : List ℕ) (a : Answer) → PathNeeds facts has_all path → found facts path ≡ Err a → ListingNeeds facts has_all path
listing_ends facts has_all path a needs ends = record { led = needs; children = λ p e. absurd (ok-err p a (sym e ∙ ends)) }

-- ---- what is needed of some entries is needed of others that are there where those are
walk-mono : (facts : Facts) (one other : ℕ → Type 0) → ((id : ℕ) → one id → other id) → (names : List (List ℕ)) (place : Place) → WalkNeeds facts one names place → WalkNeeds facts other names place
walk-mono facts one other f [] place h = tt
walk-mono facts one other f (name ∷ names) place h = (λ d. let s = h.0 d in (f place.id s.0, s.1), λ next e. walk-mono facts one other f names next (h.1 next e))

pub path_mono : (facts : Facts) (path : List ℕ) (one other : ℕ → Type 0) → ((id : ℕ) → one id → other id) → PathNeeds facts one path → PathNeeds facts other path
path_mono facts path one other f h = record { root = h.root; way = λ place e. walk-mono facts one other f (components path) place (h.way place e) }

pub listing_mono : (facts : Facts) (path : List ℕ) (one other : ℕ → Type 0) → ((id : ℕ) → one id → other id) → ListingNeeds facts one path → ListingNeeds facts other path
listing_mono facts path one other f h = record { led = path_mono facts path one other f h.led; children = λ place e d. let c = h.children place e d in (f place.id c.0, c.1) }

-- ---- what was answered
pub led_as : {T : Type 0} (P Q : Type 0) (onward : Onward T) → (P → Q) → WhereLed P onward → WhereLed Q onward
led_as P Q Lost f h = tt
led_as P Q onward f h = f h

pub told_as : (T U : Type 0) (P Q : Type 0) (stop : Stop PathStop) → ((a : Answer) → stop ≡ Found (stops.Answer a) → P → Q) → WhereTold {T = T} P (Err stop) → WhereTold {T = U} Q (Err stop)
told_as T U P Q (Found (stops.Answer a)) f h = f a refl h
told_as T U P Q stop f h = tt

pub where_as : {T : Type 0} (P Q : Type 0) (result : Result T (Stop PathStop)) → (P → Q) → WhereTold P result → WhereTold Q result
where_as P Q (Ok x) f h = f h
where_as P Q (Err (Found (stops.Answer a))) f h = f h
where_as P Q result f h = tt

-- a call that stops with no answer says nothing
pub untold : (T : Type 0) (P : Type 0) (stop : Stop PathStop) → IsNoAnswer stop → WhereTold {T = T} P (Err stop)
untold T P (Found (stops.Answer a)) h = absurd h
untold T P stop h = tt

pub place_untold : (T : Type 0) (facts : Facts) (view : View) (e : Fact Entry) (P : Type 0) (stop : Stop PathStop) → IsPlaceKnown facts view e (Err stop) → WhereTold {T = T} P (Err stop)
place_untold T facts view e P (Found (stops.Answer a)) h = absurd h
place_untold T facts view e P stop h = tt

pub rests_stopped : {T U : Type 0} (shows : T → U) (wanted : Result U Answer) (needs : Type 0) (stop : Stop PathStop) → IsNoAnswer stop → RestsOn shows wanted needs (Err stop)
rests_stopped shows wanted needs (Found (stops.Answer a)) h = absurd h
rests_stopped shows wanted needs stop h = tt

pub known_err : {T U : Type 0} (facts : Facts) (view : View) (shows : T → U) (wanted : Result U Answer) (stop : Stop PathStop) (a : Answer) → IsKnown facts view shows wanted (Err stop) → stop ≡ Found (stops.Answer a) → wanted ≡ Err a
known_err {T} facts view shows wanted stop a known e = subst (λ (s : Stop PathStop). IsKnown {T = T} facts view shows wanted (Err s)) e known

pub rests_known : {T U : Type 0} (facts : Facts) (view : View) (shows : T → U) (wanted : Result U Answer) (needs : Type 0) (result : Result T (Stop PathStop)) → IsKnown facts view shows wanted result → WhereTold needs result → RestsOn shows wanted needs result
rests_known facts view shows wanted needs (Ok x) known h = (known, h)
rests_known facts view shows wanted needs (Err (Found (stops.Answer a))) known h = (known, h)
rests_known facts view shows wanted needs result known h = tt

pub rests_to : {T U : Type 0} (shows : T → U) (wanted : Result U Answer) (needs : Type 0) (onward : Onward T) (x : T) → onward ≡ To x → Leads shows wanted onward → WhereLed needs onward → (wanted ≡ Ok (shows x)) × needs
rests_to {T} shows wanted needs onward x e leads h = subst (λ (o : Onward T). Leads shows wanted o → WhereLed needs o → (wanted ≡ Ok (shows x)) × needs) (sym e) (λ a b. (a, b)) leads h

pub rests_ends : {T U : Type 0} (shows : T → U) (wanted : Result U Answer) (needs : Type 0) (onward : Onward T) (a : Answer) → onward ≡ Answered a → Leads shows wanted onward → WhereLed needs onward → (wanted ≡ Err a) × needs
rests_ends {T} shows wanted needs onward a e leads h = subst (λ (o : Onward T). Leads shows wanted o → WhereLed needs o → (wanted ≡ Err a) × needs) (sym e) (λ b c. (b, c)) leads h

pub rests_as : {T U V W : Type 0} (shows : T → U) (wanted : Result U Answer) (sees : V → W) (whole : Result W Answer) (P Q : Type 0) (stop : Stop PathStop) → ((a : Answer) → wanted ≡ Err a → whole ≡ Err a) → ((a : Answer) → wanted ≡ Err a → P → Q) → RestsOn shows wanted P (Err stop) → RestsOn sees whole Q (Err stop)
rests_as shows wanted sees whole P Q (Found (stops.Answer a)) goes f h = (goes a h.0, f a h.0 h.1)
rests_as shows wanted sees whole P Q stop goes f h = tt

pub rests_told : {T U : Type 0} (W : Type 0) (shows : T → U) (wanted : Result U Answer) (P Q : Type 0) (stop : Stop PathStop) → ((a : Answer) → wanted ≡ Err a → P → Q) → RestsOn shows wanted P (Err stop) → WhereTold {T = W} Q (Err stop)
rests_told W shows wanted P Q (Found (stops.Answer a)) f h = f a h.0 h.1
rests_told W shows wanted P Q stop f h = tt

pub rests_on : {T U V W : Type 0} (shows : T → U) (wanted : Result U Answer) (sees : V → W) (whole : Result W Answer) (needs : Type 0) (stop : Stop PathStop) → ((a : Answer) → wanted ≡ Err a → whole ≡ Err a) → RestsOn shows wanted needs (Err stop) → RestsOn sees whole needs (Err stop)
rests_on shows wanted sees whole needs stop goes h = rests_as shows wanted sees whole needs needs stop goes (λ a e n. n) h

-- ---- the same tree and root
pub in_same : {K : Type 0} (P : Tree K → ℕ → Type 0) (tree other : List ℕ → Tree K) (root same : ℕ) (image : List ℕ) → other ≡ tree → same ≡ root → P (other image) same → P (tree image) root
in_same {K} P tree other root same image e f h = subst (λ (t : List ℕ → Tree K). P (t image) root) e (subst (λ r. P (other image) r) f h)

pub in_at : {K : Type 0} (P : Tree K → ℕ → Type 0) (tree other : Tree K) (root same : ℕ) → tree ≡ other → root ≡ same → P tree root → P other same
in_at {K} P tree other root same e f h = subst (λ (t : Tree K). P t same) e (subst (λ r. P tree r) f h)

-- ---- records that are all there
-- a record of a kind is refused where the reader of that kind refuses it
abbrev pub by_kind : Names → Pair → ℕ → Option RecFault
by_kind names pair kind =
    cond (kind == inode_record) (fault_of (read_inode pair))
    (cond (kind == attribute_record) (fault_of (read_attribute pair))
    (cond (kind == sibling_link_record) (fault_of (read_link pair))
    (cond (kind == file_extent_record) (fault_of (read_extent pair)) (cond (kind == entry_record) (fault_of (read_entry names pair)) (cond (kind == sibling_map_record) (fault_of (read_sibling pair)) None)))))

pub refused_by : (names : Names) (pair : Pair) (kind : ℕ) → record_kind_of pair.key ≡ kind → refused names pair ≡ by_kind names pair kind
unfolding refused
refused_by names pair kind e = ap (by_kind names pair) e

-- the records of a run of an id and a kind are all of that id and kind
pub kind_read : {K : Type 0} (hashed : Bool) (shape : Shape K) → IsFsShape hashed shape → (id kind : ℕ) (names : Names) (flat run : List Pair) → HasKeys shape flat → run ≡ filter (run_in shape (is_of_kind id kind)) flat →
    ((pair : Pair) → In pair run → record_kind_of pair.key ≡ kind → refused names pair ≡ None) → AreRead names flat id kind
kind_read hashed shape law id kind names flat run keys same each pair one i k =
    each pair
    (subst (In pair) (sym same)
    (in-filter (run_in shape (is_of_kind id kind)) pair flat one
    (run_is hashed shape law id kind pair (keys pair one) ∙ both-true (id_of pair.key == id) (record_kind_of pair.key == kind) (from-equal (id_of pair.key) id i) (from-equal (record_kind_of pair.key) kind k)))) k

read-step : {K : Type 0} (shape : Shape K) (names : Names) (keep : Entry → Bool) (id : ℕ) (before : List Entry) (pair : Pair) (pairs : List Pair) (es : List Entry) (t : Bool) (r : Result Entry RecFault) →
    ((e : Entry) → run_entries shape names keep id (with_kept (keep e) e before) pairs ≡ Some es → (p : Pair) → In p (take_while (run_in shape (is_of_kind id entry_record)) pairs) → fault_of (read_entry names p) ≡ None) →
    read_entry names pair ≡ r → cond t (with_read r (λ (e : Entry). run_entries shape names keep id (with_kept (keep e) e before) pairs)) (Some before) ≡ Some es →
    (p : Pair) → In p (cond t (pair ∷ take_while (run_in shape (is_of_kind id entry_record)) pairs) []) → fault_of (read_entry names p) ≡ None
read-step shape names keep id before pair pairs es false r rest read e p h = absurd h
read-step shape names keep id before pair pairs es true (Err why) rest read e p h = absurd (cc)
read-step shape names keep id before pair pairs es true (Ok x) rest read e p (inl same) = ap (λ (q : Pair). fault_of (read_entry names q)) same ∙ ap fault_of read
read-step shape names keep id before pair pairs es true (Ok x) rest read e p (inr h) = rest x e p h

-- each entry of a run that was taken was read
run-read : {K : Type 0} (shape : Shape K) (names : Names) (keep : Entry → Bool) (id : ℕ) (before : List Entry) (pairs : List Pair) (es : List Entry) → run_entries shape names keep id before pairs ≡ Some es →
    (p : Pair) → In p (take_while (run_in shape (is_of_kind id entry_record)) pairs) → fault_of (read_entry names p) ≡ None
run-read shape names keep id before [] es e p h = absurd h
run-read shape names keep id before (pair ∷ pairs) es e p h =
    let test = run_in shape (is_of_kind id entry_record) in
    read-step shape names keep id before pair pairs es (test pair) (read_entry names pair) (λ x. run-read shape names keep id (with_kept (keep x) x before) pairs es) refl e p (subst (In p) (take_while-cons test pair pairs) h)

-- what holds where there is a value
pub if_as : {V : Type 0} (P Q : V → Type 0) (o : Option V) → ((v : V) → P v → Q v) → IfSome o P → IfSome o Q
if_as P Q None f h = tt
if_as P Q (Some v) f h = f v h

-- the entries of a directory are all there, where a run of them was taken from their first rank on and no gap stands in it
pub entries_there : {K N V : Type 0} {k : keys.Ghosts K} {n : namers.Ghosts N} (hashed : Bool) (image : List ℕ) (cursor : Cursor K N k n) (root id : ℕ) (names : Names) (keep : Entry → Bool) (left : List Pair) (sees : V → List Entry) (run : Option V) → IsFsShape hashed k.shape →
    is_ordered k.shape (line_of (tree_of cursor image) root) ≡ true →
    left ≡ from_rank k.shape (record { id = id; kind = entry_record; sub = 0 }) (flat_of (tree_of cursor image) root) →
    IfSome run (λ v. run_entries k.shape names keep id [] left ≡ Some (sees v)) →
    IfSome run (λ v. is_kind_whole (tree_of cursor image) root id entry_record ≡ true) → IfSome run (λ v. HasKindIn names (tree_of cursor image) root id entry_record)
entries_there hashed image cursor root id names keep left sees None law ordered at e whole = tt
entries_there {k = k} hashed image cursor root id names keep left sees (Some v) law ordered at e whole =
    let tree = tree_of cursor image in
    let rank : Rank = record { id = id; kind = entry_record; sub = 0 } in
    let test = run_in k.shape (is_of_kind id entry_record) in
    record {
      whole = whole;
      read = kind_read hashed k.shape law id entry_record names (flat_of tree root) (take_while test left) (cursor_keys image cursor root)
          (ap (take_while test) at ∙ run-flat tree root rank (is_of_kind id entry_record) (run-kind id entry_record) ordered)
          (λ pair h kind. refused_by names pair entry_record kind ∙ run-read k.shape names keep id [] left (sees v) e pair h);
    }

-- ---- what is taken of a run
pub goes_whole : {K N : Type 0} {k : keys.Ghosts K} {n : namers.Ghosts N} (image : List ℕ) (old new : Cursor K N k n) (id : ℕ) (pair : Pair) (more : Bool) (took : Took) → Moves image old new more → more ≡ true → pair ≡ passed_of new → IsOfRun k.shape id pair took → GoesWhole k.shape id (gapped_left_of old image) (gapped_left_of new image) took
goes_whole image old new id pair false took moved e same run = absurd (false≢true e)
goes_whole {k = k} image old new id pair true One moved e same run = moved-whole image old new (is_of_kind id entry_record) moved (ap (run_in k.shape (is_of_kind id entry_record)) (sym same) ∙ run)
goes_whole {k = k} image old new id pair true End moved e same run = moved-over image old new (is_of_kind id entry_record) moved (ap (run_in k.shape (is_of_kind id entry_record)) (sym same) ∙ run)
goes_whole image old new id pair true Refused moved e same run = tt

left-moved : {K N : Type 0} {k : keys.Ghosts K} {n : namers.Ghosts N} (image : List ℕ) (old new : Cursor K N k n) (pair : Pair) → Moves image old new true → pair ≡ passed_of new → left_of old image ≡ pair ∷ left_of new image
left-moved image old new pair moved same = ap all_met moved ∙ ap (λ (p : Pair). p ∷ left_of new image) (sym same)

-- what is taken of the record that a cursor moved onto is taken of those that were left
pub takes_next : {K N : Type 0} {k : keys.Ghosts K} {n : namers.Ghosts N} (image : List ℕ) (old new : Cursor K N k n) (names : Names) (keep : Entry → Bool) (id : ℕ) (pair : Pair) (more : Bool) (took : Took) (before after : List Entry) →
    Moves image old new more → more ≡ true → pair ≡ passed_of new → Takes k.shape names keep id pair before after took → TakesNext k.shape names keep id (left_of old image) (left_of new image) before after took
takes_next image old new names keep id pair false took before after moved e same takes = absurd (false≢true e)
takes_next {k = k} image old new names keep id pair true One before after moved e same takes =
    ap (run_entries k.shape names keep id before) (left-moved image old new pair moved same) ∙ takes (left_of new image)
takes_next {k = k} image old new names keep id pair true End before after moved e same takes =
    ap (run_entries k.shape names keep id before) (left-moved image old new pair moved same) ∙ takes (left_of new image)
takes_next {k = k} image old new names keep id pair true Refused before after moved e same takes =
    ap (run_entries k.shape names keep id before) (left-moved image old new pair moved same) ∙ takes (left_of new image)

-- ---- a view by its kind of keys
pub hashed_kind : (image : List ℕ) (site : Site) (volume : Loaded) (view : View) (id kind : ℕ) → are_hashed volume.names ≡ true → HasKindIn volume.names (hashed_tree image site volume view) view.root_oid id kind → HasKind image site volume view id kind
unfolding has_all_records view_flat
hashed_kind image site volume view id kind e h = record {
  whole = ap (λ b. cond b (is_kind_whole (hashed_tree image site volume view) view.root_oid id kind) (is_kind_whole (plain_tree image site volume view) view.root_oid id kind)) e ∙ h.whole;
  read = subst (λ (b : Bool). AreRead volume.names (cond b (flat_of (hashed_tree image site volume view) view.root_oid) (flat_of (plain_tree image site volume view) view.root_oid)) id kind) (sym e) h.read;
}

pub plain_kind : (image : List ℕ) (site : Site) (volume : Loaded) (view : View) (id kind : ℕ) → are_hashed volume.names ≡ false → HasKindIn volume.names (plain_tree image site volume view) view.root_oid id kind → HasKind image site volume view id kind
unfolding has_all_records view_flat
plain_kind image site volume view id kind e h = record {
  whole = ap (λ b. cond b (is_kind_whole (hashed_tree image site volume view) view.root_oid id kind) (is_kind_whole (plain_tree image site volume view) view.root_oid id kind)) e ∙ h.whole;
  read = subst (λ (b : Bool). AreRead volume.names (cond b (flat_of (hashed_tree image site volume view) view.root_oid) (flat_of (plain_tree image site volume view) view.root_oid)) id kind) (sym e) h.read;
}

-- what is needed of a tree, by its kind of keys, is needed of the view
pub needs_hashed : {T : Type 0} (image : List ℕ) (site : Site) (volume : Loaded) (view : View) (needs : Facts → (ℕ → Type 0) → Type 0) (onward : Onward T) → ((facts : Facts) (one other : ℕ → Type 0) → ((id : ℕ) → one id → other id) → needs facts one → needs facts other) → are_hashed volume.names ≡ true →
    (is_ordered fs_shape (line_of (hashed_tree image site volume view) view.root_oid) ≡ true → WhereLed (NeedsIn needs volume.names (hashed_tree image site volume view) view.root_oid) onward) → is_view_ordered image site volume view ≡ true →
    WhereLed (needs (view_facts image site volume view) (HasEntriesOf image site volume view)) onward
needs_hashed image site volume view needs onward mono e led ordered =
    led_as (NeedsIn needs volume.names (hashed_tree image site volume view) view.root_oid) (needs (view_facts image site volume view) (HasEntriesOf image site volume view)) onward
    (λ h. subst (λ (ps : List Pair). needs (facts_in volume.names ps) (HasEntriesOf image site volume view)) (sym (hashed_flat image site volume view e))
    (mono _ (HasEntriesIn volume.names (hashed_tree image site volume view) view.root_oid) (HasEntriesOf image site volume view) (λ id f r. hashed_kind image site volume view id entry_record e (f r)) h))
    (led (hashed_ordered image site volume view e ordered))

pub needs_plain : {T : Type 0} (image : List ℕ) (site : Site) (volume : Loaded) (view : View) (needs : Facts → (ℕ → Type 0) → Type 0) (onward : Onward T) → ((facts : Facts) (one other : ℕ → Type 0) → ((id : ℕ) → one id → other id) → needs facts one → needs facts other) → are_hashed volume.names ≡ false →
    (is_ordered fs_plain_shape (line_of (plain_tree image site volume view) view.root_oid) ≡ true → WhereLed (NeedsIn needs volume.names (plain_tree image site volume view) view.root_oid) onward) → is_view_ordered image site volume view ≡ true →
    WhereLed (needs (view_facts image site volume view) (HasEntriesOf image site volume view)) onward
needs_plain image site volume view needs onward mono e led ordered =
    led_as (NeedsIn needs volume.names (plain_tree image site volume view) view.root_oid) (needs (view_facts image site volume view) (HasEntriesOf image site volume view)) onward
    (λ h. subst (λ (ps : List Pair). needs (facts_in volume.names ps) (HasEntriesOf image site volume view)) (sym (plain_flat image site volume view e))
    (mono _ (HasEntriesIn volume.names (plain_tree image site volume view) view.root_oid) (HasEntriesOf image site volume view) (λ id f r. plain_kind image site volume view id entry_record e (f r)) h))
    (led (plain_ordered image site volume view e ordered))

-- ---- a view all of whose records are there
view-pairs : (image : List ℕ) (site : Site) (volume : Loaded) (view : View) → leaf_pairs (view_line image site volume view) ≡ view_flat image site volume view
unfolding view_line view_flat
view-pairs image site volume view =
    pairs-if (are_hashed volume.names) (line_of (hashed_tree image site volume view) view.root_oid) (line_of (plain_tree image site volume view) view.root_oid) (flat_of (hashed_tree image site volume view) view.root_oid) (flat_of (plain_tree image site volume view) view.root_oid)
    (line-pairs (hashed_tree image site volume view) view.root_oid) (line-pairs (plain_tree image site volume view) view.root_oid)
  where
    pairs-if : (b : Bool) (l m : List Item) (f g : List Pair) → leaf_pairs l ≡ f → leaf_pairs m ≡ g → leaf_pairs (cond b l m) ≡ cond b f g
    pairs-if true l m f g x y = x
    pairs-if false l m f g x y = y

leaf-read : (names : Names) (items : List Item) → HasRecords names items → (pair : Pair) → In pair (leaf_pairs items) → refused names pair ≡ None
unfolding refusal_of
leaf-read names items records pair h =
    let t = from-map (λ (item : Item). item.pair) (filter is_leaf_item items) pair h in
    let leaf : is_leaf_item t.0 ≡ true = filter-test is_leaf_item t.0 items t.1.0 in
    ap (refused names) t.1.1 ∙ (sym (ap (λ b. cond b (refused names t.0.pair) None) leaf) ∙ records t.0 (from-filter is_leaf_item t.0 items t.1.0))

-- where the records of a view's Line can be read, each of them can
pub records_read : (image : List ℕ) (site : Site) (volume : Loaded) (view : View) → HasRecords volume.names (view_line image site volume view) → (pair : Pair) → In pair (view_flat image site volume view) → refused volume.names pair ≡ None
records_read image site volume view records pair one = leaf-read volume.names (view_line image site volume view) records pair (subst (In pair) (sym (view-pairs image site volume view)) one)

whole-records : (image : List ℕ) (site : Site) (volume : Loaded) (view : View) (id kind : ℕ) → is_view_whole image site volume view ≡ true → has_all_records image site volume view id kind ≡ true
unfolding is_view_whole has_all_records
whole-records image site volume view id kind whole =
    by-names (are_hashed volume.names) (is_whole (hashed_tree image site volume view) view.root_oid) (is_whole (plain_tree image site volume view) view.root_oid) _ _
    (λ e. kind_whole (hashed_tree image site volume view) view.root_oid id kind (whole_means (hashed_tree image site volume view) view.root_oid e).walkable)
    (λ e. kind_whole (plain_tree image site volume view) view.root_oid id kind (whole_means (plain_tree image site volume view) view.root_oid e).walkable) whole
  where
    by-names : (b p q r s : Bool) → (p ≡ true → r ≡ true) → (q ≡ true → s ≡ true) → cond b p q ≡ true → cond b r s ≡ true
    by-names true p q r s f g h = f h
    by-names false p q r s f g h = g h

pub all_kinds : (image : List ℕ) (site : Site) (volume : Loaded) (view : View) → HasAll image site volume view → (id kind : ℕ) → HasKind image site volume view id kind
all_kinds image site volume view had id kind = record {
  whole = whole-records image site volume view id kind had.whole;
  read = λ pair one i k. records_read image site volume view had.records pair one;
}

pub all_entries : (image : List ℕ) (site : Site) (volume : Loaded) (view : View) → HasAll image site volume view → (id : ℕ) → HasEntriesOf image site volume view id
all_entries image site volume view had id = λ r. all_kinds image site volume view had id entry_record
