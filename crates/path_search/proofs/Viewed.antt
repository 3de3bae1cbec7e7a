-- What is answered of a view's tree, by its kind of keys, is answered of the view.
use Rattle.std.proofs.Common.{◌≡◌, ℕ, Bool, true, false, cond, List, Option, Result, Ok, Err, refl, ap, sym, ◌∙◌, subst}
use Rattle.obj_base.specs.declared.site.Site.{Site}
use Rattle.bt_node.specs.Shape.{Shape}
use Rattle.bt_node.specs.Entries.{Pair}
use Rattle.bt_keys.specs.FsTree.{IsFsShape}
use Rattle.bt_keys.specs.Laws.{fs_of_tree}
use Rattle.bt_keys.specs.Shapes.{fs_shape, fs_plain_shape}
use Rattle.bt_cursor.specs.Tree.{Tree, tree_in}
use Rattle.bt_cursor.specs.Flat.{flat_of}
use Rattle.bt_cursor.specs.Line.{line_of}
use Rattle.bt_cursor.specs.WholeTree.{leaf_pairs}
use Rattle.bt_cursor.specs.Order.{is_ordered}
use Rattle.bt_cursor.proofs.Flats.{line-pairs}
use Rattle.fs_name.specs.Normal.{are_hashed}
use Rattle.fs_name.specs.declared.naming.Names.{Names}
use Rattle.fs_record.specs.Facts.{inodes_of, entries_of}
use Rattle.vol_view.specs.Volumes.{Loaded}
use Rattle.vol_view.specs.Views.{view_named, hashed_tree, plain_tree, view_flat, view_line, is_view_ordered}
use Rattle.vol_view.specs.declared.volume.View.{View}
use Rattle.view_rules.specs.Facts.{Facts, facts_in}
use Rattle.view_rules.specs.Rules.{view_facts}
use Rattle.path_search.specs.declared.answer.Answer.{Answer}
use Rattle.path_search.specs.declared.onward.Onward.{Onward}
use Rattle.path_search.specs.declared.onward.Onward.TheVariants.{To, Answered}
use Rattle.path_search.specs.Parts.{Leads, Rises, WhereLed}
use Rattle.path_search.proofs.Searched.{HasKeys, flat_keys}
use Rattle.path_search.proofs.RecordOrder.{entries_rise, inodes_rise}

-- ---- a view by its kind of keys
pub hashed_flat : (image : List ℕ) (site : Site) (volume : Loaded) (view : View) → are_hashed volume.names ≡ true → view_flat image site volume view ≡ flat_of (hashed_tree image site volume view) view.root_oid
unfolding view_flat
hashed_flat image site volume view e = ap (λ b. cond b (flat_of (hashed_tree image site volume view) view.root_oid) (flat_of (plain_tree image site volume view) view.root_oid)) e

pub plain_flat : (image : List ℕ) (site : Site) (volume : Loaded) (view : View) → are_hashed volume.names ≡ false → view_flat image site volume view ≡ flat_of (plain_tree image site volume view) view.root_oid
unfolding view_flat
plain_flat image site volume view e = ap (λ b. cond b (flat_of (hashed_tree image site volume view) view.root_oid) (flat_of (plain_tree image site volume view) view.root_oid)) e

pub hashed_line : (image : List ℕ) (site : Site) (volume : Loaded) (view : View) → are_hashed volume.names ≡ true → view_line image site volume view ≡ line_of (hashed_tree image site volume view) view.root_oid
unfolding view_line
hashed_line image site volume view e = ap (λ b. cond b (line_of (hashed_tree image site volume view) view.root_oid) (line_of (plain_tree image site volume view) view.root_oid)) e

pub plain_line : (image : List ℕ) (site : Site) (volume : Loaded) (view : View) → are_hashed volume.names ≡ false → view_line image site volume view ≡ line_of (plain_tree image site volume view) view.root_oid
unfolding view_line
plain_line image site volume view e = ap (λ b. cond b (line_of (hashed_tree image site volume view) view.root_oid) (line_of (plain_tree image site volume view) view.root_oid)) e

pub hashed_ordered : (image : List ℕ) (site : Site) (volume : Loaded) (view : View) → are_hashed volume.names ≡ true → is_view_ordered image site volume view ≡ true → is_ordered fs_shape (line_of (hashed_tree image site volume view) view.root_oid) ≡ true
hashed_ordered image site volume view e ordered =
    let line = view_line image site volume view in
    ap (is_ordered fs_shape) (sym (hashed_line image site volume view e)) ∙ (sym (ap (λ b. cond b (is_ordered fs_shape line) (is_ordered fs_plain_shape line)) e) ∙ ordered)

pub plain_ordered : (image : List ℕ) (site : Site) (volume : Loaded) (view : View) → are_hashed volume.names ≡ false → is_view_ordered image site volume view ≡ true → is_ordered fs_plain_shape (line_of (plain_tree image site volume view) view.root_oid) ≡ true
plain_ordered image site volume view e ordered =
    let line = view_line image site volume view in
    ap (is_ordered fs_plain_shape) (sym (plain_line image site volume view e)) ∙ (sym (ap (λ b. cond b (is_ordered fs_shape line) (is_ordered fs_plain_shape line)) e) ∙ ordered)

pub leads_to : {T U : Type 0} (shows : T → U) (wanted : Result U Answer) (onward : Onward T) (x : T) → onward ≡ To x → Leads shows wanted onward → wanted ≡ Ok (shows x)
leads_to {T} shows wanted onward x e leads = subst (λ (o : Onward T). Leads shows wanted o) e leads

pub leads_err : {T U : Type 0} (shows : T → U) (wanted : Result U Answer) (onward : Onward T) (a : Answer) → onward ≡ Answered a → Leads shows wanted onward → wanted ≡ Err a
leads_err {T} shows wanted onward a e leads = subst (λ (o : Onward T). Leads shows wanted o) e leads

pub led_to : {T : Type 0} (P : Type 0) (onward : Onward T) (x : T) → onward ≡ To x → WhereLed P onward → P
led_to {T} P onward x e led = subst (λ (o : Onward T). WhereLed P o) e led

pub led_err : {T : Type 0} (P : Type 0) (onward : Onward T) (a : Answer) → onward ≡ Answered a → WhereLed P onward → P
led_err {T} P onward a e led = subst (λ (o : Onward T). WhereLed P o) e led

-- what is answered by searches in a view's tree, by its kind of keys, is answered of the view
pub leads_hashed : {T U : Type 0} (image : List ℕ) (site : Site) (volume : Loaded) (view : View) (shows : T → U) (wanted : Facts → Result U Answer) (onward : Onward T) → are_hashed volume.names ≡ true →
    (is_ordered fs_shape (line_of (hashed_tree image site volume view) view.root_oid) ≡ true → Leads shows (wanted (facts_in volume.names (flat_of (hashed_tree image site volume view) view.root_oid))) onward) → is_view_ordered image site volume view ≡ true → Leads shows (wanted (view_facts image site volume view)) onward
leads_hashed image site volume view shows wanted onward e leads ordered =
    subst (λ (ps : List Pair). Leads shows (wanted (facts_in volume.names ps)) onward) (sym (hashed_flat image site volume view e)) (leads (hashed_ordered image site volume view e ordered))

pub leads_plain : {T U : Type 0} (image : List ℕ) (site : Site) (volume : Loaded) (view : View) (shows : T → U) (wanted : Facts → Result U Answer) (onward : Onward T) → are_hashed volume.names ≡ false →
    (is_ordered fs_plain_shape (line_of (plain_tree image site volume view) view.root_oid) ≡ true → Leads shows (wanted (facts_in volume.names (flat_of (plain_tree image site volume view) view.root_oid))) onward) → is_view_ordered image site volume view ≡ true → Leads shows (wanted (view_facts image site volume view)) onward
leads_plain image site volume view shows wanted onward e leads ordered =
    subst (λ (ps : List Pair). Leads shows (wanted (facts_in volume.names ps)) onward) (sym (plain_flat image site volume view e)) (leads (plain_ordered image site volume view e ordered))

-- the entries and the inodes of a view in order stand by ids that don't fall
DoRise : Names → List Pair → Type 0
DoRise names pairs = Rises (entries_of names pairs) × Rises (inodes_of pairs)

tree-rises : {K : Type 0} (hashed : Bool) (shape : Shape K) → IsFsShape hashed shape → (site : Site) (named : ℕ → Option ℕ) (image : List ℕ) (root : ℕ) (names : Names) → is_ordered shape (line_of (tree_in shape site named image) root) ≡ true → DoRise names (flat_of (tree_in shape site named image) root)
unfolding DoRise
tree-rises {K} hashed shape law site named image root names ordered =
    let tree : Tree K = tree_in shape site named image in
    let pairs : leaf_pairs (line_of tree root) ≡ flat_of tree root = line-pairs tree root in
    let keys : HasKeys shape (leaf_pairs (line_of tree root)) = subst (λ (ps : List Pair). HasKeys shape ps) (sym pairs) (flat_keys shape site named image root) in (
      subst (λ (ps : List Pair). Rises (entries_of names ps)) pairs (entries_rise hashed shape law names (line_of tree root) keys ordered),
      subst (λ (ps : List Pair). Rises (inodes_of ps)) pairs (inodes_rise hashed shape law (line_of tree root) keys ordered),
    )

pub view_rises : (image : List ℕ) (site : Site) (volume : Loaded) (view : View) → is_view_ordered image site volume view ≡ true → Rises (view_facts image site volume view).entries × Rises (view_facts image site volume view).inodes
unfolding DoRise
view_rises image site volume view ordered =
    let go : (b : Bool) → are_hashed volume.names ≡ b → DoRise volume.names (view_flat image site volume view) = λ b. elim b as (λ b. are_hashed volume.names ≡ b → DoRise volume.names (view_flat image site volume view)) [
      | true ↦ λ e. subst (DoRise volume.names) (sym (hashed_flat image site volume view e)) (tree-rises true fs_shape (fs_of_tree true) site (view_named site volume view) image view.root_oid volume.names (hashed_ordered image site volume view e ordered))
      | false ↦ λ e. subst (DoRise volume.names) (sym (plain_flat image site volume view e)) (tree-rises false fs_plain_shape (fs_of_tree false) site (view_named site volume view) image view.root_oid volume.names (plain_ordered image site volume view e ordered))
    ] in
    go (are_hashed volume.names) refl
