-- A view has its rules, or a fault of it or a feature of its tree is there; and where it has its rules, no fault is there.
use Rattle.std.proofs.Common.{◌≡◌, ℕ, List, Some, None, ◌⊎◌, inl, inr, refl, sym, ◌∙◌}
use Rattle.std.proofs.lemmas.Bool.{false≢true}
use Rattle.obj_base.specs.declared.stop.Feature.{Feature}
use Rattle.obj_base.specs.declared.site.Site.{Site}
use Rattle.bt_cursor.specs.declared.fault.WalkFault.{WalkFault}
use Rattle.bt_cursor.specs.declared.fault.WalkFault.TheVariants as walks
use Rattle.fs_record.specs.Facts.{root_id}
use Rattle.vol_view.specs.Volumes.{Loaded}
use Rattle.vol_view.specs.Views.{view_line, IsViewFault, IsViewFeature}
use Rattle.vol_view.specs.declared.volume.View.{View}
use Rattle.ext_ref.specs.declared.range.NewRange.{NewRange}
use Rattle.view_rules.specs.Facts.{Facts, id_of_fact}
use Rattle.view_rules.specs.Names.{entry_place, attribute_place, is_entry_repeated, is_attribute_repeated, has_other_ascii_hash, has_other_name_hash, HasNameHashes, IsNameHash}
use Rattle.view_rules.specs.Entries.{lacks_parent, lacks_inode, has_other_kind}
use Rattle.view_rules.specs.Directories.{is_misnamed}
use Rattle.view_rules.specs.Counts.{has_other_children, has_other_links}
use Rattle.view_rules.specs.Siblings.{link_place, file_place, is_link_lost, is_map_lost, is_unmarked}
use Rattle.view_rules.specs.Extents.{is_disordered, is_misplaced, is_uncovered}
use Rattle.view_rules.specs.Inodes.{lacks_target, has_large_stream, has_large_body, lacks_owner}
use Rattle.view_rules.specs.Rules.{view_facts, HasTreeRules, IsTreeFault}
use Rattle.view_rules.specs.Listed.{raised}
use Rattle.view_rules.specs.Laws.{IsFlawed}
use Rattle.view_rules.specs.declared.fault.IdAt.{IdAt}
use Rattle.view_rules.specs.declared.fault.NamedAt.{NamedAt}
use Rattle.view_rules.specs.declared.fault.TreeFault.{TreeFault}
use Rattle.view_rules.specs.declared.fault.TreeFault.TheVariants.{Unsound, Unnamed, Order, Counts, Record, DupName, Hash, NoParent, NoInode, KindMismatch, DirNames, Unreached, Children, Links, SiblingLost, ExtentOrder, ExtentPlace, ExtentUncovered, LinkTarget, Stream, AttrOwner, NameHash}
use Rattle.view_rules.specs.declared.profile.Profile.{Profile}
use Rattle.view_rules.specs.declared.profile.Profile.TheVariants.{Plain, Strict}
use Rattle.view_rules.proofs.Searches.{clear_or, broken-clear}
use Rattle.view_rules.proofs.Clears.{root_or, root_name_or, ways_or, unreached-ways, entry_fellows_or}
use Rattle.view_rules.proofs.Trees.{InView, view_or, view-clear, featureless, records_or, record-records}

-- one part holds and the search goes on, or what is there ends it
then_or : {A B F G : Type 0} → A ⊎ F → (F → G) → (A → B ⊎ G) → B ⊎ G
then_or (inl x) found next = next x
then_or (inr f) found next = inr (found f)

-- what a walk names is a fault of the view
walked : (profile : Profile) (image : List ℕ) (site : Site) (volume : Loaded) (view : View) (ranges : List NewRange) (fault : WalkFault) → IsViewFault image site volume view fault → IsTreeFault profile image site volume view ranges (raised view fault)
walked profile image site volume view ranges (walks.Unsound block why) there = there
walked profile image site volume view ranges (walks.Unnamed oid) there = ((refl, refl), there)
walked profile image site volume view ranges (walks.Order item) there = ((refl, refl), there)
walked profile image site volume view ranges walks.Counts there = ((refl, refl), there)

seen : (profile : Profile) (image : List ℕ) (site : Site) (volume : Loaded) (view : View) (ranges : List NewRange) → InView image site volume view → IsFlawed profile image site volume view ranges
seen profile image site volume view ranges (inl t) = inl (raised view t.0, walked profile image site volume view ranges t.0 t.1)
seen profile image site volume view ranges (inr t) = inr t

-- under Strict each name's hash is right, or one isn't
hashes_or : (profile : Profile) (facts : Facts) → (profile ≡ Strict → HasNameHashes facts) ⊎ ((place : ℕ × List ℕ) × (profile ≡ Strict) × IsNameHash facts place.0 place.1)
hashes_or Plain facts = inl (λ e. absurd cc)
hashes_or Strict facts = elim (clear_or (has_other_name_hash facts) entry_place facts.entries) as (λ _. (Strict ≡ Strict → HasNameHashes facts) ⊎ ((place : ℕ × List ℕ) × (Strict ≡ Strict) × IsNameHash facts place.0 place.1)) [ inl all ↦ inl (λ _. all) | inr t ↦ inr (t.0, refl, t.1) ]

pub decided : (profile : Profile) (image : List ℕ) (site : Site) (volume : Loaded) (view : View) (ranges : List NewRange) → HasTreeRules profile image site volume view ranges ⊎ IsFlawed profile image site volume view ranges
decided profile image site volume view ranges =
    let facts : Facts = view_facts image site volume view in
    let at : ℕ → IdAt = λ id. record { slot = view.slot; xid = view.xid; id = id } in
    let named : ℕ × List ℕ → NamedAt = λ place. record { slot = view.slot; xid = view.xid; id = place.0; name = place.1 } in
    let fault : (f : TreeFault) → IsTreeFault profile image site volume view ranges f → IsFlawed profile image site volume view ranges = λ f there. inl (f, there) in
    then_or (view_or image site volume view) (seen profile image site volume view ranges) (λ parts.
    then_or (records_or volume.names (view_line image site volume view)) (λ t. fault (Record view.slot view.xid t.0 t.1) ((refl, refl), t.2)) (λ records.
    then_or (clear_or (is_entry_repeated facts) entry_place facts.entries) (λ t. fault (DupName (named t.0)) ((refl, refl), inl t.1)) (λ entry_names.
    then_or (clear_or (is_attribute_repeated facts) attribute_place facts.attributes) (λ t. fault (DupName (named t.0)) ((refl, refl), inr t.1)) (λ attribute_names.
    then_or (clear_or (has_other_ascii_hash facts) entry_place facts.entries) (λ t. fault (Hash (named t.0)) ((refl, refl), t.1)) (λ ascii_hashes.
    then_or (clear_or (lacks_parent facts) entry_place facts.entries) (λ t. fault (NoParent (named t.0)) ((refl, refl), t.1)) (λ parents.
    then_or (clear_or (lacks_inode facts) entry_place facts.entries) (λ t. fault (NoInode view.slot view.xid t.0.0 (Some t.0.1)) ((refl, refl), t.1)) (λ files.
    then_or (root_or facts) (λ t. fault (NoInode view.slot view.xid root_id None) ((refl, refl), t)) (λ root.
    then_or (clear_or (has_other_kind facts) entry_place facts.entries) (λ t. fault (KindMismatch (named t.0)) ((refl, refl), t.1)) (λ kinds.
    then_or (clear_or (is_misnamed facts) id_of_fact facts.inodes) (λ t. fault (DirNames (at t.0)) ((refl, refl), inl t.1)) (λ directory_names.
    then_or (root_name_or facts) (λ t. fault (DirNames (at root_id)) ((refl, refl), inr (refl, t))) (λ root_name.
    then_or (ways_or facts) (λ t. fault (Unreached (at t.0)) ((refl, refl), t.1)) (λ ways.
    then_or (clear_or (has_other_children facts) id_of_fact facts.inodes) (λ t. fault (Children (at t.0)) ((refl, refl), t.1)) (λ children.
    then_or (clear_or (has_other_links facts) id_of_fact facts.inodes) (λ t. fault (Links (at t.0)) ((refl, refl), t.1)) (λ links.
    then_or (entry_fellows_or facts) (λ t. fault (SiblingLost (at t.0)) ((refl, refl), inl t.1)) (λ entry_fellows.
    then_or (clear_or (is_link_lost facts) link_place facts.links) (λ t. fault (SiblingLost (at t.0)) ((refl, refl), inr (inl t.1))) (λ link_fellows.
    then_or (clear_or (is_map_lost facts) id_of_fact facts.siblings) (λ t. fault (SiblingLost (at t.0)) ((refl, refl), inr (inr (inl t.1)))) (λ map_fellows.
    then_or (clear_or (is_unmarked facts) file_place facts.entries) (λ t. fault (SiblingLost (at t.0)) ((refl, refl), inr (inr (inr t.1)))) (λ marks.
    then_or (clear_or (is_disordered site.block_size facts) id_of_fact facts.extents) (λ t. fault (ExtentOrder (at t.0)) ((refl, refl), t.1)) (λ extent_order.
    then_or (clear_or (is_misplaced site.block_size site.blocks) id_of_fact facts.extents) (λ t. fault (ExtentPlace (at t.0)) ((refl, refl), t.1)) (λ extent_places.
    then_or (clear_or (is_uncovered site.block_size ranges) id_of_fact facts.extents) (λ t. fault (ExtentUncovered (at t.0)) ((refl, refl), t.1)) (λ cover.
    then_or (clear_or (lacks_target facts) id_of_fact facts.inodes) (λ t. fault (LinkTarget (at t.0)) ((refl, refl), t.1)) (λ targets.
    then_or (clear_or has_large_stream id_of_fact facts.inodes) (λ t. fault (Stream (at t.0)) ((refl, refl), inl t.1)) (λ stream_sizes.
    then_or (clear_or has_large_body id_of_fact facts.attributes) (λ t. fault (Stream (at t.0)) ((refl, refl), inr t.1)) (λ body_sizes.
    then_or (clear_or (lacks_owner facts) id_of_fact facts.attributes) (λ t. fault (AttrOwner (at t.0)) ((refl, refl), t.1)) (λ owners.
    then_or (hashes_or profile facts) (λ t. fault (NameHash (named t.0)) ((refl, refl), t.1, t.2)) (λ name_hashes.
    inl (record {
      walkable = parts.0;
      ordered = parts.1;
      counted = parts.2;
      records = records;
      facts = record {
        entry_names = entry_names;
        attribute_names = attribute_names;
        ascii_hashes = ascii_hashes;
        parents = parents;
        files = files;
        root = root;
        kinds = kinds;
        directory_names = directory_names;
        root_name = root_name;
        ways = ways;
        children = children;
        links = links;
        entry_fellows = entry_fellows;
        link_fellows = link_fellows;
        map_fellows = map_fellows;
        marks = marks;
        extent_order = extent_order;
        extent_places = extent_places;
        cover = cover;
        targets = targets;
        stream_sizes = stream_sizes;
        body_sizes = body_sizes;
        owners = owners;
        name_hashes = name_hashes;
      };
    })))))))))))))))))))))))))))

pub refutes : (profile : Profile) (image : List ℕ) (site : Site) (volume : Loaded) (view : View) (ranges : List NewRange) (fault : TreeFault) → IsTreeFault profile image site volume view ranges fault → HasTreeRules profile image site volume view ranges → ⊥
refutes profile image site volume view ranges (Unsound block why) there has = view-clear image site volume view (walks.Unsound block why) there (has.walkable, has.ordered, has.counted)
refutes profile image site volume view ranges (Unnamed slot oid xid) (_, there) has = view-clear image site volume view (walks.Unnamed oid) there (has.walkable, has.ordered, has.counted)
refutes profile image site volume view ranges (Order slot xid item) (_, there) has = view-clear image site volume view (walks.Order item) there (has.walkable, has.ordered, has.counted)
refutes profile image site volume view ranges (Counts slot xid) (_, there) has = view-clear image site volume view walks.Counts there (has.walkable, has.ordered, has.counted)
refutes profile image site volume view ranges (Record slot xid item why) (_, there) has = record-records volume.names (view_line image site volume view) item why there has.records
refutes profile image site volume view ranges (DupName at) (_, inl there) has = broken-clear there has.facts.entry_names
refutes profile image site volume view ranges (DupName at) (_, inr there) has = broken-clear there has.facts.attribute_names
refutes profile image site volume view ranges (Hash at) (_, there) has = broken-clear there has.facts.ascii_hashes
refutes profile image site volume view ranges (NoParent at) (_, there) has = broken-clear there has.facts.parents
refutes profile image site volume view ranges (NoInode slot xid id (Some name)) (_, there) has = broken-clear there has.facts.files
refutes profile image site volume view ranges (NoInode slot xid id None) (_, there) has = false≢true (sym there.1 ∙ has.facts.root)
refutes profile image site volume view ranges (KindMismatch at) (_, there) has = broken-clear there has.facts.kinds
refutes profile image site volume view ranges (DirNames at) (_, inl there) has = broken-clear there has.facts.directory_names
refutes profile image site volume view ranges (DirNames at) (_, inr there) has = false≢true (sym has.facts.root_name ∙ there.1)
refutes profile image site volume view ranges (Unreached at) (_, there) has = unreached-ways (view_facts image site volume view) at.id there has.facts.ways
refutes profile image site volume view ranges (Children at) (_, there) has = broken-clear there has.facts.children
refutes profile image site volume view ranges (Links at) (_, there) has = broken-clear there has.facts.links
refutes profile image site volume view ranges (SiblingLost at) (_, inl there) has = broken-clear there has.facts.entry_fellows
refutes profile image site volume view ranges (SiblingLost at) (_, inr (inl there)) has = broken-clear there has.facts.link_fellows
refutes profile image site volume view ranges (SiblingLost at) (_, inr (inr (inl there))) has = broken-clear there has.facts.map_fellows
refutes profile image site volume view ranges (SiblingLost at) (_, inr (inr (inr there))) has = broken-clear there has.facts.marks
refutes profile image site volume view ranges (ExtentOrder at) (_, there) has = broken-clear there has.facts.extent_order
refutes profile image site volume view ranges (ExtentPlace at) (_, there) has = broken-clear there has.facts.extent_places
refutes profile image site volume view ranges (ExtentUncovered at) (_, there) has = broken-clear there has.facts.cover
refutes profile image site volume view ranges (LinkTarget at) (_, there) has = broken-clear there has.facts.targets
refutes profile image site volume view ranges (Stream at) (_, inl there) has = broken-clear there has.facts.stream_sizes
refutes profile image site volume view ranges (Stream at) (_, inr there) has = broken-clear there has.facts.body_sizes
refutes profile image site volume view ranges (AttrOwner at) (_, there) has = broken-clear there has.facts.owners
refutes profile image site volume view ranges (NameHash at) (_, strict, there) has = broken-clear there (has.facts.name_hashes strict)

-- and no feature is there either
pub featureless_rules : (profile : Profile) (image : List ℕ) (site : Site) (volume : Loaded) (view : View) (ranges : List NewRange) (feature : Feature) (block : ℕ) → IsViewFeature image site volume view feature block → HasTreeRules profile image site volume view ranges → ⊥
featureless_rules profile image site volume view ranges feature block there has = featureless image site volume view feature block there has.walkable

pub flawed_refutes : (profile : Profile) (image : List ℕ) (site : Site) (volume : Loaded) (view : View) (ranges : List NewRange) → IsFlawed profile image site volume view ranges → HasTreeRules profile image site volume view ranges → ⊥
flawed_refutes profile image site volume view ranges (inl t) has = refutes profile image site volume view ranges t.0 t.1 has
flawed_refutes profile image site volume view ranges (inr t) has = featureless_rules profile image site volume view ranges t.0 t.1 t.2 has
