use Rattle.std.proofs.Common.{◌≡◌, ◌∙◌, ◌+◌, ◌≤◌, ℕ, Some, true, List, [], length, ap, sym, subst, arith}
use Rattle.std.specs.Prelude.{Option, IfSome}
use Rattle.bt_keys.specs.Shapes.{fs_shape}
use Rattle.bt_node.specs.declared.node.NodeAt.{NodeAt}
use Rattle.bt_cursor.specs.Tree.{tree_in}
use Rattle.bt_cursor.specs.Met.{nodes_of}
use Rattle.fs_name.specs.Normal.{are_hashed}
use Rattle.omap_map.specs.Maps.{Contents}
use Rattle.omap_map.specs.Resolve.{named_by}
use Rattle.vol_view.specs.Volumes.{Loaded}
use Rattle.view_rules.specs.Facts.{Facts}
use Rattle.view_facts.proofs.Walks.{nodes-hashed}
use Rattle.view_change.specs.declared.leaf.Leaf.{Leaf}
use Rattle.view_change.specs.declared.changing.Changing.{Changing}
use Rattle.view_change.specs.Kept.{facts_of, leaves_of}
use Rattle.view_change.specs.Shared.{StayInOrder, ShareLeaves, IsWithin}
use Rattle.view_change.specs.Changing.{leaves_left, HasChanged, HasDifference}
use Rattle.view_change.specs.Difference.{view_places, view_leaves, new_nodes}
use Rattle.view_change.specs.Walked.{IsTaken}
use Rattle.view_change.proofs.Passes.{at-some}
use Rattle.view_change.proofs.Differs.{kept-view, kept-names, places-within, begins-so}
use Rattle.view_change.proofs.differing.difference.Goals.{After-walk_leaves}
use Rattle.view_change.proofs.differing.difference.Goals as goal

pub returns-clause-after : goal.returns-clause-after
returns-clause-after g c image leaves told had =
    let site = c.args.site.now in
    let volume = c.args.volume.now in
    let view = c.args.view.now in
    let start = c.new-changing.result in
    let holds : List Leaf → Type 0 = λ ls. HasChanged fs_shape site image ls start c.in-Some.changing in
    let same : c.volume.inside.omap ≡ volume.omap = ap (λ (v : Loaded). v.omap) c.volume.view_is in
    let hashed : are_hashed volume.names ≡ true = ap (λ (v : Loaded). are_hashed v.names) (sym c.volume.view_is) ∙ (sym c.are_hashed.ensures ∙ c.if-not-are_hashed.false) in
    let found = subst (λ (o : Option Changing). IfSome o (λ changing. IsTaken fs_shape site (λ oid. named_by c.volume.inside.omap.records view.xid site.blocks oid) image view.root_oid (λ ls. HasChanged fs_shape site image ls start changing))) c.in-Some.is
    (c.in_ok-changing.ensures.clear start image told (c.new-changing.ensures.begun site image volume.names leaves had)) in
    let taken = subst (λ (o : Contents). IsTaken fs_shape site (λ oid. named_by o.records view.xid site.blocks oid) image view.root_oid holds) same found in
    kept-view image site volume view _ c.in_ok-finish.field-0 holds hashed (ap (λ (f : Facts). f.names) c.new-changing.ensures.before ∙ kept-names image site volume.names leaves c.args.before had) taken
    (c.in_ok-finish.ensures start site image taken.leaves taken.held)

pub returns-clause-differs : goal.returns-clause-differs
returns-clause-differs g c image leaves told had =
    let site = c.args.site.now in
    let volume = c.args.volume.now in
    let view = c.args.view.now in
    let start = c.new-changing.result in
    let taken = subst (λ (o : Option Changing). IfSome o (λ changing. IsTaken fs_shape site (λ oid. named_by c.volume.inside.omap.records view.xid site.blocks oid) image view.root_oid (λ ls. HasChanged fs_shape site image ls start changing))) c.in-Some.is
    (c.in_ok-changing.ensures.clear start image told (c.new-changing.ensures.begun site image volume.names leaves had)) in
    let changed = c.in_ok-finish.field-0 in
    subst (λ (f : Facts). IfSome changed.change (HasDifference f (facts_of changed.after))) c.new-changing.ensures.before (c.in_ok-finish.ensures start site image taken.leaves taken.held).change

pub returns-clause-reads : goal.returns-clause-reads
returns-clause-reads g c image leaves told had =
    let site = c.args.site.now in
    let volume = c.args.volume.now in
    let view = c.args.view.now in
    let reads = g.S.BlockSource.reads in
    let within : List NodeAt → Type 0 = λ ns. reads c.walk_leaves.new.src ≤ reads c.args.src.now + length ns in
    let same : c.volume.inside.omap ≡ volume.omap = ap (λ (v : Loaded). v.omap) c.volume.view_is in
    let hashed : are_hashed volume.names ≡ true = ap (λ (v : Loaded). are_hashed v.names) (sym c.volume.view_is) ∙ (sym c.are_hashed.ensures ∙ c.if-not-are_hashed.false) in
    let few = subst (λ (o : Option Changing). IfSome o (λ changing. within (nodes_of (tree_in fs_shape site (λ oid. named_by c.volume.inside.omap.records view.xid site.blocks oid) image) view.root_oid))) c.in-Some.is
    (c.in_ok-changing.ensures.reads c.new-changing.result image told (c.new-changing.ensures.begun site image volume.names leaves had)) in
    subst within (sym (nodes-hashed image site volume view hashed)) (subst (λ (o : Contents). within (nodes_of (tree_in fs_shape site (λ oid. named_by o.records view.xid site.blocks oid) image) view.root_oid)) same few)

-- no more is read than the view has places
few-met : (g : _) (c : After-walk_leaves g) (image : List ℕ) → g.S.BlockSource.bytes c.args.src.now ≡ Some image →
    g.S.BlockSource.reads c.walk_leaves.new.src ≤ g.S.BlockSource.reads c.args.src.now + length (view_places image c.args.site.now c.args.volume.now c.args.view.now)
few-met g c image told =
    let volume = c.args.volume.now in
    let same : c.volume.inside.omap ≡ volume.omap = ap (λ (v : Loaded). v.omap) c.volume.view_is in
    let hashed : are_hashed volume.names ≡ true = ap (λ (v : Loaded). are_hashed v.names) (sym c.volume.view_is) ∙ (sym c.are_hashed.ensures ∙ c.if-not-are_hashed.false) in
    places-within image c.args.site.now volume c.args.view.now c.volume.inside.omap (g.S.BlockSource.reads c.args.src.now) (g.S.BlockSource.reads c.walk_leaves.new.src) same hashed (c.walk_leaves.ensures.reads_met image told)

pub returns-in_default-clause-reads_met : goal.returns-in_default-clause-reads_met
returns-in_default-clause-reads_met g c = few-met g (goal.at.returns-in_default-clause-reads_met g c).After-walk_leaves

pub returns-in_err-changing-clause-reads_met : goal.returns-in_err-changing-clause-reads_met
returns-in_err-changing-clause-reads_met g c = few-met g (goal.at.returns-in_err-changing-clause-reads_met g c).After-walk_leaves

pub returns-in_err-finish-clause-reads_met : goal.returns-in_err-finish-clause-reads_met
returns-in_err-finish-clause-reads_met g c = few-met g (goal.at.returns-in_err-finish-clause-reads_met g c).After-walk_leaves

pub returns-clause-reads_met : goal.returns-clause-reads_met
returns-clause-reads_met g c = few-met g (goal.at.returns-clause-reads_met g c).After-walk_leaves

pub returns-clause-reads_new : goal.returns-clause-reads_new
returns-clause-reads_new g c image told shares =
    let site = c.args.site.now in
    let volume = c.args.volume.now in
    let view = c.args.view.now in
    let reads = g.S.BlockSource.reads in
    let before = leaves_of c.args.before in
    let limit = reads c.args.src.now + new_nodes image site volume view before in
    let same : c.volume.inside.omap ≡ volume.omap = ap (λ (v : Loaded). v.omap) c.volume.view_is in
    let hashed : are_hashed volume.names ≡ true = ap (λ (v : Loaded). are_hashed v.names) (sym c.volume.view_is) ∙ (sym c.are_hashed.ensures ∙ c.if-not-are_hashed.false) in
    let begins = begins-so image site volume view c.volume.inside.omap (leaves_left c.new-changing.result) (reads c.args.src.now) limit same hashed
    (subst (λ (ls : List Leaf). ShareLeaves ls (view_leaves image site volume view)) (sym c.new-changing.ensures.leaves) shares)
    (ap (λ (ls : List Leaf). reads c.args.src.now + new_nodes image site volume view ls) (sym c.new-changing.ensures.leaves)) in
    let ends = at-some c.in_ok-changing.field-0 c.in-Some.changing (λ (now : Changing). StayInOrder (leaves_left now) [] × IsWithin (leaves_left now) [] (reads c.walk_leaves.new.src) limit) c.in-Some.is (c.in_ok-changing.ensures.reads_new image limit told begins) in
    omega (arith, ends.1)
