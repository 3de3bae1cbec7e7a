use Rattle.std.proofs.Common.{◌≡◌, ◌∙◌, ap, subst, refl, Some}
use Rattle.apfs_model.specs.Blocks.{in_container}
use Rattle.omap_map.specs.Fields.{tree_of, snap_tree_of, snap_count_of}
use Rattle.omap_map.specs.Records.{records_of}
use Rattle.omap_map.specs.Maps.{Contents, record_tree}
use Rattle.omap_map.specs.Gathered.{IsTree, HasSnapshots}
use Rattle.omap_map.proofs.Loads.{block_inside, object-tells, object-means, records-stop, snapshots-stop, IsObject, parts-loaded, parts-few, whole-free}
use Rattle.omap_map.proofs.omap.Omap.load.Goals as goal

pub returns-in-Err-clause-present : goal.returns-in-Err-clause-present
returns-in-Err-clause-present g c image told =
    let site = c.args.site.now in
    object-tells image site c.args.block c.in-Err.stop (block_inside site.blocks c.args.block c.requires.above c.requires.below) (c.in-Err.ensures.found image told)

pub returns-in-Err-records-clause-present : goal.returns-in-Err-records-clause-present
returns-in-Err-records-clause-present g c image told =
    let block = c.args.block in
    let site = c.args.site.now in
    let inside : in_container site.blocks block ≡ Some block = block_inside site.blocks block c.requires.above c.requires.below in
    let object : IsObject image site block c.in-Ok.bytes.items = object-means image site block c.in-Ok.bytes.items inside (c.in-Ok.ensures.found image told) in
    records-stop image site block c.in-Ok.bytes.items c.tree-root.result c.in-Err-records.stop object (c.tree-root.ensures ∙ ap tree_of c.deref.ensures.value)
    (c.in-Err-records.ensures.present image (c.in-Ok.ensures.kept.same_bytes ∙ told))

pub returns-in-Err-snapshots_if-clause-present : goal.returns-in-Err-snapshots_if-clause-present
returns-in-Err-snapshots_if-clause-present g c image told =
    let block = c.args.block in
    let site = c.args.site.now in
    let inside : in_container site.blocks block ≡ Some block = block_inside site.blocks block c.requires.above c.requires.below in
    let object : IsObject image site block c.in-Ok.bytes.items = object-means image site block c.in-Ok.bytes.items inside (c.in-Ok.ensures.found image told) in
    snapshots-stop image site block c.in-Ok.bytes.items c.snap_tree-snap_root.result c.in-Err-snapshots_if.stop object (c.snap_tree-snap_root.ensures ∙ ap snap_tree_of c.deref-2.ensures.value)
    (c.in-Err-snapshots_if.ensures.present image (c.in-Ok-records.ensures.kept.same_bytes ∙ (c.in-Ok.ensures.kept.same_bytes ∙ told)))

pub returns-clause-clear : goal.returns-clause-clear
returns-clause-clear g c image told =
    let block = c.args.block in
    let site = c.args.site.now in
    let reads = g.S.BlockSource.reads in
    let bytes = c.in-Ok.bytes.items in
    let contents : Contents = record { records = c.in-Ok-records.kept.records.items; snapshots = c.in-Ok-snapshots_if.snapped.snapshots.items; snap_count = c.snap_count.result; block = block; tree = c.tree-root.result; snap_tree = c.snap_tree-snap_root.result; steps = c.in-Ok-records.kept.steps.items; snap_steps = c.in-Ok-snapshots_if.snapped.steps.items } in
    let inside : in_container site.blocks block ≡ Some block = block_inside site.blocks block c.requires.above c.requires.below in
    let told1 : g.S.BlockSource.bytes c.object.new.src ≡ Some image = c.in-Ok.ensures.kept.same_bytes ∙ told in
    let told2 : g.S.BlockSource.bytes c.records.new.src ≡ Some image = c.in-Ok-records.ensures.kept.same_bytes ∙ told1 in
    let root = c.tree-root.ensures ∙ ap tree_of c.deref.ensures.value in
    let snap_root = c.snap_tree-snap_root.ensures ∙ ap snap_tree_of c.deref-2.ensures.value in
    parts-loaded image site block contents (reads c.args.src.now) (reads c.object.new.src) (reads c.records.new.src) (reads c.snapshots_if.new.src) (record {
      bytes = bytes;
      object = object-means image site block bytes inside (c.in-Ok.ensures.found image told);
      records = subst (λ root. IsTree records_of (record_tree image site) root contents.records c.in-Ok-records.kept.steps.items (reads c.object.new.src) (reads c.records.new.src)) root (c.in-Ok-records.ensures.clear image told1);
      snapshots = subst (λ root. HasSnapshots image site root contents.snapshots c.in-Ok-snapshots_if.snapped.steps.items (reads c.records.new.src) (reads c.snapshots_if.new.src)) snap_root (c.in-Ok-snapshots_if.ensures.clear image told2);
      count = c.snap_count.ensures ∙ ap snap_count_of c.deref-3.ensures.value;
      block_is = refl;
      tree_is = root;
      snap_tree_is = snap_root;
    })

pub returns-clause-reads : goal.returns-clause-reads
returns-clause-reads g c image told =
    let block = c.args.block in
    let site = c.args.site.now in
    let reads = g.S.BlockSource.reads in
    let bytes = c.in-Ok.bytes.items in
    let contents : Contents = record { records = c.in-Ok-records.kept.records.items; snapshots = c.in-Ok-snapshots_if.snapped.snapshots.items; snap_count = c.snap_count.result; block = block; tree = c.tree-root.result; snap_tree = c.snap_tree-snap_root.result; steps = c.in-Ok-records.kept.steps.items; snap_steps = c.in-Ok-snapshots_if.snapped.steps.items } in
    let inside : in_container site.blocks block ≡ Some block = block_inside site.blocks block c.requires.above c.requires.below in
    let told1 : g.S.BlockSource.bytes c.object.new.src ≡ Some image = c.in-Ok.ensures.kept.same_bytes ∙ told in
    let told2 : g.S.BlockSource.bytes c.records.new.src ≡ Some image = c.in-Ok-records.ensures.kept.same_bytes ∙ told1 in
    let root = c.tree-root.ensures ∙ ap tree_of c.deref.ensures.value in
    let snap_root = c.snap_tree-snap_root.ensures ∙ ap snap_tree_of c.deref-2.ensures.value in
    parts-few image site block contents (reads c.args.src.now) (reads c.object.new.src) (reads c.records.new.src) (reads c.snapshots_if.new.src) c.in-Ok.ensures.reads (record {
      bytes = bytes;
      object = object-means image site block bytes inside (c.in-Ok.ensures.found image told);
      records = subst (λ root. IsTree records_of (record_tree image site) root contents.records c.in-Ok-records.kept.steps.items (reads c.object.new.src) (reads c.records.new.src)) root (c.in-Ok-records.ensures.clear image told1);
      snapshots = subst (λ root. HasSnapshots image site root contents.snapshots c.in-Ok-snapshots_if.snapped.steps.items (reads c.records.new.src) (reads c.snapshots_if.new.src)) snap_root (c.in-Ok-snapshots_if.ensures.clear image told2);
      count = c.snap_count.ensures ∙ ap snap_count_of c.deref-3.ensures.value;
      block_is = refl;
      tree_is = root;
      snap_tree_is = snap_root;
    })

pub returns-in-Err-clause-exact : goal.returns-in-Err-clause-exact
returns-in-Err-clause-exact g c image told whole settled = whole-free image c.args.site.now c.args.block c.in-Err.stop whole settled (returns-in-Err-clause-present g c image told)

pub returns-in-Err-records-clause-exact : goal.returns-in-Err-records-clause-exact
returns-in-Err-records-clause-exact g c image told whole settled = whole-free image c.args.site.now c.args.block c.in-Err-records.stop whole settled (returns-in-Err-records-clause-present g c image told)

pub returns-in-Err-snapshots_if-clause-exact : goal.returns-in-Err-snapshots_if-clause-exact
returns-in-Err-snapshots_if-clause-exact g c image told whole settled = whole-free image c.args.site.now c.args.block c.in-Err-snapshots_if.stop whole settled (returns-in-Err-snapshots_if-clause-present g c image told)
