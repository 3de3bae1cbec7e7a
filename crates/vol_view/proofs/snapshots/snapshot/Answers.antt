use Rattle.std.proofs.Common.{◌≡◌, ◌∙◌, refl, ap, subst, inr, true, arith}
use Rattle.std.specs.Prelude.{[], nat_lt, ◌&&◌}
use Rattle.apfs_model.specs.Lists.{In}
use Rattle.vol_view.specs.Fields.{root_oid_of, meta_ext_of}
use Rattle.vol_view.specs.Features.{snapshot_super_features, snapshot_record_features}
use Rattle.vol_view.specs.Heads.{super_in}
use Rattle.vol_view.proofs.LoadSteps.{first-in, first-none, inside-site, tested-super, snapshot-same}
use Rattle.vol_view.proofs.snapshots.snapshot.Goals as goal

pub returns-in-Some-of_snapshot-clause-present : goal.returns-in-Some-of_snapshot-clause-present
returns-in-Some-of_snapshot-clause-present g c image told =
    let site = c.args.site.now in
    let block = c.args.told.now.super_block in
    let has : (nat_lt 0 block && nat_lt block site.blocks) ≡ true = search (arith, c.has_block.ensures, c.if-not-has_block.false) in
    let bytes = c.deref.ensures.value ∙ c.in-Ok.ensures.same image told in
    let feature = c.in-Some-of_snapshot.feature in (
      refl,
      inr (
        inside-site site.blocks block has,
        inr (
          tested-super image site block c.in-Ok.bytes.items (c.in-Ok.ensures.found image told),
          subst (λ bs. In feature (snapshot_super_features bs)) bytes (first-in feature (snapshot_super_features c.deref.result.now) c.in-Some-of_snapshot.ensures),
        ),
      ),
    )

pub returns-clause-clear : goal.returns-clause-clear
returns-clause-clear g c image told =
    let site = c.args.site.now in
    let from = c.args.told.now in
    let block = from.super_block in
    let has : (nat_lt 0 block && nat_lt block site.blocks) ≡ true = search (arith, c.has_block.ensures, c.if-not-has_block.false) in
    let same = c.in-Ok.ensures.same image told in
    let plain : snapshot_super_features c.deref.result.now ≡ [] = first-none (snapshot_super_features c.deref.result.now) c.in-None-of_snapshot.ensures in
    let root : c.root_oid.result ≡ root_oid_of (super_in image site block) = c.root_oid.ensures ∙ ap root_oid_of (c.deref-2.ensures.value ∙ same) in
    let meta : c.meta_ext.result ≡ meta_ext_of (super_in image site block) = c.meta_ext.ensures ∙ ap meta_ext_of (c.deref-3.ensures.value ∙ same) in
    record {
      right = record {
        inside = inside-site site.blocks block has;
        super = tested-super image site block c.in-Ok.bytes.items (c.in-Ok.ensures.found image told);
        unmarked = first-none (snapshot_record_features from.flags) c.in-None.ensures;
        plain = subst (λ bs. snapshot_super_features bs ≡ []) (c.deref.ensures.value ∙ same) plain;
      };
      same = snapshot-same from.xid from.created from.name c.in_ok-name.name block from.extents_root c.root_oid.result c.meta_ext.result _ _ (c.in_ok-name.ensures ∙ c.as_slice.ensures) root meta;
    }

pub returns-clause-present : goal.returns-clause-present
returns-clause-present g c image told = tt
