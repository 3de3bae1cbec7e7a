use Rattle.std.proofs.Common.{◌≡◌, ◌∙◌, ℕ, [], ap, sym, refl, subst}
use Rattle.vol_view.specs.Volumes.{Loaded}
use Rattle.reach_rules.specs.declared.naming.LookUp.TheVariants.{ByBlock}
use Rattle.reach_rules.specs.declared.naming.Namer.{Namer}
use Rattle.reach_rules.specs.declared.naming.TreeKind.TheVariants.{SnapMetadata}
use Rattle.reach_rules.specs.declared.naming.Expected.TheVariants.{TreeRoot}
use Rattle.reach_rules.specs.Naming.{naming}
use Rattle.reach_rules.specs.Next.{unless_zero}
use Rattle.reach_gather.specs.Adds.{Adds}
use Rattle.reach_gather.specs.Steps.{node_namings}
use Rattle.reach_gather.proofs.Fields.{adds-zero, adds-some}
use Rattle.reach_gather.proofs.Mapped.{metadata-add}
use Rattle.reach_gather.proofs.Noted.{noted-longer}
use Rattle.reach_gather.proofs.volumes.add_live_metadata.Goals as goal

pub returns-then-oid-eq0-clause-clear : goal.returns-then-oid-eq0-clause-clear
returns-then-oid-eq0-clause-clear c = λ image seen whole.
    let at : c.volume.inside.snaps_root ≡ c.args.volume.now.snaps_root = ap (λ (v : Loaded). v.snaps_root) c.volume.view_is in
    adds-zero image seen c.args.namer 152 (TreeRoot SnapMetadata) ByBlock c.args.volume.now.snaps_root c.args.out.now (sym at ∙ c.if-oid-eq0.true)

pub returns : goal.returns
returns c = record {
  clear = (λ image seen whole.
      let me : Namer = c.args.namer in
      let at : c.volume.inside.snaps_root ≡ c.args.volume.now.snaps_root = ap (λ (v : Loaded). v.snaps_root) c.volume.view_is in
      let steps : c.deref.result.now ≡ c.args.volume.now.snaps_steps = c.deref.ensures.value ∙ ap (λ (v : Loaded). v.snaps_steps) c.volume.view_is in
      subst (λ (oid : ℕ). Adds image seen (unless_zero me 152 (TreeRoot SnapMetadata) ByBlock oid) [] c.args.out.now c.add_nodes.new.out) at
      (adds-some image seen me 152 (TreeRoot SnapMetadata) ByBlock c.volume.inside.snaps_root [] c.args.out.now c.add_nodes.new.out c.if-oid-eq0.false
      (metadata-add image seen c.args.volume.now (naming me 152 (TreeRoot SnapMetadata) ByBlock c.volume.inside.snaps_root) c.deref.result.now c.args.out.now c.add_nodes.new.out whole refl refl at (λ z. c.if-oid-eq0.false (at ∙ z)) steps
      c.in_ok-add_nodes.ensures.namings c.in_ok-add_nodes.ensures.owners c.add_nodes.ensures.pool_owners)));
  longer = noted-longer c.args.out.now.namings c.add_nodes.new.out.namings (node_namings SnapMetadata (naming c.args.namer 152 (TreeRoot SnapMetadata) ByBlock c.volume.inside.snaps_root) c.deref.result.now) c.in_ok-add_nodes.ensures.namings;
}
