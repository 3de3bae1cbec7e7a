use Rattle.std.proofs.Common.{◌≡◌, ◌++◌, ℕ, List, refl, ap, sym, ◌∙◌}
use Rattle.bt_node.specs.Node as fields
use Rattle.reach_rules.specs.declared.naming.TreeKind.TheVariants.{Files}
use Rattle.reach_rules.specs.Next.{children_in}
use Rattle.omap_map.specs.declared.records.OmapRecord.{OmapRecord}
use Rattle.view_sweep.specs.declared.wanted.SweptView.{SweptView}
use Rattle.view_sweep.specs.declared.wanted.Want.{Want}
use Rattle.view_sweep.specs.declared.wanted.Wanted.{Wanted}
use Rattle.view_sweep.specs.Found.{kids_by, wants_of, wants_by}
use Rattle.view_sweep.proofs.Sounds.{on-both}
use Rattle.view_sweep.proofs.nodes.take.Goals as goal

pub returns-in-Node-clause-added : goal.returns-in-Node-clause-added
returns-in-Node-clause-added c =
    let v : SweptView = c.args.hit.now.wanted.view in
    let r : OmapRecord = c.args.hit.now.mapping in
    let bytes : List ℕ = c.args.bytes.now in
    let old : List Wanted = c.args.out.now.items in
    let new : List Wanted = c.take_files-in-Node.new.out.items in
    on-both (new ≡ old ++ kids_by v r (fields.level_of bytes) (children_in (Files v.hashed) bytes)) (fields.level_of bytes ≡ c.in-Node.level) (new ≡ old ++ wants_of c.args.hit.now.wanted r bytes) c.take_files-in-Node.result
    (λ p q. p ∙ (ap (λ (l : ℕ). old ++ kids_by v r l (children_in (Files v.hashed) bytes)) q ∙ ap (λ (w : Want). old ++ wants_by v w r bytes) (sym c.in-Node.is)))
    c.take_files-in-Node.ensures.added (c.take_files-in-Node.ensures.level c.in-Node.level refl)
