use Rattle.std.proofs.Common.{ap, sym, ◌∙◌}
use Rattle.fs_name.specs.Normal.{are_hashed}
use Rattle.vol_view.specs.Volumes.{Loaded}
use Rattle.use_report.proofs.Through.{files-hashed, files-plain, tells-hashed, tells-plain, whole-hashed, whole-plain}
use Rattle.use_report.proofs.files.walk_files.Goals as goal

pub returns-in-Ok-clause-clear : goal.returns-in-Ok-clause-clear
returns-in-Ok-clause-clear g c image told =
    files-hashed image c.args.site.now c.args.volume.now c.args.view.now c.in-Ok.files (ap (λ (v : Loaded). are_hashed v.names) (sym c.volume.view_is) ∙ (sym c.are_hashed.ensures ∙ c.if-are_hashed.true)) (c.in-Ok.ensures.clear image told)

pub returns-in-Err-clause-present : goal.returns-in-Err-clause-present
returns-in-Err-clause-present g c image told =
    tells-hashed image c.args.site.now c.args.volume.now c.args.view.now c.in-Err.stop (ap (λ (v : Loaded). are_hashed v.names) (sym c.volume.view_is) ∙ (sym c.are_hashed.ensures ∙ c.if-are_hashed.true)) (c.in-Err.ensures.present image told)

pub returns-in-Err-clause-exact : goal.returns-in-Err-clause-exact
returns-in-Err-clause-exact g c image told right =
    let w = whole-hashed image c.args.site.now c.args.volume.now c.args.view.now (ap (λ (v : Loaded). are_hashed v.names) (sym c.volume.view_is) ∙ (sym c.are_hashed.ensures ∙ c.if-are_hashed.true)) right in
    c.in-Err.ensures.exact image told w.0 w.1

pub returns-in-Ok-walk-clause-clear : goal.returns-in-Ok-walk-clause-clear
returns-in-Ok-walk-clause-clear g c image told =
    files-plain image c.args.site.now c.args.volume.now c.args.view.now c.in-Ok-walk.files (ap (λ (v : Loaded). are_hashed v.names) (sym c.volume.view_is) ∙ (sym c.are_hashed.ensures ∙ c.if-are_hashed.false)) (c.in-Ok-walk.ensures.clear image told)

pub returns-in-Err-walk-clause-present : goal.returns-in-Err-walk-clause-present
returns-in-Err-walk-clause-present g c image told =
    tells-plain image c.args.site.now c.args.volume.now c.args.view.now c.in-Err-walk.stop (ap (λ (v : Loaded). are_hashed v.names) (sym c.volume.view_is) ∙ (sym c.are_hashed.ensures ∙ c.if-are_hashed.false)) (c.in-Err-walk.ensures.present image told)

pub returns-in-Err-walk-clause-exact : goal.returns-in-Err-walk-clause-exact
returns-in-Err-walk-clause-exact g c image told right =
    let w = whole-plain image c.args.site.now c.args.volume.now c.args.view.now (ap (λ (v : Loaded). are_hashed v.names) (sym c.volume.view_is) ∙ (sym c.are_hashed.ensures ∙ c.if-are_hashed.false)) right in
    c.in-Err-walk.ensures.exact image told w.0 w.1
