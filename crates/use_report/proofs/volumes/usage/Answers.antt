use Rattle.std.proofs.Common.{◌≡◌, ◌^◌, ◌<◌, List, sym, ◌∙◌, arith}
use Rattle.use_report.specs.Views.{views_kept}
use Rattle.use_report.specs.declared.kept.KeptView.{KeptView}
use Rattle.use_report.proofs.Headed.{placed-views}
use Rattle.use_report.proofs.Right.{views-right}
use Rattle.use_report.proofs.Told.{usage-told}
use Rattle.use_report.proofs.volumes.usage.Goals as goal

pub held_by_views-requires-clause-placed : goal.held_by_views-requires-clause-placed
held_by_views-requires-clause-placed g c = placed-views c.args.volume.now c.args.cp.now c.deref.result.now (c.deref.ensures.value ∙ c.in-Ok.ensures.all)

pub returns-in-Err-held_by_views-clause-exact : goal.returns-in-Err-held_by_views-clause-exact
returns-in-Err-held_by_views-clause-exact g c image told given right =
    c.in-Err-held_by_views.ensures.exact image told
    (views-right image c.args.cp.now c.args.volume.now c.site-site.result c.deref.result.now c.site-site.ensures (c.deref.ensures.value ∙ c.in-Ok.ensures.all) given right)

pub returns-in-Ok-tally-clause-count : goal.returns-in-Ok-tally-clause-count
returns-in-Ok-tally-clause-count g c image told given =
    let site = c.site-site.result in
    let usage = c.in-Ok-tally.usage in
    let views : List KeptView = c.deref.result.now in
    let few : site.blocks < 2 ^ 64 = omega arith in
    let all : views ≡ views_kept c.args.volume.now c.args.cp.now = c.deref.ensures.value ∙ c.in-Ok.ensures.all in
    let same : c.deref-2.result.now ≡ views = c.deref-2.ensures.value ∙ sym c.deref.ensures.value in
    usage-told image c.args.cp.now c.args.volume.now site views c.deref-2.result.now c.in-Ok-held_by_views.pieces usage.views.items usage.all c.site-site.ensures all same few
    (c.in-Ok-held_by_views.ensures.held image told c.args.cp.now c.site-site.ensures all given) c.in-Ok-tally.ensures.numbers
