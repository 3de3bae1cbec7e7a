use Rattle.std.proofs.Common.{◌∙◌, ℕ, ap, Vec, Global, sym, subst}
use Rattle.fs_record.specs.Attributes.{Attribute}
use Rattle.fs_record.specs.Facts.{all_for}
use Rattle.view_rules.specs.Facts.{Facts}
use Rattle.view_rules.specs.Rules.{view_facts}
use Rattle.path_search.specs.Places.{Place}
use Rattle.path_search.specs.Found.{found}
use Rattle.path_search.proofs.Known.{given_on, unanswered_given}
use Rattle.path_read.specs.Parts.{attributes_at}
use Rattle.path_read.proofs.Named.{gathered_at, gathered_lost}
use Rattle.path_search.specs.Needs.{HasKind, HasEntriesOf, PathNeeds}
use Rattle.bt_keys.specs.RecordKey.{attribute_record}
use Rattle.path_read.specs.Needs.{AttributesNeed}
use Rattle.path_search.proofs.Needed.{rests_as, rests_stopped}
use Rattle.path_search.proofs.Listed.{ok_same}
use Rattle.path_search.proofs.Laws.{ok-err}
use Rattle.path_read.proofs.attributes.gathered.Goals as goal

pub returns-in-Err-clause-exact : goal.returns-in-Err-clause-exact
returns-in-Err-clause-exact g c = λ image told lawful.
    let facts : Facts = view_facts image c.args.site.now c.args.volume.now c.args.view.now in
    given_on (λ (p : Place). p) (found facts c.args.path.now) (λ (v : Vec Attribute Global). v.items) (attributes_at facts c.args.path.now) c.in-Err.stop
    (gathered_lost facts c.args.path.now) (c.in-Err.ensures.exact image told lawful)

pub returns-in-Ok-attributes_for-clause-exact : goal.returns-in-Ok-attributes_for-clause-exact
returns-in-Ok-attributes_for-clause-exact g c = λ image told lawful.
    let facts : Facts = view_facts image c.args.site.now c.args.volume.now c.args.view.now in
    gathered_at facts c.args.path.now c.in-Ok.place c.in-Ok-attributes_for.attributes.items (c.in-Ok.ensures.exact image told lawful)
    (c.in-Ok-attributes_for.ensures.found image (c.in-Ok.ensures.kept.same_bytes ∙ told) lawful.rules.ordered ∙ ap (λ (n : ℕ). all_for n facts.attributes) c.id.ensures)

pub returns-clause-exact : goal.returns-clause-exact
returns-clause-exact g c = λ image told lawful.
    unanswered_given image c.args.site.now c.args.volume.now c.args.view.now (λ (v : Vec Attribute Global). v.items) (attributes_at (view_facts image c.args.site.now c.args.volume.now c.args.view.now) c.args.path.now) c.in-Err-attributes_for.stop lawful
    (c.in-Err-attributes_for.ensures.present image (c.in-Ok.ensures.kept.same_bytes ∙ told)) c.in-Err-attributes_for.ensures.unanswered

pub returns-in-Err-clause-rests : goal.returns-in-Err-clause-rests
returns-in-Err-clause-rests g c image told ordered =
    let facts : Facts = view_facts image c.args.site.now c.args.volume.now c.args.view.now in
    rests_as (λ (p : Place). p) (found facts c.args.path.now) (λ (v : Vec Attribute Global). v.items) (attributes_at facts c.args.path.now) (PathNeeds facts (HasEntriesOf image c.args.site.now c.args.volume.now c.args.view.now) c.args.path.now) (AttributesNeed image c.args.site.now c.args.volume.now c.args.view.now c.args.path.now) c.in-Err.stop (gathered_lost facts c.args.path.now)
    (λ a e needs. record { led = needs; attributes = λ p there. absurd (ok-err p a (sym there ∙ e)) }) (c.in-Err.ensures.rests image told ordered)

pub returns-in-Ok-attributes_for-clause-rests : goal.returns-in-Ok-attributes_for-clause-rests
returns-in-Ok-attributes_for-clause-rests g c image told ordered =
    let facts : Facts = view_facts image c.args.site.now c.args.volume.now c.args.view.now in
    let rests = c.in-Ok.ensures.rests image told ordered in
    let later = c.in-Ok.ensures.kept.same_bytes ∙ told in (
      gathered_at facts c.args.path.now c.in-Ok.place c.in-Ok-attributes_for.attributes.items rests.0 (c.in-Ok-attributes_for.ensures.found image later ordered ∙ ap (λ (n : ℕ). all_for n facts.attributes) c.id.ensures),
      record {
        led = rests.1;
        attributes = λ p there. subst (λ (n : ℕ). HasKind image c.args.site.now c.args.volume.now c.args.view.now n attribute_record) (c.id.ensures ∙ ap (λ (q : Place). q.id) (ok_same p c.in-Ok.place (sym there ∙ rests.0))) (c.in-Ok-attributes_for.ensures.all image later ordered);
      },
    )

pub returns-clause-rests : goal.returns-clause-rests
returns-clause-rests g c image told ordered =
    rests_stopped (λ (v : Vec Attribute Global). v.items) (attributes_at (view_facts image c.args.site.now c.args.volume.now c.args.view.now) c.args.path.now) (AttributesNeed image c.args.site.now c.args.volume.now c.args.view.now c.args.path.now) c.in-Err-attributes_for.stop c.in-Err-attributes_for.ensures.unanswered
