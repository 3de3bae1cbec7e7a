use Rattle.std.proofs.Common.{◌∙◌, ℕ, List, Ok, ap, sym, Vec, Global}
use Rattle.fs_record.specs.Attributes.{Attribute}
use Rattle.view_rules.specs.Facts.{Facts}
use Rattle.view_rules.specs.Rules.{view_facts}
use Rattle.path_search.proofs.Known.{given_on}
use Rattle.path_read.specs.Attributes.{attributes}
use Rattle.path_read.specs.Parts.{attributes_at}
use Rattle.path_read.proofs.Named.{attributes_given, attributes_lost}
use Rattle.path_search.proofs.Needed.{rests_on}
use Rattle.path_read.specs.Needs.{AttributesNeed}
use Rattle.path_read.proofs.attributes.attrs.Goals as goal

pub returns-in-Err-clause-exact : goal.returns-in-Err-clause-exact
returns-in-Err-clause-exact g c = λ image told lawful.
    let facts : Facts = view_facts image c.args.site.now c.args.volume.now c.args.view.now in
    given_on (λ (v : Vec Attribute Global). v.items) (attributes_at facts c.args.path.now) (λ (v : Vec (List ℕ × ℕ) Global). v.items) (attributes facts c.args.path.now) c.in-Err.stop
    (attributes_lost facts c.args.path.now) (c.in-Err.ensures.exact image told lawful)

pub returns-clause-exact : goal.returns-clause-exact
returns-clause-exact g c = λ image told lawful.
    let facts : Facts = view_facts image c.args.site.now c.args.volume.now c.args.view.now in
    attributes_given facts c.args.path.now c.in-Ok.attributes.items (c.in-Ok.ensures.exact image told lawful)
    ∙ ap (λ (l : List (List ℕ × ℕ)). Ok l) (sym (rw c.deref.ensures.value at c.in_ok-listed.ensures))

pub returns-in-Err-clause-rests : goal.returns-in-Err-clause-rests
returns-in-Err-clause-rests g c image told ordered =
    let facts : Facts = view_facts image c.args.site.now c.args.volume.now c.args.view.now in
    rests_on (λ (v : Vec Attribute Global). v.items) (attributes_at facts c.args.path.now) (λ (v : Vec (List ℕ × ℕ) Global). v.items) (attributes facts c.args.path.now) (AttributesNeed image c.args.site.now c.args.volume.now c.args.view.now c.args.path.now) c.in-Err.stop
    (attributes_lost facts c.args.path.now) (c.in-Err.ensures.rests image told ordered)

pub returns-clause-rests : goal.returns-clause-rests
returns-clause-rests g c image told ordered =
    let facts : Facts = view_facts image c.args.site.now c.args.volume.now c.args.view.now in
    let rests = c.in-Ok.ensures.rests image told ordered in
    (attributes_given facts c.args.path.now c.in-Ok.attributes.items rests.0 ∙ ap (λ (l : List (List ℕ × ℕ)). Ok l) (sym (rw c.deref.ensures.value at c.in_ok-listed.ensures)), rests.1)
