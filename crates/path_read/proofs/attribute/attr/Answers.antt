use Rattle.std.proofs.Common.{◌≡◌, ◌∙◌, ℕ, List, Some, None, Ok, Err, ap, sym, subst, Vec, Global}
use Rattle.std.proofs.lemmas.Option.{none-some, same_Some}
use Rattle.std.specs.List.{find}
use Rattle.fs_record.specs.Attributes.{Attribute, Body}
use Rattle.view_rules.specs.Facts.{Facts}
use Rattle.view_rules.specs.Rules.{view_facts}
use Rattle.path_search.proofs.Known.{given_on}
use Rattle.path_read.specs.Attributes.{is_called, attribute}
use Rattle.path_read.specs.Contents.{body_in}
use Rattle.path_read.specs.Parts.{attributes_at, body_of}
use Rattle.path_read.specs.Written.{IsWritten}
use Rattle.path_read.proofs.Named.{attribute_given, attribute_lost, value_given, value_lost}
use Rattle.obj_base.specs.declared.stop.Stop.TheVariants.{Found}
use Rattle.path_search.specs.Stops.{IsLawful}
use Rattle.path_search.specs.declared.stop.PathStop.TheVariants as stops
use Rattle.path_search.specs.declared.answer.Answer.TheVariants.{NoAttribute}
use Rattle.path_read.specs.declared.stop.WriteStop.TheVariants.{Stopped}
use Rattle.path_read.proofs.Givens.{stopped_written, written_same, rests_written, written_where}
use Rattle.path_read.proofs.Parted.{none_parted, parted_same}
use Rattle.path_read.specs.Needs.{AttributesNeed, HasExtents, ValueNeed}
use Rattle.path_read.proofs.attribute.attr.Goals as goal

pub returns-in-Err-clause-exact : goal.returns-in-Err-clause-exact
returns-in-Err-clause-exact g c = λ image told lawful.
    let facts : Facts = view_facts image c.args.site.now c.args.volume.now c.args.view.now in
    let whole = attribute c.args.site.now.block_size image facts c.args.path.now c.args.name.now in
    stopped_written (g.W.Sink.contents c.args.out.now) (λ (l : List ℕ). l) whole c.in-Err.stop
    (given_on (λ (v : Vec Attribute Global). v.items) (attributes_at facts c.args.path.now) (λ (l : List ℕ). l) whole c.in-Err.stop
    (λ a e. attribute_lost c.args.site.now.block_size image facts c.args.path.now c.args.name.now a e) (c.in-Err.ensures.exact image told lawful))

pub returns-in-None-clause-exact : goal.returns-in-None-clause-exact
returns-in-None-clause-exact g c = λ image told lawful.
    let facts : Facts = view_facts image c.args.site.now c.args.volume.now c.args.view.now in
    attribute_given c.args.site.now.block_size image facts c.args.path.now c.args.name.now c.in-Ok.attributes.items None (c.in-Ok.ensures.exact image told lawful) (ap (find (is_called c.args.name.now)) (sym c.deref.ensures.value) ∙ sym c.in-None.ensures)

pub returns-in-Ok-write_body-clause-exact : goal.returns-in-Ok-write_body-clause-exact
returns-in-Ok-write_body-clause-exact g c = λ image told lawful.
    let facts : Facts = view_facts image c.args.site.now c.args.volume.now c.args.view.now in
    let bs = c.args.site.now.block_size in
    let a : Attribute = c.in-Some.attribute.now in
    let same : body_of c.attribute.inside.body ≡ a.body = ap (λ (x : Attribute). x.body) c.attribute.view_is in
    let given : attribute bs image facts c.args.path.now c.args.name.now ≡ Ok (body_in bs image facts a.body) =
    attribute_given bs image facts c.args.path.now c.args.name.now c.in-Ok.attributes.items (Some a) (c.in-Ok.ensures.exact image told lawful) (ap (find (is_called c.args.name.now)) (sym c.deref.ensures.value) ∙ sym c.in-Some.ensures) in
    written_same (g.W.Sink.contents c.args.out.now) (g.W.Sink.contents c.write_body.new.out) (Ok (body_in bs image facts a.body)) (attribute bs image facts c.args.path.now c.args.name.now) (Ok tt) (sym given)
    (subst (λ (b : Body). IsWritten (g.W.Sink.contents c.args.out.now) (g.W.Sink.contents c.write_body.new.out) (Ok (body_in bs image facts b)) (Ok tt)) same
    (c.in-Ok-write_body.ensures.exact image (c.in-Ok.ensures.kept.same_bytes ∙ told) lawful))

pub returns-clause-exact : goal.returns-clause-exact
returns-clause-exact g c = λ image told lawful.
    let facts : Facts = view_facts image c.args.site.now c.args.volume.now c.args.view.now in
    let bs = c.args.site.now.block_size in
    let a : Attribute = c.in-Some.attribute.now in
    let same : body_of c.attribute.inside.body ≡ a.body = ap (λ (x : Attribute). x.body) c.attribute.view_is in
    let given : attribute bs image facts c.args.path.now c.args.name.now ≡ Ok (body_in bs image facts a.body) =
    attribute_given bs image facts c.args.path.now c.args.name.now c.in-Ok.attributes.items (Some a) (c.in-Ok.ensures.exact image told lawful) (ap (find (is_called c.args.name.now)) (sym c.deref.ensures.value) ∙ sym c.in-Some.ensures) in
    written_same (g.W.Sink.contents c.args.out.now) (g.W.Sink.contents c.write_body.new.out) (Ok (body_in bs image facts a.body)) (attribute bs image facts c.args.path.now c.args.name.now) (Err c.in-Err-write_body.stop) (sym given)
    (subst (λ (b : Body). IsWritten (g.W.Sink.contents c.args.out.now) (g.W.Sink.contents c.write_body.new.out) (Ok (body_in bs image facts b)) (Err c.in-Err-write_body.stop)) same
    (c.in-Err-write_body.ensures.exact image (c.in-Ok.ensures.kept.same_bytes ∙ told) lawful))

pub returns-in-Err-clause-text : goal.returns-in-Err-clause-text
returns-in-Err-clause-text g c =
    none_parted (g.W.Sink.contents c.args.out.now) (g.S.BlockSource.bytes c.args.src.now)
    (λ (image : List ℕ). IsLawful image c.args.site.now c.args.volume.now c.args.view.now)
    (λ (image : List ℕ). attribute c.args.site.now.block_size image (view_facts image c.args.site.now c.args.volume.now c.args.view.now) c.args.path.now c.args.name.now) (Stopped c.in-Err.stop)

pub returns-in-None-clause-text : goal.returns-in-None-clause-text
returns-in-None-clause-text g c =
    none_parted (g.W.Sink.contents c.args.out.now) (g.S.BlockSource.bytes c.args.src.now)
    (λ (image : List ℕ). IsLawful image c.args.site.now c.args.volume.now c.args.view.now)
    (λ (image : List ℕ). attribute c.args.site.now.block_size image (view_facts image c.args.site.now c.args.volume.now c.args.view.now) c.args.path.now c.args.name.now) (Stopped (Found (stops.Answer NoAttribute)))

pub returns-in-Ok-write_body-clause-text : goal.returns-in-Ok-write_body-clause-text
returns-in-Ok-write_body-clause-text g c =
    let a : Attribute = c.in-Some.attribute.now in
    let same : body_of c.attribute.inside.body ≡ a.body = ap (λ (x : Attribute). x.body) c.attribute.view_is in
    parted_same (g.W.Sink.contents c.args.out.now) (g.W.Sink.contents c.write_body.new.out) (g.S.BlockSource.bytes c.args.src.now) (g.S.BlockSource.bytes c.gathered.new.src)
    (λ (image : List ℕ). IsLawful image c.args.site.now c.args.volume.now c.args.view.now)
    (λ (image : List ℕ). Ok (body_in c.args.site.now.block_size image (view_facts image c.args.site.now c.args.volume.now c.args.view.now) (body_of c.attribute.inside.body)))
    (λ (image : List ℕ). attribute c.args.site.now.block_size image (view_facts image c.args.site.now c.args.volume.now c.args.view.now) c.args.path.now c.args.name.now) (Ok tt) c.in-Ok.ensures.kept.same_bytes
    (λ image told lawful.
    let facts : Facts = view_facts image c.args.site.now c.args.volume.now c.args.view.now in
    attribute_given c.args.site.now.block_size image facts c.args.path.now c.args.name.now c.in-Ok.attributes.items (Some a) (c.in-Ok.ensures.exact image told lawful) (ap (find (is_called c.args.name.now)) (sym c.deref.ensures.value) ∙ sym c.in-Some.ensures)
    ∙ ap (λ (b : Body). Ok (body_in c.args.site.now.block_size image facts b)) (sym same))
    c.in-Ok-write_body.ensures.text

pub returns-clause-text : goal.returns-clause-text
returns-clause-text g c =
    let a : Attribute = c.in-Some.attribute.now in
    let same : body_of c.attribute.inside.body ≡ a.body = ap (λ (x : Attribute). x.body) c.attribute.view_is in
    parted_same (g.W.Sink.contents c.args.out.now) (g.W.Sink.contents c.write_body.new.out) (g.S.BlockSource.bytes c.args.src.now) (g.S.BlockSource.bytes c.gathered.new.src)
    (λ (image : List ℕ). IsLawful image c.args.site.now c.args.volume.now c.args.view.now)
    (λ (image : List ℕ). Ok (body_in c.args.site.now.block_size image (view_facts image c.args.site.now c.args.volume.now c.args.view.now) (body_of c.attribute.inside.body)))
    (λ (image : List ℕ). attribute c.args.site.now.block_size image (view_facts image c.args.site.now c.args.volume.now c.args.view.now) c.args.path.now c.args.name.now) (Err c.in-Err-write_body.stop) c.in-Ok.ensures.kept.same_bytes
    (λ image told lawful.
    let facts : Facts = view_facts image c.args.site.now c.args.volume.now c.args.view.now in
    attribute_given c.args.site.now.block_size image facts c.args.path.now c.args.name.now c.in-Ok.attributes.items (Some a) (c.in-Ok.ensures.exact image told lawful) (ap (find (is_called c.args.name.now)) (sym c.deref.ensures.value) ∙ sym c.in-Some.ensures)
    ∙ ap (λ (b : Body). Ok (body_in c.args.site.now.block_size image facts b)) (sym same))
    c.in-Err-write_body.ensures.text

pub returns-in-Err-clause-rests : goal.returns-in-Err-clause-rests
returns-in-Err-clause-rests g c image told ordered =
    let site = c.args.site.now in
    let volume = c.args.volume.now in
    let view = c.args.view.now in
    let path = c.args.path.now in
    let name = c.args.name.now in
    rests_written (λ (v : Vec Attribute Global). v.items) (attributes_at (view_facts image site volume view) path) (AttributesNeed image site volume view path) (ValueNeed image site volume view path name) c.in-Err.stop
    (λ a lost needs. value_lost image site volume view path name a lost needs) (c.in-Err.ensures.rests image told ordered)

pub returns-in-None-clause-rests : goal.returns-in-None-clause-rests
returns-in-None-clause-rests g c image told ordered =
    let rests = c.in-Ok.ensures.rests image told ordered in
    value_given image c.args.site.now c.args.volume.now c.args.view.now c.args.path.now c.args.name.now c.in-Ok.attributes.items None rests.0 (ap (find (is_called c.args.name.now)) (sym c.deref.ensures.value) ∙ sym c.in-None.ensures)
    (λ a e. absurd (none-some a e)) rests.1

pub returns-in-Ok-write_body-clause-rests : goal.returns-in-Ok-write_body-clause-rests
returns-in-Ok-write_body-clause-rests g c image told ordered =
    let site = c.args.site.now in
    let volume = c.args.volume.now in
    let view = c.args.view.now in
    let rests = c.in-Ok.ensures.rests image told ordered in
    let a : Attribute = c.in-Some.attribute.now in
    let same : body_of c.attribute.inside.body ≡ a.body = ap (λ (x : Attribute). x.body) c.attribute.view_is in
    value_given image site volume view c.args.path.now c.args.name.now c.in-Ok.attributes.items (Some a) rests.0 (ap (find (is_called c.args.name.now)) (sym c.deref.ensures.value) ∙ sym c.in-Some.ensures)
    (λ x e. subst (λ (b : Body). HasExtents image site volume view b) (same ∙ ap (λ (y : Attribute). y.body) (same_Some a x e)) (c.in-Ok-write_body.ensures.rests image (c.in-Ok.ensures.kept.same_bytes ∙ told) ordered)) rests.1

pub returns-clause-rests : goal.returns-clause-rests
returns-clause-rests g c image told ordered =
    let site = c.args.site.now in
    let volume = c.args.volume.now in
    let view = c.args.view.now in
    let rests = c.in-Ok.ensures.rests image told ordered in
    let a : Attribute = c.in-Some.attribute.now in
    let same : body_of c.attribute.inside.body ≡ a.body = ap (λ (x : Attribute). x.body) c.attribute.view_is in
    written_where (HasExtents image site volume view (body_of c.attribute.inside.body)) (ValueNeed image site volume view c.args.path.now c.args.name.now) (Err c.in-Err-write_body.stop)
    (λ has. value_given image site volume view c.args.path.now c.args.name.now c.in-Ok.attributes.items (Some a) rests.0 (ap (find (is_called c.args.name.now)) (sym c.deref.ensures.value) ∙ sym c.in-Some.ensures)
    (λ x e. subst (λ (b : Body). HasExtents image site volume view b) (same ∙ ap (λ (y : Attribute). y.body) (same_Some a x e)) has) rests.1)
    (c.in-Err-write_body.ensures.rests image (c.in-Ok.ensures.kept.same_bytes ∙ told) ordered)
