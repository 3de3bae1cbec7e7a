use Rattle.std.proofs.Common.{◌≡◌, ◌∙◌, Vec, Global}
use Rattle.fs_record.specs.Attributes.{Attribute}
use Rattle.fs_record.specs.Facts.{all_for, attributes_of}
use Rattle.vol_view.specs.Views.{view_flat}
use Rattle.path_search.proofs.Searched.{some_at}
use Rattle.path_read.proofs.StreamFaults.{attributes_unrefused}
use Rattle.path_search.specs.Needs.{HasKind}
use Rattle.bt_keys.specs.RecordKey.{attribute_record}
use Rattle.path_read.proofs.attributes.attributes_for.Goals as goal

pub returns-in-Some-clause-found : goal.returns-in-Some-clause-found
returns-in-Some-clause-found g c image told ordered =
    some_at (λ (v : Vec Attribute Global). v.items ≡ all_for c.args.id (attributes_of (view_flat image c.args.site.now c.args.volume.now c.args.view.now))) c.in-Ok.run' c.in-Some.attributes (c.in-Ok.ensures.found image told ordered) c.in-Some.is

pub returns-in-None-clause-present : goal.returns-in-None-clause-present
returns-in-None-clause-present g c image told =
    c.refused.ensures.present image (c.in-Ok.ensures.kept.same_bytes ∙ told)
    (attributes_unrefused image c.args.site.now c.args.volume.now c.args.view.now (c.in-Ok.ensures.refused image told c.in-None.is))

pub returns-in-Some-clause-all : goal.returns-in-Some-clause-all
returns-in-Some-clause-all g c image told ordered =
    some_at (λ (v : Vec Attribute Global). HasKind image c.args.site.now c.args.volume.now c.args.view.now c.args.id attribute_record) c.in-Ok.run' c.in-Some.attributes (c.in-Ok.ensures.all image told ordered) c.in-Some.is
