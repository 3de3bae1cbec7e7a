use Rattle.std.proofs.Common.{◌≡◌, true, false, ap, sym, ◌∙◌}
use Rattle.fs_name.specs.Normal.{are_hashed}
use Rattle.vol_view.specs.Volumes.{Loaded}
use Rattle.file_extent.proofs.Openings.{hashed_all, plain_all, hashed_whole, plain_whole, hashed_tells, plain_tells}
use Rattle.file_extent.proofs.start.extents_in.Goals as goal

pub returns-then-are_hashed-clause-all : goal.returns-then-are_hashed-clause-all
returns-then-are_hashed-clause-all g c = λ image told ordered.
    let hashed : are_hashed c.args.volume.now.names ≡ true = sym (ap (λ (v : Loaded). are_hashed v.names) c.volume.view_is) ∙ sym c.if-are_hashed.ensures in
    hashed_all image c.args.site.now c.args.volume.now c.args.view.now c.args.id c.in-Ok.extents.items hashed (c.in-Ok.ensures.all image told) ordered

pub returns-then-are_hashed-clause-whole : goal.returns-then-are_hashed-clause-whole
returns-then-are_hashed-clause-whole g c = λ image told ordered.
    let hashed : are_hashed c.args.volume.now.names ≡ true = sym (ap (λ (v : Loaded). are_hashed v.names) c.volume.view_is) ∙ sym c.if-are_hashed.ensures in
    hashed_whole image c.args.site.now c.args.volume.now c.args.view.now c.args.id c.in-Ok.extents.items hashed (c.in-Ok.ensures.all image told) ordered

pub returns-in-Err-clause-present : goal.returns-in-Err-clause-present
returns-in-Err-clause-present g c = λ image told.
    let hashed : are_hashed c.args.volume.now.names ≡ true = sym (ap (λ (v : Loaded). are_hashed v.names) c.volume.view_is) ∙ sym c.if-are_hashed.ensures in
    hashed_tells image c.args.site.now c.args.volume.now c.args.view.now c.args.id c.in-Err.stop hashed (c.in-Err.ensures.present image told)

pub returns-in-Ok-in_view-clause-all : goal.returns-in-Ok-in_view-clause-all
returns-in-Ok-in_view-clause-all g c = λ image told ordered.
    let plain : are_hashed c.args.volume.now.names ≡ false = sym (ap (λ (v : Loaded). are_hashed v.names) c.volume.view_is) ∙ sym c.if-are_hashed.ensures in
    plain_all image c.args.site.now c.args.volume.now c.args.view.now c.args.id c.in-Ok-in_view.extents.items plain (c.in-Ok-in_view.ensures.all image told) ordered

pub returns-in-Ok-in_view-clause-whole : goal.returns-in-Ok-in_view-clause-whole
returns-in-Ok-in_view-clause-whole g c = λ image told ordered.
    let plain : are_hashed c.args.volume.now.names ≡ false = sym (ap (λ (v : Loaded). are_hashed v.names) c.volume.view_is) ∙ sym c.if-are_hashed.ensures in
    plain_whole image c.args.site.now c.args.volume.now c.args.view.now c.args.id c.in-Ok-in_view.extents.items plain (c.in-Ok-in_view.ensures.all image told) ordered

pub returns-in-Err-in_view-clause-present : goal.returns-in-Err-in_view-clause-present
returns-in-Err-in_view-clause-present g c = λ image told.
    let plain : are_hashed c.args.volume.now.names ≡ false = sym (ap (λ (v : Loaded). are_hashed v.names) c.volume.view_is) ∙ sym c.if-are_hashed.ensures in
    plain_tells image c.args.site.now c.args.volume.now c.args.view.now c.args.id c.in-Err-in_view.stop plain (c.in-Err-in_view.ensures.present image told)
