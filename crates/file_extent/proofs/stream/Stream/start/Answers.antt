use Rattle.file_extent.proofs.Openings.{opened, sound_free}
use Rattle.file_extent.proofs.stream.Stream.start.Goals as goal

pub returns-in-Ok-clause-clear : goal.returns-in-Ok-clause-clear
returns-in-Ok-clause-clear g c = λ image told ordered.
    opened image c.args.site.now c.args.volume.now c.args.view.now c.args.id c.args.size c.in-Ok.extents.items c.in-Ok.ensures.laid (c.in-Ok.ensures.all image told ordered) (c.in-Ok.ensures.whole image told ordered)

pub returns-in-Err-clause-exact : goal.returns-in-Err-clause-exact
returns-in-Err-clause-exact g c = λ image told sound.
    sound_free image c.args.site.now c.args.volume.now c.args.view.now c.args.id c.in-Err.stop sound (c.in-Err.ensures.present image told)
