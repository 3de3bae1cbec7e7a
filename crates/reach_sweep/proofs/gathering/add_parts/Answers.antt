use Rattle.std.proofs.Common.{◌∙◌, arith}
use Rattle.nx_ring.specs.Checkpoint.{Seen}
use Rattle.reach_sweep.proofs.Gathers.{slots-live, named-parts, roots-added}
use Rattle.reach_sweep.proofs.gathering.add_parts.Goals as goal

pub returns-in-Err-clause-present : goal.returns-in-Err-clause-present
returns-in-Err-clause-present g c = λ image heads namer told has volumes is. c.in-Err.ensures.present image told is

pub returns-in-Err-add_reaper-clause-present : goal.returns-in-Err-add_reaper-clause-present
returns-in-Err-add_reaper-clause-present g c = λ image heads namer told has volumes is. c.in-Err-add_reaper.ensures.present image

pub returns-in-Err-add_volumes-clause-present : goal.returns-in-Err-add_volumes-clause-present
returns-in-Err-add_volumes-clause-present g c = λ image heads namer told has volumes is.
    let seen : Seen = c.args.cp.now in
    let told1 = c.in-Ok.ensures.kept.same_bytes ∙ told in
    let told2 = c.in-Ok-add_container_map.ensures.kept.same_bytes ∙ told1 in
    let told3 = c.in-Ok-add_jumpstart.ensures.kept.same_bytes ∙ told2 in
    c.in-Err-add_volumes.ensures.present image namer told3
    (c.in-Ok-add_container_map.ensures.records image told1)
    (named-parts image seen heads c.args.volumes.now namer has volumes)
    (slots-live image seen heads c.args.volumes.now namer has volumes)

pub returns-in-Ok-add_volumes-clause-clear : goal.returns-in-Ok-add_volumes-clause-clear
returns-in-Ok-add_volumes-clause-clear g c = λ image heads namer told has volumes is.
    let seen : Seen = c.args.cp.now in
    let told1 = c.in-Ok.ensures.kept.same_bytes ∙ told in
    let told2 = c.in-Ok-add_container_map.ensures.kept.same_bytes ∙ told1 in
    let told3 = c.in-Ok-add_jumpstart.ensures.kept.same_bytes ∙ told2 in
    roots-added image seen heads c.args.volumes.now namer c.args.out.now c.add_space.new.out c.add_container_map.new.out c.add_reaper.new.out c.add_jumpstart.new.out c.add_volumes.new.out has volumes
    (c.in-Ok.ensures.clear image told is)
    (c.in-Ok-add_container_map.ensures.clear image told1 has.container)
    (c.in-Ok-add_reaper.ensures.clear image)
    (c.in-Ok-add_jumpstart.ensures.clear image told2)
    (c.in-Ok-add_volumes.ensures.clear image namer told3
    (c.in-Ok-add_container_map.ensures.records image told1)
    (named-parts image seen heads c.args.volumes.now namer has volumes))

pub returns-in-Ok-add_volumes-clause-reads : goal.returns-in-Ok-add_volumes-clause-reads
returns-in-Ok-add_volumes-clause-reads g c = λ image told is.
    let told1 = c.in-Ok.ensures.kept.same_bytes ∙ told in
    let told2 = c.in-Ok-add_container_map.ensures.kept.same_bytes ∙ told1 in
    let told3 = c.in-Ok-add_jumpstart.ensures.kept.same_bytes ∙ told2 in
    let of_space = c.in-Ok.ensures.reads image told is in
    let of_map = c.in-Ok-add_container_map.ensures.reads image told1 in
    let of_reaper = c.in-Ok-add_reaper.ensures.longer in
    let of_jumpstart = c.in-Ok-add_jumpstart.ensures.reads image told2 in
    let of_volumes = c.in-Ok-add_volumes.ensures.reads image told3 in
    omega arith
