use Rattle.std.proofs.Common.{List, ◌∙◌, ◌++◌, map, ap}
use Rattle.view_sweep.specs.declared.idle.MapRecords.{MapRecords}
use Rattle.reach_sweep.specs.Used.{maps_of, told_by_map}
use Rattle.reach_sweep.proofs.Maps.{used-told, tells-told}
use Rattle.reach_sweep.proofs.Lives.{unused-present}
use Rattle.reach_sweep.proofs.checking.check_used.Goals as goal

pub returns-in-Ok-clause-clear : goal.returns-in-Ok-clause-clear
returns-in-Ok-clause-clear c =
    used-told c.deref.result.now (maps_of c.args.cp.now c.args.volumes.now c.args.records.now) (c.args.found.now ++ c.args.used.now)
    (ap (λ (ms : List MapRecords). map told_by_map ms) c.deref.ensures.value ∙ c.in_ok-maps.ensures.all) c.in-Ok.ensures.clear

pub returns-clause-stops : goal.returns-clause-stops
returns-clause-stops c =
    tells-told c.deref.result.now (maps_of c.args.cp.now c.args.volumes.now c.args.records.now) (c.args.found.now ++ c.args.used.now)
    (ap (λ (ms : List MapRecords). map told_by_map ms) c.deref.ensures.value ∙ c.in_ok-maps.ensures.all) c.in-Err.stop c.in-Err.ensures.stops

pub returns-clause-present : goal.returns-clause-present
returns-clause-present c = λ image ones of.
    unused-present image c.args.cp.now (maps_of c.args.cp.now c.args.volumes.now c.args.records.now) (c.args.found.now ++ c.args.used.now) c.in-Err.stop ones of
    (tells-told c.deref.result.now (maps_of c.args.cp.now c.args.volumes.now c.args.records.now) (c.args.found.now ++ c.args.used.now)
    (ap (λ (ms : List MapRecords). map told_by_map ms) c.deref.ensures.value ∙ c.in_ok-maps.ensures.all) c.in-Err.stop c.in-Err.ensures.stops)
