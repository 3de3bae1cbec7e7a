use Rattle.std.proofs.lemmas.Result.{IfOk-weaker}
use Rattle.std.proofs.Common.{◌∙◌, ap}
use Rattle.nx_block.specs.Super.{jumpstart_of}
use Rattle.space_map.proofs.Loads.{unequal}
use Rattle.reach_gather.proofs.Jumps.{jump-present, jump-free, lacks-present, lacks-free, jumped, unjumped}
use Rattle.reach_gather.proofs.starting.jumpstart.Goals as goal

pub returns-in-Err-clause-present : goal.returns-in-Err-clause-present
returns-in-Err-clause-present g c image told =
    jump-present image c.args.cp.now c.jumpstart-block.result c.in-Err.stop (c.jumpstart-block.ensures ∙ ap jumpstart_of c.nx.ensures) (unequal c.jumpstart-block.result c.if-block-eq0.false) (c.in-Err.ensures.found image told)

pub returns-in-Err-clause-exact : goal.returns-in-Err-clause-exact
returns-in-Err-clause-exact g c image told right =
    jump-free image c.args.cp.now c.jumpstart-block.result c.in-Err.stop (c.jumpstart-block.ensures ∙ ap jumpstart_of c.nx.ensures) (unequal c.jumpstart-block.result c.if-block-eq0.false) (c.in-Err.ensures.found image told) right

pub returns-then-block-eq0-clause-clear : goal.returns-then-block-eq0-clause-clear
returns-then-block-eq0-clause-clear g c image told = unjumped image c.args.cp.now c.jumpstart-block.result c.new.result.items (c.jumpstart-block.ensures ∙ ap jumpstart_of c.nx.ensures) c.if-block-eq0.true c.new.ensures.items

pub returns-in_default-clause-present : goal.returns-in_default-clause-present
returns-in_default-clause-present g c image told =
    lacks-present image c.args.cp.now c.jumpstart-block.result c.in-Ok.bytes.items c.deref.result.now (c.jumpstart-block.ensures ∙ ap jumpstart_of c.nx.ensures) (unequal c.jumpstart-block.result c.if-block-eq0.false) (c.in-Ok.ensures.found image told) c.deref.ensures.value c.in_default.ensures

pub returns-in_default-clause-exact : goal.returns-in_default-clause-exact
returns-in_default-clause-exact g c image told right =
    lacks-free image c.args.cp.now c.jumpstart-block.result c.in-Ok.bytes.items c.deref.result.now (c.jumpstart-block.ensures ∙ ap jumpstart_of c.nx.ensures) (unequal c.jumpstart-block.result c.if-block-eq0.false) (c.in-Ok.ensures.found image told) c.deref.ensures.value c.in_default.ensures right

pub returns-clause-clear : goal.returns-clause-clear
returns-clause-clear g c image told =
    IfOk-weaker c.extents.result _ _
    (λ extents same. jumped image c.args.cp.now c.jumpstart-block.result c.in-Ok.bytes.items c.deref.result.now c.in-Some.jump extents.items (c.jumpstart-block.ensures ∙ ap jumpstart_of c.nx.ensures) (unequal c.jumpstart-block.result c.if-block-eq0.false) (c.in-Ok.ensures.found image told) c.deref.ensures.value c.in-Some.ensures same)
    c.extents.ensures.all
