use Rattle.std.proofs.Common.{◌≡◌, ◌∙◌, ℕ, List}
use Rattle.std.proofs.lemmas.Result.{IfOk-weaker}
use Rattle.parent_chain.specs.declared.ways.Way.{Way}
use Rattle.parent_chain.specs.Ways.{way_at, HasWaysOf}
use Rattle.parent_chain.proofs.WayLooks.{ways-given}
use Rattle.parent_chain.proofs.ways.Ways.of.Goals as goal

pub returns : goal.returns
returns c =
    IfOk-weaker c.made.result (λ (ways : List Way). (id : ℕ) → way_at ways id ≡ way_at c.in_ok-list.list.items id) (λ (ways : List Way). HasWaysOf c.args.inodes.now ways)
    (λ ways same id. same id ∙ ways-given c.args.inodes.now c.in_ok-list.list.items c.in_ok-list.ensures id) c.made.ensures
