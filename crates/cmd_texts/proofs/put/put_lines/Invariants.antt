use Rattle.std.proofs.Common.{take}
use Rattle.std.specs.List.{flat_map}
use Rattle.cmd_lines.specs.Written.{sunk}
use Rattle.cmd_lines.proofs.Puts.{Gathers}
use Rattle.cmd_texts.proofs.put.put_lines.Given as goal

abbrev pub invariant-items : goal.invariant-items
invariant-items g l = Gathers (flat_map g.T.Line.text (take l.item-index l.items)) l.waiting.items (sunk g.W.Sink.contents g.W.Sink.faults l.fn.out l.out)
