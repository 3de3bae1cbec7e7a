use Rattle.std.proofs.Common.{take}
use Rattle.img_plan.specs.Files.{AddsStream}
use Rattle.img_plan.proofs.files.FileTree.stream.Given as goal

abbrev pub invariant-extents : goal.invariant-extents
invariant-extents l = AddsStream l.stream (take l.address-index l.extents) l.fn.self l.self
