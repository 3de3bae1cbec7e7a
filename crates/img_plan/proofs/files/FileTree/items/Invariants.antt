use Rattle.std.proofs.Common.{◌≡◌, ◌++◌, List, map}
use Rattle.std.specs.List.{AllZip}
use Rattle.img_plan.specs.Packing.{Pair}
use Rattle.img_plan.specs.Files.{IsInode}
use Rattle.img_plan.proofs.files.FileTree.items.Given as goal

abbrev pub invariant-inodes : goal.invariant-inodes
invariant-inodes l = (more : List Pair) × AllZip IsInode (map (λ plan. plan.now) l.yielded) more × (l.items.items ≡ l.fn.self.items.items ++ more)
