use Rattle.std.proofs.Common.{◌≡◌, take}
use Rattle.fs_name.specs.Shown.{shown_name}
use Rattle.view_tree.proofs.lines.is_plain.Given as goal

abbrev pub invariant-bytes : goal.invariant-bytes
invariant-bytes l = shown_name (take l.byte-index l.name) ≡ take l.byte-index l.name
