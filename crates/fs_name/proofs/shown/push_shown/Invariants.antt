use Rattle.std.proofs.Common.{◌≡◌, ◌++◌, take}
use Rattle.fs_name.specs.Shown.{shown_name}
use Rattle.fs_name.proofs.shown.push_shown.Given as goal

abbrev pub invariant-bytes : goal.invariant-bytes
invariant-bytes l = l.text.items ≡ l.fn.text.items ++ shown_name (take l.byte-index l.name)
