-- What a command is without a check before it.
use Rattle.cmd_lines.specs.declared.words.Checks.TheVariants.{Quick}
use Rattle.cmd_lines.specs.Words.{Asked, Ls, Tree, Cat, Xattr}

-- a command without a check before it; `usage` and `export` aren't there without one
abbrev pub quick : Asked → Asked
quick (Ls checks target) = Ls Quick target
quick (Tree checks target) = Tree Quick target
quick (Cat checks target) = Cat Quick target
quick (Xattr checks target name) = Xattr Quick target name
quick command = command
