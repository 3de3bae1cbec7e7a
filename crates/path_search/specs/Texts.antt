-- What the command `ls` writes, and the lines of targets.
use Rattle.std.specs.Prelude.{ℕ, ◌++◌, ◌==◌, List, codes, if◌then◌else◌}
use Rattle.std.specs.Fmt.{decimal}
use Rattle.std.specs.List.{flat_map}
use Rattle.path_search.specs.Shown.{shown_at}
use Rattle.path_search.specs.declared.target.Target.{Target}

-- the letter of a kind of inode (File Modes): directories, regular files, symbolic links, pipes, devices of characters and of blocks, sockets, whiteouts, and others
unfoldable pub kind_text : ℕ → List ℕ
kind_text kind =
    if kind == 4 then codes "d" else
    if kind == 8 then codes "-" else
    if kind == 10 then codes "l" else
    if kind == 1 then codes "p" else
    if kind == 2 then codes "c" else
    if kind == 6 then codes "b" else
    if kind == 12 then codes "s" else
    if kind == 14 then codes "w" else codes "?"

-- a line: a kind, an id, a size, and a shown name or path
abbrev pub line_text : Target → List ℕ → List ℕ
line_text target shown = kind_text target.kind ++ (codes " " ++ (decimal target.id ++ (codes " " ++ (decimal target.size ++ (codes " " ++ (shown ++ codes "\n"))))))

-- the line of a target
abbrev pub target_text : Target → List ℕ
target_text target = line_text target (shown_at target.id target.name)

-- `ls`: a line for each target
abbrev pub ls_text : List Target → List ℕ
ls_text targets = flat_map target_text targets
