-- How the name of an id is shown.
use Rattle.std.specs.Prelude.{ℕ, ◌==◌, List, if◌then◌else◌}
use Rattle.fs_name.specs.Shown.{shown_name}
use Rattle.fs_record.specs.Facts.{root_id}

-- the name of an id as it is shown; that of the root is shown as it is
abbrev pub shown_at : ℕ → List ℕ → List ℕ
shown_at id name = if id == root_id then name else shown_name name
