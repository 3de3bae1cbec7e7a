-- What is told of a new container.
use Rattle.std.specs.Prelude.{ℕ, ◌-◌, []}
use Rattle.apfs_check.specs.Report.{Told}

-- the report of one with so many blocks: one transaction, one volume, one view, 14 named objects, the four records of two directories, 57 used blocks, and no notes
abbrev pub fresh_report : ℕ → Told
fresh_report blocks = record { xid = 1; volumes = 1; views = 1; objects = 14; records = 4; used = 57; free = blocks - 57; notes = [] }
