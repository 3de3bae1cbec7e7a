-- The reaper and its lists, by number.
use Rattle.std.specs.Prelude.{ℕ, ◌-◌, ◌==◌, List, slice_index, if◌then◌else◌}
use Rattle.reach_rules.specs.declared.naming.LookUp.TheVariants.{ByMapping}
use Rattle.reach_rules.specs.declared.naming.Object.TheVariants.{Newest, OfId}
use Rattle.reach_rules.specs.declared.naming.Namer.TheVariants.{Whole}
use Rattle.reach_rules.specs.declared.naming.Expected.TheVariants.{ReaperObject, ReapList}
use Rattle.reach_rules.specs.declared.naming.Naming.{Naming}
use Rattle.reach_rules.specs.Naming.{naming}

-- the naming of the reaper, by the superblock, or of a list, by the object before it
abbrev pub reap_at : List ℕ → ℕ → Naming
reap_at ids i =
    if i == 0 then naming (Whole Newest) 168 ReaperObject ByMapping (slice_index ids i)
    else naming (Whole (OfId (slice_index ids (i - 1)))) (if i == 1 then 48 else 32) ReapList ByMapping (slice_index ids i)
