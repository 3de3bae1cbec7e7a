-- The reaper and its lists (Reaper, nx_reaper_phys_t and nx_reap_list_phys_t).
use Rattle.std.specs.Prelude.{ℕ, Bool, not, ◌==◌, List}
use Rattle.apfs_model.specs.Bytes.{u32_at, u64_at, has_flag}

-- the first list of the reaper, an ephemeral oid, 0 where there is none (nr_head)
unfoldable pub reaper_head_of : List ℕ → ℕ
reaper_head_of bytes = u64_at bytes 48

-- the reaper's flags (nr_flags)
unfoldable pub reaper_flags_of : List ℕ → ℕ
reaper_flags_of bytes = u32_at bytes 64

-- the list after this one, an ephemeral oid, 0 at the last (nrl_next)
unfoldable pub reap_next_of : List ℕ → ℕ
reap_next_of bytes = u64_at bytes 32

-- the entries that a list holds (nrl_count)
unfoldable pub reap_count_of : List ℕ → ℕ
reap_count_of bytes = u32_at bytes 48

-- the flag of a reaper that is at work on an object (NR_CONTINUE)
abbrev pub continue_flag : ℕ
continue_flag = 2

-- Reaper: the reaper is at work on an object
abbrev pub is_reaping : List ℕ → Bool
is_reaping reaper = has_flag (reaper_flags_of reaper) continue_flag

-- Reaper: a list holds an entry
abbrev pub has_reaped : List ℕ → Bool
has_reaped list = not (reap_count_of list == 0)
