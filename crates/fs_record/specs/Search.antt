-- A search for the first extended field of a type, field by field.
use Rattle.std.specs.Prelude.{ℕ, ◌+◌, Bool, ◌==◌, not, nat_le, nat_lt, List, Option, None, Some, option_map, Result, Ok, Err, if◌then◌else◌}
use Rattle.std.specs.List.{list_all, find}
use Rattle.fs_record.specs.Fields.{is_field_long}
use Rattle.fs_record.specs.declared.fields.Field.{Field}
use Rattle.fs_record.specs.declared.fault.RecFault.{RecFault}
use Rattle.fs_record.specs.declared.fault.RecFault.TheVariants.{Fields}

-- a field lies in so many bytes
abbrev pub fits : ℕ → Field → Bool
fits len f = nat_le (f.at + f.len) len

-- what is found after one more field: what was found before it, otherwise this field where it is of the type and long enough
unfoldable pub field_seen : ℕ → ℕ → Option ℕ → Field → Result (Option ℕ) RecFault
field_seen type least (Some at) f = Ok (Some at)
field_seen type least None f =
    if not (f.kind == type) then Ok None else
    if nat_lt f.len least then Err Fields else Ok (Some f.at)

-- what is found at the end, by what was found so far and the fields that are left
abbrev pub found_in : ℕ → ℕ → Option ℕ → List Field → Result (Option ℕ) RecFault
found_in type least (Some at) fs = Ok (Some at)
found_in type least None fs = if not (is_field_long (find (λ (f : Field). f.kind == type) fs) least) then Err Fields else Ok (option_map (λ (f : Field). f.at) (find (λ (f : Field). f.kind == type) fs))

-- the same, where each field that is left fits
unfoldable pub place_after : ℕ → ℕ → ℕ → Option ℕ → List Field → Result (Option ℕ) RecFault
place_after len type least found fs = if not (list_all (fits len) fs) then Err Fields else found_in type least found fs
