-- Names as they stand in keys and values (File-System Objects, j_drec_key_t and its kin).
use Rattle.std.specs.Prelude.{ℕ, ◌-◌, Bool, ◌&&◌, ◌==◌, nat_le, nat_lt, List, length, filter, take, slice_index}
use Rattle.std.specs.List.{list_all}
use Rattle.std.specs.Str.{is_utf8}

-- the zeros of a text
abbrev pub zeros : List ℕ → List ℕ
zeros text = filter (λ b. b == 0) text

-- a stored name: UTF-8 that ends with its one zero, and has another byte before it
unfoldable pub is_name : List ℕ → Bool
is_name raw = nat_le 2 (length raw) && slice_index raw (length raw - 1) == 0 && length (zeros raw) == 1 && is_utf8 raw

-- the name in a stored name: all but the final zero
unfoldable pub name_in : List ℕ → List ℕ
name_in raw = take (length raw - 1) raw

-- a name of ASCII characters alone
unfoldable pub is_ascii_name : List ℕ → Bool
is_ascii_name name = list_all (λ b. nat_lt b 128) name
