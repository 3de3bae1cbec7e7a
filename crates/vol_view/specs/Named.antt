-- Names and their transactions, looked up.
use Rattle.std.specs.Prelude.{◌≡◌, ℕ, Bool, ◌==◌, List, [], ◌∷◌, Option, None, Some, if◌then◌else◌, bytes_eq}
use denote.Ref.{Bor}
use Rattle.std.specs.Ordering.{nat_cmp}
use Rattle.std.specs.Cmp.Lexicographic.{slice_cmp}
use Rattle.std.specs.BTreeMap.{BTreeMap, get_by}
use Rattle.apfs_model.specs.Lists.{passes}

-- a record's name, with its transaction
abbrev pub named_by : {X : Type 0} → (X → List ℕ) → (X → ℕ) → X → List ℕ × ℕ
named_by name xid x = (name x, xid x)

-- the transaction of the first record of a name
abbrev pub xid_in : List (List ℕ × ℕ) → List ℕ → Option ℕ
xid_in [] name = None
xid_in (p ∷ known) name = if bytes_eq p.0 name then Some p.1 else xid_in known name

-- the first record of a name is of this transaction
abbrev pub is_told : List (List ℕ × ℕ) → List ℕ → ℕ → Bool
is_told known name xid = passes (xid_in known name) (λ x. x == xid)

-- an index has what some records tell
abbrev pub IsIndex : List (List ℕ × ℕ) → BTreeMap (Bor (List ℕ)) ℕ → Type 0
IsIndex known index = (name : List ℕ) → get_by (λ k. slice_cmp nat_cmp name k.now) index ≡ xid_in known name
