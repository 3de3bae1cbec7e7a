-- Numbers and parts of a part of a disk are those of the disk.
use Rattle.std.proofs.Common.{◌≡◌, ℕ, zero, suc, ◌+◌, ◌-◌, ◌≤◌, List, drop, get_or, refl, ap, ◌∙◌, arith}
use Rattle.std.proofs.lemmas.List.{get_or-take, get_or-drop}
use Rattle.apfs_model.specs.Bytes.{number_at, u32_at, u64_at, part_at}

pub number-in : (n : ℕ) (bytes : List ℕ) (at len i : ℕ) → i + n ≤ len → number_at n (part_at bytes at len) i ≡ number_at n bytes (at + i)
number-in zero bytes at len i inside = refl
number-in (suc n) bytes at len i inside =
    let here : get_or (part_at bytes at len) i 0 ≡ get_or bytes (at + i) 0 = get_or-take (at + len - at) (drop at bytes) i 0 (omega arith) ∙ get_or-drop at bytes i 0 in
    let rest : number_at n (part_at bytes at len) (suc i) ≡ number_at n bytes (suc (at + i)) = number-in n bytes at len (suc i) (omega arith) ∙ ap (number_at n bytes) (omega arith) in
    cc

pub u32-in : (bytes part : List ℕ) (at len i : ℕ) → part ≡ part_at bytes at len → i + 4 ≤ len → u32_at part i ≡ u32_at bytes (at + i)
unfolding u32_at
u32-in bytes part at len i is inside = ap (λ (l : List ℕ). number_at 4 l i) is ∙ number-in 4 bytes at len i inside

pub u64-in : (bytes part : List ℕ) (at len i : ℕ) → part ≡ part_at bytes at len → i + 8 ≤ len → u64_at part i ≡ u64_at bytes (at + i)
unfolding u64_at
u64-in bytes part at len i is inside = ap (λ (l : List ℕ). number_at 8 l i) is ∙ number-in 8 bytes at len i inside
