-- Ranges and extents whose ends are numbers of 64 bits.
use Rattle.std.proofs.Common.{◌≡◌, ℕ, zero, suc, ◌+◌, ◌/◌, ◌%◌, ◌<◌, Bool, true, false, List, [], ◌∷◌, length, Option, Some, None, inl, inr, refl, subst, arith}
use Rattle.std.specs.Prelude.{◌^◌, ◌&&◌, ◌==◌, nat_lt, slice_index_or, option_and_then, if◌then◌else◌}
use Rattle.std.specs.List.{All}
use Rattle.apfs_model.specs.Bytes.{u64_at, i32_at}
use Rattle.apfs_model.specs.Lists.{In}
use Rattle.bt_node.specs.Entries.{Pair, bytes_in}
use Rattle.obj_base.specs.declared.site.Site.{Site}
use Rattle.bt_keys.specs.RecordKey.{id_of}
use Rattle.bt_keys.specs.Values.{ext_value_of, new_kind}
use Rattle.bt_keys.specs.declared.values.ExtValue.{ExtValue}
use Rattle.ext_ref.specs.Ranges.{range_in, range_of, ext_pairs, ranges_of}
use Rattle.ext_ref.specs.Left.{AreShort}
use Rattle.ext_ref.specs.declared.range.NewRange.{NewRange}
use Rattle.apfs_check.proofs.Named.{from-filter_map}

-- ---- of a list of which a fact holds item by item
pub at-in : {X : Type 0} (xs : List X) (k : ℕ) (d : X) → k < length xs → In (slice_index_or xs k d) xs
at-in [] k d low = absurd (omega arith)
at-in (x ∷ xs) zero d low = inl refl
at-in (x ∷ xs) (suc k) d low = inr (at-in xs k d (omega arith))

pub all-in-list : {X : Type 0} (P : X → Type 0) (xs : List X) → ((x : X) → In x xs → P x) → All P xs
all-in-list P xs h k d low = h (slice_index_or xs k d) (at-in xs k d low)

-- ---- ranges
remainder-low : (n : ℕ) → n % 2 ^ 60 < 2 ^ 60
remainder-low n = omega arith

value-low : (bytes : List ℕ) (v : ExtValue) → ext_value_of bytes ≡ Some v → v.length < 2 ^ 60
unfolding ext_value_of
value-low bytes v e =
    let some : ExtValue = record { length = u64_at bytes 0 % 2 ^ 60; kind = u64_at bytes 0 / 2 ^ 60; owner = u64_at bytes 8; count = i32_at bytes 16 } in
    let go : (b : Bool) → (if b then None else Some some) ≡ Some v → v.length < 2 ^ 60 = λ b. elim b as (λ b. (if b then None else Some some) ≡ Some v → v.length < 2 ^ 60) [
      | true ↦ λ q. absurd (let z : ◌≡◌ {A = Option ExtValue} None (Some v) = q in let r : ⊥ = cc in r)
      | false ↦ λ q. let z : ◌≡◌ {A = Option ExtValue} (Some some) (Some v) = q in let same : some ≡ v = cc in subst (λ (w : ExtValue). w.length < 2 ^ 60) same (remainder-low (u64_at bytes 0))
    ] in
    go (nat_lt (length bytes) 20) e

range-low : (first : ℕ) (v : ExtValue) (r : NewRange) → range_in first v ≡ Some r → first < 2 ^ 60 → v.length < 2 ^ 60 → r.first + r.length < 2 ^ 64
range-low first v r e low short =
    let some : NewRange = record { first = first; length = v.length; count = v.count } in
    let go : (b : Bool) → (if b then Some some else None) ≡ Some r → r.first + r.length < 2 ^ 64 = λ b. elim b as (λ b. (if b then Some some else None) ≡ Some r → r.first + r.length < 2 ^ 64) [
      | true ↦ λ q. let z : ◌≡◌ {A = Option NewRange} (Some some) (Some r) = q in let same : some ≡ r = cc in subst (λ (w : NewRange). w.first + w.length < 2 ^ 64) same (omega arith)
      | false ↦ λ q. absurd (let z : ◌≡◌ {A = Option NewRange} None (Some r) = q in let t : ⊥ = cc in t)
    ] in
    go ((v.kind == new_kind) && nat_lt 0 v.length) e

id-low : (key : List ℕ) → id_of key < 2 ^ 60
unfolding id_of
id-low key = remainder-low (u64_at key 0)

pair-low : (pair : Pair) (r : NewRange) → range_of pair ≡ Some r → r.first + r.length < 2 ^ 64
unfolding range_of
pair-low pair r e =
    let value : Option ExtValue = ext_value_of (bytes_in pair.value) in
    let go : (o : Option ExtValue) → value ≡ o → option_and_then (range_in (id_of pair.key)) o ≡ Some r → r.first + r.length < 2 ^ 64 = λ o. elim o as (λ o. value ≡ o → option_and_then (range_in (id_of pair.key)) o ≡ Some r → r.first + r.length < 2 ^ 64) [
      | None ↦ λ q p. absurd (let z : ◌≡◌ {A = Option NewRange} None (Some r) = p in let t : ⊥ = cc in t)
      | Some v ↦ λ q p. range-low (id_of pair.key) v r p (id-low pair.key) (value-low (bytes_in pair.value) v q)
    ] in
    go value refl e

-- no new range of a tree ends after block 2^64 - 1
pub ranges-short : (image : List ℕ) (site : Site) (root : ℕ) → AreShort (ranges_of image site root)
unfolding ranges_of
ranges-short image site root = all-in-list (λ (r : NewRange). r.first + r.length < 2 ^ 64) (ranges_of image site root) (λ r h. let t = from-filter_map range_of r (ext_pairs image site root) h in pair-low t.0 r t.1.1)
