-- Blocks in which no two mappings meet are no more than the data area has.
use Rattle.std.proofs.Common.{◌≡◌, ℕ, zero, suc, ◌+◌, ◌≤◌, ◌<◌, Bool, true, false, ◌||◌, ◌==◌, List, [], ◌∷◌, length, map, refl, sym, ◌∙◌, arith}
use Rattle.std.specs.List.{range_with_len}
use Rattle.std.specs.Set.{is_member}
use Rattle.std.specs.Prelude.{nat_eq, nat_le}
use Rattle.std.proofs.lemmas.Grind.{common_steps}
use Rattle.std.proofs.lemmas.Cmp.{nat_eq_equiv}
use Rattle.std.proofs.lemmas.Map.Made.{length-le_from_is_member}
use Rattle.std.proofs.lemmas.List.FromFn.{length-range_with_len}
use Rattle.apfs_model.specs.Lists.{has, is_distinct}
use Rattle.nx_ring.specs.declared.areas.Areas.{Areas}
use Rattle.nx_ring.specs.declared.mappings.Mapping.{Mapping}
use Rattle.nx_ring.specs.Objects.{data_block, mapped_blocks, object_blocks}
use Rattle.nx_ring.specs.Valid.{blocks_of, are_placed, have_blocks_once, are_apart}
use Rattle.nx_ring.proofs.Apart.{has_joined}
use Rattle.nx_ring.proofs.Sorted.{apart}

has_member : (xs : List ℕ) (q : ℕ) → is_member nat_eq xs q ≡ true → has xs q ≡ true
has_member [] q e = e
has_member (x ∷ xs) q e = let rest = has_member xs q in Prim.grind (arith, common_steps, rest, e)

in_range : (base n q : ℕ) → base ≤ q → q < base + n → is_member nat_eq (range_with_len base n) q ≡ true
in_range base zero q low high = absurd (Prim.omega (arith, low, high))
in_range base (suc n) q low high = let rest = in_range (suc base) n q in Prim.grind (arith, common_steps, rest, low, high)

-- numbers of a range, none twice, are no more than the range
few : (xs : List ℕ) (base n : ℕ) → is_distinct xs ≡ true → ((q : ℕ) → has xs q ≡ true → (base ≤ q) × (q < base + n)) → length xs ≤ n
few xs base n e within =
    let counted : length xs ≤ length (range_with_len base n) = length-le_from_is_member nat_eq_equiv xs (range_with_len base n) (apart xs e) (λ q m. let w = within q (has_member xs q m) in in_range base n q w.0 w.1) in
    let long = length-range_with_len base n in
    Prim.omega (arith, counted, long)

abbrev IsInArea : Areas → ℕ → Type 0
IsInArea areas q = (areas.data_base ≤ q) × (q < areas.data_base + areas.data_blocks)

block_in : (areas : Areas) (p t : ℕ) → 0 < areas.data_blocks → IsInArea areas (data_block areas p t)
unfolding data_block
block_in areas p t some = (Prim.grind (arith, common_steps, some), Prim.grind (arith, common_steps, some))

head_or_rest : (areas : Areas) (n q : ℕ) (rest : Bool) → IsInArea areas n → (rest ≡ true → IsInArea areas q) → ((n == q) || rest) ≡ true → IsInArea areas q
head_or_rest areas n q true inside more e = more refl
head_or_rest areas n q false inside more e =
    let same : n ≡ q = Prim.grind (arith, common_steps, e) in
    (Prim.omega (arith, same, inside.0), Prim.omega (arith, same, inside.1))

object_within : (areas : Areas) (p : ℕ) (ts : List ℕ) (q : ℕ) → 0 < areas.data_blocks → has (map (data_block areas p) ts) q ≡ true → IsInArea areas q
object_within areas p [] q some e = absurd (Prim.cc)
object_within areas p (t ∷ ts) q some e = head_or_rest areas (data_block areas p t) q (has (map (data_block areas p) ts) q) (block_in areas p t some) (object_within areas p ts q some) e

either : (P : Type 0) (a b : Bool) → (a ≡ true → P) → (b ≡ true → P) → (a || b) ≡ true → P
either P true b f g e = f refl
either P false b f g e = g e

blocks_within : (areas : Areas) (ms : List Mapping) (q : ℕ) → 0 < areas.data_blocks → has (blocks_of areas ms) q ≡ true → IsInArea areas q
blocks_within areas [] q some e = absurd (Prim.cc)
blocks_within areas (m ∷ ms) q some e =
    either (IsInArea areas q) (has (mapped_blocks areas m) q) (has (blocks_of areas ms) q)
    (object_within areas m.paddr (range_with_len 0 (object_blocks areas m)) q some)
    (blocks_within areas ms q some)
    (sym (has_joined (mapped_blocks areas m) (blocks_of areas ms) q) ∙ e)

-- mappings whose blocks are apart have no more blocks than the data area
pub few_once : (areas : Areas) (ms : List Mapping) → 0 < areas.data_blocks → is_distinct (blocks_of areas ms) ≡ true → length (blocks_of areas ms) ≤ areas.data_blocks
few_once areas ms some e = few (blocks_of areas ms) areas.data_base areas.data_blocks e (λ q h. blocks_within areas ms q some h)

-- mappings with more blocks than the data area share one
pub many_blocks : (areas : Areas) (ms : List Mapping) → 0 < areas.data_blocks → nat_le (length (blocks_of areas ms)) areas.data_blocks ≡ false → is_distinct (blocks_of areas ms) ≡ false
many_blocks areas ms some many = let once = few_once areas ms some in Prim.grind (arith, common_steps, once, many)

pub few_blocks : (areas : Areas) (ms : List Mapping) → 0 < areas.data_blocks → are_apart areas ms ≡ true → length (blocks_of areas ms) ≤ areas.data_blocks
unfolding are_apart have_blocks_once
few_blocks areas ms some e = few_once areas ms some (Prim.grind (arith, common_steps, e))

pub apart_placed : (areas : Areas) (ms : List Mapping) → are_apart areas ms ≡ true → are_placed areas ms ≡ true
unfolding are_apart
apart_placed areas ms e = Prim.grind (arith, common_steps, e)
