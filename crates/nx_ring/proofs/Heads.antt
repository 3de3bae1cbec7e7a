-- An object is judged by its header, which stands in its first block, and its sum.
use Rattle.std.proofs.Common.{◌≡◌, ℕ, ◌≤◌, true, false, ◌&&◌, List, ◌++◌, length, ap, sym, ◌∙◌, arith}
use Rattle.std.proofs.lemmas.Grind.{common_steps}
use Rattle.apfs_model.specs.Lists.{passes}
use Rattle.apfs_model.specs.Object.{sum_field, oid_of, xid_of, type_of}
use Rattle.nx_ring.specs.declared.areas.Areas.{Areas}
use Rattle.nx_ring.specs.declared.mappings.Mapping.{Mapping}
use Rattle.nx_ring.specs.Objects.{is_mapped, is_placed, mapped_part, mapped_bytes, object_blocks}
use Rattle.nx_ring.specs.Known.{head_of, is_plain, is_summed, is_expected, sound_head}
use Rattle.nx_ring.proofs.Parts.{u32_left, u64_left, begins, some_blocks}

type_left : (xs ys : List ℕ) → 36 ≤ length xs → type_of (xs ++ ys) ≡ type_of xs
unfolding type_of
type_left xs ys long = u32_left xs ys 24 (omega arith)

pub sum_left : (xs ys : List ℕ) → 36 ≤ length xs → sum_field (xs ++ ys) ≡ sum_field xs
unfolding sum_field
sum_left xs ys long = u64_left xs ys 0 (omega arith)

pub head_left : (xs ys : List ℕ) → 36 ≤ length xs → head_of (xs ++ ys) ≡ head_of xs
unfolding head_of oid_of xid_of
head_left xs ys long =
    let kind = type_left xs ys long in
    let oid = u64_left xs ys 8 (omega arith) in
    let xid = u64_left xs ys 16 (omega arith) in
    cc

pub plain_left : (xs ys : List ℕ) → 36 ≤ length xs → is_plain (xs ++ ys) ≡ is_plain xs
unfolding is_plain
plain_left xs ys long = let word = type_left xs ys long in cc

-- an object is the one of a mapping where its header is, and its sum is right
pub mapped_means : (xid : ℕ) (m : Mapping) (bytes : List ℕ) → is_mapped xid m bytes ≡ (is_plain bytes && (is_expected xid m (head_of bytes) && is_summed bytes))
unfolding is_mapped is_plain is_summed head_of
mapped_means xid m bytes = Prim.grind (arith, common_steps)

-- what is known of an object decides
pub known_decides : (xid : ℕ) (m : Mapping) (bytes : List ℕ) → is_mapped xid m bytes ≡ passes (sound_head bytes) (is_expected xid m)
known_decides xid m bytes = mapped_means xid m bytes ∙ Prim.grind (arith, common_steps)

pub flawed : (xid : ℕ) (m : Mapping) (bytes : List ℕ) → (is_plain bytes && is_expected xid m (head_of bytes)) ≡ false → is_mapped xid m bytes ≡ false
flawed xid m bytes e = mapped_means xid m bytes ∙ Prim.grind (arith, common_steps, e)

pub summed : (xid : ℕ) (m : Mapping) (bytes : List ℕ) → is_plain bytes ≡ true → is_expected xid m (head_of bytes) ≡ true → is_mapped xid m bytes ≡ is_summed bytes
summed xid m bytes e f = mapped_means xid m bytes ∙ Prim.grind (arith, common_steps, e, f)

-- the header of a mapped object stands in its first block
pub first_head : (image : List ℕ) (areas : Areas) (m : Mapping) (first : List ℕ) → is_placed areas m ≡ true → 36 ≤ length first → first ≡ mapped_part image areas m 1 → (head_of (mapped_bytes image areas m) ≡ head_of first) × (is_plain (mapped_bytes image areas m) ≡ is_plain first) × (sum_field (mapped_bytes image areas m) ≡ sum_field first)
first_head image areas m first placed long e =
    let b = begins image areas m (object_blocks areas m) (some_blocks areas m placed) in
    let same : mapped_bytes image areas m ≡ first ++ b.0 = b.1 ∙ ap (λ xs. xs ++ b.0) (sym e) in
    (ap head_of same ∙ head_left first b.0 long, ap is_plain same ∙ plain_left first b.0 long, ap sum_field same ∙ sum_left first b.0 long)
