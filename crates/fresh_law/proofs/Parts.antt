-- Parts of an object that is laid out by a table.
use Rattle.std.proofs.Common.{arith, ◌≡◌, ℕ, zero, suc, ◌+◌, ◌-◌, ◌<◌, ◌≤◌, true, List, [], ◌∷◌, length, take, drop, drop-cons, refl, ap, sym, ◌∙◌}
use Rattle.std.specs.Prelude.{slice_index}
use Rattle.std.proofs.lemmas.List.{take_all}
use Rattle.apfs_model.specs.Bytes.{part_at}
use Rattle.img_format.specs.Tables.{size, Field, is_laid, object}
use Rattle.fresh_law.proofs.Laid.{byte_in, all_fields, object-byte, object-length}

-- so many bytes from a place on, each of which is told
abbrev pub bytes_from : ℕ → (ℕ → ℕ) → ℕ → List ℕ
bytes_from zero look p = []
bytes_from (suc n) look p = look p ∷ bytes_from n look (suc p)

pub part-by : (n : ℕ) (bytes : List ℕ) (look : ℕ → ℕ) (p : ℕ) → p + n ≤ length bytes → ((i : ℕ) → p ≤ i → i < p + n → slice_index bytes i ≡ look i) → take n (drop p bytes) ≡ bytes_from n look p
part-by zero bytes look p fits same = refl
part-by (suc n) bytes look p fits same =
    let there : p < length bytes = omega (arith, fits) in
    let first : slice_index bytes p ≡ look p = same p (omega arith) (omega arith) in
    let rest : take n (drop (suc p) bytes) ≡ bytes_from n look (suc p) = part-by n bytes look (suc p) (omega (arith, fits)) (λ i l h. same i (omega arith) (omega arith)) in
    ap (λ bs. take (suc n) bs) (drop-cons bytes p 0 there)
    ∙ ap (λ b. b ∷ take n (drop (suc p) bytes)) first
    ∙ ap (λ bs. look p ∷ bs) rest

-- a part of an object is read in its table
pub object-part : (n oid type subtype p : ℕ) (fields : List Field) → is_laid size 8 (all_fields oid type subtype fields) ≡ true → 8 ≤ p → p + n ≤ size →
    part_at (object oid type subtype fields) p n ≡ bytes_from n (byte_in (all_fields oid type subtype fields)) p
object-part n oid type subtype p fields e a h =
    let bytes = object oid type subtype fields in
    let same : (p + n) - p ≡ n = omega arith in
    ap (λ m. take m (drop p bytes)) same
    ∙ part-by n bytes (byte_in (all_fields oid type subtype fields)) p (omega (arith, h, object-length oid type subtype fields e)) (λ i l k. object-byte oid type subtype i fields e (omega arith) (omega arith))

-- a list is the bytes that it tells
pub told-bytes : (n : ℕ) (bytes : List ℕ) → length bytes ≡ n → bytes ≡ bytes_from n (λ i. slice_index bytes i) 0
told-bytes n bytes long =
    sym (take_all n bytes (omega (arith, long)))
    ∙ part-by n bytes (λ i. slice_index bytes i) 0 (omega (arith, long)) (λ i l h. refl)
