-- Reading a table of fields, and an object that is laid out by one.
use Rattle.std.proofs.Common.{arith, ◌≡◌, ℕ, zero, suc, ◌+◌, ◌-◌, ◌*◌, ◌<◌, ◌≤◌, true, nat_lt, nat_le, List, [], ◌∷◌, ◌++◌, length, inl, inr, refl, ap, sym, ◌∙◌, if◌then◌else◌}
use Rattle.std.proofs.lemmas.Grind.{common_steps}
use Rattle.std.proofs.lemmas.Bool.{cases_lt}
use Rattle.std.specs.Prelude.{get_or, replicate, slice_index}
use Rattle.std.proofs.lemmas.List.{get_or-replicate, get_or_append_left, get_or-append_right, length-replicate, length-append}
use Rattle.byteorder.specs.Numbers.{length-bytes_low_first}
use Rattle.apfs_model.specs.Bytes.{number_at}
use Rattle.apfs_model.proofs.BoolTests.{left-true, right-true, upto-from}
use Rattle.img_format.specs.Tables.{size, Field, num, laid, is_laid, sealed, header, object}

-- the byte that a table has at a place
abbrev pub byte_in : List Field → ℕ → ℕ
byte_in [] p = 0
byte_in (f ∷ fs) p = if nat_lt p f.0 then 0 else if nat_lt p (f.0 + length f.1) then slice_index f.1 (p - f.0) else byte_in fs p

laid-end : (fs : List Field) (end at : ℕ) → is_laid end at fs ≡ true → at ≤ end
laid-end [] end at e = upto-from at end e
laid-end (f ∷ fs) end at e =
    let a = upto-from at f.0 (left-true (nat_le at f.0) _ e) in
    let b = laid-end fs end (f.0 + length f.1) (right-true (nat_le at f.0) _ e) in
    omega arith

pub laid-length : (fs : List Field) (end at : ℕ) → is_laid end at fs ≡ true → length (laid end at fs) ≡ end - at
unfolding laid
laid-length [] end at e = length-replicate (end - at) 0
laid-length (f ∷ fs) end at e =
    let a = upto-from at f.0 (left-true (nat_le at f.0) _ e) in
    let r = right-true (nat_le at f.0) (is_laid end (f.0 + length f.1) fs) e in
    let b = laid-end fs end (f.0 + length f.1) r in
    let l = laid-length fs end (f.0 + length f.1) r in
    let z : length {A = ℕ} (replicate (f.0 - at) 0) ≡ f.0 - at = length-replicate (f.0 - at) 0 in
    let s : length (f.1 ++ laid end (f.0 + length f.1) fs) ≡ length f.1 + length (laid end (f.0 + length f.1) fs) = length-append f.1 (laid end (f.0 + length f.1) fs) in
    let t : length {A = ℕ} (replicate (f.0 - at) 0 ++ (f.1 ++ laid end (f.0 + length f.1) fs)) ≡ length {A = ℕ} (replicate (f.0 - at) 0) + length (f.1 ++ laid end (f.0 + length f.1) fs) = length-append (replicate (f.0 - at) 0) (f.1 ++ laid end (f.0 + length f.1) fs) in
    omega (arith, a, b, l, z, s, t)

-- before a field, in it and after it
pub byte-before : (f : Field) (fs : List Field) (p : ℕ) → p < f.0 → byte_in (f ∷ fs) p ≡ 0
byte-before f fs p l = Prim.grind (arith, common_steps)

pub byte-here : (f : Field) (fs : List Field) (p : ℕ) → f.0 ≤ p → p < f.0 + length f.1 → byte_in (f ∷ fs) p ≡ slice_index f.1 (p - f.0)
byte-here f fs p l h = Prim.grind (arith, common_steps)

pub byte-after : (f : Field) (fs : List Field) (p : ℕ) → f.0 ≤ p → f.0 + length f.1 ≤ p → byte_in (f ∷ fs) p ≡ byte_in fs p
byte-after f fs p l h = Prim.grind (arith, common_steps)

-- a byte after zeros: in the field or after it
three : (zeros part after : List ℕ) (n i : ℕ) → length zeros ≡ n → n ≤ i → get_or (zeros ++ (part ++ after)) i 0 ≡ get_or (part ++ after) (i - n) 0
three zeros part after n i z l = get_or-append_right zeros (part ++ after) n i 0 z l

pub laid-byte : (fs : List Field) (end at p : ℕ) → is_laid end at fs ≡ true → at ≤ p → p < end → get_or (laid end at fs) (p - at) 0 ≡ byte_in fs p
unfolding laid
laid-byte [] end at p e a h = get_or-replicate (end - at) (p - at) 0 0 (omega (arith, a, h))
laid-byte (f ∷ fs) end at p e a h =
    let l = upto-from at f.0 (left-true (nat_le at f.0) (is_laid end (f.0 + length f.1) fs) e) in
    let r = right-true (nat_le at f.0) (is_laid end (f.0 + length f.1) fs) e in
    let zeros : List ℕ = replicate (f.0 - at) 0 in
    let after : List ℕ = laid end (f.0 + length f.1) fs in
    let z : length zeros ≡ f.0 - at = length-replicate (f.0 - at) 0 in
    elim (cases_lt p f.0) as (λ _. get_or (zeros ++ (f.1 ++ after)) (p - at) 0 ≡ byte_in (f ∷ fs) p) [
      | inl low ↦
          get_or_append_left zeros (f.1 ++ after) 0 (p - at) (omega (arith, low, a, z))
          ∙ get_or-replicate (f.0 - at) (p - at) 0 0 (omega (arith, low, a))
          ∙ sym (byte-before f fs p low)
      | inr high ↦
          let past : get_or (zeros ++ (f.1 ++ after)) (p - at) 0 ≡ get_or (f.1 ++ after) ((p - at) - (f.0 - at)) 0 = three zeros f.1 after (f.0 - at) (p - at) z (omega (arith, high, l)) in
          let same : (p - at) - (f.0 - at) ≡ p - f.0 = omega (arith, high, l, a) in
          let moved : get_or (zeros ++ (f.1 ++ after)) (p - at) 0 ≡ get_or (f.1 ++ after) (p - f.0) 0 = past ∙ ap (λ i. get_or (f.1 ++ after) i 0) same in
          elim (cases_lt p (f.0 + length f.1)) as (λ _. get_or (zeros ++ (f.1 ++ after)) (p - at) 0 ≡ byte_in (f ∷ fs) p) [
            | inl low ↦ moved ∙ get_or_append_left f.1 after 0 (p - f.0) (omega (arith, low, high)) ∙ sym (byte-here f fs p high low)
            | inr far ↦
                let i : (p - f.0) - length f.1 ≡ p - (f.0 + length f.1) = omega arith in
                moved
                ∙ get_or-append_right f.1 after (length f.1) (p - f.0) 0 refl (omega (arith, far, high))
                ∙ ap (λ j. get_or after j 0) i
                ∙ laid-byte fs end (f.0 + length f.1) p r far h
                ∙ sym (byte-after f fs p high far)
          ]
    ]

-- ---- numbers
-- the number of n bytes, each of which is told
abbrev pub number_from : ℕ → (ℕ → ℕ) → ℕ → ℕ
number_from zero look p = 0
number_from (suc n) look p = look p + 256 * number_from n look (suc p)

number-by : (n : ℕ) (bytes : List ℕ) (look : ℕ → ℕ) (p : ℕ) → ((i : ℕ) → p ≤ i → i < p + n → slice_index bytes i ≡ look i) → number_at n bytes p ≡ number_from n look p
number-by zero bytes look p same = refl
number-by (suc n) bytes look p same =
    ap (λ b. b + 256 * number_at n bytes (suc p)) (same p (omega arith) (omega arith))
    ∙ ap (λ r. look p + 256 * r) (number-by n bytes look (suc p) (λ i l h. same i (omega arith) (omega arith)))

pub num-long : (n x : ℕ) → length (num n x) ≡ n
unfolding num
num-long n x = length-bytes_low_first 0 n x

-- ---- objects
abbrev pub all_fields : ℕ → ℕ → ℕ → List Field → List Field
all_fields oid type subtype fields = header oid type subtype ++ fields

pub object-byte : (oid type subtype p : ℕ) (fields : List Field) → is_laid size 8 (all_fields oid type subtype fields) ≡ true → 8 ≤ p → p < size → slice_index (object oid type subtype fields) p ≡ byte_in (all_fields oid type subtype fields) p
unfolding object sealed
object-byte oid type subtype p fields e a h =
    get_or-append_right (num 8 _) (laid size 8 (all_fields oid type subtype fields)) 8 p 0 (num-long 8 _) a
    ∙ laid-byte (all_fields oid type subtype fields) size 8 p e a h

-- a number of an object is read in its table
pub object-number : (n oid type subtype p : ℕ) (fields : List Field) → is_laid size 8 (all_fields oid type subtype fields) ≡ true → 8 ≤ p → p + n ≤ size →
    number_at n (object oid type subtype fields) p ≡ number_from n (byte_in (all_fields oid type subtype fields)) p
object-number n oid type subtype p fields e a h =
    number-by n (object oid type subtype fields) (byte_in (all_fields oid type subtype fields)) p (λ i l k. object-byte oid type subtype i fields e (omega arith) (omega arith))

long-by : (sum : ℕ) (rest : List ℕ) → length rest ≡ 4088 → length (num 8 sum ++ rest) ≡ size
long-by sum rest l = length-append (num 8 sum) rest ∙ omega (arith, l, num-long 8 sum)

pub object-length : (oid type subtype : ℕ) (fields : List Field) → is_laid size 8 (all_fields oid type subtype fields) ≡ true → length (object oid type subtype fields) ≡ size
unfolding object sealed
object-length oid type subtype fields e = long-by _ (laid size 8 (all_fields oid type subtype fields)) (laid-length (all_fields oid type subtype fields) size 8 e)

-- ---- places after all fields
-- where the fields end by a place, the bytes from there on are zeros
pub byte-past : (fs : List Field) (q at p : ℕ) → is_laid q at fs ≡ true → q ≤ p → byte_in fs p ≡ 0
byte-past [] q at p e h = refl
byte-past (f ∷ fs) q at p e h =
    let l = upto-from at f.0 (left-true (nat_le at f.0) (is_laid q (f.0 + length f.1) fs) e) in
    let r = right-true (nat_le at f.0) (is_laid q (f.0 + length f.1) fs) e in
    let b = laid-end fs q (f.0 + length f.1) r in
    byte-after f fs p (omega (arith, b, h)) (omega (arith, b, h)) ∙ byte-past fs q (f.0 + length f.1) p r h

-- fields that end by a place say nothing of the bytes from there on
pub byte-skip : (front back : List Field) (q at p : ℕ) → is_laid q at front ≡ true → q ≤ p → byte_in (front ++ back) p ≡ byte_in back p
byte-skip [] back q at p e h = refl
byte-skip (f ∷ fs) back q at p e h =
    let r = right-true (nat_le at f.0) (is_laid q (f.0 + length f.1) fs) e in
    let b = laid-end fs q (f.0 + length f.1) r in
    byte-after f (fs ++ back) p (omega (arith, b, h)) (omega (arith, b, h)) ∙ byte-skip fs back q (f.0 + length f.1) p r h

-- the number of zeros is zero
pub number-zero : (n : ℕ) (look : ℕ → ℕ) (p : ℕ) → ((i : ℕ) → p ≤ i → look i ≡ 0) → number_from n look p ≡ 0
number-zero zero look p none = refl
number-zero (suc n) look p none =
    let first : look p ≡ 0 = none p (omega arith) in
    let rest : number_from n look (suc p) ≡ 0 = number-zero n look (suc p) (λ i l. none i (omega (arith, l))) in
    ap (λ b. b + 256 * number_from n look (suc p)) first ∙ ap (λ r. 0 + 256 * r) rest
