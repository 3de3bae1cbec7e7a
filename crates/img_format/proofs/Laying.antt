-- Fields that are laid out one by one.
use Rattle.std.proofs.Common.{arith, ◌≡◌, ℕ, ◌+◌, ◌-◌, ◌<◌, ◌≤◌, true, nat_le, List, [], ◌∷◌, ◌++◌, length, drop, refl, ap, sym, subst, ◌∙◌, append_assoc, Result, Ok, Err, if◌then◌else◌}
use Rattle.std.specs.Result.{is_ok, OnOk}
use Rattle.std.specs.Prelude.{bit_or, get_or, replicate}
use Rattle.std.proofs.lemmas.List.{length-append, length-replicate, drop_more, drop_all}
use Rattle.apfs_model.proofs.BoolTests.{left-true, right-true, upto-from}
use Rattle.apfs_model.specs.Sum.{sum_of}
use Rattle.img_format.specs.Tables.{size, Field, num, laid, is_laid, sealed, header, object}
use Rattle.img_format.specs.Steps.{value_bytes, field_of, fields_of, header_bytes}
use Rattle.img_format.specs.declared.object.Head.{Head}
use Rattle.img_format.specs.declared.field.Value.{Value}
use Rattle.img_format.specs.declared.field.Value.TheVariants.{U16}

-- what a block has once one more field stands in it
abbrev pub with_field : List ℕ → Field → List ℕ
with_field items field = (items ++ replicate (field.0 - length items) 0) ++ field.1

pub with-field-long : (items : List ℕ) (end : ℕ) (field : Field) (fields : List Field) → is_laid end (length items) (field ∷ fields) ≡ true → length (with_field items field) ≡ field.0 + length field.1
with-field-long items end field fields e =
    let low = upto-from (length items) field.0 (left-true (nat_le (length items) field.0) (is_laid end (field.0 + length field.1) fields) e) in
    let zeros : List ℕ = replicate (field.0 - length items) 0 in
    let z : length zeros ≡ field.0 - length items = length-replicate (field.0 - length items) 0 in
    let a : length (items ++ zeros) ≡ length items + length zeros = length-append items zeros in
    let b : length ((items ++ zeros) ++ field.1) ≡ length (items ++ zeros) + length field.1 = length-append (items ++ zeros) field.1 in
    omega (arith, low, z, a, b)

-- the rest is laid out after it as before
pub laid-more : (items : List ℕ) (end : ℕ) (field : Field) (fields : List Field) → is_laid end (length items) (field ∷ fields) ≡ true →
    with_field items field ++ laid end (length (with_field items field)) fields ≡ items ++ laid end (length items) (field ∷ fields)
unfolding laid
laid-more items end field fields e =
    let zeros : List ℕ = replicate (field.0 - length items) 0 in
    let rest : List ℕ = laid end (field.0 + length field.1) fields in
    ap (λ at. with_field items field ++ laid end at fields) (with-field-long items end field fields e)
    ∙ append_assoc (items ++ zeros) field.1 rest
    ∙ append_assoc items zeros (field.1 ++ rest)

pub more-laid : (items : List ℕ) (end : ℕ) (field : Field) (fields : List Field) → is_laid end (length items) (field ∷ fields) ≡ true → is_laid end (length (with_field items field)) fields ≡ true
more-laid items end field fields e =
    ap (λ at. is_laid end at fields) (with-field-long items end field fields e) ∙ right-true (nat_le (length items) field.0) (is_laid end (field.0 + length field.1) fields) e

-- ---- the steps of the loop
-- what is laid out so far, and what follows, is the same after one more field
pub record IsStep (end : ℕ) (old new : List ℕ) (before after : List Field) : Type 0 where
  pub same : new ++ laid end (length new) after ≡ old ++ laid end (length old) before
  pub room : is_laid end (length new) after ≡ true

field-step : (end : ℕ) (old : List ℕ) (field : Field) (fields : List Field) → is_laid end (length old) (field ∷ fields) ≡ true → IsStep end old (with_field old field) (field ∷ fields) fields
field-step end old field fields e = record { same = laid-more old end field fields e; room = more-laid old end field fields e }

pub step : (end : ℕ) (fields : List (ℕ × Value)) (i len : ℕ) (old mid new : List ℕ) → i < length fields → len ≡ length old → is_laid end (length old) (fields_of (drop i fields)) ≡ true →
    mid ≡ old ++ replicate ((get_or fields i (0, U16 0)).0 - len) 0 → new ≡ mid ++ value_bytes (get_or fields i (0, U16 0)).1 →
    IsStep end old new (fields_of (drop i fields)) (fields_of (drop (i + 1) fields))
step end fields i len old mid new h l e m n =
    let field : ℕ × Value = get_or fields i (0, U16 0) in
    let rest : List Field = fields_of (drop (i + 1) fields) in
    let split : fields_of (drop i fields) ≡ field_of field ∷ rest = ap fields_of (drop_more fields i (0, U16 0) h) in
    let is : new ≡ with_field old (field_of field) = n ∙ ap (λ (bs : List ℕ). bs ++ value_bytes field.1) (m ∙ ap (λ k. old ++ replicate (field.0 - k) 0) l) in
    let room : is_laid end (length old) (field_of field ∷ rest) ≡ true = subst (λ (fs : List Field). is_laid end (length old) fs ≡ true) split e in
    subst (λ (bs : List ℕ). IsStep end old bs (fields_of (drop i fields)) rest) (sym is)
    (subst (λ (fs : List Field). IsStep end old (with_field old (field_of field)) fs rest) (sym split) (field-step end old (field_of field) rest room))

-- after the last field zeros follow
pub last-step : (end : ℕ) (fields : List (ℕ × Value)) (i len : ℕ) (old new : List ℕ) → length fields ≤ i → len ≡ length old → new ≡ old ++ replicate (end - len) 0 → new ≡ old ++ laid end (length old) (fields_of (drop i fields))
unfolding laid
last-step end fields i len old new h l n =
    n ∙ ap (λ k. old ++ replicate (end - k) 0) l ∙ ap (λ (fs : List (ℕ × Value)). old ++ laid end (length old) (fields_of fs)) (sym (drop_all i fields h))

-- ---- headers
-- the bytes of a header, with its sum before them, take 32 bytes
pub head-long : (head : Head) → length (replicate {A = ℕ} 8 0 ++ header_bytes head) ≡ 32
unfolding num
head-long head = refl

-- after a header there is room for what has room from byte 32 on
pub head-room : (items : List ℕ) (head : Head) (fields : List Field) → items ≡ replicate 8 0 ++ header_bytes head → is_laid 4096 32 fields ≡ true → is_laid 4096 (length items) fields ≡ true
head-room items head fields i e = ap (λ n. is_laid 4096 n fields) (ap length i ∙ head-long head) ∙ e

pub head-laid : (items new : List ℕ) (head : Head) (fields : List Field) → items ≡ replicate 8 0 ++ header_bytes head → new ≡ items ++ laid 4096 (length items) fields → new ≡ replicate 8 0 ++ (header_bytes head ++ laid 4096 32 fields)
head-laid items new head fields i n =
    n
    ∙ ap (λ (bs : List ℕ). bs ++ laid 4096 (length bs) fields) i
    ∙ ap (λ k. (replicate 8 0 ++ header_bytes head) ++ laid 4096 k fields) (head-long head)
    ∙ append_assoc (replicate 8 0) (header_bytes head) (laid 4096 32 fields)

-- ---- lengths
pub laid-end : (fs : List Field) (end at : ℕ) → is_laid end at fs ≡ true → at ≤ end
laid-end [] end at e = upto-from at end e
laid-end (f ∷ fs) end at e =
    let a = upto-from at f.0 (left-true (nat_le at f.0) _ e) in
    let b = laid-end fs end (f.0 + length f.1) (right-true (nat_le at f.0) _ e) in
    omega arith

pub laid-length : (fs : List Field) (end at : ℕ) → is_laid end at fs ≡ true → length (laid end at fs) ≡ end - at
unfolding laid
laid-length [] end at e = length-replicate (end - at) 0
laid-length (f ∷ fs) end at e =
    let a = upto-from at f.0 (left-true (nat_le at f.0) _ e) in
    let r = right-true (nat_le at f.0) (is_laid end (f.0 + length f.1) fs) e in
    let b = laid-end fs end (f.0 + length f.1) r in
    let l = laid-length fs end (f.0 + length f.1) r in
    let z : length {A = ℕ} (replicate (f.0 - at) 0) ≡ f.0 - at = length-replicate (f.0 - at) 0 in
    let s : length (f.1 ++ laid end (f.0 + length f.1) fs) ≡ length f.1 + length (laid end (f.0 + length f.1) fs) = length-append f.1 (laid end (f.0 + length f.1) fs) in
    let t : length {A = ℕ} (replicate (f.0 - at) 0 ++ (f.1 ++ laid end (f.0 + length f.1) fs)) ≡ length {A = ℕ} (replicate (f.0 - at) 0) + length (f.1 ++ laid end (f.0 + length f.1) fs) = length-append (replicate (f.0 - at) 0) (f.1 ++ laid end (f.0 + length f.1) fs) in
    omega (arith, a, b, l, z, s, t)

-- ---- objects
-- what an object has after its sum
abbrev pub body_of : Head → List Field → List ℕ
body_of head fields = header_bytes head ++ laid 4096 32 fields

pub body-laid : (head : Head) (fields : List Field) → body_of head fields ≡ laid size 8 (header head.oid (bit_or head.storage head.kind) head.subtype ++ fields)
unfolding laid num
body-laid head fields = refl

-- a block with zeros for its sum is whole
pub unsealed-long : (items : List ℕ) (head : Head) (fields : List Field) → is_laid 4096 32 fields ≡ true → items ≡ replicate 8 0 ++ body_of head fields → length items ≡ 4096
unsealed-long items head fields e i =
    let l : length (laid 4096 32 fields) ≡ 4064 = laid-length fields 4096 32 e in
    ap length i
    ∙ ap length (sym (append_assoc (replicate 8 0) (header_bytes head) (laid 4096 32 fields)))
    ∙ length-append (replicate 8 0 ++ header_bytes head) (laid 4096 32 fields)
    ∙ omega (arith, l, head-long head)

-- the bytes after the sum of an object
pub sealed-by : (front block mid new : List ℕ) (head : Head) (fields : List Field) → block ≡ replicate 8 0 ++ body_of head fields →
    mid ≡ front ++ num 8 (sum_of block) → new ≡ mid ++ drop 8 block →
    new ≡ front ++ object head.oid (bit_or head.storage head.kind) head.subtype fields
unfolding object sealed
sealed-by front block mid new head fields b m n =
    n
    ∙ ap (λ (bs : List ℕ). bs ++ drop 8 block) m
    ∙ ap (λ (bs : List ℕ). (front ++ num 8 (sum_of bs)) ++ drop 8 bs) b
    ∙ append_assoc front (num 8 (sum_of (replicate 8 0 ++ body_of head fields))) (body_of head fields)
    ∙ ap (λ (bs : List ℕ). front ++ (num 8 (sum_of (replicate 8 0 ++ bs)) ++ bs)) (body-laid head fields)

-- what was added where all went well
pub where-ok : {T E : Type 0} (r : Result T E) (new grown old : List ℕ) → new ≡ (if is_ok r then grown else old) → OnOk r (new ≡ grown)
where-ok (Ok x) new grown old e = e
where-ok (Err x) new grown old e = tt
