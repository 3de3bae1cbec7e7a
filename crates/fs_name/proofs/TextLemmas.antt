-- A stored name, split before its last byte.
use Rattle.std.proofs.Common.{◌≡◌, ℕ, zero, suc, subst, ◌-◌, ◌<◌, ◌≤◌, ◌==◌, ◌&&◌, nat_eq, nat_le, nat_lt, Bool, true, false, not, cond, List, [], ◌∷◌, ◌++◌, length, take, get_or, Some, None, refl, sym, arith}
use Rattle.std.specs.List.{list_any}
use Rattle.std.specs.Str.{IsUtf8, IsAscii, is_utf8}
use Rattle.std.proofs.lemmas.Bool.{lt-ltb, false_from_ne_true}
use Rattle.std.proofs.lemmas.Grind.{common_steps}
use Rattle.std.proofs.lemmas.List.{get_or_push}
use Rattle.std.proofs.lemmas.List.Elements.{filter-append}
use Rattle.std.proofs.lemmas.Str.{IsUtf8-from_is_utf8, is_utf8-from_IsUtf8, IsUtf8-take, IsUtf8-append, IsUtf8-from_ascii}
use Rattle.fs_name.specs.Text.{zeros, is_name, name_in}
use Rattle.fs_name.specs.Steps.{name_of}
use Rattle.fs_name.proofs.NormalLemmas.{same_test}

-- a list has a zero exactly where its zeros are one or more
some_zero : (bytes : List ℕ) → list_any (λ b. b == 0) bytes ≡ nat_lt 0 (length (zeros bytes))
some_zero [] = refl
some_zero (zero ∷ bytes) = sym (lt-ltb 0 (suc (length (zeros bytes))) (omega arith))
some_zero (suc b ∷ bytes) = let other : (suc b == 0) ≡ false = grind arith in rw other (some_zero bytes)

-- the zeros with one more zero at the end
zeros_joined : (name : List ℕ) → zeros (name ++ (0 ∷ [])) ≡ zeros name ++ (0 ∷ [])
zeros_joined name = filter-append (λ b. b == 0) name (0 ∷ [])

-- the last zero is the only one exactly where there is none before it
one_zero : (name : List ℕ) → (length (zeros (name ++ (0 ∷ []))) == 1) ≡ not (list_any (λ b. b == 0) name)
one_zero name = rw (zeros_joined name, some_zero name) (grind (arith, common_steps))

-- UTF-8 with a zero after it, and without
text_before_zero : (name : List ℕ) → IsUtf8 (name ++ (0 ∷ [])) → IsUtf8 name
text_before_zero name text =
    let raw : List ℕ = name ++ (0 ∷ []) in
    let zero_last : get_or raw (length name) 0 ≡ 0 = get_or_push name 0 0 (length name) refl in
    let front : take (length name) raw ≡ name = grind (arith, common_steps) in
    let short : length name ≤ length raw = grind (arith, common_steps) in
    subst IsUtf8 front (IsUtf8-take raw (length name) text (short, λ inside wide. absurd (omega (arith, wide, zero_last))))

zero_is_ascii : IsAscii (0 ∷ [])
zero_is_ascii zero = omega arith
zero_is_ascii (suc i) = omega arith

text_with_zero : (name : List ℕ) → IsUtf8 name → IsUtf8 (name ++ (0 ∷ []))
text_with_zero name text = IsUtf8-append name (0 ∷ []) text (IsUtf8-from_ascii (0 ∷ []) zero_is_ascii)

is_utf8_joined : (name : List ℕ) → is_utf8 (name ++ (0 ∷ [])) ≡ is_utf8 name
is_utf8_joined name =
    same_test (is_utf8 (name ++ (0 ∷ []))) (is_utf8 name)
    (λ t. is_utf8-from_IsUtf8 name (text_before_zero name (IsUtf8-from_is_utf8 (name ++ (0 ∷ [])) t)))
    (λ t. is_utf8-from_IsUtf8 (name ++ (0 ∷ [])) (text_with_zero name (IsUtf8-from_is_utf8 name t)))

-- the last byte of a list that is split before it, whether it is two bytes or longer, and what stands before the last
last_joined : (name : List ℕ) (end : ℕ) → get_or (name ++ (end ∷ [])) (length (name ++ (end ∷ [])) - 1) 0 ≡ end
last_joined name end = get_or_push name end 0 (length (name ++ (end ∷ [])) - 1) (grind (arith, common_steps))

long_joined : (name : List ℕ) (end : ℕ) → nat_le 2 (length (name ++ (end ∷ []))) ≡ nat_lt 0 (length name)
long_joined name end = grind (arith, common_steps)

front_joined : (name : List ℕ) (end : ℕ) → name_in (name ++ (end ∷ [])) ≡ name
unfolding name_in
front_joined name end = grind (arith, common_steps)

and_true : (b : Bool) → (b && true) ≡ b
and_true true = refl
and_true false = refl

and_false : (b : Bool) → (b && false) ≡ false
and_false true = refl
and_false false = refl

-- no bytes are no name
pub no_name : (raw : List ℕ) → length raw ≡ 0 → name_of raw ≡ None
unfolding name_of is_name
no_name raw none = rw none refl

-- another last byte
pub other_end : (raw name : List ℕ) (end : ℕ) → raw ≡ name ++ (end ∷ []) → nat_eq end 0 ≡ false → name_of raw ≡ None
unfolding name_of is_name
other_end raw name end joined other = rw (joined, last_joined name end, other, and_false (nat_le 2 (length (name ++ (end ∷ []))))) refl

-- the name before a zero
name_before_zero : (name : List ℕ) → name_of (name ++ (0 ∷ [])) ≡ cond (nat_lt 0 (length name) && not (list_any (λ b. b == 0) name) && is_utf8 name) (Some name) None
unfolding name_of is_name
name_before_zero name =
    rw (last_joined name 0, long_joined name 0, one_zero name, is_utf8_joined name, front_joined name 0, and_true (nat_lt 0 (length name))) refl

-- a zero alone
pub no_first_byte : (raw name : List ℕ) (end : ℕ) → raw ≡ name ++ (end ∷ []) → end ≡ 0 → length name ≡ 0 → name_of raw ≡ None
no_first_byte raw name end joined last none = rw (joined, last, name_before_zero name, none) refl

-- a zero before the last
pub zero_inside : (raw name : List ℕ) (end : ℕ) → raw ≡ name ++ (end ∷ []) → end ≡ 0 → list_any (λ b. b == 0) name ≡ true → name_of raw ≡ None
zero_inside raw name end joined last inside =
    rw (joined, last, name_before_zero name, inside, and_false (nat_lt 0 (length name))) refl

-- bytes before the zero that are no UTF-8
pub no_text : (raw name : List ℕ) (end : ℕ) → raw ≡ name ++ (end ∷ []) → end ≡ 0 → ¬ (IsUtf8 name) → name_of raw ≡ None
no_text raw name end joined last broken =
    let refused : is_utf8 name ≡ false = false_from_ne_true _ (λ t. broken (IsUtf8-from_is_utf8 name t)) in
    rw (joined, last, name_before_zero name, refused, and_false (nat_lt 0 (length name) && not (list_any (λ b. b == 0) name))) refl

-- UTF-8 before the zero, with no other zero
pub name_is : (raw name : List ℕ) (end : ℕ) → raw ≡ name ++ (end ∷ []) → end ≡ 0 → 0 < length name → list_any (λ b. b == 0) name ≡ false → IsUtf8 name → name_of raw ≡ Some name
name_is raw name end joined last long none text =
    rw (joined, last, name_before_zero name, lt-ltb 0 (length name) long, none, is_utf8-from_IsUtf8 name text) refl

-- what each way through the call answers
pub ruleset stored_names = (no_name, other_end, no_first_byte, zero_inside, no_text, name_is)
