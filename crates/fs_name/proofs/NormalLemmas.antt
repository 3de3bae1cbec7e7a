-- Texts and the characters of their normal forms.
use Rattle.std.proofs.Common.{◌≡◌, ℕ, ◌<◌, ◌↔◌, Bool, true, false, List, map, All, IsTrue, Result, Ok, Err, IfOk, chars, string_bytes, encode_utf8_all, String, refl, sym, ap, ap₂, ◌∙◌}
use Rattle.std.specs.Str.{IsUtf8, IsAscii, bytes_eq}
use Rattle.std.specs.Cmp.Lexicographic.{bytes_decides}
use Rattle.std.proofs.lemmas.List.{map-id}
use Rattle.std.proofs.lemmas.Str.{encodes_same, encodes-chars, chars-IsAscii, IsUtf8-string_bytes}
use Rattle.std.proofs.lemmas.Str.Ascii.{All-from_ascii}
use Rattle.unicode_normalization.specs.Forms.{Nfd}
use Rattle.unicode_normalization.proofs.FormsLemmas.{normalize-ascii}
use Rattle.caseless.specs.Caseless.{canonical_key, IsCanonicalMatch}
use Rattle.caseless.proofs.CaselessLemmas.{canonical_key-ascii, default_case_fold-ascii}
use Rattle.fs_name.specs.declared.naming.Names.{Names}
use Rattle.fs_name.specs.declared.naming.Names.TheVariants.{Exact, Normal, Folded}
use Rattle.fs_name.specs.Normal.{normal_chars, normal_form, is_same_name}
use Rattle.fs_name.specs.Steps.{letter_of}

-- a text that was made of some characters has these characters
pub chars_of_made : {Z : Type 0} (made : String Z) (cs : List ℕ) → string_bytes made ≡ encode_utf8_all cs → chars (string_bytes made) ≡ cs
chars_of_made made cs e = encodes_same (chars (string_bytes made)) cs (encodes-chars (string_bytes made) (IsUtf8-string_bytes made) ∙ e)

-- texts of the same characters are the same
pub same_text : (a b : List ℕ) → IsUtf8 a → IsUtf8 b → chars a ≡ chars b → a ≡ b
same_text a b text_a text_b e = sym (encodes-chars a text_a) ∙ ap encode_utf8_all e ∙ encodes-chars b text_b

-- two tests that hold together
pub same_test : (b t : Bool) → (b ≡ true → t ≡ true) → (t ≡ true → b ≡ true) → b ≡ t
same_test true t there back = sym (there refl)
same_test false true there back = back refl
same_test false false there back = refl

-- a test that tells when two lists are equal
pub test_is : (b : Bool) (xs ys : List ℕ) → (IsTrue b ↔ (xs ≡ ys)) → b ≡ bytes_eq xs ys
test_is b xs ys tells =
    let decides = bytes_decides xs ys in
    same_test b (bytes_eq xs ys) (λ t. decides.1 (tells.0 t)) (λ t. tells.1 (decides.0 t))

-- the test of texts is that of their characters
pub chars_eq : (a b : List ℕ) → IsUtf8 a → IsUtf8 b → bytes_eq a b ≡ bytes_eq (chars a) (chars b)
chars_eq a b text_a text_b =
    test_is (bytes_eq a b) (chars a) (chars b)
    (λ t. ap chars ((bytes_decides a b).0 t), λ e. (bytes_decides a b).1 (same_text a b text_a text_b e))

-- the normal form of ASCII letters
pub normal_chars-ascii : (names : Names) (cs : List ℕ) → All (λ c. c < 128) cs → normal_chars names cs ≡ map (letter_of names) cs
unfolding normal_chars
normal_chars-ascii Exact cs all = sym (map-id cs)
normal_chars-ascii Normal cs all = normalize-ascii Nfd cs all ∙ sym (map-id cs)
normal_chars-ascii Folded cs all = canonical_key-ascii cs all ∙ default_case_fold-ascii cs all

pub ascii_normal_form : (names : Names) (name : List ℕ) → IsAscii name → normal_form names name ≡ map (letter_of names) name
ascii_normal_form names name ascii =
    ap (normal_chars names) (chars-IsAscii name ascii) ∙ normal_chars-ascii names name (All-from_ascii name ascii)

-- names are the same by their bytes, where that is the kind or both are ASCII and not folded
pub exact_same : (a b : List ℕ) → IsUtf8 a → IsUtf8 b → bytes_eq a b ≡ is_same_name Exact a b
unfolding is_same_name normal_chars
exact_same a b text_a text_b = chars_eq a b text_a text_b

pub ascii_same : (a b : List ℕ) → IsAscii a → IsAscii b → bytes_eq a b ≡ is_same_name Normal a b
unfolding is_same_name
ascii_same a b ascii_a ascii_b =
    ap₂ bytes_eq
    (sym (ascii_normal_form Normal a ascii_a ∙ map-id a))
    (sym (ascii_normal_form Normal b ascii_b ∙ map-id b))

folded_is : (same : Bool) (a b : List ℕ) → (IsTrue same ↔ IsCanonicalMatch (chars a) (chars b)) → same ≡ is_same_name Folded a b
unfolding is_same_name normal_chars
folded_is same a b tells = test_is same (canonical_key (chars a)) (canonical_key (chars b)) tells

-- canonical caseless match is sameness under folding
pub folded_same : {E : Type 0} (result : Result Bool E) (names : Names) (a b : List ℕ) → names ≡ Folded → IfOk result (λ same. IsTrue same ↔ IsCanonicalMatch (chars a) (chars b)) → IfOk result (λ same. same ≡ is_same_name names a b)
folded_same (Ok same) names a b folded tells = folded_is same a b tells ∙ ap (λ n. is_same_name n a b) (sym folded)
folded_same (Err e) names a b folded tells = tells
