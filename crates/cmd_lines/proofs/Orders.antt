-- What words ask for, by whether they begin with `--gpt`; and that they ask for nothing to be made that can't be.
use Rattle.std.specs.Prelude.{◌≡◌, ℕ, ◌≤◌, ◌==◌, ◌&&◌, Bool, true, false, not, nat_le, List, [], ◌∷◌, length, take, drop, slice_index, Option, None, Some, option_map, option_and_then, bytes_eq, codes, refl, if◌then◌else◌}
use Rattle.std.specs.List.{list_all}
use Rattle.std.specs.Str.{is_utf8}
use Rattle.std.proofs.Common.{arith, ◌<◌, get_or, map, sym, ap, subst}
use Rattle.std.specs.Prelude.{IsUtf8}
use Rattle.std.proofs.lemmas.Str.{IsUtf8-from_is_utf8, is_utf8-from_IsUtf8}
use Rattle.uuid.specs.Text.{by_index, byte_of_digits, close_brace, digits_of, has_hyphens, has_urn_prefix, is_hex_digit, open_brace, parsed, parsed_braced, parsed_hyphenated, parsed_simple, parsed_urn}
use Rattle.uuid.proofs.TextLemmas.{by_index_length}
use Rattle.apfs_model.specs.Lists.{has}
use Rattle.apfs_model.proofs.BoolTests.{from-upto, upto-from, left-true, right-true, not-true}
use Rattle.cmd_words.specs.Asked as lines
use Rattle.cmd_words.specs.Lines.{line_of}
use Rattle.img_format.specs.declared.spec.Spec.{Spec}
use Rattle.img_format.specs.Names.{IsName}
use Rattle.img_format.specs.Limits.{most_name, least_blocks, most_blocks}
use Rattle.img_format.specs.Valid.{IsValid}
use Rattle.cmd_lines.specs.Words.{Asked, Line, built, line_in, plain_line, command_of, after_gpt, asked_by, asked_of, plain_by, plain_of, new_by, new_of, few, count_said, files_said, gen_files, holdable, blocks_said, is_name, name_said, spec_by, spec_said, new_spec, Gen, Format}

pub asked_with : (words rest : List (List ℕ)) → Some rest ≡ after_gpt words → option_map (line_in true) (command_of rest) ≡ asked_of words
unfolding asked_of
asked_with words rest e = ap (λ (r : Option (List (List ℕ))). asked_by words r) e

pub asked_without : (words : List (List ℕ)) → None ≡ after_gpt words → plain_of words ≡ asked_of words
unfolding asked_of
asked_without words e = ap (λ (r : Option (List (List ℕ))). asked_by words r) e

pub plain_with : (words : List (List ℕ)) (files : ℕ) → Some files ≡ gen_files words → Some (plain_line (Gen files)) ≡ plain_of words
unfolding plain_of
plain_with words files e = ap (λ (f : Option ℕ). plain_by words f) e

pub plain_without : (words : List (List ℕ)) → None ≡ gen_files words → new_of words ≡ plain_of words
unfolding plain_of
plain_without words e = ap (λ (f : Option ℕ). plain_by words f) e

pub new_with : (words : List (List ℕ)) (spec : Spec) → Some spec ≡ new_spec words → Some (plain_line (Format spec)) ≡ new_of words
unfolding new_of
new_with words spec e = ap (λ (s : Option Spec). new_by words s) e

pub new_without : (words : List (List ℕ)) → None ≡ new_spec words → option_map (line_in false) (command_of words) ≡ new_of words
unfolding new_of
new_without words e = ap (λ (s : Option Spec). new_by words s) e

-- a text of right length is a name where no byte of it is zero
and_true : (b : Bool) → b ≡ (b && true)
and_true true = refl
and_true false = refl

pub name_tested : (word : List ℕ) → 1 ≤ length word → length word ≤ most_name → IsUtf8 word → not (has word 0) ≡ is_name word
name_tested word some short text = rw (from-upto 1 (length word) some, from-upto (length word) most_name short, is_utf8-from_IsUtf8 word text) (and_true (not (has word 0)))

-- a list of five
pub list_five : {X : Type 0} (xs : List X) (a b c d e : X) → 5 ≤ length xs → length xs < 6 → a ≡ get_or xs 0 a → b ≡ get_or xs 1 b → c ≡ get_or xs 2 c → d ≡ get_or xs 3 d → e ≡ get_or xs 4 e → a ∷ b ∷ c ∷ d ∷ e ∷ [] ≡ xs
list_five (v ∷ w ∷ x ∷ y ∷ z ∷ []) a b c d e low high p q r s t =
    let p1 : a ≡ v = p in let q1 : b ≡ w = q in let r1 : c ≡ x = r in let s1 : d ≡ y = s in let t1 : e ≡ z = t in Prim.cc
list_five xs a b c d e low high p q r s t = absurd (omega (arith, low, high))

-- the same words say the same
pub said_same : (a b c d p q r s : List ℕ) → a ≡ p → b ≡ q → c ≡ r → d ≡ s → spec_said a b c d ≡ spec_said p q r s
said_same a b c d p q r s e f g h = Prim.cc

-- fewer words than five ask for no new container, nor do more
pub new_few : {X : Type 0} (f : X → List ℕ) (words : List X) → length words < 5 → None ≡ new_spec (map f words)
new_few f (a ∷ b ∷ c ∷ d ∷ e ∷ rest) low = absurd (omega (arith, low))
new_few f words low = refl

pub new_many : {X : Type 0} (f : X → List ℕ) (words : List X) → 6 ≤ length words → None ≡ new_spec (map f words)
new_many f (a ∷ b ∷ c ∷ d ∷ e ∷ []) high = absurd (omega (arith, high))
new_many f words high = refl

-- a text that parses to no identifier
pub no_identifier : (o : Option (List ℕ)) → ((bytes : List ℕ) → o ≡ Some bytes → false ≡ true) → None ≡ o
no_identifier None never = refl
no_identifier (Some bytes) never = let e : false ≡ true = never bytes refl in absurd Prim.cc

-- ---- nothing is asked for that can't be made

-- an image of few files, or a new container that can be made; the other commands make nothing
abbrev IsMakeable : Asked → Type 0
IsMakeable (Gen n) = n ≤ 20000
IsMakeable (Format spec) = IsValid spec
IsMakeable command = Unit {0}

abbrev AsksMakeable : Option Line → Type 0
AsksMakeable None = Unit {0}
AsksMakeable (Some line) = IsMakeable line.command

built_makeable : (line : lines.Asked) → IsMakeable (built line)
built_makeable lines.Ring = tt
built_makeable line = tt

line_makeable : (p : Bool) (line : Option lines.Asked) → AsksMakeable (option_map (line_in p) (option_map built line))
line_makeable p None = tt
line_makeable p (Some line) = built_makeable line

command_makeable : (p : Bool) (words : List (List ℕ)) → AsksMakeable (option_map (line_in p) (command_of words))
unfolding command_of
command_makeable p words = line_makeable p (line_of words)

-- ---- an image of few files

abbrev AreFew : Option ℕ → Type 0
AreFew None = Unit {0}
AreFew (Some n) = n ≤ 20000

few_by : (n : ℕ) (b : Bool) → nat_le n 20000 ≡ b → AreFew (if b then Some n else None)
few_by n true e = upto-from n 20000 e
few_by n false e = tt

counted_few : (count : Option ℕ) → AreFew (option_and_then few count)
counted_few None = tt
counted_few (Some n) = few_by n (nat_le n 20000) refl

named_few : (is_gen : Bool) (word : List ℕ) → AreFew (if is_gen then files_said word else None)
named_few true word = counted_few (count_said word)
named_few false word = tt

files_few : (words : List (List ℕ)) → AreFew (gen_files words)
files_few (command ∷ count ∷ []) = named_few (bytes_eq command (codes "gen")) count
files_few words = tt

-- ---- a new container that can be made

-- as many blocks as it can have
abbrev AreHeld : Option ℕ → Type 0
AreHeld None = Unit {0}
AreHeld (Some n) = (least_blocks ≤ n) × (n ≤ most_blocks)

held_by : (n : ℕ) (b : Bool) → (nat_le least_blocks n && nat_le n most_blocks) ≡ b → AreHeld (if b then Some n else None)
held_by n true e =
    (upto-from least_blocks n (left-true (nat_le least_blocks n) (nat_le n most_blocks) e), upto-from n most_blocks (right-true (nat_le least_blocks n) (nat_le n most_blocks) e))
held_by n false e = tt

counted_held : (count : Option ℕ) → AreHeld (option_and_then holdable count)
counted_held None = tt
counted_held (Some n) = held_by n (nat_le least_blocks n && nat_le n most_blocks) refl

-- a name that its volume can have
abbrev IsNamed : Option (List ℕ) → Type 0
IsNamed None = Unit {0}
IsNamed (Some name) = IsName name

name_from : (word : List ℕ) → is_name word ≡ true → IsName word
name_from word e =
    let some = nat_le 1 (length word) in
    let short = nat_le (length word) most_name in
    let zero_free = not (has word 0) in
    let three = left-true (some && short && zero_free) (is_utf8 word) e in
    let two = left-true (some && short) zero_free three in
    record {
      some = upto-from 1 (length word) (left-true some short two);
      short = upto-from (length word) most_name (right-true some short two);
      zero_free = not-true (has word 0) (right-true (some && short) zero_free three);
      text = IsUtf8-from_is_utf8 word (right-true (some && short && zero_free) (is_utf8 word) e);
    }

name_by : (word : List ℕ) (b : Bool) → is_name word ≡ b → IsNamed (if b then Some word else None)
name_by word true e = name_from word e
name_by word false e = tt

-- an identifier has 16 bytes
abbrev IsIdentifier : Option (List ℕ) → Type 0
IsIdentifier None = Unit {0}
IsIdentifier (Some bytes) = length bytes ≡ 16

identifier_by : (b : Bool) (x y : Option (List ℕ)) → IsIdentifier x → IsIdentifier y → IsIdentifier (if b then x else y)
identifier_by true x y of_x of_y = of_x
identifier_by false x y of_x of_y = of_y

simple_identifier : (text : List ℕ) → IsIdentifier (parsed_simple text)
simple_identifier text = identifier_by ((length text == 32) && list_all is_hex_digit text) (Some (by_index 16 (byte_of_digits text))) None (by_index_length 16 (byte_of_digits text)) tt

hyphenated_identifier : (text : List ℕ) → IsIdentifier (parsed_hyphenated text)
hyphenated_identifier text = identifier_by ((length text == 36) && has_hyphens text) (parsed_simple (digits_of text)) None (simple_identifier (digits_of text)) tt

braced_identifier : (text : List ℕ) → IsIdentifier (parsed_braced text)
braced_identifier text =
    identifier_by ((length text == 38) && (slice_index text 0 == open_brace) && (slice_index text 37 == close_brace)) (parsed_hyphenated (take 36 (drop 1 text))) None (hyphenated_identifier (take 36 (drop 1 text))) tt

urn_identifier : (text : List ℕ) → IsIdentifier (parsed_urn text)
urn_identifier text = identifier_by ((length text == 45) && has_urn_prefix text) (parsed_hyphenated (drop 9 text)) None (hyphenated_identifier (drop 9 text)) tt

parsed_identifier : (text : List ℕ) → IsIdentifier (parsed text)
parsed_identifier text =
    identifier_by (length text == 32) (parsed_simple text) _ (simple_identifier text)
    (identifier_by (length text == 36) (parsed_hyphenated text) _ (hyphenated_identifier text)
    (identifier_by (length text == 38) (parsed_braced text) _ (braced_identifier text)
    (identifier_by (length text == 45) (parsed_urn text) None (urn_identifier text) tt)))

-- its parts make one that can be made
abbrev IsNew : Option Spec → Type 0
IsNew None = Unit {0}
IsNew (Some spec) = IsValid spec

new_parts : (blocks : Option ℕ) (name container volume : Option (List ℕ)) → AreHeld blocks → IsNamed name → IsIdentifier container → IsIdentifier volume → IsNew (spec_by blocks name container volume)
new_parts (Some blocks) (Some name) (Some container) (Some volume) b n c v = record { least = b.0; most = b.1; name = n; container = c; volume = v }
new_parts blocks name container volume b n c v = tt

said_new : (blocks name container volume : List ℕ) → IsNew (spec_said blocks name container volume)
said_new blocks name container volume =
    new_parts (blocks_said blocks) (name_said name) (parsed container) (parsed volume)
    (counted_held (count_said blocks)) (name_by name (is_name name) refl) (parsed_identifier container) (parsed_identifier volume)

named_new : (is_format : Bool) (spec : Option Spec) → IsNew spec → IsNew (if is_format then spec else None)
named_new true spec is = is
named_new false spec is = tt

spec_new : (words : List (List ℕ)) → IsNew (new_spec words)
spec_new (command ∷ blocks ∷ name ∷ container ∷ volume ∷ []) = named_new (bytes_eq command (codes "format")) (spec_said blocks name container volume) (said_new blocks name container volume)
spec_new words = tt

-- ---- all lines

new_by_makeable : (words : List (List ℕ)) (spec : Option Spec) → IsNew spec → AsksMakeable (new_by words spec)
new_by_makeable words None is = command_makeable false words
new_by_makeable words (Some spec) is = is

new_makeable : (words : List (List ℕ)) → AsksMakeable (new_of words)
unfolding new_of
new_makeable words = new_by_makeable words (new_spec words) (spec_new words)

plain_by_makeable : (words : List (List ℕ)) (files : Option ℕ) → AreFew files → AsksMakeable (plain_by words files)
plain_by_makeable words None are = new_makeable words
plain_by_makeable words (Some n) are = are

plain_makeable : (words : List (List ℕ)) → AsksMakeable (plain_of words)
unfolding plain_of
plain_makeable words = plain_by_makeable words (gen_files words) (files_few words)

by_makeable : (words : List (List ℕ)) (rest : Option (List (List ℕ))) → AsksMakeable (asked_by words rest)
by_makeable words None = plain_makeable words
by_makeable words (Some rest) = command_makeable true rest

asked_makeable : (words : List (List ℕ)) → AsksMakeable (asked_of words)
unfolding asked_of
asked_makeable words = by_makeable words (after_gpt words)

-- of few files alone an image is asked for
pub gen_few : (words : List (List ℕ)) (n : ℕ) → Some (plain_line (Gen n)) ≡ asked_of words → n ≤ 20000
gen_few words n e = let P : Option Line → Type 0 = λ l. AsksMakeable l in subst P (sym e) (asked_makeable words)

-- only a new container that can be made is asked for
pub format_valid : (words : List (List ℕ)) (spec : Spec) → Some (plain_line (Format spec)) ≡ asked_of words → IsValid spec
format_valid words spec e = let P : Option Line → Type 0 = λ l. AsksMakeable l in subst P (sym e) (asked_makeable words)
