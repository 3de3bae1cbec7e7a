-- What clap finds in the words of any command of places, options and flags is what they say.
use Rattle.std.proofs.Common.{◌≡◌, ◌∙◌, ◌==◌, ◌&&◌, ◌||◌, ⊎_elim, ℕ, Bool, true, false, not, List, [], ◌∷◌, Option, Some, None, option_map, refl, sym, ap, ap₂, subst, if◌then◌else◌}
use Rattle.std.specs.Prelude.{option_and_then, find, fold, slice_get}
use Rattle.std.specs.Char.{encode_utf8}
use Rattle.std.specs.List.{list_all, list_any}
use Rattle.std.specs.Str.{IsUtf8, bytes_eq, chars, encode_utf8_all}
use Rattle.std.proofs.lemmas.Str.{chars-encodes}
use Rattle.std.proofs.lemmas.Bool.Decides.{nat_tests}
use Rattle.std.proofs.Common.{arith}
use Rattle.clap.specs.Walk.{Row, Rule, Walk, rows_after, settled, finished, is_empty, nothing_held, walk_from, walked}
use Rattle.clap.specs.Simple.{App, argument_words, built, names_of}
use Rattle.clap.specs.Takes.{is_given}
use Rattle.clap.specs.Facts.{explicit_source}
use Rattle.std.specs.Option.{option_map_or}
use Rattle.clap.specs.declared.error.kind.ErrorKind.{ErrorKind}
use Rattle.clap.specs.declared.error.kind.ErrorKind.TheVariants.{MissingRequiredArgument}
use Rattle.clap.specs.Kinds.{Kinds, or_else}
use Rattle.clap.specs.Faults.{built_fault, check_fault, defaults_fault, settle_fault, turn_fault, walk_fault}
use Rattle.clap.proofs.FaultLemmas.{leaf_fault}
use Rattle.cmd_words.specs.Commands.{found_in}
use Rattle.cmd_words.specs.Said.{Grammar, Said, Text, is_once, is_whole, said_by_words, said_from, says}
use Rattle.cmd_words.proofs.Shapes.{HasNames, HasPlaces, row_for, rows_for, shape_with}
use Rattle.cmd_words.proofs.Rows.{bool_cases}
use Rattle.cmd_words.proofs.Walks.{AllOpen, IsOpen, NoDefaults, Opens, ended, taken_from, whole}
use Rattle.cmd_words.proofs.Taken.{reads}

-- ---- text

opens_after : (d : ℕ) (rest : Text) → IsUtf8 (45 ∷ d ∷ rest) → Opens (d ∷ rest)
unfolding chars encode_utf8
opens_after d rest u = go (chars (d ∷ rest)) refl
  where
    spelled : 45 ∷ chars (d ∷ rest) ≡ u.0
    spelled = ap chars (sym u.1.1) ∙ chars-encodes u.0 u.1.0

    go : (ws : List ℕ) → chars (d ∷ rest) ≡ ws → Opens (d ∷ rest)
    go [] e = let bytes : 45 ∷ [] ≡ 45 ∷ d ∷ rest = ap encode_utf8_all (ap (λ (l : List ℕ). 45 ∷ l) (sym e) ∙ spelled) ∙ u.1.1 in absurd (cc)
    go (w ∷ ws) e = (w, ap (λ (l : List ℕ). slice_get l 0) e)

pub text_opens : (x : Text) → IsUtf8 x → IsOpen x
text_opens [] u flags is = absurd (cc)
text_opens (c ∷ []) u flags is = ⊎_elim (λ (e : (c == 45) ≡ true). absurd (let h : None ≡ Some flags = rw e at is in cc)) (λ (e : (c == 45) ≡ false). absurd (let h : None ≡ Some flags = rw e at is in cc)) (bool_cases (c == 45))
text_opens (c ∷ d ∷ rest) u flags is = ⊎_elim hyphen (λ (e : (c == 45) ≡ false). absurd (let h : None ≡ Some flags = rw e at is in cc)) (bool_cases (c == 45))
  where
    hyphen : (c == 45) ≡ true → Opens flags
    hyphen e = ⊎_elim (λ (f : (d == 45) ≡ true). absurd (let h : None ≡ Some flags = rw (e, f) at is in cc))
        (λ (f : (d == 45) ≡ false). let h : Some (d ∷ rest) ≡ Some flags = rw (e, f) at is in let same : d ∷ rest ≡ flags = cc in let x : c ≡ 45 = grind (arith, nat_tests) in
        subst Opens same (opens_after d rest (subst (λ (n : ℕ). IsUtf8 (n ∷ d ∷ rest)) x u))) (bool_cases (d == 45))

-- ---- from the words to what they say

some_kinds : (k : ErrorKind) (ks : Kinds) → is_empty (k ∷ ks) ≡ false
some_kinds k ks = grind (arith, nat_tests)

in_turn : (c : List Rule) (w : Walk) (words : List Text)
    → (if is_empty (or_else (walk_fault (shape_with c) [] w words) (or_else [] (or_else (settle_fault c false (fold (walked c []) w words).held)
    (or_else (defaults_fault (settled c (fold (walked c []) w words).held).rows c) (check_fault (shape_with c) (finished c (fold (walked c []) w words).held) false)))))
    then Some (finished c (fold (walked c []) w words).held) else None) ≡ taken_from c w words
unfolding walk_fault taken_from ended
in_turn c w [] = refl
in_turn c w (x ∷ xs) = go (turn_fault (shape_with c) [] w x) (in_turn c (walked c [] w x) xs)
  where
    go : (t : Kinds)
        → (if is_empty (or_else (walk_fault (shape_with c) [] (walked c [] w x) xs) (or_else [] (or_else (settle_fault c false (fold (walked c []) (walked c [] w x) xs).held)
        (or_else (defaults_fault (settled c (fold (walked c []) (walked c [] w x) xs).held).rows c) (check_fault (shape_with c) (finished c (fold (walked c []) (walked c [] w x) xs).held) false)))))
        then Some (finished c (fold (walked c []) (walked c [] w x) xs).held) else None) ≡ taken_from c (walked c [] w x) xs
        → (if is_empty (or_else (or_else t (walk_fault (shape_with c) [] (walked c [] w x) xs)) (or_else [] (or_else (settle_fault c false (fold (walked c []) (walked c [] w x) xs).held)
        (or_else (defaults_fault (settled c (fold (walked c []) (walked c [] w x) xs).held).rows c) (check_fault (shape_with c) (finished c (fold (walked c []) (walked c [] w x) xs).held) false)))))
        then Some (finished c (fold (walked c []) (walked c [] w x) xs).held) else None) ≡ (if is_empty t then taken_from c (walked c [] w x) xs else None)
    go [] more = more
    go (k ∷ ks) more = ap (λ (b : Bool). if b then Some (finished c (fold (walked c []) (walked c [] w x) xs).held) else None) (some_kinds k ks)
        ∙ sym (ap (λ (b : Bool). if b then taken_from c (walked c [] w x) xs else None) (some_kinds k ks))

pub given-said : (name : Text) (all : List Said) → is_given name (rows_for all) ≡ says name all
given-said name [] = refl
given-said name (s ∷ rest) = go (bytes_eq s.0 name) (given-said name rest)
  where
    go : (b : Bool) → is_given name (rows_for rest) ≡ says name rest
        → option_map_or (λ (r : Row). explicit_source r.source) (if b then Some (row_for s) else find (λ r. bytes_eq r.id name) (rows_for rest)) false ≡ (b || says name rest)
    go true more = refl
    go false more = more

-- what a command wants of its arguments
pub record IsCommand (app : App) (grammar : Grammar) : Type 0 where
  pub rules_are : List Rule
  pub is : built app ≡ record { top = shape_with rules_are; subs = [] }
  pub words : (xs : List Text) → argument_words app xs ≡ xs
  pub none : NoDefaults rules_are
  pub names_are : HasNames rules_are grammar
  pub places_are : HasPlaces rules_are 1 grammar.places
  pub required_are : (all : List Said) → list_any (λ a. a.required && not (is_given a.id (rows_for all))) rules_are ≡ not (list_all (λ name. says name all) grammar.required)

whole_said : (c : List Rule) (required : List Text) → ((all : List Said) → list_any (λ a. a.required && not (is_given a.id (rows_for all))) c ≡ not (list_all (λ name. says name all) required))
    → (said : Option (List Said)) → whole c [] said ≡ option_map rows_for (option_and_then (λ all. if is_whole required all then Some all else None) said)
whole_said c required are None = refl
whole_said c required are (Some all) = ap (λ (b : Bool). if is_once all && is_empty (if b then MissingRequiredArgument ∷ [] else []) then Some (rows_for all) else None) (are all)
    ∙ go (is_once all) (list_all (λ name. says name all) required)
  where
    go : (a b : Bool) → (if a && is_empty (if not b then MissingRequiredArgument ∷ [] else []) then Some (rows_for all) else None) ≡ option_map rows_for (if a && b then Some all else None)
    go true true = refl
    go true false = refl
    go false true = refl
    go false false = refl

-- the theorem: clap takes the words exactly where they follow the grammar, and finds what they say
pub found-said : (app : App) (grammar : Grammar) → IsCommand app grammar → (words : List Text) → AllOpen words → found_in app words ≡ option_map rows_for (said_by_words grammar words)
found-said app grammar cmd words opens =
    let c = cmd.rules_are in
    let leaf : App = record { top = shape_with c; subs = [] } in
    ap₂ (λ (a : App) (ws : List Text). if is_empty (built_fault a nothing_held ws) then Some (rows_after a.top.rules (names_of a) ws) else None) cmd.is (cmd.words words)
    ∙ ap (λ (k : Kinds). if is_empty k then Some (rows_after c [] words) else None) (leaf_fault leaf nothing_held words refl)
    ∙ in_turn c (walk_from nothing_held) words
    ∙ (reads c grammar cmd.none cmd.names_are words opens).0 [] None 1 grammar.places [] refl refl refl cmd.places_are
    ∙ whole_said c grammar.required cmd.required_are (said_from grammar grammar.places None words)
