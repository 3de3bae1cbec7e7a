-- One step of clap's walk over words, at a command of places, options and flags.
use Rattle.std.proofs.Common.{◌≡◌, ◌∙◌, ◌+◌, ◌==◌, ◌&&◌, ◌||◌, ◌⊎◌, ⊎_elim, inl, inr, ℕ, Bool, true, false, List, [], ◌∷◌, ◌++◌, Option, Some, None, min, refl, sym, ap, ap₂, subst, arith, if◌then◌else◌, length, true≢false}
use Rattle.std.specs.Prelude.{fold, slice_get, option_and_then, encode_utf8, drop}
use Rattle.std.proofs.lemmas.Bool.Decides.{nat_tests}
use Rattle.std.specs.Option.{option_map_or}
use Rattle.std.specs.Str.{bytes_eq, chars}
use Rattle.clap.specs.Lexer.{long_of, name_and_value, short_of, usize_max}
use Rattle.clap.specs.Walk.{Held, default_rows, reading_by, to_positional, used_by_id, Step, Row, Rule, Waiting, Walk, after_step, arg_by_index, arg_by_long, finished, has_row, idle, is_empty, is_pending, long_or_other, option, pushed, settled, settled_rows, short_or_plain, trailing, walked, with_default}
use Rattle.clap.specs.Kinds.{Kinds, or_else}
use Rattle.clap.specs.Faults.{given_default_fault, bundle_fault, bundle_step_fault, check_fault, defaults_fault, flag_word_fault, flags_fault, long_fault, positional_fault, short_fault, settle_fault, step_fault, stray_fault, turn_fault, use_fault}
use Rattle.cmd_words.specs.Said.{Grammar, Said, Text, all_by_place, first_said, is_among, is_once, is_value, says}
use Rattle.cmd_words.proofs.Shapes.{HasNames, HasPlaces, HasRule, rows_for, set_rule, flag_rule, shape_with}
use Rattle.cmd_words.proofs.Rows.{bool_cases, once_more, twice, use_again, use_first, used_once}

-- ---- kinds

pub or_else_full : (a b : Kinds) → is_empty a ≡ false → is_empty (or_else a b) ≡ false
or_else_full [] b h = absurd (true≢false h)
or_else_full (k ∷ ks) b h = h

-- ---- where a walk stands

abbrev pub held_at : List Row → Option (Text × List Text) → Held
held_at rows pending = record { rows = rows; pending = pending; skip = 0 }

abbrev pub walk_at : List Row → Option (Text × List Text) → Waiting → ℕ → Bool → Walk
walk_at rows pending waiting k is_trailing = record { held = held_at rows pending; waiting = waiting; position = k; is_trailing = is_trailing; stopped = None }

-- what the words from here on come to
unfoldable pub ended : List Rule → Held → Option (List Row)
ended c h = if is_empty (or_else (settle_fault c false h) (or_else (defaults_fault (settled c h).rows c) (check_fault (shape_with c) (finished c h) false)))
    then Some (finished c h) else None

unfoldable pub taken_from : List Rule → Walk → List Text → Option (List Row)
taken_from c w [] = ended c w.held
taken_from c w (x ∷ xs) = if is_empty (turn_fault (shape_with c) [] w x) then taken_from c (walked c [] w x) xs else None

-- ---- the looks of a word

pub data Looks (x : Text) : Type 0 where
  dashes : x ≡ 45 ∷ 45 ∷ [] → Looks x
  a_value : is_value x ≡ true → bytes_eq x (45 ∷ 45 ∷ []) ≡ false → long_of x ≡ None → short_of x ≡ None → Looks x
  a_long : (p : Text × Option Text) → is_value x ≡ false → bytes_eq x (45 ∷ 45 ∷ []) ≡ false → long_of x ≡ Some p → Looks x
  a_short : (flags : Text) → is_value x ≡ false → bytes_eq x (45 ∷ 45 ∷ []) ≡ false → long_of x ≡ None → short_of x ≡ Some flags → Looks x

pub looks : (x : Text) → Looks x
looks [] = a_value refl refl refl refl
looks (c ∷ []) = ⊎_elim (λ (e : (c == 45) ≡ true). a_value refl (rw e refl) (rw e refl) (rw e refl)) (λ (e : (c == 45) ≡ false). a_value refl (rw e refl) (rw e refl) (rw e refl)) (bool_cases (c == 45))
looks (c ∷ d ∷ rest) = ⊎_elim hyphen other (bool_cases (c == 45))
  where
    other : (c == 45) ≡ false → Looks (c ∷ d ∷ rest)
    other e = a_value (rw e refl) (rw e refl) (rw e refl) (rw e refl)

    two : (c == 45) ≡ true → (d == 45) ≡ true → (r : Text) → r ≡ rest → Looks (c ∷ d ∷ rest)
    two e f [] same = subst (λ (r : Text). Looks (c ∷ d ∷ r)) same (dashes (let x : c ≡ 45 = grind (arith, nat_tests) in let y : d ≡ 45 = grind (arith, nat_tests) in rw (x, y) refl))
    two e f (r ∷ rs) same = subst (λ (q : Text). Looks (c ∷ d ∷ q)) same (a_long (name_and_value (r ∷ rs)) (rw e refl) (rw (e, f) refl) (rw (e, f) refl))

    hyphen : (c == 45) ≡ true → Looks (c ∷ d ∷ rest)
    hyphen e = ⊎_elim (λ (f : (d == 45) ≡ true). two e f rest refl)
        (λ (f : (d == 45) ≡ false). a_short (d ∷ rest) (rw e refl) (rw (e, f) refl) (rw (e, f) refl) (rw (e, f) refl)) (bool_cases (d == 45))

-- ---- one step

abbrev pub met_by : List Rule → Held → Waiting → ℕ → Text → Bool → Option (Text × Option Text) → Held × Step
met_by c h waiting k x b long = if b then (h, trailing k) else long_or_other c waiting x long h

abbrev pub turn_by : List Rule → Held → Waiting → ℕ → Text → Bool → Option (Text × Option Text) → Kinds
turn_by c h waiting k x b long = or_else (if b then [] else flag_word_fault c false long x h)
    (step_fault (shape_with c) k (met_by c h waiting k x b long).0 (met_by c h waiting k x b long).1)

abbrev pub walked_by : List Rule → Held → Waiting → ℕ → Text → Bool → Option (Text × Option Text) → Walk
walked_by c h waiting k x b long = after_step c x (record { held = h; waiting = waiting; position = k; is_trailing = false; stopped = None })
    (met_by c h waiting k x b long).0 (met_by c h waiting k x b long).1

module _ (c : List Rule) (rows : List Row) (pending : Option (Text × List Text)) (k : ℕ) (x : Text) where
  pub turn-idle : (b : Bool) (long : Option (Text × Option Text)) → bytes_eq x (45 ∷ 45 ∷ []) ≡ b → long_of x ≡ long
      → turn_fault (shape_with c) [] (walk_at rows pending idle k false) x ≡ turn_by c (held_at rows pending) idle k x b long
  turn-idle b long e f = λ i. turn_by c (held_at rows pending) idle k x (e i) (f i)

  pub turn-option : (id : Text) (b : Bool) (long : Option (Text × Option Text)) → bytes_eq x (45 ∷ 45 ∷ []) ≡ b → long_of x ≡ long
      → turn_fault (shape_with c) [] (walk_at rows pending (option id) k false) x ≡ turn_by c (held_at rows pending) (option id) k x b long
  turn-option id b long e f = λ i. turn_by c (held_at rows pending) (option id) k x (e i) (f i)

  pub walked-idle : (b : Bool) (long : Option (Text × Option Text)) → bytes_eq x (45 ∷ 45 ∷ []) ≡ b → long_of x ≡ long
      → walked c [] (walk_at rows pending idle k false) x ≡ walked_by c (held_at rows pending) idle k x b long
  unfolding walked
  walked-idle b long e f = λ i. walked_by c (held_at rows pending) idle k x (e i) (f i)

  pub walked-option : (id : Text) (b : Bool) (long : Option (Text × Option Text)) → bytes_eq x (45 ∷ 45 ∷ []) ≡ b → long_of x ≡ long
      → walked c [] (walk_at rows pending (option id) k false) x ≡ walked_by c (held_at rows pending) (option id) k x b long
  unfolding walked
  walked-option id b long e f = λ i. walked_by c (held_at rows pending) (option id) k x (e i) (f i)

-- ---- the rest of the words, where the pending value is refused

positional_is : (b : Bool) (a : Kinds) → (if b && false then [] else a) ≡ a
positional_is true a = refl
positional_is false a = refl

pub positional-settles : (c : List Rule) (name : Text) (long : Option Text) (index : Option ℕ) (required : Bool) (h : Held)
    → positional_fault c false (set_rule name long index required) h ≡ settle_fault c false h
positional-settles c name long index required h = positional_is (is_pending (set_rule name long index required) h.pending) (settle_fault c false h)

abbrev pub place_fault : List Rule → Option Rule → Held → Kinds
place_fault c found h = option_map_or (λ a. positional_fault c false a h) found (stray_fault (shape_with c))

place_refused : (c : List Rule) (h : Held) (k : ℕ) (places : List Text) → HasPlaces c k places → is_empty (settle_fault c false h) ≡ false
    → is_empty (place_fault c (arg_by_index c k) h) ≡ false
place_refused c h k [] none full = ap (λ (o : Option Rule). is_empty (place_fault c o h)) none
place_refused c h k (name ∷ places) has full = ap (λ (o : Option Rule). is_empty (place_fault c o h)) has.0.is
    ∙ ap is_empty (positional-settles c name has.0.long has.0.index has.0.required h) ∙ full

pub none_taken : (b : Bool) (x : Option (List Row)) → b ≡ false → (if b then x else None) ≡ None
none_taken true x e = absurd (true≢false e)
none_taken false x e = refl

pub ended_refused : (c : List Rule) (h : Held) → is_empty (settle_fault c false h) ≡ false → ended c h ≡ None
unfolding ended
ended_refused c h full = none_taken _ _ (or_else_full _ _ full)

-- after `--`
pub dead_trailing : (c : List Rule) (rows : List Row) (pending : Option (Text × List Text)) (waiting : Waiting) (k : ℕ) (places : List Text) (words : List Text)
    → HasPlaces c k places → is_empty (settle_fault c false (held_at rows pending)) ≡ false → taken_from c (walk_at rows pending waiting k true) words ≡ None
unfolding taken_from
dead_trailing c rows pending waiting k places [] has full = ended_refused c _ full
dead_trailing c rows pending waiting k places (x ∷ xs) has full = none_taken _ _ (place_refused c (held_at rows pending) k places has full)

-- ---- words that are refused

-- the letters after a hyphen have a first one
abbrev pub Opens : Text → Type 0
Opens flags = (y : ℕ) × (slice_get (chars flags) 0 ≡ Some y)

abbrev pub IsOpen : Text → Type 0
IsOpen x = (flags : Text) → short_of x ≡ Some flags → Opens flags

abbrev pub AllOpen : List Text → Type 0
AllOpen [] = Unit {0}
AllOpen (x ∷ xs) = IsOpen x × AllOpen xs

none_opens : Opens [] → ⊥
unfolding chars
none_opens o = let e : None ≡ Some o.0 = o.1 in cc

flags_refused : (c : List Rule) (grammar : Grammar) (rows : List Row) (pending : Option (Text × List Text)) (flags : Text) → HasNames c grammar → Opens flags
    → is_empty (bundle_fault c false flags (held_at rows pending)) ≡ false
unfolding flags_fault
flags_refused c grammar rows pending [] has o = absurd (none_opens o)
flags_refused c grammar rows pending (f ∷ fs) has o =
    ap (λ (y : Option ℕ). is_empty (bundle_step_fault c false y (f ∷ fs) 0 (held_at rows pending) (flags_fault c false (length fs)))) o.1
    ∙ ap (λ (a : Option Rule). is_empty (short_fault c false a (drop (length (encode_utf8 o.0)) (f ∷ fs)) (held_at rows pending) (flags_fault c false (length fs) (drop (length (encode_utf8 o.0)) (f ∷ fs)) 0))) (has.short o.0)

pub long_refused : (c : List Rule) (grammar : Grammar) (h : Held) (name : Text) (v : Option Text) → HasNames c grammar → is_empty (settle_fault c false h) ≡ false
    → is_empty (long_fault c false (arg_by_long c name) v h) ≡ false
long_refused c grammar h name v has full = ⊎_elim known other (bool_cases (is_among name grammar.options))
  where
    set_refused : (long : Option Text) (index : Option ℕ) (required : Bool) (w : Option Text) → is_empty (long_fault c false (Some (set_rule name long index required)) w h) ≡ false
    set_refused long index required (Some y) = or_else_full _ _ full
    set_refused long index required None = full

    flag_refused : (w : Option Text) → is_empty (long_fault c false (Some (flag_rule name)) w h) ≡ false
    flag_refused (Some y) = refl
    flag_refused None = or_else_full _ _ full

    known : is_among name grammar.options ≡ true → is_empty (long_fault c false (arg_by_long c name) v h) ≡ false
    known e = let r = has.known name e in ap (λ (a : Option Rule). is_empty (long_fault c false a v h)) r.is ∙ set_refused r.long r.index r.required v

    other : is_among name grammar.options ≡ false → is_empty (long_fault c false (arg_by_long c name) v h) ≡ false
    other e = ⊎_elim (λ (f : is_among name grammar.flags ≡ true). ap (λ (a : Option Rule). is_empty (long_fault c false a v h)) (has.flag name e f) ∙ flag_refused v)
        (λ (f : is_among name grammar.flags ≡ false). ap (λ (a : Option Rule). is_empty (long_fault c false a v h)) (has.unknown name e f)) (bool_cases (is_among name grammar.flags))

abbrev pub value_turn : List Rule → Held → Waiting → ℕ → Text → Option Text → Kinds
value_turn c h waiting k x short = or_else (option_map_or (λ flags. bundle_fault c false flags h) short [])
    (step_fault (shape_with c) k (short_or_plain c waiting x short h).0 (short_or_plain c waiting x short h).1)

pub refused_at : (c : List Rule) (w : Walk) (x : Text) (xs : List Text) → is_empty (turn_fault (shape_with c) [] w x) ≡ false → taken_from c w (x ∷ xs) ≡ None
unfolding taken_from
refused_at c w x xs full = none_taken _ _ full

pub taken_on : (c : List Rule) (w after : Walk) (x : Text) (xs : List Text) → turn_fault (shape_with c) [] w x ≡ [] → walked c [] w x ≡ after → taken_from c w (x ∷ xs) ≡ taken_from c after xs
unfolding taken_from
taken_on c w after x xs free next = λ i. if is_empty (free i) then taken_from c (next i) xs else None

pub short_turn_refused : (c : List Rule) (grammar : Grammar) (rows : List Row) (pending : Option (Text × List Text)) (waiting : Waiting) (k : ℕ) (x flags : Text) → HasNames c grammar → IsOpen x
    → short_of x ≡ Some flags → is_empty (turn_by c (held_at rows pending) waiting k x false None) ≡ false
short_turn_refused c grammar rows pending waiting k x flags has opens is =
    ap (λ (o : Option Text). is_empty (value_turn c (held_at rows pending) waiting k x o)) is ∙ or_else_full _ _ (flags_refused c grammar rows pending flags has (opens flags is))

-- before `--`
pub dead_idle : (c : List Rule) (grammar : Grammar) (rows : List Row) (pending : Option (Text × List Text)) (k : ℕ) (places : List Text) (words : List Text)
    → HasNames c grammar → AllOpen words → HasPlaces c k places → is_empty (settle_fault c false (held_at rows pending)) ≡ false → taken_from c (walk_at rows pending idle k false) words ≡ None
unfolding taken_from
dead_idle c grammar rows pending k places [] has opens at full = ended_refused c _ full
dead_idle c grammar rows pending k places (x ∷ xs) has opens at full = go (looks x)
  where
    go : Looks x → taken_from c (walk_at rows pending idle k false) (x ∷ xs) ≡ None
    go (dashes e) =
        let b : bytes_eq x (45 ∷ 45 ∷ []) ≡ true = ap (λ (t : Text). bytes_eq t (45 ∷ 45 ∷ [])) e in
        taken_on c (walk_at rows pending idle k false) (walk_at rows pending idle k true) x xs (turn-idle c rows pending k x true (long_of x) b refl) (walked-idle c rows pending k x true (long_of x) b refl)
        ∙ dead_trailing c rows pending idle k places xs at full
    go (a_value is b l s) = refused_at c (walk_at rows pending idle k false) x xs (ap is_empty (turn-idle c rows pending k x false None b l)
        ∙ ap (λ (o : Option Text). is_empty (value_turn c (held_at rows pending) idle k x o)) s ∙ place_refused c (held_at rows pending) k places at full)
    go (a_long p is b l) = refused_at c (walk_at rows pending idle k false) x xs (ap is_empty (turn-idle c rows pending k x false (Some p) b l)
        ∙ or_else_full (long_fault c false (arg_by_long c p.0) p.1 (held_at rows pending)) _ (long_refused c grammar (held_at rows pending) p.0 p.1 has full))
    go (a_short flags is b l s) = refused_at c (walk_at rows pending idle k false) x xs (ap is_empty (turn-idle c rows pending k x false None b l) ∙ short_turn_refused c grammar rows pending idle k x flags has opens.0 s)

-- ---- the words as they are said

-- what was said, where it is whole
abbrev pub full : List Rule → List Said → Option (List Row)
full c all = if is_once all && is_empty (check_fault (shape_with c) (rows_for all) false) then Some (rows_for all) else None

abbrev pub whole : List Rule → List Said → Option (List Said) → Option (List Row)
whole c all said = option_and_then (λ more. full c (all ++ more)) said

append-assoc : (xs : List Said) (x : Said) (ys : List Said) → (xs ++ x ∷ []) ++ ys ≡ xs ++ x ∷ ys
append-assoc [] x ys = refl
append-assoc (z ∷ xs) x ys = ap (λ (s : List Said). z ∷ s) (append-assoc xs x ys)

pub append-nil : (xs : List Said) → xs ++ [] ≡ xs
append-nil [] = refl
append-nil (x ∷ xs) = ap (λ (s : List Said). x ∷ s) (append-nil xs)

pub whole-first : (c : List Rule) (all : List Said) (name v : Text) (said : Option (List Said)) → whole c (all ++ (name, v) ∷ []) said ≡ whole c all (first_said name v said)
whole-first c all name v None = refl
whole-first c all name v (Some more) = ap (full c) (append-assoc all (name, v) more)

pub whole-twice : (c : List Rule) (all : List Said) (name v : Text) (said : Option (List Said)) → says name all ≡ true → None ≡ whole c all (first_said name v said)
whole-twice c all name v None h = refl
whole-twice c all name v (Some more) h = sym (ap (λ (b : Bool). if b && is_empty (check_fault (shape_with c) (rows_for (all ++ (name, v) ∷ more)) false) then Some (rows_for (all ++ (name, v) ∷ more)) else None)
    (twice all more name v h))

abbrev pub NoDefaults : List Rule → Type 0
NoDefaults [] = Unit {0}
NoDefaults (a ∷ rest) = (a.defaults ≡ []) × NoDefaults rest

same_rows : (b : Bool) (rows : List Row) → (if b then rows else rows) ≡ rows
same_rows true rows = refl
same_rows false rows = refl

no_default : (rows : List Row) (a : Rule) → a.defaults ≡ [] → with_default rows a ≡ rows
no_default rows a none = ap (λ (d : List Text). if has_row a.id rows then rows else default_rows a.id (reading_by a) d rows) none ∙ same_rows (has_row a.id rows) rows

defaults_same : (rules_left : List Rule) (rows : List Row) → NoDefaults rules_left → fold with_default rows rules_left ≡ rows
defaults_same [] rows none = refl
defaults_same (a ∷ rest) rows none = ap (λ (rs : List Row). fold with_default rs rest) (no_default rows a none.0) ∙ defaults_same rest rows none.1

no_kinds : (b : Bool) (x : Kinds) → (if b || true then [] else x) ≡ []
no_kinds true x = refl
no_kinds false x = refl

defaults_pass : (rules_left : List Rule) (rows : List Row) → NoDefaults rules_left → defaults_fault rows rules_left ≡ []
unfolding defaults_fault
defaults_pass [] rows none = refl
defaults_pass (a ∷ rest) rows none =
    ap₂ (λ (x : Kinds) (rs : List Row). or_else x (defaults_fault rs rest))
    (ap (λ (d : List Text). if has_row a.id rows || is_empty d then [] else given_default_fault a d) none.0 ∙ no_kinds (has_row a.id rows) (given_default_fault a [])) (no_default rows a none.0)
    ∙ defaults_pass rest rows none.1

pub ended_clean : (c : List Rule) (rows : List Row) (pending : Option (Text × List Text)) (all : List Said) → NoDefaults c → settle_fault c false (held_at rows pending) ≡ []
    → settled_rows c pending rows ≡ rows_for all → is_once all ≡ true → ended c (held_at rows pending) ≡ full c all
unfolding ended
ended_clean c rows pending all none free same once =
    let end : fold with_default (settled_rows c pending rows) c ≡ rows_for all = defaults_same c (settled_rows c pending rows) none ∙ same in
    let passes : defaults_fault (settled_rows c pending rows) c ≡ [] = defaults_pass c (settled_rows c pending rows) none in
    (λ i. if is_empty (or_else (free i) (or_else (passes i) (check_fault (shape_with c) (end i) false))) then Some (end i) else None)
    ∙ ap (λ (b : Bool). if b && is_empty (check_fault (shape_with c) (rows_for all) false) then Some (rows_for all) else None) (sym once)

-- ---- a value by its place

held_is : (b : Bool) (x y : Held) → (if b && false then x else y) ≡ y
held_is true x y = refl
held_is false x y = refl

pub to_place : (c : List Rule) (rows : List Row) (pending : Option (Text × List Text)) (k : ℕ) (t : Bool) (x name : Text) (long : Option Text) (index : Option ℕ) (required : Bool)
    → to_positional c (Some (set_rule name long index required)) x (walk_at rows pending idle k t) (held_at rows pending)
    ≡ walk_at (settled_rows c pending rows) (Some (name, x ∷ [])) idle (min (k + 1) usize_max) t
to_place c rows pending k true x name long index required =
    ap (λ (h : Held). record (walk_at rows pending idle (min (k + 1) usize_max) true) { held = pushed name x h }) (held_is (is_pending (set_rule name long index required) pending) (held_at rows pending) (settled c (held_at rows pending)))
to_place c rows pending k false x name long index required =
    ap (λ (h : Held). record (walk_at rows pending idle (min (k + 1) usize_max) false) { held = pushed name x h }) (held_is (is_pending (set_rule name long index required) pending) (held_at rows pending) (settled c (held_at rows pending)))

module _ (c : List Rule) (name v : Text) (all : List Said) (found : Option Rule) (r : HasRule c name found) where
  pub pending_again : says name all ≡ true → is_empty (settle_fault c false (held_at (rows_for all) (Some (name, v ∷ [])))) ≡ false
  pending_again h = ap (λ (o : Option Rule). is_empty (option_map_or (λ a. use_fault false a (v ∷ []) (rows_for all)) o [])) r.by_id ∙ use_again name v r.long r.index r.required all h

  pub pending_first : says name all ≡ false → settle_fault c false (held_at (rows_for all) (Some (name, v ∷ []))) ≡ []
  pending_first h = ap (λ (o : Option Rule). option_map_or (λ a. use_fault false a (v ∷ []) (rows_for all)) o []) r.by_id ∙ use_first name v r.long r.index r.required all h

  pub pending_rows : says name all ≡ false → settled_rows c (Some (name, v ∷ [])) (rows_for all) ≡ rows_for (all ++ (name, v) ∷ [])
  pending_rows h = ap (λ (o : Option Rule). used_by_id o (v ∷ []) (rows_for all)) r.by_id ∙ used_once name v r.long r.index r.required all h

-- ---- after `--`

abbrev Trails : List Rule → List Text → Type 0
Trails c words = (rows : List Row) (pending : Option (Text × List Text)) (k : ℕ) (places : List Text) (all : List Said) → settle_fault c false (held_at rows pending) ≡ []
    → settled_rows c pending rows ≡ rows_for all → is_once all ≡ true → HasPlaces c k places
    → taken_from c (walk_at rows pending idle k true) words ≡ whole c all (all_by_place places words)

pub trails : (c : List Rule) → NoDefaults c → (words : List Text) → Trails c words
unfolding taken_from walked
trails c none [] rows pending k places all free same once at = ended_clean c rows pending all none free same once ∙ ap (full c) (sym (append-nil all))
trails c none (x ∷ xs) rows pending k [] all free same once at =
    none_taken _ _ (ap (λ (o : Option Rule). is_empty (place_fault c o (held_at rows pending))) at)
trails c none (x ∷ xs) rows pending k (name ∷ places) all free same once at = start ∙ go (trails c none xs) (bool_cases (says name all))
  where
    start : taken_from c (walk_at rows pending idle k true) (x ∷ xs) ≡ taken_from c (walk_at (rows_for all) (Some (name, x ∷ [])) idle (min (k + 1) usize_max) true) xs
    start = taken_on c (walk_at rows pending idle k true) (walk_at (rows_for all) (Some (name, x ∷ [])) idle (min (k + 1) usize_max) true) x xs
        (ap (λ (o : Option Rule). place_fault c o (held_at rows pending)) at.0.is ∙ positional-settles c name at.0.long at.0.index at.0.required (held_at rows pending) ∙ free)
        (ap (λ (o : Option Rule). to_positional c o x (walk_at rows pending idle k true) (held_at rows pending)) at.0.is
        ∙ to_place c rows pending k true x name at.0.long at.0.index at.0.required
        ∙ ap (λ (rs : List Row). walk_at rs (Some (name, x ∷ [])) idle (min (k + 1) usize_max) true) same)

    go : Trails c xs → (says name all ≡ true) ⊎ (says name all ≡ false)
        → taken_from c (walk_at (rows_for all) (Some (name, x ∷ [])) idle (min (k + 1) usize_max) true) xs ≡ whole c all (first_said name x (all_by_place places xs))
    go more (inl h) = dead_trailing c (rows_for all) (Some (name, x ∷ [])) idle (min (k + 1) usize_max) places xs at.1 (pending_again c name x all _ at.0 h)
        ∙ whole-twice c all name x (all_by_place places xs) h
    go more (inr h) = more (rows_for all) (Some (name, x ∷ [])) (min (k + 1) usize_max) places (all ++ (name, x) ∷ []) (pending_first c name x all _ at.0 h) (pending_rows c name x all _ at.0 h)
        (once_more all name x once h) at.1
        ∙ whole-first c all name x (all_by_place places xs)
