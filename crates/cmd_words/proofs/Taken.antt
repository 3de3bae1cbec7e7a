-- clap takes the words exactly where they say something whole.
use Rattle.std.proofs.Common.{◌==◌, ◌≡◌, ◌∙◌, ◌+◌, ◌⊎◌, ⊎_elim, inl, inr, ℕ, Bool, true, false, List, [], ◌∷◌, ◌++◌, Option, Some, None, min, refl, sym, ap, ap₂, subst, if◌then◌else◌, nat_lt, codes}
use Rattle.std.specs.Option.{option_map_or}
use Rattle.std.specs.Str.{bytes_eq}
use Rattle.clap.specs.Lexer.{long_of, short_of, usize_max}
use Rattle.clap.specs.Walk.{Held, Row, Rule, Step, Walk, after_flag, after_step, arg_by_id, arg_by_index, arg_by_long, idle, is_empty, long_met, next, option, option_word, settled_rows, short_or_plain, to_positional, used, walked}
use Rattle.clap.specs.Kinds.{Kinds, or_else}
use Rattle.clap.specs.Faults.{long_fault, settle_fault, step_fault, turn_fault, use_fault}
use Rattle.cmd_words.specs.Said.{Grammar, Said, Text, all_by_place, by_name, by_place, first_said, is_among, is_once, is_value, named, said_from, says, with_value, without_value}
use Rattle.cmd_words.proofs.Shapes.{HasNames, HasPlaces, HasRule, rows_for, set_rule, flag_rule, shape_with}
use Rattle.cmd_words.proofs.Rows.{bool_cases, flag_again, flag_first, flag_used, once_more, text_itself, use_again, use_first, used_once}
use Rattle.cmd_words.proofs.Walks.{AllOpen, IsOpen, Looks, NoDefaults, a_long, a_short, a_value, append-nil, dashes, dead_idle, dead_trailing, ended_clean, ended_refused, full, held_at, long_refused, looks, or_else_full, pending_again, pending_first, pending_rows, place_fault, positional-settles, refused_at, short_turn_refused, taken_from, taken_on, to_place, trails, turn-idle, turn-option, value_turn, walk_at, walked-idle, walked-option, whole, whole-first, whole-twice}

-- nothing waits, and what is pending passes
abbrev Ready : List Rule → Grammar → List Text → Type 0
Ready c grammar words = (rows : List Row) (pending : Option (Text × List Text)) (k : ℕ) (places : List Text) (all : List Said) → settle_fault c false (held_at rows pending) ≡ []
    → settled_rows c pending rows ≡ rows_for all → is_once all ≡ true → HasPlaces c k places
    → taken_from c (walk_at rows pending idle k false) words ≡ whole c all (said_from grammar places None words)

-- an option waits for its value
abbrev Waits : List Rule → Grammar → List Text → Type 0
Waits c grammar words = (name : Text) (found : Option Rule) (k : ℕ) (places : List Text) (all : List Said) → HasRule c name found → is_once all ≡ true → HasPlaces c k places
    → taken_from c (walk_at (rows_for all) (Some (name, [])) (option name) k false) words ≡ whole c all (said_from grammar places (Some name) words)

-- a value that is pending, with the words after it
after_value : (c : List Rule) (grammar : Grammar) (xs : List Text) → HasNames c grammar → AllOpen xs → Ready c grammar xs
    → (name v : Text) (found : Option Rule) (k : ℕ) (places : List Text) (all : List Said) → HasRule c name found → is_once all ≡ true → HasPlaces c k places
    → taken_from c (walk_at (rows_for all) (Some (name, v ∷ [])) idle k false) xs ≡ whole c all (first_said name v (said_from grammar places None xs))
after_value c grammar xs has opens more name v found k places all r once at = go (bool_cases (says name all))
  where
    go : (says name all ≡ true) ⊎ (says name all ≡ false)
        → taken_from c (walk_at (rows_for all) (Some (name, v ∷ [])) idle k false) xs ≡ whole c all (first_said name v (said_from grammar places None xs))
    go (inl h) = dead_idle c grammar (rows_for all) (Some (name, v ∷ [])) k places xs has opens at (pending_again c name v all found r h)
        ∙ whole-twice c all name v (said_from grammar places None xs) h
    go (inr h) = more (rows_for all) (Some (name, v ∷ [])) k places (all ++ (name, v) ∷ []) (pending_first c name v all found r h) (pending_rows c name v all found r h)
        (once_more all name v once h) at ∙ whole-first c all name v (said_from grammar places None xs)

-- the value of an option that waited
module _ (c : List Rule) (name x : Text) (k : ℕ) (all : List Said) (found : Option Rule) (r : HasRule c name found) where
  abbrev waited : Option Rule → Held × Step
  waited o = ((option_word o name x (held_at (rows_for all) (Some (name, [])))).0, next (option_word o name x (held_at (rows_for all) (Some (name, [])))).1)

  filled : after_step c x (walk_at (rows_for all) (Some (name, [])) (option name) k false) (waited (arg_by_id c name)).0 (waited (arg_by_id c name)).1
      ≡ walk_at (rows_for all) (Some (name, x ∷ [])) idle k false
  filled = ap (λ (o : Option Rule). after_step c x (walk_at (rows_for all) (Some (name, [])) (option name) k false) (waited o).0 (waited o).1) r.by_id
      ∙ ap (λ (b : Bool). walk_at (rows_for all) (Some (name, x ∷ [])) (if nat_lt (if b then 1 else 0) 1 then option name else idle) k false) (text_itself name)

  waiting_refused : is_empty (settle_fault c false (held_at (rows_for all) (Some (name, [])))) ≡ false
  waiting_refused = ap (λ (o : Option Rule). is_empty (option_map_or (λ a. use_fault false a [] (rows_for all)) o [])) r.by_id

waits : (c : List Rule) (grammar : Grammar) → HasNames c grammar → (words : List Text) → AllOpen words
    → ((x : Text) (xs : List Text) → words ≡ x ∷ xs → Ready c grammar xs) → Waits c grammar words
unfolding taken_from
waits c grammar has [] opens more name found k places all r once at = ended_refused c _ (waiting_refused c name [] k all found r)
waits c grammar has (x ∷ xs) opens more name found k places all r once at = go (looks x)
  where
    no : is_value x ≡ false → None ≡ whole c all (said_from grammar places (Some name) (x ∷ xs))
    no e = sym (ap (λ (b : Bool). whole c all (if b then first_said name x (said_from grammar places None xs) else None)) e)

    go : Looks x → taken_from c (walk_at (rows_for all) (Some (name, [])) (option name) k false) (x ∷ xs) ≡ whole c all (said_from grammar places (Some name) (x ∷ xs))
    go (dashes e) =
        let b : bytes_eq x (45 ∷ 45 ∷ []) ≡ true = ap (λ (t : Text). bytes_eq t (45 ∷ 45 ∷ [])) e in
        taken_on c (walk_at (rows_for all) (Some (name, [])) (option name) k false) (walk_at (rows_for all) (Some (name, [])) (option name) k true) x xs
        (turn-option c (rows_for all) (Some (name, [])) k x name true (long_of x) b refl) (walked-option c (rows_for all) (Some (name, [])) k x name true (long_of x) b refl)
        ∙ dead_trailing c (rows_for all) (Some (name, [])) (option name) k places xs at (waiting_refused c name [] k all found r)
        ∙ no (ap is_value e)
    go (a_value is b l s) =
        taken_on c (walk_at (rows_for all) (Some (name, [])) (option name) k false) (walk_at (rows_for all) (Some (name, x ∷ [])) idle k false) x xs
        (turn-option c (rows_for all) (Some (name, [])) k x name false None b l
        ∙ ap (λ (o : Option Text). value_turn c (held_at (rows_for all) (Some (name, []))) (option name) k x o) s)
        (walked-option c (rows_for all) (Some (name, [])) k x name false None b l
        ∙ ap (λ (o : Option Text). after_step c x (walk_at (rows_for all) (Some (name, [])) (option name) k false) (short_or_plain c (option name) x o (held_at (rows_for all) (Some (name, [])))).0
        (short_or_plain c (option name) x o (held_at (rows_for all) (Some (name, [])))).1) s
        ∙ filled c name x k all found r)
        ∙ after_value c grammar xs has opens.1 (more x xs refl) name x found k places all r once at
        ∙ sym (ap (λ (b : Bool). whole c all (if b then first_said name x (said_from grammar places None xs) else None)) is)
    go (a_long p is b l) = refused_at c (walk_at (rows_for all) (Some (name, [])) (option name) k false) x xs
        (ap is_empty (turn-option c (rows_for all) (Some (name, [])) k x name false (Some p) b l)
        ∙ or_else_full (long_fault c false (arg_by_long c p.0) p.1 (held_at (rows_for all) (Some (name, [])))) _
        (long_refused c grammar (held_at (rows_for all) (Some (name, []))) p.0 p.1 has (waiting_refused c name [] k all found r))) ∙ no is
    go (a_short flags is b l s) = refused_at c (walk_at (rows_for all) (Some (name, [])) (option name) k false) x xs
        (ap is_empty (turn-option c (rows_for all) (Some (name, [])) k x name false None b l)
        ∙ short_turn_refused c grammar (rows_for all) (Some (name, [])) (option name) k x flags has opens.0 s) ∙ no is

-- `--name` or `--name=value`, of an option or a flag
module _ (c : List Rule) (grammar : Grammar) (xs : List Text) (has : HasNames c grammar) (opens : AllOpen xs) (ready : Ready c grammar xs) (waiting : Waits c grammar xs)
    (rows : List Row) (pending : Option (Text × List Text)) (k : ℕ) (places : List Text) (all : List Said) (free : settle_fault c false (held_at rows pending) ≡ [])
    (same : settled_rows c pending rows ≡ rows_for all) (once : is_once all ≡ true) (at : HasPlaces c k places) (x name : Text) where
  abbrev long_turn : Option Text → Option Rule → Kinds
  long_turn v o = or_else (long_fault c false o v (held_at rows pending))
      (step_fault (shape_with c) k (after_flag c idle x (long_met c o v (held_at rows pending)).0 (long_met c o v (held_at rows pending)).1).0
      (after_flag c idle x (long_met c o v (held_at rows pending)).0 (long_met c o v (held_at rows pending)).1).1)

  abbrev long_walked : Option Text → Option Rule → Walk
  long_walked v o = after_step c x (walk_at rows pending idle k false)
      (after_flag c idle x (long_met c o v (held_at rows pending)).0 (long_met c o v (held_at rows pending)).1).0
      (after_flag c idle x (long_met c o v (held_at rows pending)).0 (long_met c o v (held_at rows pending)).1).1

  abbrev goes_on : Option Text → Type 0
  goes_on v = taken_from c (walk_at rows pending idle k false) (x ∷ xs) ≡ whole c all (with_value name v (λ w. said_from grammar places w xs))

  known_long : (v : Option Text) → HasRule c name (arg_by_long c name) → turn_fault (shape_with c) [] (walk_at rows pending idle k false) x ≡ long_turn v (arg_by_long c name)
      → walked c [] (walk_at rows pending idle k false) x ≡ long_walked v (arg_by_long c name) → goes_on v
  known_long None r turn after =
      taken_on c (walk_at rows pending idle k false) (walk_at (rows_for all) (Some (name, [])) (option name) k false) x xs
      (turn ∙ ap (long_turn None) r.is ∙ ap (λ (a : Kinds). or_else a []) free)
      (after ∙ ap (long_walked None) r.is ∙ ap (λ (rs : List Row). walk_at rs (Some (name, [])) (option name) k false) same)
      ∙ waiting name (arg_by_long c name) k places all r once at
  known_long (Some y) r turn after = go (bool_cases (says name all))
    where
      uses : turn_fault (shape_with c) [] (walk_at rows pending idle k false) x ≡ or_else (use_fault false (set_rule name r.long r.index r.required) (y ∷ []) (rows_for all)) []
      uses = turn ∙ ap (long_turn (Some y)) r.is
          ∙ ap₂ (λ (a : Kinds) (rs : List Row). or_else (or_else a (use_fault false (set_rule name r.long r.index r.required) (y ∷ []) rs)) []) free same

      go : (says name all ≡ true) ⊎ (says name all ≡ false) → goes_on (Some y)
      go (inl h) = refused_at c (walk_at rows pending idle k false) x xs
          (ap is_empty uses ∙ or_else_full _ [] (use_again name y r.long r.index r.required all h))
          ∙ whole-twice c all name y (said_from grammar places None xs) h
      go (inr h) = taken_on c (walk_at rows pending idle k false) (walk_at (rows_for (all ++ (name, y) ∷ [])) None idle k false) x xs
          (uses ∙ ap (λ (a : Kinds). or_else a []) (use_first name y r.long r.index r.required all h))
          (after ∙ ap (long_walked (Some y)) r.is
          ∙ ap (λ (rs : List Row). walk_at (used (set_rule name r.long r.index r.required) (y ∷ []) rs) None idle k false) same
          ∙ ap (λ (rs : List Row). walk_at rs None idle k false) (used_once name y r.long r.index r.required all h))
          ∙ ready (rows_for (all ++ (name, y) ∷ [])) None k places (all ++ (name, y) ∷ []) refl refl (once_more all name y once h) at
          ∙ whole-first c all name y (said_from grammar places None xs)

  abbrev goes_on_flagged : Option Text → Type 0
  goes_on_flagged v = taken_from c (walk_at rows pending idle k false) (x ∷ xs) ≡ whole c all (without_value name v (λ w. said_from grammar places w xs))

  known_flag : (v : Option Text) → arg_by_long c name ≡ Some (flag_rule name) → turn_fault (shape_with c) [] (walk_at rows pending idle k false) x ≡ long_turn v (arg_by_long c name)
      → walked c [] (walk_at rows pending idle k false) x ≡ long_walked v (arg_by_long c name) → goes_on_flagged v
  known_flag (Some y) is turn after = refused_at c (walk_at rows pending idle k false) x xs (ap is_empty (turn ∙ ap (long_turn (Some y)) is))
  known_flag None is turn after = go (bool_cases (says name all))
    where
      uses : turn_fault (shape_with c) [] (walk_at rows pending idle k false) x ≡ or_else (use_fault false (flag_rule name) [] (rows_for all)) []
      uses = turn ∙ ap (long_turn None) is
          ∙ ap₂ (λ (a : Kinds) (rs : List Row). or_else (or_else a (use_fault false (flag_rule name) [] rs)) []) free same

      go : (says name all ≡ true) ⊎ (says name all ≡ false) → goes_on_flagged None
      go (inl h) = refused_at c (walk_at rows pending idle k false) x xs (ap is_empty uses ∙ or_else_full _ [] (flag_again name all h))
          ∙ whole-twice c all name (codes "true") (said_from grammar places None xs) h
      go (inr h) = taken_on c (walk_at rows pending idle k false) (walk_at (rows_for (all ++ (name, codes "true") ∷ [])) None idle k false) x xs
          (uses ∙ ap (λ (a : Kinds). or_else a []) (flag_first name all h))
          (after ∙ ap (long_walked None) is
          ∙ ap (λ (rs : List Row). walk_at (used (flag_rule name) [] rs) None idle k false) same
          ∙ ap (λ (rs : List Row). walk_at rs None idle k false) (flag_used name all h))
          ∙ ready (rows_for (all ++ (name, codes "true") ∷ [])) None k places (all ++ (name, codes "true") ∷ []) refl refl (once_more all name (codes "true") once h) at
          ∙ whole-first c all name (codes "true") (said_from grammar places None xs)

-- clap's lexer reads a name as we do
named-long : (x : Text) → named x ≡ long_of x
named-long [] = refl
named-long (c ∷ []) = ⊎_elim (λ (e : (c == 45) ≡ true). rw e refl) (λ (e : (c == 45) ≡ false). rw e refl) (bool_cases (c == 45))
named-long (c ∷ d ∷ []) = ⊎_elim (λ (e : (c == 45) ≡ true). ⊎_elim (λ (f : (d == 45) ≡ true). rw (e, f) refl) (λ (f : (d == 45) ≡ false). rw (e, f) refl) (bool_cases (d == 45)))
    (λ (e : (c == 45) ≡ false). rw e refl) (bool_cases (c == 45))
named-long (c ∷ d ∷ y ∷ rest) = ⊎_elim (λ (e : (c == 45) ≡ true). ⊎_elim (λ (f : (d == 45) ≡ true). rw (e, f) refl) (λ (f : (d == 45) ≡ false). rw (e, f) refl) (bool_cases (d == 45)))
    (λ (e : (c == 45) ≡ false). rw e refl) (bool_cases (c == 45))

-- a word where nothing waits
ready_step : (c : List Rule) (grammar : Grammar) → NoDefaults c → HasNames c grammar → (x : Text) (xs : List Text) → IsOpen x → AllOpen xs → Ready c grammar xs → Waits c grammar xs
    → Ready c grammar (x ∷ xs)
unfolding walked
ready_step c grammar none has x xs here opens ready waiting rows pending k places all free same once at = go (looks x)
  where
    -- what is said where the word is no value
    said_otherwise : is_value x ≡ false → (b : Bool) → bytes_eq x (45 ∷ 45 ∷ []) ≡ b → (long : Option (Text × Option Text)) → named x ≡ long
        → (if b then whole c all (all_by_place places xs) else whole c all (by_name grammar long (λ w. said_from grammar places w xs))) ≡ whole c all (said_from grammar places None (x ∷ xs))
    said_otherwise is true dash long l = sym (ap₂ (λ (v b : Bool). whole c all (if v then by_place places x (λ left. said_from grammar left None xs)
        else (if b then all_by_place places xs else by_name grammar (named x) (λ w. said_from grammar places w xs)))) is dash)
    said_otherwise is false dash long l = sym (ap₂ (λ (v b : Bool). whole c all (if v then by_place places x (λ left. said_from grammar left None xs)
        else (if b then all_by_place places xs else by_name grammar (named x) (λ w. said_from grammar places w xs)))) is dash
        ∙ ap (λ (o : Option (Text × Option Text)). whole c all (by_name grammar o (λ w. said_from grammar places w xs))) l)

    said_by_place : is_value x ≡ true → whole c all (by_place places x (λ left. said_from grammar left None xs)) ≡ whole c all (said_from grammar places None (x ∷ xs))
    said_by_place is = sym (ap (λ (v : Bool). whole c all (if v then by_place places x (λ left. said_from grammar left None xs)
        else (if bytes_eq x (45 ∷ 45 ∷ []) then all_by_place places xs else by_name grammar (named x) (λ w. said_from grammar places w xs)))) is)

    placed : bytes_eq x (45 ∷ 45 ∷ []) ≡ false → long_of x ≡ None → short_of x ≡ None → (left : List Text) → HasPlaces c k left
        → taken_from c (walk_at rows pending idle k false) (x ∷ xs) ≡ whole c all (by_place left x (λ later. said_from grammar later None xs))
    placed b l s [] here_none = refused_at c (walk_at rows pending idle k false) x xs (ap is_empty (turn-idle c rows pending k x false None b l)
        ∙ ap (λ (o : Option Text). is_empty (value_turn c (held_at rows pending) idle k x o)) s ∙ ap (λ (o : Option Rule). is_empty (place_fault c o (held_at rows pending))) here_none)
    placed b l s (name ∷ later) there = taken_on c (walk_at rows pending idle k false) (walk_at (rows_for all) (Some (name, x ∷ [])) idle (min (k + 1) usize_max) false) x xs
        (turn-idle c rows pending k x false None b l ∙ ap (λ (o : Option Text). value_turn c (held_at rows pending) idle k x o) s
        ∙ ap (λ (o : Option Rule). place_fault c o (held_at rows pending)) there.0.is ∙ positional-settles c name there.0.long there.0.index there.0.required (held_at rows pending) ∙ free)
        (walked-idle c rows pending k x false None b l
        ∙ ap (λ (o : Option Text). after_step c x (walk_at rows pending idle k false) (short_or_plain c idle x o (held_at rows pending)).0 (short_or_plain c idle x o (held_at rows pending)).1) s
        ∙ ap (λ (o : Option Rule). to_positional c o x (walk_at rows pending idle k false) (held_at rows pending)) there.0.is
        ∙ to_place c rows pending k false x name there.0.long there.0.index there.0.required
        ∙ ap (λ (rs : List Row). walk_at rs (Some (name, x ∷ [])) idle (min (k + 1) usize_max) false) same)
        ∙ after_value c grammar xs has opens ready name x (arg_by_index c k) (min (k + 1) usize_max) later all there.0 once there.1

    -- what a name says, where it is an option, a flag or neither
    choice : Text → Option Text → Bool → Bool → Option (List Row)
    choice name v known flagged = whole c all (if known then with_value name v (λ w. said_from grammar places w xs)
        else (if flagged then without_value name v (λ w. said_from grammar places w xs) else None))

    by_long : (name : Text) (v : Option Text) → bytes_eq x (45 ∷ 45 ∷ []) ≡ false → long_of x ≡ Some (name, v)
        → (is_among name grammar.options ≡ true) ⊎ (is_among name grammar.options ≡ false) → (is_among name grammar.flags ≡ true) ⊎ (is_among name grammar.flags ≡ false)
        → taken_from c (walk_at rows pending idle k false) (x ∷ xs) ≡ whole c all (by_name grammar (Some (name, v)) (λ w. said_from grammar places w xs))
    by_long name v b l (inl e) any = known_long c grammar xs has opens ready waiting rows pending k places all free same once at x name v (has.known name e)
        (turn-idle c rows pending k x false (Some (name, v)) b l) (walked-idle c rows pending k x false (Some (name, v)) b l)
        ∙ sym (ap (λ (known : Bool). choice name v known (is_among name grammar.flags)) e)
    by_long name v b l (inr e) (inl f) = known_flag c grammar xs has opens ready waiting rows pending k places all free same once at x name v (has.flag name e f)
        (turn-idle c rows pending k x false (Some (name, v)) b l) (walked-idle c rows pending k x false (Some (name, v)) b l)
        ∙ sym (ap₂ (choice name v) e f)
    by_long name v b l (inr e) (inr f) = refused_at c (walk_at rows pending idle k false) x xs (ap is_empty (turn-idle c rows pending k x false (Some (name, v)) b l)
        ∙ ap (λ (o : Option Rule). is_empty (or_else (long_fault c false o v (held_at rows pending))
        (step_fault (shape_with c) k (after_flag c idle x (long_met c o v (held_at rows pending)).0 (long_met c o v (held_at rows pending)).1).0
        (after_flag c idle x (long_met c o v (held_at rows pending)).0 (long_met c o v (held_at rows pending)).1).1))) (has.unknown name e f))
        ∙ sym (ap₂ (choice name v) e f)

    go : Looks x → taken_from c (walk_at rows pending idle k false) (x ∷ xs) ≡ whole c all (said_from grammar places None (x ∷ xs))
    go (dashes e) =
        let b : bytes_eq x (45 ∷ 45 ∷ []) ≡ true = ap (λ (t : Text). bytes_eq t (45 ∷ 45 ∷ [])) e in
        taken_on c (walk_at rows pending idle k false) (walk_at rows pending idle k true) x xs (turn-idle c rows pending k x true (long_of x) b refl) (walked-idle c rows pending k x true (long_of x) b refl)
        ∙ trails c none xs rows pending k places all free same once at ∙ said_otherwise (ap is_value e) true b (named x) refl
    go (a_value is b l s) = placed b l s places at ∙ said_by_place is
    go (a_long p is b l) = by_long p.0 p.1 b l (bool_cases (is_among p.0 grammar.options)) (bool_cases (is_among p.0 grammar.flags)) ∙ said_otherwise is false b (Some p) (named-long x ∙ l)
    go (a_short flags is b l s) = refused_at c (walk_at rows pending idle k false) x xs
        (ap is_empty (turn-idle c rows pending k x false None b l) ∙ short_turn_refused c grammar rows pending idle k x flags has here s) ∙ said_otherwise is false b None (named-long x ∙ l)

pub reads : (c : List Rule) (grammar : Grammar) → NoDefaults c → HasNames c grammar → (words : List Text) → AllOpen words → Ready c grammar words × Waits c grammar words
unfolding taken_from
reads c grammar none has [] opens = (
  λ rows pending k places all free same once at. ended_clean c rows pending all none free same once ∙ ap (full c) (sym (append-nil all)),
  waits c grammar has [] opens (λ x xs e. absurd (cc)),
)
reads c grammar none has (x ∷ xs) opens = let more = reads c grammar none has xs opens.1 in (
  ready_step c grammar none has x xs opens.0 opens.1 more.0 more.1,
  waits c grammar has (x ∷ xs) opens (λ y ys e. let same : xs ≡ ys = cc in subst (Ready c grammar) same more.0),
)
