-- The commands of this crate, with their grammars.
use Rattle.std.proofs.Common.{◌≡◌, ◌∙◌, ◌&&◌, ◌||◌, ⊎_elim, ℕ, Bool, true, false, not, List, [], ◌∷◌, Some, None, refl, sym, ap, ap₂, subst, codes, true≢false}
use Rattle.std.specs.Str.{bytes_eq}
use Rattle.cmd_words.specs.Lines.{check_words, target_words, view_words, volume_words, xattr_words}
use Rattle.clap.specs.Walk.{Rule, arg_by_long, arg_by_short}
use Rattle.cmd_words.specs.Commands.{check_app, target_app, view_app, volume_app, xattr_app}
use Rattle.cmd_words.specs.Said.{Text, is_among, says}
use Rattle.cmd_words.proofs.Shapes.{HasNames, HasRule, set_rule, flag_rule}
use Rattle.cmd_words.proofs.Rows.{bool_cases, text_same}
use Rattle.cmd_words.proofs.Found.{IsCommand, given-said}

required_path : (b : Bool) → (not b || false) ≡ not (b && true)
required_path true = refl
required_path false = refl

abbrev place_set : Bool → Text → ℕ → Rule
place_set required name i = set_rule name None (Some i) required

abbrev option_set : Text → Rule
option_set name = set_rule name (Some name) None false

has_option : (c : List Rule) (name given : Text) → bytes_eq name given ≡ true → HasRule c name (arg_by_long c name) → HasRule c given (arg_by_long c given)
has_option c name given e r = subst (λ (t : Text). HasRule c t (arg_by_long c t)) (text_same name given e) r

neither : (a b : Bool) → (a || (b || false)) ≡ false → (a ≡ false) × (b ≡ false)
neither true b e = absurd (true≢false e)
neither false true e = absurd (true≢false e)
neither false false e = (refl, refl)

-- two options, which no letter names
two_options : (c : List Rule) (a b : Text) (flags places required : List Text) → ((x : ℕ) → arg_by_short c x ≡ None) → HasRule c a (arg_by_long c a) → HasRule c b (arg_by_long c b)
    → ((name : Text) → bytes_eq a name ≡ false → bytes_eq b name ≡ false → is_among name flags ≡ true → arg_by_long c name ≡ Some (flag_rule name))
    → ((name : Text) → bytes_eq a name ≡ false → bytes_eq b name ≡ false → is_among name flags ≡ false → arg_by_long c name ≡ None)
    → HasNames c (record { options = a ∷ b ∷ []; flags = flags; places = places; required = required })
two_options c a b flags places required short first second flag other = record {
  short = short;
  known = λ name e. ⊎_elim (λ (f : bytes_eq a name ≡ true). has_option c a name f first)
      (λ (f : bytes_eq a name ≡ false). ⊎_elim (λ (g : bytes_eq b name ≡ true). has_option c b name g second)
      (λ (g : bytes_eq b name ≡ false). absurd (true≢false (sym e ∙ ap₂ (λ (x y : Bool). x || (y || false)) f g))) (bool_cases (bytes_eq b name))) (bool_cases (bytes_eq a name));
  flag = λ name e f. let h = neither (bytes_eq a name) (bytes_eq b name) e in flag name h.0 h.1 f;
  unknown = λ name e f. let h = neither (bytes_eq a name) (bytes_eq b name) e in other name h.0 h.1 f;
}

one_option : (c : List Rule) (a : Text) → ((x : ℕ) → arg_by_short c x ≡ None) → HasRule c a (arg_by_long c a)
    → ((name : Text) → bytes_eq a name ≡ false → arg_by_long c name ≡ None) → HasNames c (record { options = a ∷ []; flags = []; places = []; required = [] })
one_option c a short first other = record {
  short = short;
  known = λ name e. ⊎_elim (λ (f : bytes_eq a name ≡ true). has_option c a name f first)
      (λ (f : bytes_eq a name ≡ false). absurd (true≢false (sym e ∙ ap (λ (x : Bool). x || false) f))) (bool_cases (bytes_eq a name));
  flag = λ name e f. absurd (true≢false (sym f));
  unknown = λ name e f. other name (neither (bytes_eq a name) false e).0;
}

-- a flag that was said is one of two
two_flags : (c : List Rule) (a b name : Text) → arg_by_long c a ≡ Some (flag_rule a) → arg_by_long c b ≡ Some (flag_rule b) → is_among name (a ∷ b ∷ []) ≡ true → arg_by_long c name ≡ Some (flag_rule name)
two_flags c a b name first second g =
    ⊎_elim (λ (e : bytes_eq a name ≡ true). subst (λ (t : Text). arg_by_long c t ≡ Some (flag_rule t)) (text_same a name e) first)
    (λ (e : bytes_eq a name ≡ false). ⊎_elim (λ (f : bytes_eq b name ≡ true). subst (λ (t : Text). arg_by_long c t ≡ Some (flag_rule t)) (text_same b name f) second)
    (λ (f : bytes_eq b name ≡ false). absurd (true≢false (sym g ∙ ap₂ (λ (x y : Bool). x || (y || false)) e f))) (bool_cases (bytes_eq b name))) (bool_cases (bytes_eq a name))

one_flag : (c : List Rule) (a name : Text) → arg_by_long c a ≡ Some (flag_rule a) → is_among name (a ∷ []) ≡ true → arg_by_long c name ≡ Some (flag_rule name)
one_flag c a name first g =
    ⊎_elim (λ (e : bytes_eq a name ≡ true). subst (λ (t : Text). arg_by_long c t ≡ Some (flag_rule t)) (text_same a name e) first)
    (λ (e : bytes_eq a name ≡ false). absurd (true≢false (sym g ∙ ap (λ (x : Bool). x || false) e))) (bool_cases (bytes_eq a name))

abbrev view_rules : List Rule
view_rules = option_set (codes "volume") ∷ option_set (codes "snapshot") ∷ flag_rule (codes "quick") ∷ flag_rule (codes "strict") ∷ []

abbrev target_rules : List Rule
target_rules = place_set true (codes "path") 1 ∷ view_rules

abbrev xattr_rules : List Rule
xattr_rules = place_set true (codes "path") 1 ∷ place_set false (codes "name") 2 ∷ view_rules

abbrev check_rules : List Rule
check_rules = flag_rule (codes "strict") ∷ []

abbrev volume_rules : List Rule
volume_rules = option_set (codes "volume") ∷ []

abbrev root_rules : List Rule
root_rules = option_set (codes "volume") ∷ option_set (codes "snapshot") ∷ []

pub target_is : IsCommand target_app target_words
target_is = record {
  rules_are = target_rules;
  is = refl;
  words = λ xs. refl;
  none = (refl, (refl, (refl, (refl, (refl, tt)))));
  names_are = two_options target_rules (codes "volume") (codes "snapshot") (codes "quick" ∷ codes "strict" ∷ []) (codes "path" ∷ []) (codes "path" ∷ []) (λ x. refl)
      (record { long = Some (codes "volume"); index = None; required = false; is = refl; by_id = refl })
      (record { long = Some (codes "snapshot"); index = None; required = false; is = refl; by_id = refl })
      (λ name e f g. two_flags target_rules (codes "quick") (codes "strict") name refl refl g)
      (λ name e f g. let h = neither (bytes_eq (codes "quick") name) (bytes_eq (codes "strict") name) g in rw (e, f, h.0, h.1) refl);
  places_are = (record { long = None; index = Some 1; required = true; is = refl; by_id = refl }, refl);
  required_are = λ all. ap (λ (b : Bool). not b || false) (given-said (codes "path") all) ∙ required_path (says (codes "path") all);
}

pub xattr_is : IsCommand xattr_app xattr_words
xattr_is = record {
  rules_are = xattr_rules;
  is = refl;
  words = λ xs. refl;
  none = (refl, (refl, (refl, (refl, (refl, (refl, tt))))));
  names_are = two_options xattr_rules (codes "volume") (codes "snapshot") (codes "quick" ∷ codes "strict" ∷ []) (codes "path" ∷ codes "name" ∷ []) (codes "path" ∷ []) (λ x. refl)
      (record { long = Some (codes "volume"); index = None; required = false; is = refl; by_id = refl })
      (record { long = Some (codes "snapshot"); index = None; required = false; is = refl; by_id = refl })
      (λ name e f g. two_flags xattr_rules (codes "quick") (codes "strict") name refl refl g)
      (λ name e f g. let h = neither (bytes_eq (codes "quick") name) (bytes_eq (codes "strict") name) g in rw (e, f, h.0, h.1) refl);
  places_are = (
    record { long = None; index = Some 1; required = true; is = refl; by_id = refl },
    (record { long = None; index = Some 2; required = false; is = refl; by_id = refl }, refl),
  );
  required_are = λ all. ap (λ (b : Bool). not b || false) (given-said (codes "path") all) ∙ required_path (says (codes "path") all);
}

pub check_is : IsCommand check_app check_words
check_is = record {
  rules_are = check_rules;
  is = refl;
  words = λ xs. refl;
  none = (refl, tt);
  names_are = record {
    short = λ x. refl;
    known = λ name e. absurd (true≢false (sym e));
    flag = λ name e f. one_flag check_rules (codes "strict") name refl f;
    unknown = λ name e f. let h = (neither (bytes_eq (codes "strict") name) false f).0 in rw h refl;
  };
  places_are = refl;
  required_are = λ all. refl;
}

pub volume_is : IsCommand volume_app volume_words
volume_is = record {
  rules_are = volume_rules;
  is = refl;
  words = λ xs. refl;
  none = (refl, tt);
  names_are = one_option volume_rules (codes "volume") (λ x. refl)
      (record { long = Some (codes "volume"); index = None; required = false; is = refl; by_id = refl }) (λ name e. rw e refl);
  places_are = refl;
  required_are = λ all. refl;
}

pub view_is : IsCommand view_app view_words
view_is = record {
  rules_are = root_rules;
  is = refl;
  words = λ xs. refl;
  none = (refl, (refl, tt));
  names_are = two_options root_rules (codes "volume") (codes "snapshot") [] [] [] (λ x. refl)
      (record { long = Some (codes "volume"); index = None; required = false; is = refl; by_id = refl })
      (record { long = Some (codes "snapshot"); index = None; required = false; is = refl; by_id = refl })
      (λ name e f g. absurd (true≢false (sym g)))
      (λ name e f g. rw (e, f) refl);
  places_are = refl;
  required_are = λ all. refl;
}
