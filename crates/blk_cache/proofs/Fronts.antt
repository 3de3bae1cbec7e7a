-- What a list of pairs has once one of them was moved to its head or to its end, or one was put at its head.
use Rattle.std.proofs.Common.{◌≡◌, Bool, true, false, List, [], ◌∷◌, ◌++◌, length, Option, Some, None, is_some, refl, ap, ◌∙◌, arith, length-append}
use Rattle.std.specs.Prelude.{cond}
use Rattle.std.specs.Option.{option_map_or}
use Rattle.std.specs.Map.{lookup, lookup_entry, remove_entry}
use Rattle.lru.specs.LruCache.{promoted, demoted}

-- which of two pairs is asked first doesn't matter for whether one is found
swap : {V : Type 0} (a b : Bool) (x y : V) (o : Option V) → is_some (cond a (Some x) (cond b (Some y) o)) ≡ is_some (cond b (Some y) (cond a (Some x) o))
swap true true x y o = refl
swap true false x y o = refl
swap false true x y o = refl
swap false false x y o = refl

under : {V : Type 0} (a : Bool) (x : V) (o p : Option V) → is_some o ≡ is_some p → is_some (cond a (Some x) o) ≡ is_some (cond a (Some x) p)
under true x o p e = refl
under false x o p e = e

-- one more is found where the rest is the same
pub more : {V : Type 0} (a : Bool) (x : V) (o : Option V) → is_some o ≡ true → is_some (cond a (Some x) o) ≡ true
more true x o e = refl
more false x o e = e

-- a pair is found at the end of others as at their head
back-found : {K V : Type 0} (u : K → Bool) (es : List (K × V)) (e : K × V) → is_some (lookup u (es ++ e ∷ [])) ≡ is_some (lookup u (e ∷ es))
back-found u [] e = refl
back-found u (f ∷ es) e = under (u f.0) f.1 (lookup u (es ++ e ∷ [])) (lookup u (e ∷ es)) (back-found u es e) ∙ swap (u f.0) (u e.0) f.1 e.1 (lookup u es)

module _ {K V : Type 0} (test : K → Bool) where
  -- a pair that is moved to the head is found as before
  front-found : (u : K → Bool) (es : List (K × V)) (e : K × V) → lookup_entry test es ≡ Some e → is_some (lookup u (e ∷ remove_entry test es)) ≡ is_some (lookup u es)
  front-found u [] e h = cc
  front-found u (f ∷ es) e h = (elim (test f.0) as (λ y. test f.0 ≡ y → is_some (lookup u (e ∷ remove_entry test (f ∷ es))) ≡ is_some (lookup u (f ∷ es))) [
    | true ↦ λ t. let g = rw t at h in let same : e ≡ f = cc in rw t (ap (λ (p : K × V). is_some (cond (u p.0) (Some p.1) (lookup u es))) same)
    | false ↦ λ t. let rec = front-found u es e (rw t at h) in rw t (swap (u e.0) (u f.0) e.1 f.1 (lookup u (remove_entry test es)) ∙ under (u f.0) f.1 (lookup u (e ∷ remove_entry test es)) (lookup u es) rec)
  ]) refl

  front-length : (es : List (K × V)) (e : K × V) → lookup_entry test es ≡ Some e → length (e ∷ remove_entry test es) ≡ length es
  front-length [] e h = cc
  front-length (f ∷ es) e h = (elim (test f.0) as (λ y. test f.0 ≡ y → length (e ∷ remove_entry test (f ∷ es)) ≡ length (f ∷ es)) [
    | true ↦ λ t. rw t refl
    | false ↦ λ t. let rec = front-length es e (rw t at h) in rw t (omega (arith, rec))
  ]) refl

  promoted-case : (u : K → Bool) (es : List (K × V)) (o : Option (K × V)) → lookup_entry test es ≡ o → is_some (lookup u (option_map_or (λ e. e ∷ remove_entry test es) o es)) ≡ is_some (lookup u es)
  promoted-case u es None h = refl
  promoted-case u es (Some e) h = front-found u es e h

  -- what is promoted is found as before
  pub promoted-found : (u : K → Bool) (es : List (K × V)) → is_some (lookup u (promoted test es)) ≡ is_some (lookup u es)
  promoted-found u es = promoted-case u es (lookup_entry test es) refl

  length-case : (es : List (K × V)) (o : Option (K × V)) → lookup_entry test es ≡ o → length (option_map_or (λ e. e ∷ remove_entry test es) o es) ≡ length es
  length-case es None h = refl
  length-case es (Some e) h = front-length es e h

  pub promoted-length : (es : List (K × V)) → length (promoted test es) ≡ length es
  promoted-length es = length-case es (lookup_entry test es) refl

  demoted-case : (u : K → Bool) (es : List (K × V)) (o : Option (K × V)) → lookup_entry test es ≡ o → is_some (lookup u (option_map_or (λ e. remove_entry test es ++ e ∷ []) o es)) ≡ is_some (lookup u es)
  demoted-case u es None h = refl
  demoted-case u es (Some e) h = back-found u (remove_entry test es) e ∙ front-found u es e h

  -- what is demoted is found as before
  pub demoted-found : (u : K → Bool) (es : List (K × V)) → is_some (lookup u (demoted test es)) ≡ is_some (lookup u es)
  demoted-found u es = demoted-case u es (lookup_entry test es) refl

  back-case : (es : List (K × V)) (o : Option (K × V)) → lookup_entry test es ≡ o → length (option_map_or (λ e. remove_entry test es ++ e ∷ []) o es) ≡ length es
  back-case es None h = refl
  back-case es (Some e) h = omega (arith, length-append (remove_entry test es) (e ∷ []), front-length es e h)

  pub demoted-length : (es : List (K × V)) → length (demoted test es) ≡ length es
  demoted-length es = back-case es (lookup_entry test es) refl

  -- where no value is found no pair is
  pub no-entry : (es : List (K × V)) → is_some (lookup test es) ≡ false → lookup_entry test es ≡ None
  no-entry [] h = refl
  no-entry (f ∷ es) h = (elim (test f.0) as (λ y. test f.0 ≡ y → lookup_entry test (f ∷ es) ≡ None) [
    | true ↦ λ t. let g = rw t at h in cc
    | false ↦ λ t. rw t (no-entry es (rw t at h))
  ]) refl
