-- What is known of the objects in the data area stays true, and what a source keeps over some calls.
use Rattle.std.proofs.Common.{◌≡◌, ℕ, Bool, true, false, cond, List, Option, Some, refl, ap, sym, ◌∙◌, arith}
use Rattle.std.specs.BTreeMap.{BTreeMap, get, IsEmpty}
use Rattle.std.specs.Map.{lookup}
use Rattle.std.specs.Ordering.{nat_cmp, is_eq}
use Rattle.std.specs.declared.cmp.Ordering.{Ordering}
use Rattle.std.specs.declared.cmp.Ordering.TheVariants.{Less, Equal, Greater}
use Rattle.std.proofs.lemmas.Map.Lookups.{exact_pairs, exact_unsigned}
use Rattle.apfs_model.specs.Kept.{IsKept}
use Rattle.nx_ring.specs.declared.areas.Areas.{Areas}
use Rattle.nx_ring.specs.declared.known.Head.{Head}
use Rattle.nx_ring.specs.Known.{sound_head, object_from, place_cmp, AreKnown}

equal_from : (o : Ordering) → is_eq o ≡ true → o ≡ Equal
equal_from Less e = absurd (Prim.cc)
equal_from Equal e = refl
equal_from Greater e = absurd (Prim.cc)

step : (image : List ℕ) (areas : Areas) (old : BTreeMap (ℕ × ℕ) (Option Head)) (place q : ℕ × ℕ) (sound got : Option Head) (b : Bool) → is_eq (place_cmp place q) ≡ b → AreKnown image areas old → sound ≡ sound_head (object_from image areas place.0 place.1) → cond b (Some sound) (get place_cmp old q) ≡ Some got → got ≡ sound_head (object_from image areas q.0 q.1)
step image areas old place q sound got true t was is e =
    let same : place ≡ q = exact_pairs nat_cmp nat_cmp exact_unsigned exact_unsigned place q (equal_from (place_cmp place q) t) in
    let value : sound ≡ got = Prim.cc in
    sym value ∙ (is ∙ ap (λ (p : ℕ × ℕ). sound_head (object_from image areas p.0 p.1)) same)
step image areas old place q sound got false t was is e = was q.0 q.1 got e

-- one more place
pub keeps : (image : List ℕ) (areas : Areas) (old new : BTreeMap (ℕ × ℕ) (Option Head)) (place : ℕ × ℕ) (sound : Option Head) → AreKnown image areas old → sound ≡ sound_head (object_from image areas place.0 place.1) →
    ((q : ℕ × ℕ) → get place_cmp new q ≡ cond (is_eq (place_cmp place q)) (Some sound) (get place_cmp old q)) → AreKnown image areas new
keeps image areas old new place sound was is updates = λ block size got e. step image areas old place (block, size) sound got (is_eq (place_cmp place (block, size))) refl was is (sym (updates (block, size)) ∙ e)

-- nothing is known at first
pub none_known : (image : List ℕ) (areas : Areas) (new : BTreeMap (ℕ × ℕ) (Option Head)) → IsEmpty new → AreKnown image areas new
none_known image areas new e = λ block size got f. let none = ap (lookup (λ k. is_eq (place_cmp (block, size) k))) e in absurd (Prim.cc)

-- what a source keeps over some calls, and then over some more, it keeps over all of them
pub kept_on : {S : Type 0} {bytes : S → Option (List ℕ)} {size faults : S → ℕ} {old mid new : S} → IsKept bytes size faults old mid → IsKept bytes size faults mid new → IsKept bytes size faults old new
kept_on one other = record { same_bytes = other.same_bytes ∙ one.same_bytes; same_size = other.same_size ∙ one.same_size; later = Prim.omega (arith, one.later, other.later) }
