-- What the parts of a container tell.
use Rattle.std.proofs.Common.{◌≡◌, ℕ, true, List, [], ◌∷◌, ◌++◌, Option, Some, None, inl, inr, refl, sym, subst}
use Rattle.std.specs.List.{flat_map}
use Rattle.apfs_model.specs.Lists.{In, Lists, through}
use Rattle.apfs_model.proofs.Searches.{in-left, in-right, in-append, in-flat_map, from-flat_map}
use Rattle.nx_ring.specs.Checkpoint.{Seen}
use Rattle.reach_rules.specs.declared.naming.Object.{Object}
use Rattle.reach_rules.specs.declared.naming.Object.TheVariants.{Newest}
use Rattle.reach_rules.specs.declared.naming.Naming.{Naming}
use Rattle.reach_rules.specs.Resolved.{Found, resolved}
use Rattle.reach_rules.specs.Next.{roots, next}
use Rattle.reach_rules.specs.Live.{Live, IsLive, IsNamed, newest, named}
use Rattle.reach_rules.specs.declared.owner.Owner.{Owner}
use Rattle.reach_rules.specs.Owners.{first_owners, owners_through, IsOwner, first, of}
use Rattle.reach_rules.specs.PoolOwners.{pool_owners_through, IsPoolOwner}
use Rattle.reach_rules.specs.Faults.{is_once}
use Rattle.reach_gather.specs.Namings.{IsPlainNaming}
use Rattle.reach_gather.specs.Joined.{AreAllOf}
use Rattle.reach_gather.specs.Tells.{objects_through, IsThrough, ArePlainFrom, AreOnce, PartTells, PlainTells}

-- ---- with a rest
plain-through : (image : List ℕ) (seen : Seen) (ns these rest : List Naming) → AreAllOf image seen ns these rest → ArePlainFrom image seen rest → ArePlainFrom image seen ns
plain-through image seen ns these rest a p n live = elim (a.split n live) as (λ _. IsPlainNaming image seen n) [ inl h ↦ a.plain n h | inr l ↦ p n l ]

once-by : (image : List ℕ) (seen : Seen) (all rest : List Naming) → AreAllOf image seen (roots seen.nx) all rest → AreOnce (λ n. In n all) (λ n. In n all) → AreOnce (λ n. In n all) (Live rest (next image seen)) →
    AreOnce (Live rest (next image seen)) (Live rest (next image seen)) → AreOnce (IsLive image seen) (IsLive image seen)
once-by image seen all rest a both mixed more m n lm ln once how oid = elim (a.split m lm) as (λ _. m ≡ n) [
  | inl hm ↦ elim (a.split n ln) as (λ _. m ≡ n) [ inl hn ↦ both m n hm hn once how oid | inr kn ↦ mixed m n hm kn once how oid ]
  | inr km ↦ elim (a.split n ln) as (λ _. m ≡ n) [ inl hn ↦ sym (mixed n m hn km (subst (λ h. is_once h ≡ true) how once) (sym how) (sym oid)) | inr kn ↦ more m n km kn once how oid ]
]

-- what is told of through the namings of a part, and through those of its rest, is all that is told of
pub through-part : {X : Type 0} (image : List ℕ) (seen : Seen) (told : Naming → List X) (ns these rest : List Naming) (more : List X) → AreAllOf image seen ns these rest → Lists more (IsThrough image seen told rest) →
    Lists (flat_map told these ++ more) (IsThrough image seen told ns)
through-part image seen told ns these rest more a l = (
  (λ x h. elim (in-append x (flat_map told these) more h) as (λ _. IsThrough image seen told ns x) [
    | inl k ↦ let t = from-flat_map told x these k in record { naming = t.0; live = a.these_live t.0 t.1.0; one = t.1.1 }
    | inr k ↦ let t : IsThrough image seen told rest x = l.0 x k in record { naming = t.naming; live = a.rest_live t.naming t.live; one = t.one }
  ]),
  (λ x t. elim (a.split t.naming t.live) as (λ _. In x (flat_map told these ++ more)) [
    | inl h ↦ in-left x (flat_map told these) more (in-flat_map told t.naming x these h t.one)
    | inr live ↦ in-right x (flat_map told these) more (l.1 x (record { naming = t.naming; live = live; one = t.one }))
  ]),
)

-- ---- owners
owner-in : (image : List ℕ) (seen : Seen) (xs : List Owner) → Lists xs (IsThrough image seen (owners_through image seen) (roots seen.nx)) → (a : Owner) → IsOwner image seen a → In a (first_owners seen.nx ++ xs)
owner-in image seen xs l a (first h) = in-left a (first_owners seen.nx) xs h
owner-in image seen xs l a (of n live h) = in-right a (first_owners seen.nx) xs (l.1 a (record { naming = n; live = live; one = h }))

owners-of : (image : List ℕ) (seen : Seen) (xs : List Owner) → Lists xs (IsThrough image seen (owners_through image seen) (roots seen.nx)) → Lists (first_owners seen.nx ++ xs) (IsOwner image seen)
owners-of image seen xs l = (
  (λ a h. elim (in-append a (first_owners seen.nx) xs h) as (λ _. IsOwner image seen a) [
    | inl k ↦ first k
    | inr k ↦ let t : IsThrough image seen (owners_through image seen) (roots seen.nx) a = l.0 a k in of t.naming t.live t.one
  ]),
  (λ a o. owner-in image seen xs l a o),
)

pool-owners-of : (image : List ℕ) (seen : Seen) (xs : List Owner) → Lists xs (IsThrough image seen (pool_owners_through image seen) (roots seen.nx)) → Lists xs (IsPoolOwner image seen)
pool-owners-of image seen xs l = (
  (λ a h. let t : IsThrough image seen (pool_owners_through image seen) (roots seen.nx) a = l.0 a h in record { naming = t.naming; live = t.live; one = t.one }),
  (λ a o. l.1 a (record { naming = o.naming; live = o.live; one = o.one })),
)

-- ---- objects
pub object-found : (image : List ℕ) (seen : Seen) (n : Naming) (x : Object) → In x (objects_through image seen n) → (f : Found) × ((resolved image seen n ≡ Some f) × (x ≡ f.object))
object-found image seen n x h =
    let go : (o : Option Found) → resolved image seen n ≡ o → In x (through o (λ (f : Found). f.object ∷ [])) → (f : Found) × ((resolved image seen n ≡ Some f) × (x ≡ f.object)) =
    λ o. elim o as (λ o. resolved image seen n ≡ o → In x (through o (λ (f : Found). f.object ∷ [])) → (f : Found) × ((resolved image seen n ≡ Some f) × (x ≡ f.object))) [
      | None ↦ λ e k. absurd k
      | Some f ↦ λ e k. elim k as (λ _. (f : Found) × ((resolved image seen n ≡ Some f) × (x ≡ f.object))) [ inl s ↦ (f, (e, s)) | inr z ↦ absurd z ]
    ] in
    go (resolved image seen n) refl h

pub found-object : (image : List ℕ) (seen : Seen) (n : Naming) (f : Found) → resolved image seen n ≡ Some f → In f.object (objects_through image seen n)
found-object image seen n f e = subst (λ o. In f.object (through o (λ (g : Found). g.object ∷ []))) (sym e) (inl refl)

object-named : (image : List ℕ) (seen : Seen) (x : Object) → IsThrough image seen (objects_through image seen) (roots seen.nx) x → IsNamed image seen x
object-named image seen x t =
    let f = object-found image seen t.naming x t.one in
    subst (IsNamed image seen) (sym f.1.1) (named t.naming f.0 (record { live = t.live; found = f.1.0 }))

named-in : (image : List ℕ) (seen : Seen) (xs : List Object) → Lists xs (IsThrough image seen (objects_through image seen) (roots seen.nx)) → (x : Object) → IsNamed image seen x → In x (Newest ∷ xs)
named-in image seen xs l _ newest = inl refl
named-in image seen xs l _ (named n f h) = inr (l.1 f.object (record { naming = n; live = h.live; one = found-object image seen n f h.found }))

objects-of : (image : List ℕ) (seen : Seen) (xs : List Object) → Lists xs (IsThrough image seen (objects_through image seen) (roots seen.nx)) → Lists (Newest ∷ xs) (IsNamed image seen)
objects-of image seen xs l = (
  (λ x h. elim h as (λ _. IsNamed image seen x) [ inl e ↦ subst (IsNamed image seen) (sym e) newest | inr k ↦ object-named image seen x (l.0 x k) ]),
  (λ x h. named-in image seen xs l x h),
)

-- ---- all of them
pub part-tells : (image : List ℕ) (seen : Seen) → PartTells image seen
part-tells image seen = record {
  through = plain-through image seen;
  once = once-by image seen;
  owners = λ all rest more a l. owners-of image seen (flat_map (owners_through image seen) all ++ more) (through-part image seen (owners_through image seen) (roots seen.nx) all rest more a l);
  pool_owners = λ all rest more a l. pool-owners-of image seen (flat_map (pool_owners_through image seen) all ++ more) (through-part image seen (pool_owners_through image seen) (roots seen.nx) all rest more a l);
  objects = λ all rest more a l. objects-of image seen (flat_map (objects_through image seen) all ++ more) (through-part image seen (objects_through image seen) (roots seen.nx) all rest more a l);
}

pub plain-tells : (image : List ℕ) (seen : Seen) → PlainTells image seen
plain-tells image seen = record {
  named = λ p n live. let q : IsPlainNaming image seen n = p n live in (q.object, record { names = record { live = live; found = q.found }; sound = q.sound });
  plain = λ p n live. let q : IsPlainNaming image seen n = p n live in q.plain;
}
