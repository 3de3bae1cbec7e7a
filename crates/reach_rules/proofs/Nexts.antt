-- What a naming leads to.
use Rattle.std.proofs.Common.{◌≡◌, ℕ, Bool, true, false, ◌==◌, List, [], ◌∷◌, ◌++◌, map, Option, Some, None, Ok, Err, is_ok, inl, inr, refl, ap, sym, subst, if◌then◌else◌}
use Rattle.std.specs.List.{flat_map}
use Rattle.apfs_model.specs.Lists.{In, through}
use Rattle.nx_ring.specs.Checkpoint.{Seen, site_of}
use Rattle.reach_rules.specs.Naming.{LookUp, Namer, Whole, Expected, Naming, naming}
use Rattle.reach_rules.specs.Resolved.{Found, resolved}
use Rattle.reach_rules.specs.Tested.{Answer, tested}
use Rattle.reach_rules.specs.Next.{names, names_if, next, unless_zero}

-- something holds of each item of a list
abbrev pub Each : {X : Type 0} → (X → Type 0) → List X → Type 0
Each P [] = Unit {0}
Each P (x ∷ xs) = P x × Each P xs

pub each-in : {X : Type 0} (P : X → Type 0) (xs : List X) (x : X) → Each P xs → In x xs → P x
each-in P [] x e h = absurd h
each-in P (y ∷ ys) x e (inl s) = subst P (sym s) e.0
each-in P (y ∷ ys) x e (inr h) = each-in P ys x e.1 h

pub each-append : {X : Type 0} (P : X → Type 0) (xs ys : List X) → Each P xs → Each P ys → Each P (xs ++ ys)
each-append P [] ys a b = b
each-append P (x ∷ xs) ys a b = (a.0, each-append P xs ys a.1 b)

pub each-map : {X Y : Type 0} (P : Y → Type 0) (f : X → Y) (xs : List X) → ((x : X) → P (f x)) → Each P (map f xs)
each-map P f [] h = tt
each-map P f (x ∷ xs) h = (h x, each-map P f xs h)

pub each-flat : {X Y : Type 0} (P : Y → Type 0) (f : X → List Y) (xs : List X) → ((x : X) → Each P (f x)) → Each P (flat_map f xs)
each-flat P f [] h = tt
each-flat P f (x ∷ xs) h = each-append P (f x) (flat_map f xs) (h x) (each-flat P f xs h)

pub each-if : {X : Type 0} (P : X → Type 0) (b : Bool) (xs ys : List X) → Each P xs → Each P ys → Each P (if b then xs else ys)
each-if P true xs ys a c = a
each-if P false xs ys a c = c

pub each-unless : (P : Naming → Type 0) (namer : Namer) (at : ℕ) (expected : Expected) (how : LookUp) (oid : ℕ) → P (naming namer at expected how oid) → Each P (unless_zero namer at expected how oid)
each-unless P namer at expected how oid p = each-if P (oid == 0) [] (naming namer at expected how oid ∷ []) tt (p, tt)

pub each-through : {X Y : Type 0} (P : Y → Type 0) (o : Option X) (f : X → List Y) → ((x : X) → Each P (f x)) → Each P (through o f)
each-through P None f h = tt
each-through P (Some x) f h = h x

-- a field other than 0 names something
pub in-unless : (namer : Namer) (at : ℕ) (e : Expected) (how : LookUp) (oid : ℕ) → (oid == 0) ≡ false → In (naming namer at e how oid) (unless_zero namer at e how oid)
in-unless namer at e how oid z = subst (λ b. In (naming namer at e how oid) (if b then [] else naming namer at e how oid ∷ [])) (sym z) (inl refl)

-- what a naming leads to is named by the sound object to which it resolves
pub record Leads (image : List ℕ) (seen : Seen) (n m : Naming) : Type 0 where
  pub object : Found
  pub found : resolved image seen n ≡ Some object
  pub sound : is_ok (tested (site_of seen) n.expected n.oid object.bytes) ≡ true
  pub names : In m (names image seen n.how n.expected (Whole object.object) object.bytes)

pub from-next : (image : List ℕ) (seen : Seen) (n m : Naming) → In m (next image seen n) → Leads image seen n m
unfolding next
from-next image seen n m h =
    let answer : (f : Found) (a : Answer) → tested (site_of seen) n.expected n.oid f.bytes ≡ a → resolved image seen n ≡ Some f → In m (names_if image seen n f a) → Leads image seen n m =
    λ f a. elim a as (λ a. tested (site_of seen) n.expected n.oid f.bytes ≡ a → resolved image seen n ≡ Some f → In m (names_if image seen n f a) → Leads image seen n m) [
      | Ok b ↦ λ t e k. record { object = f; found = e; sound = ap (λ (x : Answer). is_ok x) t; names = k }
      | Err bad ↦ λ t e k. absurd k
    ] in
    let go : (o : Option Found) → resolved image seen n ≡ o → In m (through o (λ (f : Found). names_if image seen n f (tested (site_of seen) n.expected n.oid f.bytes))) → Leads image seen n m =
    λ o. elim o as (λ o. resolved image seen n ≡ o → In m (through o (λ (f : Found). names_if image seen n f (tested (site_of seen) n.expected n.oid f.bytes))) → Leads image seen n m) [
      | None ↦ λ e k. absurd k
      | Some f ↦ λ e k. answer f (tested (site_of seen) n.expected n.oid f.bytes) refl e k
    ] in
    go (resolved image seen n) refl h

names-ok : (image : List ℕ) (seen : Seen) (n m : Naming) (f : Found) (a : Answer) → is_ok a ≡ true → In m (names image seen n.how n.expected (Whole f.object) f.bytes) → In m (names_if image seen n f a)
names-ok image seen n m f (Ok b) e h = h
names-ok image seen n m f (Err bad) e h = absurd (let z : false ≡ true = e in let q : ⊥ = cc in q)

pub in-next : (image : List ℕ) (seen : Seen) (n m : Naming) → Leads image seen n m → In m (next image seen n)
unfolding next
in-next image seen n m l =
    subst (λ o. In m (through o (λ (f : Found). names_if image seen n f (tested (site_of seen) n.expected n.oid f.bytes)))) (sym l.found)
    (names-ok image seen n m l.object (tested (site_of seen) n.expected n.oid l.object.bytes) l.sound l.names)
