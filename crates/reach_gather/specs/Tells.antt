-- What the parts of a container tell: its live namings, its owners, and its named objects.
use Rattle.std.specs.Prelude.{◌≡◌, ℕ, true, List, [], ◌∷◌, ◌++◌, flat_map}
use Rattle.apfs_model.specs.Lists.{In, Lists, through}
use Rattle.nx_ring.specs.Checkpoint.{Seen}
use Rattle.reach_rules.specs.declared.naming.Object.{Object}
use Rattle.reach_rules.specs.declared.naming.Object.TheVariants.{Newest}
use Rattle.reach_rules.specs.declared.naming.Naming.{Naming}
use Rattle.reach_rules.specs.Resolved.{Found, resolved}
use Rattle.reach_rules.specs.Next.{roots, next}
use Rattle.reach_rules.specs.Live.{Live, IsLive, NamesSound, IsNamed}
use Rattle.reach_rules.specs.declared.owner.Owner.{Owner}
use Rattle.reach_rules.specs.Owners.{first_owners, owners_through, IsOwner}
use Rattle.reach_rules.specs.PoolOwners.{pool_owners_through, IsPoolOwner}
use Rattle.reach_rules.specs.Features.{features_through}
use Rattle.reach_rules.specs.Faults.{is_once}
use Rattle.reach_gather.specs.Namings.{IsPlainNaming}
use Rattle.reach_gather.specs.Joined.{AreAllOf}

-- the object to which a naming resolves, where it does
abbrev pub objects_through : List ℕ → Seen → Naming → List Object
objects_through image seen n = through (resolved image seen n) (λ (f : Found). f.object ∷ [])

-- something is told of through a naming that is live from first ones
pub record IsThrough {X : Type 0} (image : List ℕ) (seen : Seen) (told : Naming → List X) (first : List Naming) (x : X) : Type 0 where
  pub naming : Naming
  pub live : Live first (next image seen) naming
  pub one : In x (told naming)

-- each naming that is live from first ones is plain
abbrev pub ArePlainFrom : List ℕ → Seen → List Naming → Type 0
ArePlainFrom image seen first = (n : Naming) → Live first (next image seen) n → IsPlainNaming image seen n

-- of some namings no two name one id, where it isn't a block
abbrev pub AreOnce : (Naming → Type 0) → (Naming → Type 0) → Type 0
AreOnce P Q = (m n : Naming) → P m → Q n → is_once m.how ≡ true → m.how ≡ n.how → m.oid ≡ n.oid → m ≡ n

-- what a part of a container tells, with a rest of which the same is known otherwise
pub record PartTells (image : List ℕ) (seen : Seen) : Type 0 where
  pub through : (first these rest : List Naming) → AreAllOf image seen first these rest → ArePlainFrom image seen rest → ArePlainFrom image seen first
  pub once : (all rest : List Naming) → AreAllOf image seen (roots seen.nx) all rest → AreOnce (λ n. In n all) (λ n. In n all) → AreOnce (λ n. In n all) (Live rest (next image seen)) → AreOnce (Live rest (next image seen)) (Live rest (next image seen)) → AreOnce (IsLive image seen) (IsLive image seen)
  pub owners : (all rest : List Naming) (more : List Owner) → AreAllOf image seen (roots seen.nx) all rest → Lists more (IsThrough image seen (owners_through image seen) rest) → Lists (first_owners seen.nx ++ (flat_map (owners_through image seen) all ++ more)) (IsOwner image seen)
  pub pool_owners : (all rest : List Naming) (more : List Owner) → AreAllOf image seen (roots seen.nx) all rest → Lists more (IsThrough image seen (pool_owners_through image seen) rest) → Lists (flat_map (pool_owners_through image seen) all ++ more) (IsPoolOwner image seen)
  pub objects : (all rest : List Naming) (more : List Object) → AreAllOf image seen (roots seen.nx) all rest → Lists more (IsThrough image seen (objects_through image seen) rest) → Lists (Newest ∷ flat_map (objects_through image seen) all ++ more) (IsNamed image seen)

-- where each live naming is plain, it resolves to an object that is sound as it expects, and no feature is there through it
pub record PlainTells (image : List ℕ) (seen : Seen) : Type 0 where
  pub named : ArePlainFrom image seen (roots seen.nx) → (n : Naming) → IsLive image seen n → (f : Found) × NamesSound image seen n f
  pub plain : ArePlainFrom image seen (roots seen.nx) → (n : Naming) → IsLive image seen n → features_through image seen n ≡ []
