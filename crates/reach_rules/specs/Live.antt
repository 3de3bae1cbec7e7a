-- Which namings are live, and which objects are named.
use Rattle.std.specs.Prelude.{◌≡◌, ℕ, true, List, Some, is_ok}
use Rattle.apfs_model.specs.Lists.{In}
use Rattle.nx_ring.specs.Checkpoint.{Seen, site_of}
use Rattle.reach_rules.specs.Naming.{Object, Newest, Naming}
use Rattle.reach_rules.specs.Resolved.{Found, resolved}
use Rattle.reach_rules.specs.Tested.{tested}
use Rattle.reach_rules.specs.Next.{roots, next}

-- a finite chain leads to it from some first ones, by what each leads to
pub data Live {N : Type 0} (roots : List N) (next : N → List N) : N → Type 0 where
  rooted : (n : N) → In n roots → Live roots next n
  led : (m n : N) → Live roots next m → In n (next m) → Live roots next n

-- a live naming: a finite chain leads to it from the newest superblock, through objects that are sound as they are named
abbrev pub IsLive : List ℕ → Seen → Naming → Type 0
IsLive image seen n = Live (roots seen.nx) (next image seen) n

-- a live naming resolves to an object
pub record Names (image : List ℕ) (seen : Seen) (n : Naming) (f : Found) : Type 0 where
  pub live : IsLive image seen n
  pub found : resolved image seen n ≡ Some f

-- an object is sound as a naming expects
abbrev pub IsSoundFor : Seen → Naming → Found → Type 0
IsSoundFor seen n f = is_ok (tested (site_of seen) n.expected n.oid f.bytes) ≡ true

-- a live naming resolves to an object that is sound as it expects
pub record NamesSound (image : List ℕ) (seen : Seen) (n : Naming) (f : Found) : Type 0 where
  pub names : Names image seen n f
  pub sound : IsSoundFor seen n f

-- a named object: the newest superblock, or one to which a live naming resolves
pub data IsNamed (image : List ℕ) (seen : Seen) : Object → Type 0 where
  newest : IsNamed image seen Newest
  named : (n : Naming) (f : Found) → Names image seen n f → IsNamed image seen f.object
