-- The reaper and its lists, in the order of the chain (Reaper, nx_reaper_phys_t and nx_reap_list_phys_t).
use Rattle.std.specs.Prelude.{◌≡◌, ℕ, Bool, true, false, List, [], ◌∷◌}
use Rattle.apfs_model.specs.Apart.{Apart}
use Rattle.apfs_model.specs.Lists.{In, Lists}
use Rattle.nx_block.specs.Super.{reaper_oid_of}
use Rattle.nx_ring.specs.Checkpoint.{Seen}
use Rattle.nx_ring.specs.Reading.{eph_ids}
use Rattle.reach_rules.specs.declared.naming.LookUp.TheVariants.{ByMapping}
use Rattle.reach_rules.specs.declared.naming.Object.TheVariants.{Newest, OfId}
use Rattle.reach_rules.specs.declared.naming.Namer.TheVariants.{Whole}
use Rattle.reach_rules.specs.declared.naming.Expected.{Expected}
use Rattle.reach_rules.specs.declared.naming.Expected.TheVariants.{ReaperObject, ReapList}
use Rattle.reach_rules.specs.declared.naming.Naming.{Naming}
use Rattle.reach_rules.specs.Naming.{naming}
use Rattle.reach_rules.specs.Next.{next, unless_zero}
use Rattle.reach_rules.specs.Live.{Live}
use Rattle.reach_gather.specs.Namings.{IsPlainNaming}

-- the namings of lists, each by the object before it: the first at a position, each further one by a list
abbrev pub list_namings : ℕ → ℕ → List ℕ → List Naming
list_namings namer at [] = []
list_namings namer at (oid ∷ oids) = naming (Whole (OfId namer)) at ReapList ByMapping oid ∷ list_namings oid 32 oids

-- the namings of the reaper, by the superblock, and of its lists
abbrev pub reaper_namings : List ℕ → List Naming
reaper_namings [] = []
reaper_namings (oid ∷ oids) = naming (Whole Newest) 168 ReaperObject ByMapping oid ∷ list_namings oid 48 oids

-- what the superblock names as the reaper
abbrev pub reaper_root : List ℕ → List Naming
reaper_root nx = unless_zero (Whole Newest) 168 ReaperObject ByMapping (reaper_oid_of nx)

-- a naming is live from that of the reaper
abbrev pub IsReaperLive : List ℕ → Seen → Naming → Type 0
IsReaperLive image seen n = Live (reaper_root seen.nx) (next image seen) n

-- what is live from the naming of the reaper are the namings of these ids; each resolves, is sound and has no feature, and no id stands twice
pub record IsReaped (image : List ℕ) (seen : Seen) (ids : List ℕ) : Type 0 where
  pub live : Lists (reaper_namings ids) (IsReaperLive image seen)
  pub plain : (n : Naming) → In n (reaper_namings ids) → IsPlainNaming image seen n
  pub apart : Apart ids

-- all that is live from the naming of the reaper resolves, is sound and has no feature, and no id is named by two
pub record IsRightReaper (image : List ℕ) (seen : Seen) : Type 0 where
  pub plain : (n : Naming) → IsReaperLive image seen n → IsPlainNaming image seen n
  pub once : (m n : Naming) → IsReaperLive image seen m → IsReaperLive image seen n → m.oid ≡ n.oid → m ≡ n

-- what is expected of the first object of the chain, and of the others
abbrev pub expected_at : Bool → Expected
expected_at true = ReaperObject
expected_at false = ReapList

-- where the first object of the chain names the next one, and where the others do
abbrev pub next_at : Bool → ℕ
next_at true = 48
next_at false = 32

-- a naming of an ephemeral object resolves, is sound and has no feature, and the object names this list at a position, or none
pub record IsLink (image : List ℕ) (seen : Seen) (n : Naming) (at oid : ℕ) : Type 0 where
  pub mapped : In n.oid (eph_ids seen)
  pub plain : IsPlainNaming image seen n
  pub leads : next image seen n ≡ unless_zero (Whole (OfId n.oid)) at ReapList ByMapping oid
