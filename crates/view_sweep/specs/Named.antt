-- What is live of views, said in namings.
use Rattle.std.specs.Prelude.{◌≡◌, ℕ, List, [], Some, map}
use Rattle.apfs_model.specs.Lists.{In, Lists}
use Rattle.apfs_model.specs.Apart.{Apart}
use Rattle.obj_base.specs.declared.site.Site.{Site}
use Rattle.nx_ring.specs.Checkpoint.{Seen, site_of}
use Rattle.vol_view.specs.Volumes.{Loaded, map_or_empty}
use Rattle.reach_rules.specs.declared.naming.Object.TheVariants.{OfRecord}
use Rattle.reach_rules.specs.declared.naming.Namer.{Namer}
use Rattle.reach_rules.specs.declared.naming.Naming.{Naming}
use Rattle.reach_rules.specs.Resolved.{Found, resolved}
use Rattle.reach_rules.specs.Next.{next}
use Rattle.reach_rules.specs.Live.{Live, IsLive, IsSoundFor}
use Rattle.reach_rules.specs.Features.{features_through}
use Rattle.view_sweep.specs.declared.wanted.SweptView.{SweptView}
use Rattle.view_sweep.specs.declared.wanted.Head.{Head}
use Rattle.view_sweep.specs.declared.used.Used.{Used}
use Rattle.view_sweep.specs.Wanted.{heads_want, naming_of}
use Rattle.view_sweep.specs.Found.{records_at}

-- what the superblocks of some views name; of each view the namer is known
abbrev pub head_namings : (SweptView → Namer) → List Head → List Naming
head_namings supers heads = map (naming_of supers) (heads_want heads)

-- the site is that of a checkpoint, and each view's volume has the records of the map in the block that the view gives; through a map that isn't whole nothing is found
pub record AreOfImage (image : List ℕ) (seen : Seen) (site : Site) (volumes : List Loaded) (heads : List Head) : Type 0 where
  pub site_is : site ≡ site_of seen
  pub mapped : (h : Head) → In h heads → records_at volumes h.view.volume ≡ (map_or_empty image (site_of seen) h.view.map).records

-- all of some namings are live in the container
abbrev pub AreLive : List ℕ → Seen → List Naming → Type 0
AreLive image seen first = (n : Naming) → In n first → IsLive image seen n

-- a naming resolves to an object that is sound as it expects, and no feature is there through it
pub record IsPlainNaming (image : List ℕ) (seen : Seen) (n : Naming) : Type 0 where
  pub object : Found
  pub found : resolved image seen n ≡ Some object
  pub sound : IsSoundFor seen n object
  pub plain : features_through image seen n ≡ []

-- what is live from some namings is sound and has no feature
abbrev pub ArePlainFrom : List ℕ → Seen → List Naming → Type 0
ArePlainFrom image seen first = (n : Naming) → Live first (next image seen) n → IsPlainNaming image seen n

-- what is live from some namings is named once: under one look-up an id is named by one alone
abbrev pub AreOnceFrom : List ℕ → Seen → List Naming → Type 0
AreOnceFrom image seen first =
    (m n : Naming) → Live first (next image seen) m → Live first (next image seen) n → m.how ≡ n.how → m.oid ≡ n.oid → m ≡ n

-- a naming resolves to the object of a record of the map in a block
pub record IsOfRecord (image : List ℕ) (seen : Seen) (n : Naming) (u : Used) : Type 0 where
  pub object : Found
  pub found : resolved image seen n ≡ Some object
  pub record_is : object.object ≡ OfRecord u.map u.mapping

-- a naming resolves to the object of one of some records
pub record HasRecord (image : List ℕ) (seen : Seen) (used : List Used) (n : Naming) : Type 0 where
  pub by : Used
  pub one : In by used
  pub is : IsOfRecord image seen n by

-- a naming that is live from some resolves to the object of a record
pub record IsReachedBy (image : List ℕ) (seen : Seen) (first : List Naming) (u : Used) : Type 0 where
  pub naming : Naming
  pub live : Live first (next image seen) naming
  pub is : IsOfRecord image seen naming u

-- all that is live from some namings, which is a list, is sound, has no feature, and is named once; and the records to which it resolves are these, each once
pub record AreReached (image : List ℕ) (seen : Seen) (first : List Naming) (used : List Used) : Type 0 where
  pub namings : List Naming
  pub live : Lists namings (Live first (next image seen))
  pub plain : ArePlainFrom image seen first
  pub once : AreOnceFrom image seen first
  pub each : (n : Naming) → Live first (next image seen) n → HasRecord image seen used n
  pub only : (u : Used) → In u used → IsReachedBy image seen first u
  pub apart : Apart used
