-- Through which views records are used, and as what.
use Rattle.std.specs.Prelude.{◌≡◌, ℕ, ◌<◌, ◌≤◌, Bool, true, List, ◌++◌, length, map, Option, Some}
use Rattle.apfs_model.specs.Blocks.{in_container}
use Rattle.apfs_model.specs.Lists.{In}
use Rattle.nx_ring.specs.Checkpoint.{Seen, site_of}
use Rattle.omap_map.specs.declared.records.OmapRecord.{OmapRecord}
use Rattle.reach_rules.specs.declared.naming.LookUp.TheVariants.{InView}
use Rattle.reach_rules.specs.declared.naming.Object.TheVariants.{OfRecord}
use Rattle.reach_rules.specs.declared.naming.TreeKind.TheVariants.{Files}
use Rattle.reach_rules.specs.declared.naming.Expected.{Expected}
use Rattle.reach_rules.specs.declared.naming.Expected.TheVariants.{ExtendedMetadata, TreeRoot, TreeNode}
use Rattle.reach_rules.specs.declared.naming.Naming.{Naming}
use Rattle.reach_rules.specs.Resolved.{standing, resolved}
use Rattle.reach_rules.specs.Next.{next}
use Rattle.reach_rules.specs.Live.{Live}
use Rattle.view_sweep.specs.declared.runs.Run.{Run}
use Rattle.view_sweep.specs.declared.sets.ViewSet.{ViewSet}
use Rattle.view_sweep.specs.declared.wanted.SweptView.{SweptView}
use Rattle.view_sweep.specs.declared.wanted.Head.{Head}
use Rattle.view_sweep.specs.declared.wanted.Want.{Want}
use Rattle.view_sweep.specs.declared.wanted.Want.TheVariants as wants
use Rattle.view_sweep.specs.declared.wanted.Wanted.{Wanted}
use Rattle.view_sweep.specs.declared.used.Hit.{Hit}
use Rattle.view_sweep.specs.declared.used.Share.{Share}
use Rattle.view_sweep.specs.declared.used.SharedAs.{SharedAs}
use Rattle.view_sweep.specs.declared.used.SharedAs.TheVariants.{Root, Metadata, Node}
use Rattle.view_sweep.specs.Runs.{has_place}
use Rattle.view_sweep.specs.Wanted.{view_at, expected_of}
use Rattle.view_sweep.specs.Found.{World, used_of}
use Rattle.view_sweep.specs.Sets.{view_of, set_at, IsFirst, AreSets}
use Rattle.view_sweep.specs.Swept.{IsLive, level_of}

-- the views of some heads, in their order
abbrev pub head_views : List Head → List SweptView
head_views heads = map (λ h. h.view) heads

-- what is expected of the object of a record, as namings have it
abbrev pub expected_as : Bool → SharedAs → Expected
expected_as hashed Root = TreeRoot (Files hashed)
expected_as hashed Metadata = ExtendedMetadata
expected_as hashed (Node level) = TreeNode (Files hashed) level

abbrev pub expected_in : Share → Expected
expected_in s = expected_as s.hashed s.expected

-- a set has the view at a place
abbrev pub is_shared : List ViewSet → Share → ℕ → Bool
is_shared sets s p = has_place (set_at sets s.set) p

-- ---- said of namings
-- a naming is looked up in a view, expects what is told of a record, names the record's id, and resolves to the record's object
pub record IsUse (image : List ℕ) (seen : Seen) (v : SweptView) (s : Share) (n : Naming) : Type 0 where
  pub in_view : n.how ≡ InView (view_at v)
  pub expected_is : n.expected ≡ expected_in s
  pub oid_is : n.oid ≡ s.used.mapping.oid
  pub found : resolved image seen n ≡ Some (standing image (site_of seen) (OfRecord s.used.map s.used.mapping) s.used.mapping.paddr)

-- of a naming one of some records tells, and its set has the view at a place
pub record HasShare (image : List ℕ) (seen : Seen) (views : List SweptView) (sets : List ViewSet) (shares : List Share) (p : ℕ) (n : Naming) : Type 0 where
  pub by : Share
  pub one : In by shares
  pub has : is_shared sets by p ≡ true
  pub is : IsUse image seen (view_of views p) by n

-- a naming that is live from some uses a record in the view at a place
pub record IsSharedBy (image : List ℕ) (seen : Seen) (views : List SweptView) (first : List Naming) (s : Share) (p : ℕ) : Type 0 where
  pub below : p < length views
  pub naming : Naming
  pub live : Live first (next image seen) naming
  pub is : IsUse image seen (view_of views p) s naming

-- the set of a record has a view exactly where a naming that is live from some and is looked up in the view resolves to the record; a view is told at its first place
pub record AreSharedBy (image : List ℕ) (seen : Seen) (views : List SweptView) (first : List Naming) (sets : List ViewSet) (shares : List Share) : Type 0 where
  pub each : (n : Naming) (p : ℕ) → Live first (next image seen) n → IsFirst views (view_of views p) p → n.how ≡ InView (view_at (view_of views p)) → HasShare image seen views sets shares p n
  pub only : (s : Share) (p : ℕ) → In s shares → is_shared sets s p ≡ true → IsSharedBy image seen views first s p

-- a set has a view
pub record HasView (set : List Run) : Type 0 where
  pub place : ℕ
  pub has : has_place set place ≡ true

-- the sets are sets of the views; each record's set is one of them, and has a view; and each record gives a block of a container of so many blocks
pub record AreInside (blocks : ℕ) (views : List SweptView) (sets : List ViewSet) (shares : List Share) : Type 0 where
  pub sets_are : AreSets views sets
  pub number : (s : Share) → In s shares → s.set < length sets
  pub some : (s : Share) → In s shares → HasView (set_at sets s.set)
  pub placed : (s : Share) → In s shares → in_container blocks s.used.mapping.paddr ≡ Some s.used.mapping.paddr

-- ---- said of what is wanted
-- as what an object is expected, whoever names it
abbrev pub shared_as : Want → SharedAs
shared_as wants.Root = Root
shared_as wants.Metadata = Metadata
shared_as (wants.Node level namer entry) = Node level

-- what is told of the record of a hit
abbrev pub share_of : Hit → Share
share_of h = record { used = used_of h; expected = shared_as h.wanted.want; hashed = h.wanted.view.hashed; set = h.set }

-- an object that is wanted of a view is found by a record, and expected as it is told of the record
pub record IsUseOf (look : Wanted → Option OmapRecord) (w : Wanted) (s : Share) : Type 0 where
  pub found : look w ≡ Some s.used.mapping
  pub map_is : w.view.map ≡ s.used.map
  pub expected_is : expected_of w ≡ expected_in s

-- of what is wanted one of some records tells, and its set has the view at a place
pub record HasUse (look : Wanted → Option OmapRecord) (sets : List ViewSet) (shares : List Share) (w : Wanted) (p : ℕ) : Type 0 where
  pub by : Share
  pub one : In by shares
  pub has : is_shared sets by p ≡ true
  pub is : IsUseOf look w by

-- something is wanted of a view that uses a record
pub record IsUsedIn (look : Wanted → Option OmapRecord) (P : Wanted → Type 0) (v : SweptView) (s : Share) : Type 0 where
  pub one : Wanted
  pub wanted : P one
  pub view_is : one.view ≡ v
  pub is : IsUseOf look one s

-- the set of a record has a view exactly where something is wanted of the view that uses the record
pub record AreShares (look : Wanted → Option OmapRecord) (views : List SweptView) (P : Wanted → Type 0) (sets : List ViewSet) (shares : List Share) : Type 0 where
  pub each : (w : Wanted) (p : ℕ) → P w → IsFirst views w.view p → HasUse look sets shares w p
  pub only : (s : Share) (p : ℕ) → In s shares → is_shared sets s p ≡ true → IsUsedIn look P (view_of views p) s

-- such records were added
pub record AddsShares (look : Wanted → Option OmapRecord) (blocks : ℕ) (views : List SweptView) (P : Wanted → Type 0) (sets : List ViewSet) (old new : List Share) : Type 0 where
  pub more : List Share
  pub added : new ≡ old ++ more
  pub inside : AreInside blocks views sets more
  pub those : AreShares look views P sets more

-- it is live, from a level up
abbrev pub IsAbove : World → List Head → ℕ → Wanted → Type 0
IsAbove k heads level w = IsLive k heads w × (level ≤ level_of w)
