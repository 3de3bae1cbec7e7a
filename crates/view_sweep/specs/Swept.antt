-- What is swept: a level, and all that is live.
use Rattle.std.specs.Prelude.{◌≡◌, ◌⊎◌, ℕ, ◌≤◌, true, List, ◌∷◌, [], ◌++◌, map, flat_map, Option, Some}
use Rattle.apfs_model.specs.Blocks.{in_container}
use Rattle.apfs_model.specs.Lists.{In}
use Rattle.apfs_model.specs.Apart.{Apart}
use Rattle.obj_base.specs.declared.site.Site.{Site}
use Rattle.omap_map.specs.Features.{mapping_features}
use Rattle.omap_map.specs.declared.records.OmapRecord.{OmapRecord}
use Rattle.reach_rules.specs.Live.{Live}
use Rattle.view_sweep.specs.declared.wanted.Want.{Want}
use Rattle.view_sweep.specs.declared.wanted.Want.TheVariants.{Root, Metadata, Node}
use Rattle.view_sweep.specs.declared.wanted.Head.{Head}
use Rattle.view_sweep.specs.declared.wanted.Wanted.{Wanted}
use Rattle.view_sweep.specs.declared.wanted.Asked.{Asked}
use Rattle.view_sweep.specs.declared.used.Used.{Used}
use Rattle.view_sweep.specs.declared.used.Hit.{Hit}
use Rattle.view_sweep.specs.Wanted.{heads_want}
use Rattle.view_sweep.specs.Sets.{asked_with}
use Rattle.view_sweep.specs.Found.{World, used_by, is_sound, wants_of, next_of}

-- each hit's record gives a block of a container of so many blocks
abbrev pub ArePlaced : ℕ → List Hit → Type 0
ArePlaced blocks hits = (h : Hit) → In h hits → in_container blocks h.mapping.paddr ≡ Some h.mapping.paddr

-- what a hit wants in turn, by the bytes to which records lead
abbrev pub hit_wants : (OmapRecord → List ℕ) → Hit → List Wanted
hit_wants bytes h = wants_of h.wanted h.mapping (bytes h.mapping)

-- what is asked of the views of its set then
abbrev pub hit_asks : (OmapRecord → List ℕ) → Hit → List Asked
hit_asks bytes h = map (asked_with h.set) (hit_wants bytes h)

-- each hit is sound as it is wanted
abbrev pub AreSound : Site → (OmapRecord → List ℕ) → List Hit → Type 0
AreSound site bytes hits = (h : Hit) → In h hits → is_sound site h.wanted (bytes h.mapping) ≡ true

-- the records read so far, and one more where it isn't the one that is held
abbrev pub IsTurned : Option Used → Used → List Used → List Used → Type 0
IsTurned held u old new = ((held ≡ Some u) × (new ≡ old)) ⊎ ((held ≡ Some u → ⊥) × (new ≡ old ++ u ∷ []))

-- what was read: each of some records, once, and no other
pub record AreRead (records read : List Used) : Type 0 where
  pub apart : Apart read
  pub each : (u : Used) → In u records → In u read
  pub only : (u : Used) → In u read → In u records

-- no id of a view is wanted in two ways
abbrev pub IsOnce : List Wanted → Type 0
IsOnce ws = (a b : Wanted) → In a ws → In b ws → a.view ≡ b.view → a.oid ≡ b.oid → a ≡ b

-- an object that is wanted is found by a record, by which it is sound, and whose mapping has no feature
pub record IsClear (k : World) (w : Wanted) : Type 0 where
  pub by : OmapRecord
  pub found : k.look w ≡ Some by
  pub sound : is_sound k.site w (k.bytes by) ≡ true
  pub plain : mapping_features k.site.block_size by.flags by.size ≡ []

-- a record is used by an object that is wanted
pub record IsUsedBy (k : World) (P : Wanted → Type 0) (u : Used) : Type 0 where
  pub one : Wanted
  pub wanted : P one
  pub by : OmapRecord
  pub found : k.look one ≡ Some by
  pub same : u ≡ used_by one.view by

-- a level was taken: each object that was wanted is clear, none is wanted twice, each record was read once, and these are wanted in turn
pub record IsStep (k : World) (current before after : List Wanted) (read : List Used) : Type 0 where
  pub below : (w : Wanted) → In w after → In w before ⊎ In w (flat_map (next_of k) current)
  pub all : (w : Wanted) → In w before ⊎ In w (flat_map (next_of k) current) → In w after
  pub clear : (w : Wanted) → In w current → IsClear k w
  pub once : IsOnce current
  pub apart : Apart read
  pub each : (w : Wanted) (r : OmapRecord) → In w current → k.look w ≡ Some r → In (used_by w.view r) read
  pub only : (u : Used) → In u read → IsUsedBy k (λ w. In w current) u

-- how far above the leaves an object is wanted; what a superblock names is wanted above all levels
abbrev pub level_by : Want → ℕ
level_by Root = 16
level_by Metadata = 16
level_by (Node level namer entry) = level

abbrev pub level_of : Wanted → ℕ
level_of w = level_by w.want

-- a chain leads to it from what the superblocks of some views want, through objects that are sound as they are wanted
abbrev pub IsLive : World → List Head → Wanted → Type 0
IsLive k heads w = Live (heads_want heads) (next_of k) w

-- all from a level up is swept: all that is live there is clear and wanted once, and each of its records was read, once
pub record IsSwept (k : World) (heads : List Head) (level : ℕ) (read : List Used) : Type 0 where
  pub clear : (w : Wanted) → IsLive k heads w → level ≤ level_of w → IsClear k w
  pub once : (a b : Wanted) → IsLive k heads a → IsLive k heads b → level ≤ level_of a → level ≤ level_of b → a.view ≡ b.view → a.oid ≡ b.oid → a ≡ b
  pub apart : Apart read
  pub each : (w : Wanted) (r : OmapRecord) → IsLive k heads w → level ≤ level_of w → k.look w ≡ Some r → In (used_by w.view r) read
  pub only : (u : Used) → In u read → IsUsedBy k (λ w. IsLive k heads w × (level ≤ level_of w)) u

-- what superblocks want leads to these
pub record AreKids (k : World) (heads : List Head) (kids : List Wanted) : Type 0 where
  pub live : (w : Wanted) → In w kids → IsLive k heads w
  pub all : (m w : Wanted) → In m (heads_want heads) → In w (next_of k m) → In w kids
