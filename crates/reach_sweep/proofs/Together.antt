-- What the calls say, put together: all is reached; and which records are used.
use Rattle.std.proofs.Common.{◌≡◌, ℕ, List, [], ◌++◌, inl, inr, sym, subst}
use Rattle.std.proofs.lemmas.List.{map-append}
use Rattle.apfs_model.specs.Lists.{In}
use Rattle.apfs_model.proofs.Searches.{in-append, in-left, in-right, in-map}
use Rattle.nx_ring.specs.Checkpoint.{Seen}
use Rattle.nx_ring.specs.Features.{container_features}
use Rattle.omap_map.specs.declared.records.OmapRecord.{OmapRecord}
use Rattle.vol_view.specs.Volumes.{Loaded}
use Rattle.vol_view.specs.Stops.{AreHeads}
use Rattle.vol_view.specs.declared.head.VolHead.{VolHead}
use Rattle.space_map.specs.Stops.{Known, IsSpaceOf}
use Rattle.space_pool.specs.Stops.{ArePoolBits}
use Rattle.reach_rules.specs.declared.naming.LookUp.TheVariants.{ByMapping, InContainer}
use Rattle.reach_rules.specs.declared.naming.Naming.{Naming}
use Rattle.reach_rules.specs.Next.{roots}
use Rattle.reach_rules.specs.Live.{IsLive}
use Rattle.reach_rules.specs.Accounted.{IsShaped}
use Rattle.reach_rules.specs.Reached.{Whole, AreInPool, IsReached}
use Rattle.reach_gather.specs.ViewParts.{AreOnceAs, AreJoined}
use Rattle.reach_gather.specs.Volumes.Laws.{HasParts}
use Rattle.reach_gather.proofs.VolumeLemmas.Law.{the-law}
use Rattle.view_sweep.specs.declared.used.Used.{Used}
use Rattle.view_sweep.specs.declared.idle.MapRecords.{MapRecords}
use Rattle.view_sweep.specs.Named.{head_namings, AreLive, AreReached}
use Rattle.view_sweep.specs.Unused.{AreAllUsed, AreUsedOnes}
use Rattle.reach_gather.specs.Held.{Held}
use Rattle.reach_gather.specs.Adds.{Adds}
use Rattle.reach_gather.specs.Finished.{AreRecordsWith}
use Rattle.reach_gather.specs.Pooled.{ArePooled}
use Rattle.reach_sweep.specs.Account.{AreLoadedOf}
use Rattle.reach_sweep.specs.Composed.{record_used, records_used, IsStart, AreListed, AreHeadRecords, AreCalled}
use Rattle.reach_sweep.specs.Finished.{IsFinished}
use Rattle.reach_sweep.specs.Views.{AreVolumes, namer_by, volumes_views, swept_heads, supers_of}
use Rattle.reach_sweep.proofs.Composed.{parts-compose}

-- the volumes of a checkpoint's heads, loaded: what is told of them, and their parts
pub record AreGiven (image : List ℕ) (seen : Seen) (heads : List VolHead) (volumes : List Loaded) : Type 0 where
  pub parts : HasParts image seen heads
  pub volumes_are : AreVolumes image seen heads volumes (namer_by image seen)

pub given-of : (image : List ℕ) (seen : Seen) (heads : List VolHead) (volumes : List Loaded) → AreHeads image seen heads → AreLoadedOf image seen heads volumes → AreGiven image seen heads volumes
given-of image seen heads volumes h l = record {
  parts = the-law image seen heads h;
  volumes_are = subst (λ (hs : List VolHead). AreVolumes image seen hs volumes (namer_by image seen)) (sym l.heads_are) ((parts-compose image seen).views.volumes volumes l.loaded);
}

-- the namings that are swept: what the superblocks of the views name
abbrev pub swept_namings : List ℕ → Seen → List Loaded → List Naming
swept_namings image seen volumes = head_namings (supers_of (namer_by image seen) volumes) (swept_heads seen volumes)

-- all parts were added to the first owners, and no id is named twice
pub record AreParts (image : List ℕ) (seen : Seen) (volumes : List Loaded) (start parts : Held) : Type 0 where
  pub start_is : IsStart seen start
  pub added : Adds image seen (roots seen.nx) (volumes_views seen (namer_by image seen) volumes) start parts

pub parts-live : (image : List ℕ) (seen : Seen) (volumes : List Loaded) (start parts : Held) → AreParts image seen volumes start parts → (n : Naming) → In n parts.namings → IsLive image seen n
parts-live image seen volumes start parts g = (parts-compose image seen).held_live (volumes_views seen (namer_by image seen) volumes) start parts g.start_is g.added

pub swept-live : (image : List ℕ) (seen : Seen) (heads : List VolHead) (volumes : List Loaded) (start parts : Held) → AreGiven image seen heads volumes → AreParts image seen volumes start parts → AreLive image seen (swept_namings image seen volumes)
swept-live image seen heads volumes start parts v g =
    let law = parts-compose image seen in
    law.views_live (volumes_views seen (namer_by image seen) volumes) (swept_namings image seen volumes) start parts g.added
    (law.views.loaded heads volumes (namer_by image seen) v.parts v.volumes_are) (law.views.swept heads volumes (namer_by image seen) v.parts v.volumes_are)

-- what was gathered and what views use, together
pub record AreSwept (image : List ℕ) (seen : Seen) (heads : List VolHead) (volumes : List Loaded) (start parts : Held) (used found : List Used) : Type 0 where
  pub given : AreGiven image seen heads volumes
  pub gathered : AreParts image seen volumes start parts
  pub once : AreOnceAs ByMapping parts.namings × AreOnceAs InContainer parts.namings
  pub reached : AreReached image seen (swept_namings image seen volumes) used
  pub heads_found : AreHeadRecords image seen heads (records_used found)

joined-of : (image : List ℕ) (seen : Seen) (heads : List VolHead) (volumes : List Loaded) (start parts : Held) (used found : List Used) → AreSwept image seen heads volumes start parts used found → AreJoined image seen parts.namings (swept_namings image seen volumes) (records_used used)
joined-of image seen heads volumes start parts used found a =
    let law = parts-compose image seen in
    let namer = namer_by image seen in
    law.joined (volumes_views seen namer volumes) (swept_namings image seen volumes) used start parts a.gathered.start_is a.gathered.added a.once
    (law.views.loaded heads volumes namer a.given.parts a.given.volumes_are) (law.views.swept heads volumes namer a.given.parts a.given.volumes_are) a.reached

pub records-of : (image : List ℕ) (seen : Seen) (heads : List VolHead) (volumes : List Loaded) (start parts : Held) (used found : List Used) → AreSwept image seen heads volumes start parts used found →
    AreRecordsWith image seen parts.namings (records_used used) (records_used used ++ records_used found)
records-of image seen heads volumes start parts used found a =
    (parts-compose image seen).records heads volumes (namer_by image seen) parts.namings (swept_namings image seen volumes) (records_used used) (records_used found) a.given.parts a.given.volumes_are
    (joined-of image seen heads volumes start parts used found a) a.heads_found

-- two lists, the other way round
swapped : {X : Type 0} (xs ys : List X) (x : X) → In x (xs ++ ys) → In x (ys ++ xs)
swapped xs ys x h = elim (in-append x xs ys h) as (λ _. In x (ys ++ xs)) [ inl a ↦ in-right x ys xs a | inr b ↦ in-left x ys xs b ]

records-joined : (found used : List Used) → records_used (found ++ used) ≡ records_used found ++ records_used used
records-joined found used = map-append record_used found used

records-swapped : (image : List ℕ) (seen : Seen) (all : List Naming) (used found : List Used) → AreRecordsWith image seen all (records_used used) (records_used used ++ records_used found) → AreRecordsWith image seen all (records_used used) (records_used (found ++ used))
records-swapped image seen all used found r =
    let there : (x : ℕ × OmapRecord) → In x (records_used used ++ records_used found) → In x (records_used (found ++ used)) =
    λ x h. subst (λ (xs : List (ℕ × OmapRecord)). In x xs) (sym (records-joined found used)) (swapped (records_used used) (records_used found) x h) in
    record {
      of_views = λ x h. there x (r.of_views x h);
      of_namings = λ n h how x to. there x (r.of_namings n h how x to);
      only = λ x h. r.only x (swapped (records_used found) (records_used used) x (subst (λ (xs : List (ℕ × OmapRecord)). In x xs) (records-joined found used) h));
    }

pub used-ones : (image : List ℕ) (seen : Seen) (heads : List VolHead) (volumes : List Loaded) (start parts : Held) (used found : List Used) → AreSwept image seen heads volumes start parts used found → AreUsedOnes image seen (found ++ used)
used-ones image seen heads volumes start parts used found a =
    (parts-compose image seen).used parts.namings (swept_namings image seen volumes) (records_used used) (found ++ used) (joined-of image seen heads volumes start parts used found a)
    (records-swapped image seen parts.namings used found (records-of image seen heads volumes start parts used found a))

among : (used found : List Used) (u : Used) → In u (found ++ used) → In (record_used u) (records_used used ++ records_used found)
among used found u h = elim (in-append u found used h) as (λ _. In (record_used u) (records_used used ++ records_used found)) [
  | inl a ↦ in-right (record_used u) (records_used used) (records_used found) (in-map record_used found u a)
  | inr b ↦ in-left (record_used u) (records_used used) (records_used found) (in-map record_used used u b)
]

-- what the calls say of the space, the pool, and the maps
pub record AreKnown (image : List ℕ) (seen : Seen) (heads : List VolHead) (maps : List MapRecords) (used : List Used) (space : Known) (bits : List ℕ) : Type 0 where
  pub plain : container_features seen.nx ≡ []
  pub listed : AreListed image seen heads maps
  pub all_are_used : AreAllUsed maps used
  pub space_is : IsSpaceOf image seen space
  pub pool_is : ArePoolBits image seen space.manager bits
  pub queued : ArePooled image seen space.manager

shaped-of : (image : List ℕ) (seen : Seen) (space : Known) (bits : List ℕ) → IsSpaceOf image seen space → ArePoolBits image seen space.manager bits → ArePooled image seen space.manager → IsShaped image seen space.manager
shaped-of image seen space bits s p q = record { space = s.right; pool = p.right; queued = q }

-- all is reached
pub all-reached : (image : List ℕ) (seen : Seen) (heads : List VolHead) (volumes : List Loaded) (start parts : Held) (used found : List Used) (maps : List MapRecords) (space : Known) (bits : List ℕ) (whole : Whole) →
    AreSwept image seen heads volumes start parts used found → AreKnown image seen heads maps (found ++ used) space bits → IsFinished (records_used used) (records_used found) parts space bits whole → IsReached image seen whole
all-reached image seen heads volumes start parts used found maps space bits whole a k f =
    let law = parts-compose image seen in
    let namer = namer_by image seen in
    let rest = volumes_views seen namer volumes in
    let called : AreCalled image seen heads rest (swept_namings image seen volumes) used (found ++ used) (records_used used ++ records_used found) maps start parts f.done whole = record {
      has = a.given.parts;
      start_is = a.gathered.start_is;
      added = a.gathered.added;
      once = a.once;
      rest_is = law.views.loaded heads volumes namer a.given.parts a.given.volumes_are;
      first_is = law.views.swept heads volumes namer a.given.parts a.given.volumes_are;
      reached = a.reached;
      listed = k.listed;
      all_are_used = k.all_are_used;
      among = among used found;
      records_are = records-of image seen heads volumes start parts used found a;
      told = f.told;
      ranges = f.ranges;
      pool_ranges = f.pool_ranges;
      objects = f.objects;
      plain = k.plain;
      shaped = subst (λ (s : Known). IsShaped image seen s.manager) (sym f.space_is) (shaped-of image seen space bits k.space_is k.pool_is k.queued);
      placed = subst (λ (s : Known). AreInPool s.manager whole.pool_owners) (sym f.space_is)
          (law.placed rest (records_used used) start parts f.done space whole.pool_owners a.gathered.start_is a.gathered.added f.told f.pool_ranges k.space_is k.queued);
      space = subst (λ (s : Known). IsSpaceOf image seen s) (sym f.space_is) k.space_is;
      pool = subst (λ (s : Known). ArePoolBits image seen s.manager whole.pool) (sym f.space_is) (subst (λ (b : List ℕ). ArePoolBits image seen space.manager b) (sym f.pool_is) k.pool_is);
    } in
    law.reached heads rest (swept_namings image seen volumes) used (found ++ used) (records_used used ++ records_used found) maps start parts f.done whole called
