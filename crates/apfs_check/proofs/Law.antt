-- A container is well-formed, or a fault or a feature is present; and never both.
use Rattle.std.proofs.Common.{◌≡◌, ℕ, Bool, true, List, [], ◌∷◌, Some, None, Result, Ok, Err, ◌⊎◌, inl, inr, refl, sym, ◌∙◌, subst}
use Rattle.apfs_model.specs.Counts.{given}
use Rattle.apfs_model.specs.Lists.{In}
use Rattle.obj_base.specs.Stops.{Tells, IsFree}
use Rattle.obj_base.specs.declared.stop.Feature.{Feature}
use Rattle.obj_base.specs.declared.stop.Stop.{Stop}
use Rattle.obj_base.specs.declared.stop.Stop.TheVariants.{Found as Fails, Unsupported, ReadFault, NoMemory}
use Rattle.nx_ring.specs.Ring.{IsRingFault}
use Rattle.nx_ring.specs.Checkpoint.{Seen, site_of}
use Rattle.nx_ring.specs.Newest.{newest_of}
use Rattle.nx_ring.specs.declared.fault.RingFault.{RingFault}
use Rattle.nx_ring.proofs.Chosen as chosen
use Rattle.vol_view.specs.Heads.{heads_of}
use Rattle.vol_view.specs.Views.{views_of, rooted_views}
use Rattle.vol_view.specs.Volumes.{metadata_of}
use Rattle.vol_view.specs.LoadStops.{counted_snapshots, map_count, map_xids, IsLoadStop}
use Rattle.vol_view.specs.Agreement.{are_readable, is_snap_count, are_named, are_map_snapshots}
use Rattle.vol_view.specs.declared.head.VolHead.{VolHead}
use Rattle.vol_view.specs.declared.stop.VolStop.{VolStop}
use Rattle.vol_view.specs.declared.stop.VolStop.TheVariants as volumes
use Rattle.vol_view.specs.declared.volume.View.{View}
use Rattle.space_map.specs.declared.fault.SpaceFault.TheVariants as spaces
use Rattle.space_pool.specs.declared.fault.PoolFault.TheVariants as pools
use Rattle.reach_rules.specs.Faults as reach
use Rattle.reach_rules.specs.Features.{HasFeature, first}
use Rattle.reach_rules.specs.Accounted.{IsAccounted}
use Rattle.reach_rules.specs.declared.fault.ReachFault.{ReachFault}
use Rattle.reach_rules.specs.declared.fault.ReachFault.TheVariants as sweeps
use Rattle.apfs_model.proofs.BoolTests.{test_or, clash}
use Rattle.reach_rules.proofs.NamesDecided.{then_or, each_or}
use Rattle.reach_rules.proofs.Refutes as reached
use Rattle.reach_rules.proofs.Decided as accounts
use Rattle.view_rules.specs.Rules.{IsTreeFault}
use Rattle.view_rules.specs.declared.fault.TreeFault.{TreeFault}
use Rattle.view_rules.specs.declared.fault.TreeFault.TheVariants as trees
use Rattle.view_rules.specs.declared.profile.Profile.{Profile}
use Rattle.view_rules.specs.declared.profile.Profile.TheVariants.{Plain, Strict}
use Rattle.view_rules.proofs.Law as rules
use Rattle.apfs_check.specs.declared.fault.Fault.{Fault}
use Rattle.apfs_check.specs.declared.fault.Fault.TheVariants.{BlockZero, Truncated, NoCheckpoint, Unsound, Unnamed, NamedTwice, OwnedTwice, Outside, UnusedMapping, Leaked, Missing, PoolLeaked, PoolMissing, SpaceGeometry, SpaceCab, SpaceCib, SpaceIndex, SpacePlace, SpaceFreeCount, SpaceFreeTotal, PoolCount, PoolIndex, PoolPlace, SnapRecord, SnapCount, SnapName, OmapSnaps, TreeOrder, TreeCounts, Order, Counts, TreeRecord, Record, DupName, Hash, NoParent, NoInode, KindMismatch, DirNames, Unreached, Children, Links, SiblingLost, ExtentOrder, ExtentPlace, ExtentUncovered, LinkTarget, Stream, AttrOwner, NameHash, DataUnreached, DataCount}
use Rattle.apfs_check.specs.Volumes.{sound_heads, volume_of, volume_ranges}
use Rattle.apfs_check.specs.Data.{unreached_in, miscounted_in, streams_in, HasRightData}
use Rattle.apfs_check.specs.WellFormed.{HasAgreement, HasViewRules, IsRightVolume, IsRightContainer, IsWellFormed}
use Rattle.apfs_check.specs.Present.{OfNewest, IsVolumeFault, HasViewFault, IsDataUnreached, IsDataCount, IsPresent, IsFeature}
use Rattle.apfs_check.specs.Raised.{of_ring, of_sweep, of_view}
use Rattle.apfs_check.specs.Laws.{IsFlawed}
use Rattle.apfs_check.proofs.There.{ring-there, sweep-there, feature-there, view-there}
use Rattle.apfs_check.proofs.Named.{IsViewNamed, view-named}
use Rattle.apfs_check.proofs.Told.{view-feature}
use Rattle.apfs_check.proofs.Loaded.{sound-super, in-sound, from-sound, sound-map, in-rooted, from-rooted}
use Rattle.apfs_check.proofs.Newest.{never-read, never-full, right-newest, long-newest, whole-newest, some-newest}

-- ---- what the parts name is present
ring-flaw : (profile : Profile) (image : List ℕ) (fault : RingFault) → IsRingFault image fault → IsFlawed profile image
ring-flaw profile image fault p = inl (of_ring fault, ring-there profile image fault p)

reach-flaw : (profile : Profile) (image : List ℕ) (seen : Seen) → newest_of image ≡ Ok seen → (fault : ReachFault) → reach.Present image seen fault → IsFlawed profile image
reach-flaw profile image seen e fault p = inl (of_sweep seen.line.xid fault, sweep-there profile image seen e fault p)

feature-flaw : (profile : Profile) (image : List ℕ) (seen : Seen) → newest_of image ≡ Ok seen → (feature : Feature) (block : ℕ) → HasFeature image seen feature block → IsFlawed profile image
feature-flaw profile image seen e feature block p = inr (feature, (block, feature-there image seen e feature block p))

view-flaw : (profile : Profile) (image : List ℕ) (seen : Seen) → newest_of image ≡ Ok seen → (head : VolHead) → In head (sound_heads image seen) → (view : View) → In view (rooted_views image seen head) → IsViewNamed image seen head view →
    (fault : TreeFault) → IsTreeFault profile image (site_of seen) (volume_of image seen head) view (volume_ranges image (site_of seen) head) fault → IsFlawed profile image
view-flaw profile image seen e head one view rooted n fault p = inl (of_view fault, view-there profile image seen e head one view rooted n fault p)

-- ---- each part is right, or something is present

-- a list has nothing, or something
empty_or : {X : Type 0} (xs : List X) → (xs ≡ []) ⊎ ((x : X) × In x xs)
empty_or [] = inl refl
empty_or (x ∷ xs) = inr (x, inl refl)

-- the snapshots of a volume agree
agreed_or : (profile : Profile) (image : List ℕ) (seen : Seen) → newest_of image ≡ Ok seen → IsAccounted image seen → (head : VolHead) → In head (heads_of image seen) → HasAgreement image seen head ⊎ IsFlawed profile image
agreed_or profile image seen e w head one =
    let sound : In head (sound_heads image seen) = in-sound image seen w.names.named head one in
    let wrong : (stop : VolStop) → IsLoadStop image (site_of seen) head stop → OfNewest image (IsVolumeFault image stop) = λ stop p. record { seen = seen; newest = e; fact = record { head = head; one = sound; there = p } } in
    let Or : Bool → Type 0 = λ b. (b ≡ true) ⊎ IsFlawed profile image in
    let readable : Or (are_readable (metadata_of image (site_of seen) head)) = elim (test_or (are_readable (metadata_of image (site_of seen) head))) as (λ _. Or (are_readable (metadata_of image (site_of seen) head))) [
      | inl y ↦ inl y
      | inr f ↦ inr (inl (SnapRecord head.slot, wrong (volumes.SnapRecord head.slot) (refl, f)))
    ] in
    let counted : Or (is_snap_count (counted_snapshots image (site_of seen) head) (metadata_of image (site_of seen) head)) =
    elim (test_or (is_snap_count (counted_snapshots image (site_of seen) head) (metadata_of image (site_of seen) head))) as (λ _. Or (is_snap_count (counted_snapshots image (site_of seen) head) (metadata_of image (site_of seen) head))) [
      | inl y ↦ inl y
      | inr f ↦ inr (inl (SnapCount head.slot, wrong (volumes.SnapCount head.slot) (refl, f)))
    ] in
    let named : Or (are_named (metadata_of image (site_of seen) head)) = elim (test_or (are_named (metadata_of image (site_of seen) head))) as (λ _. Or (are_named (metadata_of image (site_of seen) head))) [
      | inl y ↦ inl y
      | inr f ↦ inr (inl (SnapName head.slot, wrong (volumes.SnapName head.slot) (refl, f)))
    ] in
    let mapped : Or (are_map_snapshots (map_count image (site_of seen) head) (map_xids image (site_of seen) head) (metadata_of image (site_of seen) head)) =
    elim (test_or (are_map_snapshots (map_count image (site_of seen) head) (map_xids image (site_of seen) head) (metadata_of image (site_of seen) head))) as (λ _. Or (are_map_snapshots (map_count image (site_of seen) head) (map_xids image (site_of seen) head) (metadata_of image (site_of seen) head))) [
      | inl y ↦ inl y
      | inr f ↦ inr (inl (OmapSnaps head.slot, wrong (volumes.OmapSnaps head.slot) (refl, sound-map image seen w.names.named head one, f)))
    ] in
    then_or readable (λ a. then_or counted (λ b. then_or named (λ c. then_or mapped (λ d. inl (record { readable = a; counted = b; named = c; mapped = d })))))

-- the views of a volume that have a root are named
abbrev IsViewNamedIn : List ℕ → Seen → VolHead → Type 0
IsViewNamedIn image seen head = (view : View) → In view (rooted_views image seen head) → IsViewNamed image seen head view

-- a view has its rules
view_or : (profile : Profile) (image : List ℕ) (seen : Seen) → newest_of image ≡ Ok seen → (head : VolHead) → In head (heads_of image seen) → In head (sound_heads image seen) → IsViewNamedIn image seen head → (view : View) → In view (rooted_views image seen head) → HasViewRules profile image seen head view ⊎ IsFlawed profile image
view_or profile image seen e head one sound named view rooted =
    elim (rules.decided profile image (site_of seen) (volume_of image seen head) view (volume_ranges image (site_of seen) head)) as (λ _. HasViewRules profile image seen head view ⊎ IsFlawed profile image) [
      | inl has ↦ inl has
      | inr flaw ↦ elim flaw as (λ _. HasViewRules profile image seen head view ⊎ IsFlawed profile image) [
        | inl t ↦ inr (view-flaw profile image seen e head sound view rooted (named view rooted) t.0 t.1)
        | inr t ↦ inr (feature-flaw profile image seen e t.0 t.1 (view-feature image seen head view (named view rooted) t.0 t.1 t.2))
      ]
    ]

-- under Strict a volume's data is right
data_or : (profile : Profile) (image : List ℕ) (seen : Seen) → newest_of image ≡ Ok seen → (head : VolHead) → In head (sound_heads image seen) → (profile ≡ Strict → HasRightData image seen head) ⊎ IsFlawed profile image
data_or Plain image seen e head sound = inl (λ s. absurd (cc))
data_or Strict image seen e head sound =
    elim (empty_or (unreached_in image seen head)) as (λ _. (Strict ≡ Strict → HasRightData image seen head) ⊎ IsFlawed Strict image) [
      | inr t ↦ inr (inl (DataUnreached head.slot t.0.0 t.0.1, record { seen = seen; newest = e; fact = record { strict = refl; head = head; one = sound; slot_is = refl; run = t.1 } }))
      | inl reached ↦ elim (empty_or (miscounted_in image seen head)) as (λ _. (Strict ≡ Strict → HasRightData image seen head) ⊎ IsFlawed Strict image) [
        | inr t ↦ inr (inl (
          DataCount head.slot t.0.first t.0.count (given (streams_in image seen head t.0)),
          record { seen = seen; newest = e; fact = record { strict = refl; head = head; one = sound; slot_is = refl; range = t.0; wrong = t.1; block_is = refl; stored_is = refl; streams_are = refl } },
        ))
        | inl counted ↦ inl (λ _. record { reached = reached; counted = counted })
      ]
    ]

-- a volume is right
volume_or : (profile : Profile) (image : List ℕ) (seen : Seen) → newest_of image ≡ Ok seen → IsAccounted image seen → (head : VolHead) → In head (heads_of image seen) → IsRightVolume profile image seen head ⊎ IsFlawed profile image
volume_or profile image seen e w head one =
    let all = w.names.named in
    let sound : In head (sound_heads image seen) = in-sound image seen all head one in
    let named : IsViewNamedIn image seen head = view-named image seen head one (sound-super image seen all head one) in
    then_or (agreed_or profile image seen e w head one) (λ agreed.
    then_or (each_or (HasViewRules profile image seen head) (views_of (volume_of image seen head) seen)
    (λ view h. view_or profile image seen e head one sound named view (in-rooted image seen all head one agreed.readable view h))) (λ views.
    then_or (data_or profile image seen e head sound) (λ right.
    inl (record { agreed = agreed; views = views; ranges = right }))))

-- the container of a checkpoint is right
container_or : (profile : Profile) (image : List ℕ) (seen : Seen) → newest_of image ≡ Ok seen → IsRightContainer profile image seen ⊎ IsFlawed profile image
container_or profile image seen e =
    elim (accounts.decided image seen) as (λ _. IsRightContainer profile image seen ⊎ IsFlawed profile image) [
      | inr flaw ↦ elim flaw as (λ _. IsRightContainer profile image seen ⊎ IsFlawed profile image) [
        | inl t ↦ inr (reach-flaw profile image seen e t.0 t.1)
        | inr t ↦ inr (feature-flaw profile image seen e t.0 t.1.0 t.1.1)
      ]
      | inl w ↦ then_or (each_or (IsRightVolume profile image seen) (heads_of image seen) (volume_or profile image seen e w)) (λ all. inl (record { accounted = w; volumes = all }))
    ]

-- an image is that of a well-formed container, or something is present
pub decided : (profile : Profile) (image : List ℕ) → IsWellFormed profile image ⊎ IsFlawed profile image
decided profile image =
    let Answer : Type 0 = IsWellFormed profile image ⊎ IsFlawed profile image in
    let stopped : (stop : Stop RingFault) → newest_of image ≡ Err stop → Answer = λ stop. elim stop as (λ stop. newest_of image ≡ Err stop → Answer) [
      | Fails fault ↦ λ e. inr (ring-flaw profile image fault (chosen.fault_there image fault e))
      | Unsupported feature block ↦ λ e. elim (chosen.feature_there image feature block (inl e)) as (λ _. Answer) [
        | inl split ↦ inr (inr (feature, (block, inl split)))
        | inr t ↦ inr (feature-flaw profile image t.0 t.1.0 feature block (first t.1.1))
      ]
      | ReadFault ↦ λ e. absurd (never-read image e)
      | NoMemory ↦ λ e. absurd (never-full image e)
    ] in
    let go : (r : Result Seen (Stop RingFault)) → newest_of image ≡ r → Answer = λ r. elim r as (λ r. newest_of image ≡ r → Answer) [
      | Ok seen ↦ λ e. then_or (container_or profile image seen e) (λ right. inl (record { seen = seen; newest = e; right = right }))
      | Err stop ↦ λ e. stopped stop e
    ] in
    go (newest_of image) refl

-- ---- what is present is so in no well-formed container

-- there is one newest checkpoint
by-newest : (profile : Profile) (image : List ℕ) (P : Seen → Type 0) (w : IsWellFormed profile image) → OfNewest image P → P w.seen
by-newest profile image P w p =
    let e : ◌≡◌ {A = Result Seen (Stop RingFault)} (Ok p.seen) (Ok w.seen) = sym p.newest ∙ w.newest in
    let same : p.seen ≡ w.seen = cc in
    subst P same p.fact

refute-reach : (profile : Profile) (image : List ℕ) (fault : ReachFault) → OfNewest image (λ seen. reach.Present image seen fault) → IsWellFormed profile image → ⊥
refute-reach profile image fault p w = reached.refutes image w.seen fault (by-newest profile image (λ seen. reach.Present image seen fault) w p) w.right.accounted

refute-view : (profile : Profile) (image : List ℕ) (fault : TreeFault) → HasViewFault profile image fault → IsWellFormed profile image → ⊥
refute-view profile image fault p w =
    let v = by-newest profile image _ w p in
    let right = w.right.volumes v.head (from-sound image w.seen v.head v.one) in
    rules.refutes profile image (site_of w.seen) (volume_of image w.seen v.head) v.view (volume_ranges image (site_of w.seen) v.head) fault v.fact (right.views v.view (from-rooted image w.seen v.head v.view v.rooted))

-- what is present of how the snapshots of a volume agree
refute-volume : (profile : Profile) (image : List ℕ) (stop : VolStop) → ((seen : Seen) (head : VolHead) → IsLoadStop image (site_of seen) head stop → HasAgreement image seen head → ⊥) → OfNewest image (IsVolumeFault image stop) → IsWellFormed profile image → ⊥
refute-volume profile image stop never p w =
    let v = by-newest profile image (IsVolumeFault image stop) w p in
    never w.seen v.head v.there (w.right.volumes v.head (from-sound image w.seen v.head v.one)).agreed

refute-unreached : (profile : Profile) (image : List ℕ) (slot block length : ℕ) → OfNewest image (IsDataUnreached profile image slot block length) → IsWellFormed profile image → ⊥
refute-unreached profile image slot block length p w =
    let d = by-newest profile image (IsDataUnreached profile image slot block length) w p in
    let right = (w.right.volumes d.head (from-sound image w.seen d.head d.one)).ranges d.strict in
    subst (λ (runs : List (ℕ × ℕ)). In (block, length) runs) right.reached d.run

refute-count : (profile : Profile) (image : List ℕ) (fault : Seen → Type 0) → ((seen : Seen) → fault seen → (profile ≡ Strict) × ((head : VolHead) × (In head (sound_heads image seen) × (miscounted_in image seen head ≡ [] → ⊥)))) → OfNewest image fault → IsWellFormed profile image → ⊥
refute-count profile image fault parts p w =
    let d = parts w.seen (by-newest profile image fault w p) in
    let right = (w.right.volumes d.1.0 (from-sound image w.seen d.1.0 d.1.1.0)).ranges d.0 in
    d.1.1.1 right.counted

pub refutes : (profile : Profile) (image : List ℕ) (fault : Fault) → IsPresent profile image fault → IsWellFormed profile image → ⊥
refutes profile image BlockZero p w = clash _ (right-newest image w.seen w.newest) p
refutes profile image (Truncated have need) p w = long-newest image w.seen have need w.newest p
refutes profile image NoCheckpoint p w = some-newest image w.seen w.newest p
refutes profile image (Unsound block why) p w = refute-reach profile image (sweeps.Unsound block why) p w
refutes profile image (Unnamed within oid xid) p w = refute-reach profile image (sweeps.Unnamed within oid xid) p w
refutes profile image (NamedTwice within oid xid) p w = refute-reach profile image (sweeps.NamedTwice within oid xid) p w
refutes profile image (OwnedTwice block) p w = refute-reach profile image (sweeps.OwnedTwice block) p w
refutes profile image (Outside block) p w = refute-reach profile image (sweeps.Outside block) p w
refutes profile image (UnusedMapping within oid xid) p w = refute-reach profile image (sweeps.UnusedMapping within oid xid) p w
refutes profile image (Leaked block) p w = refute-reach profile image (sweeps.Leaked block) p w
refutes profile image (Missing block) p w = refute-reach profile image (sweeps.Missing block) p w
refutes profile image (PoolLeaked block) p w = refute-reach profile image (sweeps.PoolLeaked block) p w
refutes profile image (PoolMissing block) p w = refute-reach profile image (sweeps.PoolMissing block) p w
refutes profile image SpaceGeometry p w = refute-reach profile image (sweeps.Space spaces.Geometry) p w
refutes profile image (SpaceCab i) p w = refute-reach profile image (sweeps.Space (spaces.Cab i)) p w
refutes profile image (SpaceCib i) p w = refute-reach profile image (sweeps.Space (spaces.Cib i)) p w
refutes profile image (SpaceIndex k) p w = refute-reach profile image (sweeps.Space (spaces.Index k)) p w
refutes profile image (SpacePlace block) p w = refute-reach profile image (sweeps.Space (spaces.Place block)) p w
refutes profile image (SpaceFreeCount k) p w = refute-reach profile image (sweeps.FreeCount k) p w
refutes profile image SpaceFreeTotal p w = refute-reach profile image (sweeps.Space spaces.FreeTotal) p w
refutes profile image PoolCount p w = refute-reach profile image (sweeps.Pool pools.Count) p w
refutes profile image (PoolIndex i) p w = refute-reach profile image (sweeps.Pool (pools.Index i)) p w
refutes profile image (PoolPlace block) p w = refute-reach profile image (sweeps.Pool (pools.Place block)) p w
refutes profile image (SnapRecord slot) p w = refute-volume profile image (volumes.SnapRecord slot) (λ seen head t a. clash _ a.readable t.1) p w
refutes profile image (SnapCount slot) p w = refute-volume profile image (volumes.SnapCount slot) (λ seen head t a. clash _ a.counted t.1) p w
refutes profile image (SnapName slot) p w = refute-volume profile image (volumes.SnapName slot) (λ seen head t a. clash _ a.named t.1) p w
refutes profile image (OmapSnaps slot) p w = refute-volume profile image (volumes.OmapSnaps slot) (λ seen head t a. clash _ a.mapped t.2) p w
refutes profile image (TreeOrder root item) p w = refute-reach profile image (sweeps.Tree root (Some item)) p w
refutes profile image (TreeCounts root) p w = refute-reach profile image (sweeps.Tree root None) p w
refutes profile image (TreeRecord root item) p w = refute-reach profile image (sweeps.Value root item) p w
refutes profile image (Order slot xid item) p w = refute-view profile image (trees.Order slot xid item) p w
refutes profile image (Counts slot xid) p w = refute-view profile image (trees.Counts slot xid) p w
refutes profile image (Record slot xid item why) p w = refute-view profile image (trees.Record slot xid item why) p w
refutes profile image (DupName at) p w = refute-view profile image (trees.DupName at) p w
refutes profile image (Hash at) p w = refute-view profile image (trees.Hash at) p w
refutes profile image (NoParent at) p w = refute-view profile image (trees.NoParent at) p w
refutes profile image (NoInode slot xid id name) p w = refute-view profile image (trees.NoInode slot xid id name) p w
refutes profile image (KindMismatch at) p w = refute-view profile image (trees.KindMismatch at) p w
refutes profile image (DirNames at) p w = refute-view profile image (trees.DirNames at) p w
refutes profile image (Unreached at) p w = refute-view profile image (trees.Unreached at) p w
refutes profile image (Children at) p w = refute-view profile image (trees.Children at) p w
refutes profile image (Links at) p w = refute-view profile image (trees.Links at) p w
refutes profile image (SiblingLost at) p w = refute-view profile image (trees.SiblingLost at) p w
refutes profile image (ExtentOrder at) p w = refute-view profile image (trees.ExtentOrder at) p w
refutes profile image (ExtentPlace at) p w = refute-view profile image (trees.ExtentPlace at) p w
refutes profile image (ExtentUncovered at) p w = refute-view profile image (trees.ExtentUncovered at) p w
refutes profile image (LinkTarget at) p w = refute-view profile image (trees.LinkTarget at) p w
refutes profile image (Stream at) p w = refute-view profile image (trees.Stream at) p w
refutes profile image (AttrOwner at) p w = refute-view profile image (trees.AttrOwner at) p w
refutes profile image (NameHash at) p w = refute-view profile image (trees.NameHash at) p w
refutes profile image (DataUnreached slot block length) p w = refute-unreached profile image slot block length p w
refutes profile image (DataCount slot block stored streams) p w =
    refute-count profile image (IsDataCount profile image slot block stored streams) (λ seen d. (d.strict, (d.head, (d.one, λ none. subst (λ ranges. In d.range ranges) none d.wrong)))) p w

pub refutes-feature : (profile : Profile) (image : List ℕ) (feature : Feature) (block : ℕ) → IsFeature image feature block → IsWellFormed profile image → ⊥
refutes-feature profile image feature block (inl split) w = whole-newest image w.seen feature block w.newest split
refutes-feature profile image feature block (inr p) w = reached.refutes-feature image w.seen feature block (by-newest profile image (λ seen. HasFeature image seen feature block) w p) w.right.accounted

pub flawed_refutes : (profile : Profile) (image : List ℕ) → IsFlawed profile image → IsWellFormed profile image → ⊥
flawed_refutes profile image (inl t) w = refutes profile image t.0 t.1 w
flawed_refutes profile image (inr t) w = refutes-feature profile image t.0 t.1.0 t.1.1 w

-- a check that stops on a well-formed container tells nothing of the image: reading failed, or memory ran out
pub check-free : (profile : Profile) (image : List ℕ) (stop : Stop Fault) → IsWellFormed profile image → Tells (IsPresent profile image) (IsFeature image) stop → IsFree stop
check-free profile image (Fails fault) w p = refutes profile image fault p w
check-free profile image (Unsupported feature block) w p = refutes-feature profile image feature block p w
check-free profile image stop w p = tt
