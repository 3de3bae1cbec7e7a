-- How the reads of a check add up.
use Rattle.std.proofs.Common.{◌≡◌, ◌∙◌, ℕ, ◌+◌, ◌*◌, ◌<◌, ◌≤◌, true, false, Bool, List, [], ◌∷◌, ◌++◌, length, get_or, map, take, Some, Result, Ok, Err, refl, sym, ap, ap₂, subst, inl, inr, arith}
use Rattle.std.specs.Prelude.{sum, OnOk, if◌then◌else◌}
use Rattle.std.proofs.lemmas.List.{map-append}
use Rattle.apfs_model.specs.Lists.{In}
use Rattle.apfs_model.proofs.BoolTests.{equal-from, never-true}
use Rattle.obj_base.specs.declared.site.Site.{Site}
use Rattle.nx_block.specs.Super.{desc_blocks_of, data_blocks_of}
use Rattle.nx_ring.specs.Checkpoint.{Seen, site_of}
use Rattle.nx_ring.specs.Newest.{newest_of}
use Rattle.nx_ring.specs.Reading.{zero_reads}
use Rattle.nx_ring.specs.Zero.{zero_of}
use Rattle.vol_view.specs.Heads.{heads_of}
use Rattle.vol_view.specs.Placed.{view_nodes}
use Rattle.vol_view.specs.ReadBound.{heads_reads, load_reads}
use Rattle.vol_view.specs.Volumes.{Loaded}
use Rattle.vol_view.specs.declared.head.VolHead.{VolHead}
use Rattle.vol_view.specs.declared.volume.Snapshot.{Snapshot}
use Rattle.vol_view.specs.declared.volume.View.{View}
use Rattle.space_map.specs.Blocks.{manager_of}
use Rattle.reach_rules.specs.Bound.{account_reads}
use Rattle.reach_sweep.specs.Views.{head_of}
use Rattle.apfs_check.specs.Data.{has_no_snapshots}
use Rattle.apfs_check.specs.Reads.{newest_reads, loading_reads, root_reads, view_reads, volume_reads, volumes_in, check_reads}
use Rattle.apfs_check.specs.Steps.{snapshot_root, AreReady}
use Rattle.apfs_check.specs.Volumes.{volume_of}
use Rattle.apfs_check.proofs.Adding.{sum-append, one-taken}

-- ---- sums
from-none : (n : ℕ) → 0 + n ≡ n
from-none n = omega arith

sum-one : {X : Type 0} (f : X → ℕ) (x : X) → sum (map f (x ∷ [])) ≡ f x
sum-one f x = from-none (f x)

-- an item more
pub sum-more : {X : Type 0} (f : X → ℕ) (xs all : List X) (x : X) (first now last : ℕ) → all ≡ xs ++ x ∷ [] → now ≤ first + sum (map f xs) → last ≤ now + f x → last ≤ first + sum (map f all)
sum-more f xs all x first now last e had more = omega (arith, had, more, ap (λ ys. sum (map f ys)) e, sum-append f xs (x ∷ []), sum-one f x)

-- the same of an item by its place
pub sum-taken : {X : Type 0} (f : X → ℕ) (xs : List X) (i : ℕ) (x : X) (first now last : ℕ) → i < length xs → x ≡ get_or xs i x → now ≤ first + sum (map f (take i xs)) → last ≤ now + f x → last ≤ first + sum (map f (take (i + 1) xs))
sum-taken f xs i x first now last low e had more = sum-more f (take i xs) (take (i + 1) xs) x first now last (one-taken xs i x low e) had more

-- the first item and the others
pub sum-both : {X : Type 0} (f : X → ℕ) (x : X) (xs : List X) (first now last : ℕ) → now ≤ first + f x → last ≤ now + sum (map f xs) → last ≤ first + sum (map f (x ∷ xs))
sum-both f x xs first now last had more = omega (arith, had, more, sum-append f (x ∷ []) xs, sum-one f x)

-- ---- the newest checkpoint
pub newest-within : (image : List ℕ) (first last : ℕ) → last ≤ first + (zero_reads image + desc_blocks_of (zero_of image) + desc_blocks_of (zero_of image) * (desc_blocks_of (zero_of image) + data_blocks_of (zero_of image))) → last ≤ first + newest_reads image
unfolding newest_reads
newest-within image first last few = few

-- ---- a volume that is loaded
pub loading-within : (image : List ℕ) (site : Site) (head : VolHead) (volume : Loaded) (first last : ℕ) → volume.head ≡ head → last ≤ first + load_reads image site head volume.snaps → last ≤ first + loading_reads image site volume
loading-within image site head volume first last same few = subst (λ (h : VolHead). last ≤ first + load_reads image site h volume.snaps) (sym same) few

-- a snapshot more
pub roots-more : (image : List ℕ) (site : Site) (snaps : List Snapshot) (i : ℕ) (snapshot : Snapshot) (first now last : ℕ) → i < length snaps → snapshot ≡ get_or snaps i snapshot → now ≤ first + sum (map (root_reads image site) (map snapshot_root (take i snaps)))
    → last ≤ now + root_reads image site snapshot.extents_root → last ≤ first + sum (map (root_reads image site) (map snapshot_root (take (i + 1) snaps)))
roots-more image site snaps i snapshot first now last low e had more =
    sum-more (root_reads image site) (map snapshot_root (take i snaps)) (map snapshot_root (take (i + 1) snaps)) snapshot.extents_root first now last
    (ap (map snapshot_root) (one-taken snaps i snapshot low e) ∙ map-append snapshot_root (take i snaps) (snapshot ∷ [])) had more

-- what follows from an answer that is Ok
pub ok-more : {T E : Type 0} (r : Result T E) (P Q : Type 0) → (P → Q) → OnOk r P → OnOk r Q
ok-more (Ok value) P Q f h = f h
ok-more (Err e) P Q f h = tt

-- ---- a view
once-or-twice : (b : Bool) (n : ℕ) → n ≤ (if b then n else 2 * n)
once-or-twice true n = omega arith
once-or-twice false n = omega arith

-- of any volume
pub view-once : (image : List ℕ) (site : Site) (volume : Loaded) (view : View) (first last : ℕ) → last ≤ first + length (view_nodes image site volume view) → last ≤ first + view_reads image site volume view
view-once image site volume view first last few = omega (arith, few, once-or-twice (has_no_snapshots volume) (length (view_nodes image site volume view)))

-- of a volume that has snapshots
pub view-twice : (image : List ℕ) (site : Site) (volume : Loaded) (view : View) (first last : ℕ) → 0 < length volume.snaps → last ≤ first + 2 * length (view_nodes image site volume view) → last ≤ first + view_reads image site volume view
view-twice image site volume view first last some few =
    let n = length (view_nodes image site volume view) in
    let has : has_no_snapshots volume ≡ false = never-true (has_no_snapshots volume) (λ e. let none : length volume.snaps ≡ 0 = equal-from (length volume.snaps) 0 e in omega (arith, none, some)) in
    subst (λ (b : Bool). last ≤ first + (if b then n else 2 * n)) (sym has) few

-- ---- all
each-volume : (image : List ℕ) (seen : Seen) (volumes : List Loaded) → ((volume : Loaded) → In volume volumes → volume ≡ volume_of image seen volume.head) → volumes ≡ map (volume_of image seen) (map head_of volumes)
each-volume image seen [] same = refl
each-volume image seen (v ∷ vs) same = ap₂ (λ (w : Loaded) (ws : List Loaded). w ∷ ws) (same v (inl refl)) (each-volume image seen vs (λ w h. same w (inr h)))

-- the volumes that were loaded are those of the container
volumes-are : (image : List ℕ) (seen : Seen) (volumes : List Loaded) → AreReady image seen volumes → volumes ≡ volumes_in image seen
volumes-are image seen volumes are = each-volume image seen volumes (λ v h. (are.loaded.loaded v h).same) ∙ ap (map (volume_of image seen)) (sym are.loaded.heads_are)

all-within : (image : List ℕ) (seen : Seen) (manager : List ℕ) (objects : ℕ) (volumes : List Loaded) (first found loaded accounted last : ℕ) → AreReady image seen volumes → found ≤ first + newest_reads image
    → loaded ≤ found + (heads_reads image seen (heads_of image seen) + sum (map (loading_reads image (site_of seen)) volumes)) → accounted ≤ loaded + account_reads objects manager → last ≤ accounted + sum (map (volume_reads image seen) volumes) → last ≤ first + check_reads image seen manager objects
unfolding check_reads
all-within image seen manager objects volumes first found loaded accounted last are one two three four =
    let same = volumes-are image seen volumes are in
    omega (arith, one, two, three, four, ap (λ (vs : List Loaded). sum (map (loading_reads image (site_of seen)) vs)) same, ap (λ (vs : List Loaded). sum (map (volume_reads image seen) vs)) same)

same-seen : {E : Type 0} (seen other : Seen) (r : Result Seen E) → r ≡ Ok seen → r ≡ Ok other → seen ≡ other
same-seen {E} seen other r a b = let e : ◌≡◌ {A = Result Seen E} (Ok seen) (Ok other) = sym a ∙ b in cc

-- of the newest checkpoint, by any name
pub check-within : (image manager : List ℕ) (seen other : Seen) (objects : ℕ) (volumes : List Loaded) (first found loaded accounted last : ℕ) → newest_of image ≡ Ok other → manager_of other ≡ Some manager → AreReady image seen volumes → found ≤ first + newest_reads image
    → loaded ≤ found + (heads_reads image seen (heads_of image seen) + sum (map (loading_reads image (site_of seen)) volumes)) → (manager_of seen ≡ Some manager → accounted ≤ loaded + account_reads objects manager) → last ≤ accounted + sum (map (volume_reads image seen) volumes)
    → last ≤ first + check_reads image other manager objects
check-within image manager seen other objects volumes first found loaded accounted last newest has are one two three four =
    let same : other ≡ seen = same-seen other seen (newest_of image) newest are.newest in
    subst (λ (s : Seen). last ≤ first + check_reads image s manager objects) (sym same)
    (all-within image seen manager objects volumes first found loaded accounted last are one two (three (subst (λ (s : Seen). manager_of s ≡ Some manager) same has)) four)
