-- What a loaded volume tells is what its superblock names.
use Rattle.std.proofs.Common.{◌≡◌, ℕ, suc, ◌+◌, true, List, [], ◌∷◌, ◌++◌, map, inl, inr, refl, ap, sym, ◌∙◌, if◌then◌else◌}
use Rattle.std.specs.Prelude.{◌&&◌, nat_le, length}
use Rattle.std.specs.List.{list_all}
use Rattle.apfs_model.specs.Lists.{In}
use Rattle.apfs_model.proofs.BoolTests.{left-true, all-in}
use Rattle.obj_base.specs.declared.site.Site.{Site}
use Rattle.bt_node.specs.Entries.{Pair, bytes_in}
use Rattle.nx_ring.specs.Checkpoint.{Seen, site_of}
use Rattle.omap_map.specs.Maps.{Contents, contents_of, is_whole_map}
use Rattle.fs_name.specs.Normal.{names_of, are_hashed}
use Rattle.vol_view.specs.Fields as field
use Rattle.vol_view.specs.SnapRecords.{snapshot_pairs, name_pairs, is_snapshot_long, is_snapshot_readable, is_name_readable, snap_name_len, snap_name_bytes}
use Rattle.fs_name.specs.Text.{is_name}
use Rattle.vol_view.specs.Agreement.{are_readable}
use Rattle.vol_view.specs.Volumes.{super_of, map_block_of, metadata_of, empty_map, map_or_empty, snapshot_in, loaded_of}
use Rattle.vol_view.specs.LoadStops.{IsLoadable}
use Rattle.vol_view.specs.declared.head.VolHead.{VolHead}
use Rattle.reach_rules.specs.declared.naming.LookUp.TheVariants.{ByBlock}
use Rattle.reach_rules.specs.declared.naming.Namer.{Namer}
use Rattle.reach_rules.specs.declared.naming.TreeKind.TheVariants.{ExtentRefs, SnapMetadata}
use Rattle.reach_rules.specs.declared.naming.Expected.TheVariants.{VolumeMap, TreeRoot}
use Rattle.reach_rules.specs.declared.naming.Naming.{Naming}
use Rattle.reach_rules.specs.Naming.{naming}
use Rattle.reach_rules.specs.Next.{unless_zero, live_view, view_namings, record_namings, snapshots_namings, past_view, volume_namings}
use Rattle.reach_gather.specs.Volumes.Told.{map_of, told_snapshots, told_with, told_volume}

-- a snapshot's record that can be read has its fixed part
readable-long : (pair : Pair) → is_snapshot_readable pair ≡ true → is_snapshot_long pair ≡ true
unfolding is_snapshot_readable
readable-long pair e =
    let value : List ℕ = bytes_in pair.value in
    left-true (is_snapshot_long pair) (nat_le (50 + snap_name_len value) (length value))
    (left-true (is_snapshot_long pair && nat_le (50 + snap_name_len value) (length value)) (is_name (snap_name_bytes value)) e)

are-long : (pairs : List Pair) → are_readable pairs ≡ true → (pair : Pair) → In pair (snapshot_pairs pairs) → is_snapshot_long pair ≡ true
unfolding are_readable
are-long pairs e pair h = readable-long pair (all-in is_snapshot_readable (snapshot_pairs pairs) (left-true (list_all is_snapshot_readable (snapshot_pairs pairs)) (list_all is_name_readable (name_pairs pairs)) e) pair h)

-- each record of a snapshot of a volume that can be loaded has its fixed part
pub long-snapshots : (image : List ℕ) (site : Site) (head : VolHead) → IsLoadable image site head → (pair : Pair) → In pair (snapshot_pairs (metadata_of image site head)) → is_snapshot_long pair ≡ true
long-snapshots image site head right = are-long (metadata_of image site head) right.agreed.readable

-- what the records of snapshots name
pub snapshots-same : (image : List ℕ) (site : Site) (slot : ℕ) (bytes : List ℕ) (i : ℕ) (pairs : List Pair) → ((pair : Pair) → In pair pairs → is_snapshot_long pair ≡ true) →
    told_snapshots slot (field.omap_oid_of bytes) (are_hashed (names_of (field.incompat_of bytes))) i (map (snapshot_in image site) pairs) ≡ snapshots_namings slot bytes i pairs
unfolding snapshot_in
snapshots-same image site slot bytes i [] long = refl
snapshots-same image site slot bytes i (pair ∷ pairs) long =
    let here : List Naming = record_namings (past_view slot bytes i pair) (bytes_in pair.value) in
    let more = snapshots-same image site slot bytes (suc i) pairs (λ p h. long p (inr h)) in
    ap (λ ns. here ++ ns) more
    ∙ ap (λ b. (if b then here else []) ++ snapshots_namings slot bytes (suc i) pairs) (sym (long pair (inl refl)))

-- of a whole map all is known
whole-map : (image : List ℕ) (site : Site) (block : ℕ) → is_whole_map image site block ≡ true → map_or_empty image site block ≡ contents_of image site block
unfolding map_or_empty
whole-map image site block whole = ap (λ b. if b then contents_of image site block else empty_map) whole

pub contents-are : (image : List ℕ) (site : Site) (head : VolHead) → is_whole_map image site (map_block_of image site head) ≡ true → (loaded_of image site head).omap ≡ contents_of image site (map_block_of image site head)
unfolding loaded_of
contents-are image site head whole = whole-map image site (map_block_of image site head) whole

pub map-is : (image : List ℕ) (site : Site) (head : VolHead) → is_whole_map image site (map_block_of image site head) ≡ true → map_of (loaded_of image site head) ≡ map_block_of image site head
map-is image site head whole = ap (λ (c : Contents). c.block) (contents-are image site head whole)

-- what the volume tells with the block of its map
told-with : (image : List ℕ) (seen : Seen) (head : VolHead) (namer : Namer) → ((pair : Pair) → In pair (snapshot_pairs (metadata_of image (site_of seen) head)) → is_snapshot_long pair ≡ true) →
    told_with seen namer (loaded_of image (site_of seen) head) (map_block_of image (site_of seen) head) ≡ volume_namings image seen head.slot namer (super_of image (site_of seen) head)
unfolding loaded_of
told-with image seen head namer long =
    let bytes : List ℕ = super_of image (site_of seen) head in
    let pairs : List Pair = snapshot_pairs (metadata_of image (site_of seen) head) in
    ap (λ ns. naming namer 128 VolumeMap ByBlock (field.omap_oid_of bytes)
    ∷ view_namings namer (live_view seen head.slot bytes) bytes
    ++ (unless_zero namer 144 (TreeRoot ExtentRefs) ByBlock (field.extents_root_of bytes)
    ++ (unless_zero namer 152 (TreeRoot SnapMetadata) ByBlock (field.snaps_root_of bytes)
    ++ ns))) (snapshots-same image (site_of seen) head.slot bytes 0 pairs long)

-- all that it tells
pub told-same : (image : List ℕ) (seen : Seen) (head : VolHead) (namer : Namer) → IsLoadable image (site_of seen) head →
    told_volume seen namer (loaded_of image (site_of seen) head) ≡ volume_namings image seen head.slot namer (super_of image (site_of seen) head)
told-same image seen head namer right =
    ap (told_with seen namer (loaded_of image (site_of seen) head)) (map-is image (site_of seen) head right.map) ∙ told-with image seen head namer (long-snapshots image (site_of seen) head right)
