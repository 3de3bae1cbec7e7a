-- Which plans an image is made of.
use Rattle.std.specs.Prelude.{◌≡◌, ℕ, ◌+◌, ◌≤◌, ◌<◌, [], ◌∷◌, List, length, slice_index_or, sum_by, All, IfSome, IsNone, vec_len, codes}
use Rattle.fs_name.specs.declared.naming.Names.TheVariants.{Folded}
use Rattle.img_plan.specs.Nodes.{bytes_in_node}
use Rattle.img_plan.specs.declared.plan.Leaf.{Leaf}
use Rattle.img_plan.specs.declared.plan.Version.{Version}
use Rattle.img_plan.specs.declared.plan.VolPlan.{VolPlan}
use Rattle.img_plan.specs.declared.plan.Plan.{Plan}

-- A leaf fits a node: its keys and values have at most 900 bytes each, and all together take at most 4,000.
pub record IsLeaf (leaf : Leaf) : Type 0 where
  pub short : All (λ item. (vec_len item.0 ≤ 900) × (vec_len item.1 ≤ 900)) leaf.items.items
  pub fits : sum_by (λ item. bytes_in_node (vec_len item.0) (vec_len item.1)) leaf.items.items ≤ 4000

-- A version's snapshot, where it has one, has a name of at most 800 bytes, and its leaves fit.
pub record IsVersion (version : Version) : Type 0 where
  pub short_snapshot : IfSome version.snapshot (λ name. vec_len name ≤ 800)
  pub leaves : All IsLeaf version.leaves.items

-- Each version is of a greater transaction than the one before it, and so is each snapshot.
abbrev pub IsRising : List Version → Type 0
IsRising versions = (k : ℕ) (none : Version) → k + 1 < length versions → (slice_index_or versions k none).xid < (slice_index_or versions (k + 1) none).xid

-- A volume's name has at most 255 bytes, and it has one version or more, which rise.
pub record IsVolume (volume : VolPlan) : Type 0 where
  pub short_name : vec_len volume.name ≤ 255
  pub some_version : 1 ≤ vec_len volume.versions
  pub rising : IsRising volume.versions.items
  pub versions : All IsVersion volume.versions.items

-- A plan of which `make` makes an image: it asks for at most 1,048,576 blocks and 100 volumes, 1,000 entries are queued at most, and the jumpstart has at most 245 extents.
pub record IsValid (plan : Plan) : Type 0 where
  pub few_blocks : plan.blocks ≤ 1048576
  pub few_volumes : vec_len plan.volumes ≤ 100
  pub volumes : All IsVolume plan.volumes.items
  pub few_queued : vec_len plan.queued ≤ 1000
  pub few_extents : vec_len plan.jumpstart ≤ 245

-- The only leaf of a tree without files: the root's oid, and the records of two directories and of their names.
pub record IsBareLeaf (leaf : Leaf) : Type 0 where
  pub root_oid : leaf.oid ≡ 1028
  pub four_items : vec_len leaf.items ≡ 4

-- A version without files: it is of transaction 1, no snapshot keeps it, and it has one leaf.
pub record IsBareVersion (version : Version) : Type 0 where
  pub first_xid : version.xid ≡ 1
  pub no_snapshot : IsNone version.snapshot
  pub one_leaf : vec_len version.leaves ≡ 1
  pub bare_leaf : All IsBareLeaf version.leaves.items

-- The identifier of the small container's volume.
abbrev pub small_uuid : List ℕ
small_uuid =
    0xff ∷ 0xee ∷ 0xdd ∷ 0xcc ∷ 0xbb ∷ 0xaa ∷ 0x99 ∷ 0x88 ∷
    0x77 ∷ 0x66 ∷ 0x55 ∷ 0x44 ∷ 0x33 ∷ 0x22 ∷ 0x11 ∷ 0x00 ∷ []

-- The volume of the small container: it is named Small, takes capital and small letters for the same, and has no files.
pub record IsSmallVolume (volume : VolPlan) : Type 0 where
  pub named_small : volume.name.items ≡ codes "Small"
  pub own_uuid : volume.uuid ≡ small_uuid
  pub folded_names : volume.names ≡ Folded
  pub one_version : vec_len volume.versions ≡ 1
  pub bare_version : All IsBareVersion volume.versions.items
  pub no_extents : volume.extents.items ≡ []
  pub no_contents : volume.contents.items ≡ []

-- The plan of the small container: 256 blocks, all at transaction 1, with the small volume alone, and nothing else.
pub record IsSmall (plan : Plan) : Type 0 where
  pub blocks : plan.blocks ≡ 256
  pub first_xid : plan.xid ≡ 1
  pub one_volume : vec_len plan.volumes ≡ 1
  pub small_volume : All IsSmallVolume plan.volumes.items
  pub none_queued : plan.queued.items ≡ []
  pub no_jumpstart : plan.jumpstart.items ≡ []
