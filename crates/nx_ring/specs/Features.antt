-- The features of a container, by its superblock (Container, Incompatible Container Feature Flags).
use Rattle.std.specs.Prelude.{ℕ, Bool, bit_and, not, ◌||◌, ◌==◌, List, []}
use Rattle.apfs_model.specs.Bytes.{has_flag}
use Rattle.obj_base.specs.Features.{with_feature}
use Rattle.obj_base.specs.declared.stop.Feature.{Feature}
use Rattle.obj_base.specs.declared.stop.Feature.TheVariants.{Fusion, Version, UnknownContainer, Resizing}
use Rattle.nx_block.specs.Super.{incompat_of, blocked_of, eviction_of}

-- the container is of the first version (NX_INCOMPAT_VERSION1)
abbrev pub version_1_flag : ℕ
version_1_flag = 1

-- the container is of the second version (NX_INCOMPAT_VERSION2)
abbrev pub version_2_flag : ℕ
version_2_flag = 2

-- the container lies on two devices (NX_INCOMPAT_FUSION)
abbrev pub fusion_flag : ℕ
fusion_flag = 0x100

-- all features but these three
abbrev pub other_flags : ℕ
other_flags = 0xfffffffffffffefc

-- Fusion: the container lies on two devices
unfoldable pub is_fusion : List ℕ → Bool
is_fusion nx = has_flag (incompat_of nx) fusion_flag

-- Version: the container is of the first version, or not of the second
unfoldable pub has_other_version : List ℕ → Bool
has_other_version nx = has_flag (incompat_of nx) version_1_flag || not (has_flag (incompat_of nx) version_2_flag)

-- UnknownContainer: another feature is set
unfoldable pub has_unknown_feature : List ℕ → Bool
has_unknown_feature nx = not (bit_and (incompat_of nx) other_flags == 0)

-- Resizing: blocks are kept back or moved
unfoldable pub is_resizing : List ℕ → Bool
is_resizing nx = not ((blocked_of nx).1 == 0) || not (eviction_of nx == 0)

-- the features of a container
unfoldable pub container_features : List ℕ → List Feature
container_features nx =
    with_feature (is_fusion nx) Fusion
    (with_feature (has_other_version nx) Version
    (with_feature (has_unknown_feature nx) UnknownContainer
    (with_feature (is_resizing nx) Resizing [])))
