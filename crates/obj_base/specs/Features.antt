-- The features that are refused by name.
use Rattle.std.specs.Prelude.{ℕ, Bool, List, ◌∷◌, codes, if◌then◌else◌}
use Rattle.obj_base.specs.declared.stop.Feature.{Feature}
use Rattle.obj_base.specs.declared.stop.Feature.TheVariants.{NonContiguous, Fusion, Version, UnknownContainer, Resizing, Reaper, ContainerSnapshots, Revert, Encrypted, Sealed, Dataless, Restore, SnapshotState, NoHeader, Size, Deep, Storage, LaterTree, UnknownVolume}

-- the name by which a feature is printed
abbrev pub feature_name : Feature → List ℕ
feature_name NonContiguous = codes "NonContiguous"
feature_name Fusion = codes "Fusion"
feature_name Version = codes "Version"
feature_name UnknownContainer = codes "UnknownContainer"
feature_name Resizing = codes "Resizing"
feature_name Reaper = codes "Reaper"
feature_name ContainerSnapshots = codes "ContainerSnapshots"
feature_name Revert = codes "Revert"
feature_name Encrypted = codes "Encrypted"
feature_name Sealed = codes "Sealed"
feature_name Dataless = codes "Dataless"
feature_name Restore = codes "Restore"
feature_name SnapshotState = codes "SnapshotState"
feature_name NoHeader = codes "NoHeader"
feature_name Size = codes "Size"
feature_name Deep = codes "Deep"
feature_name Storage = codes "Storage"
feature_name LaterTree = codes "LaterTree"
feature_name UnknownVolume = codes "UnknownVolume"

-- a feature where its condition holds, before the others
abbrev pub with_feature : Bool → Feature → List Feature → List Feature
with_feature test feature others = if test then feature ∷ others else others
