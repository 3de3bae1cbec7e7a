-- The namings of an object map that was loaded: its own, and those of its two trees.
use Rattle.std.specs.Prelude.{ℕ, ◌==◌, List, [], ◌∷◌, ◌++◌, if◌then◌else◌}
use Rattle.omap_map.specs.Maps.{Contents}
use Rattle.reach_rules.specs.declared.naming.LookUp.TheVariants.{ByBlock}
use Rattle.reach_rules.specs.declared.naming.Object.TheVariants.{InBlock}
use Rattle.reach_rules.specs.declared.naming.Namer.TheVariants.{Whole}
use Rattle.reach_rules.specs.declared.naming.TreeKind.TheVariants.{MapRecords, MapSnapshots}
use Rattle.reach_rules.specs.declared.naming.Expected.TheVariants.{TreeRoot}
use Rattle.reach_rules.specs.declared.naming.Naming.{Naming}
use Rattle.reach_rules.specs.Naming.{naming}
use Rattle.reach_gather.specs.Steps.{node_namings}

-- the map in a block names the root of its tree of records
abbrev pub records_root : ℕ → Contents → Naming
records_root block contents = naming (Whole (InBlock block)) 48 (TreeRoot MapRecords) ByBlock contents.tree

-- and that of its tree of snapshots
abbrev pub snapshots_root : ℕ → Contents → Naming
snapshots_root block contents = naming (Whole (InBlock block)) 56 (TreeRoot MapSnapshots) ByBlock contents.snap_tree

-- the namings of the nodes of its tree of snapshots, where it has one
abbrev pub past_namings : ℕ → Contents → List Naming
past_namings block contents = if contents.snap_tree == 0 then [] else node_namings MapSnapshots (snapshots_root block contents) contents.snap_steps

-- those of the map and of its trees
abbrev pub loaded_namings : Naming → Contents → List Naming
loaded_namings n contents = n ∷ node_namings MapRecords (records_root n.oid contents) contents.steps ++ past_namings n.oid contents
