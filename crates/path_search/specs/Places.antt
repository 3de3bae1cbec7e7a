-- Places of a view: what paths and entries lead to.
use Rattle.std.specs.Prelude.{ℕ, List, [], ◌∷◌, Option, None, Some, option_map}
use Rattle.fs_record.specs.Inodes.{Inode, inode_kind}
use Rattle.fs_record.specs.Facts.{root_id}
use Rattle.fs_record.specs.declared.inode_view.StreamSize.{StreamSize}
use Rattle.view_rules.specs.Facts.{Facts, inode_at}
use Rattle.path_search.specs.declared.target.Target.{Target}

-- what a name leads to: an id, the name, and the inode
pub record Place : Type 0 where
  pub id : ℕ
  pub name : List ℕ
  pub inode : Inode

-- a place by its parts
abbrev pub placed : ℕ → List ℕ → Inode → Place
placed id name inode = record { id = id; name = name; inode = inode }

-- the place of an id under a name, where the id has an inode
abbrev pub place_of : Facts → ℕ → List ℕ → Option Place
place_of facts id name = option_map (placed id name) (inode_at facts id)

-- the name of the root
abbrev pub root_name : List ℕ
root_name = 0x2f ∷ []

-- the root
abbrev pub root_of : Facts → Option Place
root_of facts = place_of facts root_id root_name

-- the size of a stream, 0 without one
abbrev pub size_of : Option StreamSize → ℕ
size_of None = 0
size_of (Some stream) = stream.size

-- a place as it is told: its id, its name, the kind of its inode and the size of its inode's stream
abbrev pub target_of : Place → Target
target_of place = record { id = place.id; name = place.name; kind = inode_kind place.inode; size = size_of place.inode.stream }
