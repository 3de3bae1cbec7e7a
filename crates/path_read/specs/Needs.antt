-- What an answer on the contents of a file or on its attributes needs of a view.
use Rattle.std.specs.Prelude.{◌≡◌, ℕ, true, List, Some, Result, Ok, Err, IsSome}
use Rattle.obj_base.specs.declared.site.Site.{Site}
use Rattle.obj_base.specs.declared.stop.Stop.TheVariants.{Found, Unsupported, ReadFault, NoMemory}
use Rattle.bt_keys.specs.RecordKey.{attribute_record, file_extent_record}
use Rattle.fs_record.specs.Attributes.{Body, Attribute}
use Rattle.fs_record.specs.Attributes.Body.{Embedded, Streamed}
use Rattle.vol_view.specs.Volumes.{Loaded}
use Rattle.vol_view.specs.Placed.{has_all_records}
use Rattle.vol_view.specs.declared.volume.View.{View}
use Rattle.view_rules.specs.Rules.{view_facts}
use Rattle.path_search.specs.Places.{Place}
use Rattle.path_search.specs.Found.{found}
use Rattle.path_search.specs.Needs.{HasKind, HasEntriesOf, PathNeeds}
use Rattle.path_search.specs.declared.stop.PathStop.TheVariants as stops
use Rattle.path_read.specs.Attributes.{attribute_named}
use Rattle.path_read.specs.Contents.{readable}
use Rattle.path_read.specs.declared.stop.WriteStop.{WriteStop}
use Rattle.path_read.specs.declared.stop.WriteStop.TheVariants as writes

-- what the attributes of a path need: what the path does, and all records of the attributes of what it leads to
pub record AttributesNeed (image : List ℕ) (site : Site) (volume : Loaded) (view : View) (path : List ℕ) : Type 0 where
  pub led : PathNeeds (view_facts image site volume view) (HasEntriesOf image site volume view) path
  pub attributes : (place : Place) → found (view_facts image site volume view) path ≡ Ok place → HasKind image site volume view place.id attribute_record

-- no record of an extent is missing, where an attribute is a stream
abbrev pub HasExtents : List ℕ → Site → Loaded → View → Body → Type 0
HasExtents image site volume view (Embedded bytes) = Unit {0}
HasExtents image site volume view (Streamed id size) = has_all_records image site volume view id file_extent_record ≡ true

-- what the value of an attribute needs: what all attributes of the path do, and that no record of an extent is missing, where one has the name and is a stream
pub record ValueNeed (image : List ℕ) (site : Site) (volume : Loaded) (view : View) (path name : List ℕ) : Type 0 where
  pub attributes : AttributesNeed image site volume view path
  pub extents : (place : Place) (a : Attribute) → found (view_facts image site volume view) path ≡ Ok place → attribute_named (view_facts image site volume view) place.id name ≡ Some a → HasExtents image site volume view a.body

-- what the contents of a path need: what the path does, and that no record of an extent is missing, where it leads to a file whose contents can be given and that has a stream
pub record ContentsNeed (image : List ℕ) (site : Site) (volume : Loaded) (view : View) (path : List ℕ) : Type 0 where
  pub led : PathNeeds (view_facts image site volume view) (HasEntriesOf image site volume view) path
  pub extents : (place : Place) → found (view_facts image site volume view) path ≡ Ok place → readable place.inode ≡ Ok place.inode → IsSome place.inode.stream → has_all_records image site volume view place.inode.private_id file_extent_record ≡ true

-- what holds where a call that writes has put all, or given an answer
abbrev pub WhereWritten : Type 0 → Result (Unit {0}) WriteStop → Type 0
WhereWritten P (Ok _) = P
WhereWritten P (Err (writes.Stopped (Found (stops.Answer a)))) = P
WhereWritten P (Err (writes.Stopped (Found (stops.Fault fault)))) = Unit {0}
WhereWritten P (Err (writes.Stopped (Unsupported feature block))) = Unit {0}
WhereWritten P (Err (writes.Stopped ReadFault)) = Unit {0}
WhereWritten P (Err (writes.Stopped NoMemory)) = Unit {0}
WhereWritten P (Err writes.WriteFault) = Unit {0}
