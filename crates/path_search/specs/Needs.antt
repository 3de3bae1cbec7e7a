-- What an answer on a path needs of a view: all entries of each directory on the way, and the inodes to which they lead.
use Rattle.std.specs.Prelude.{◌≡◌, ℕ, true, false, List, [], ◌∷◌, None, Some, Result, Ok, Err}
use Rattle.apfs_model.specs.Lists.{In}
use Rattle.obj_base.specs.declared.site.Site.{Site}
use Rattle.obj_base.specs.declared.stop.Stop.{Stop}
use Rattle.obj_base.specs.declared.stop.Stop.TheVariants.{Found, Unsupported, ReadFault, NoMemory}
use Rattle.bt_node.specs.Entries.{Pair}
use Rattle.bt_keys.specs.RecordKey.{id_of, record_kind_of, entry_record}
use Rattle.fs_name.specs.declared.naming.Names.{Names}
use Rattle.fs_record.specs.Entries.{Entry}
use Rattle.fs_record.specs.Facts.{refused, is_reserved, root_id}
use Rattle.vol_view.specs.Volumes.{Loaded}
use Rattle.vol_view.specs.Views.{view_flat, view_line, is_view_whole}
use Rattle.vol_view.specs.Placed.{has_all_records}
use Rattle.vol_view.specs.declared.volume.View.{View}
use Rattle.view_rules.specs.Facts.{Facts, has_inode, is_directory}
use Rattle.view_rules.specs.Rules.{HasRecords}
use Rattle.path_search.specs.Paths.{components}
use Rattle.path_search.specs.Places.{Place, root_of}
use Rattle.path_search.specs.Found.{entries_in, entry_named, step, found}
use Rattle.path_search.specs.declared.answer.Answer.{Answer}
use Rattle.path_search.specs.declared.stop.PathStop.{PathStop}
use Rattle.path_search.specs.declared.stop.PathStop.TheVariants as stops

-- each record of an id and a kind can be read
abbrev pub AreRead : Names → List Pair → ℕ → ℕ → Type 0
AreRead names pairs id kind = (pair : Pair) → In pair pairs → id_of pair.key ≡ id → record_kind_of pair.key ≡ kind → refused names pair ≡ None

-- the records of an id and a kind are all there: none is missing from the view's tree, and each can be read
pub record HasKind (image : List ℕ) (site : Site) (volume : Loaded) (view : View) (id kind : ℕ) : Type 0 where
  pub whole : has_all_records image site volume view id kind ≡ true
  pub read : AreRead volume.names (view_flat image site volume view) id kind

-- all records of a view are there: its tree is whole, and each can be read
pub record HasAll (image : List ℕ) (site : Site) (volume : Loaded) (view : View) : Type 0 where
  pub whole : is_view_whole image site volume view ≡ true
  pub records : HasRecords volume.names (view_line image site volume view)

-- the entries of a directory are all there; those of a reserved one are neither followed nor listed
abbrev pub HasEntriesOf : List ℕ → Site → Loaded → View → ℕ → Type 0
HasEntriesOf image site volume view id = is_reserved id ≡ false → HasKind image site volume view id entry_record

-- what a component needs: of a directory all entries, where has_all says so, and of the one that it takes the inode of its file
abbrev pub StepNeeds : Facts → (ℕ → Type 0) → Place → List ℕ → Type 0
StepNeeds facts has_all place name =
    is_directory place.inode ≡ true → has_all place.id × ((e : Entry) → entry_named facts.names name (entries_in facts place.id) ≡ Some e → has_inode facts e.file_id ≡ true)

-- what some components need from a place on
abbrev pub WalkNeeds : Facts → (ℕ → Type 0) → List (List ℕ) → Place → Type 0
WalkNeeds facts has_all [] place = Unit {0}
WalkNeeds facts has_all (name ∷ names) place = StepNeeds facts has_all place name × ((next : Place) → step facts place name ≡ Ok next → WalkNeeds facts has_all names next)

-- what a path needs: the inode of the root, and what its components need from there on
pub record PathNeeds (facts : Facts) (has_all : ℕ → Type 0) (path : List ℕ) : Type 0 where
  pub root : has_inode facts root_id ≡ true
  pub way : (place : Place) → root_of facts ≡ Some place → WalkNeeds facts has_all (components path) place

-- each of some entries has an inode for its file
abbrev pub HaveFiles : Facts → List Entry → Type 0
HaveFiles facts entries = (e : Entry) → In e entries → has_inode facts e.file_id ≡ true

-- what a directory that is listed needs: all its entries, and the inode of each one's file
abbrev pub ChildrenNeed : Facts → (ℕ → Type 0) → ℕ → Type 0
ChildrenNeed facts has_all id = has_all id × HaveFiles facts (entries_in facts id)

-- what a path that is listed needs
pub record ListingNeeds (facts : Facts) (has_all : ℕ → Type 0) (path : List ℕ) : Type 0 where
  pub led : PathNeeds facts has_all path
  pub children : (place : Place) → found facts path ≡ Ok place → is_directory place.inode ≡ true → ChildrenNeed facts has_all place.id

-- what a call has answered, of whatever view: the value, as view shows it, or the answer, and what it needs is there; nothing is told where it stops
abbrev pub RestsOn : {T U : Type 0} → (T → U) → Result U Answer → Type 0 → Result T (Stop PathStop) → Type 0
RestsOn view wanted needs (Ok x) = (wanted ≡ Ok (view x)) × needs
RestsOn view wanted needs (Err (Found (stops.Answer a))) = (wanted ≡ Err a) × needs
RestsOn view wanted needs (Err (Found (stops.Fault fault))) = Unit {0}
RestsOn view wanted needs (Err (Unsupported feature block)) = Unit {0}
RestsOn view wanted needs (Err ReadFault) = Unit {0}
RestsOn view wanted needs (Err NoMemory) = Unit {0}
