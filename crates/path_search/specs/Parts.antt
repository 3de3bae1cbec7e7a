-- What the parts of the calls on paths give. These are for the contracts of this crate's own functions; what the calls promise is said elsewhere.
use Rattle.std.specs.Prelude.{◌≡◌, ◌⊎◌, ℕ, suc, ◌≤◌, Bool, true, false, List, [], ◌∷◌, ◌++◌, Option, None, Some, Result, Ok, Err, filter, filter_map, option_map, map, if◌then◌else◌}
use Rattle.std.specs.Option.{ok_or}
use Rattle.apfs_model.specs.Lists.{In, value_of}
use Rattle.obj_base.specs.declared.stop.Stop.{Stop}
use Rattle.obj_base.specs.declared.stop.Stop.TheVariants.{Found, Unsupported, ReadFault, NoMemory}
use Rattle.bt_node.specs.Shape.{Shape}
use Rattle.bt_node.specs.Entries.{Pair}
use Rattle.bt_keys.specs.RecordKey.{inode_record, entry_record}
use Rattle.bt_cursor.specs.Tree.{Tree}
use Rattle.bt_cursor.specs.Flat.{flat_of}
use Rattle.bt_cursor.specs.Gaps.{Gapped}
use Rattle.bt_cursor.specs.From.{run_in, is_of_kind, starts_whole, is_kind_whole}
use Rattle.fs_name.specs.declared.naming.Names.{Names}
use Rattle.fs_record.specs.Inodes.{Inode, inode_kind}
use Rattle.fs_record.specs.Entries.{Entry}
use Rattle.fs_record.specs.Facts.{Fact, read_inode, read_entry, root_id, is_reserved}
use Rattle.fs_record.specs.declared.fault.RecFault.{RecFault}
use Rattle.view_rules.specs.declared.fault.TreeFault.{TreeFault}
use Rattle.view_rules.specs.declared.fault.TreeFault.TheVariants.{NoInode}
use Rattle.vol_view.specs.declared.volume.View.{View}
use Rattle.view_rules.specs.Facts.{Facts, facts_in, inode_at}
use Rattle.view_rules.specs.Entries.{IsNoInode, has_root}
use Rattle.path_search.specs.Paths.{is_component}
use Rattle.path_search.specs.Places.{Place, root_of, size_of, target_of}
use Rattle.path_search.specs.Found.{has_name, has_form, place_by, step, walk}
use Rattle.path_search.specs.Needs.{AreRead, StepNeeds, WalkNeeds}
use Rattle.path_search.specs.declared.kinds.KindAndSize.{KindAndSize}
use Rattle.path_search.specs.declared.order.Numbered.{Numbered}
use Rattle.path_search.specs.declared.answer.Answer.{Answer}
use Rattle.path_search.specs.declared.answer.Answer.TheVariants.{NotFound}
use Rattle.path_search.specs.declared.stop.PathStop.{PathStop}
use Rattle.path_search.specs.declared.target.Target.{Target}
use Rattle.path_search.specs.declared.stop.PathStop.TheVariants as stops
use Rattle.path_search.specs.declared.search.Took.{Took}
use Rattle.path_search.specs.declared.search.Took.TheVariants.{One, End, Refused}
use Rattle.path_search.specs.declared.search.Wanted.{Wanted}
use Rattle.path_search.specs.declared.search.Wanted.TheVariants.{All, Same, Alike}
use Rattle.path_search.specs.declared.onward.Onward.{Onward}
use Rattle.path_search.specs.declared.onward.Onward.TheVariants.{To, Answered, Lost}

-- what some entries say, without the ids of their directories
abbrev pub whats : List (Fact Entry) → List Entry
whats entries = map (λ (f : Fact Entry). f.what) entries

-- what is read, through f, and nothing where it is refused
abbrev pub with_read : {X Y : Type 0} → Result X RecFault → (X → Option Y) → Option Y
with_read (Ok x) f = f x
with_read (Err why) f = None

-- whether an entry is wanted: each, those of the bytes of a name, or those of its normal form
abbrev pub is_wanted : Names → Wanted → Entry → Bool
is_wanted names All e = true
is_wanted names (Same name) e = has_name name.now e
is_wanted names (Alike name) e = has_form names name.now e

-- an entry after others, where it is kept
abbrev pub with_kept : Bool → Entry → List Entry → List Entry
with_kept true e before = before ++ e ∷ []
with_kept false e before = before

-- the entries of a directory at the start of some records that are kept, after others; nothing where one of the directory's is refused
abbrev pub run_entries : {K : Type 0} → Shape K → Names → (Entry → Bool) → ℕ → List Entry → List Pair → Option (List Entry)
run_entries shape names keep id before [] = Some before
run_entries shape names keep id before (pair ∷ pairs) =
    if run_in shape (is_of_kind id entry_record) pair
    then with_read (read_entry names pair) (λ (e : Entry). run_entries shape names keep id (with_kept (keep e) e before) pairs)
    else Some before

-- the inode of an id at the start of some records; nothing where it is refused
abbrev pub first_inode : {K : Type 0} → Shape K → ℕ → List Pair → Option Inode
first_inode shape id [] = None
first_inode shape id (pair ∷ pairs) = if run_in shape (is_of_kind id inode_record) pair then value_of (read_inode pair) else None

-- what is taken of one more record, whatever comes after it
abbrev pub Takes : {K : Type 0} → Shape K → Names → (Entry → Bool) → ℕ → Pair → List Entry → List Entry → Took → Type 0
Takes shape names keep id pair old new One = (pairs : List Pair) → run_entries shape names keep id old (pair ∷ pairs) ≡ run_entries shape names keep id new pairs
Takes shape names keep id pair old new End = (pairs : List Pair) → run_entries shape names keep id old (pair ∷ pairs) ≡ Some new
Takes shape names keep id pair old new Refused = (pairs : List Pair) → run_entries shape names keep id old (pair ∷ pairs) ≡ None

-- what is taken of the records that are left
abbrev pub TakesNext : {K : Type 0} → Shape K → Names → (Entry → Bool) → ℕ → List Pair → List Pair → List Entry → List Entry → Took → Type 0
TakesNext shape names keep id left left_then old new One = run_entries shape names keep id old left ≡ run_entries shape names keep id new left_then
TakesNext shape names keep id left left_then old new End = run_entries shape names keep id old left ≡ Some new
TakesNext shape names keep id left left_then old new Refused = run_entries shape names keep id old left ≡ None

-- whether a record that isn't refused is an entry of a directory
abbrev pub IsOfRun : {K : Type 0} → Shape K → ℕ → Pair → Took → Type 0
IsOfRun shape id pair One = run_in shape (is_of_kind id entry_record) pair ≡ true
IsOfRun shape id pair End = run_in shape (is_of_kind id entry_record) pair ≡ false
IsOfRun shape id pair Refused = Unit {0}

-- no gap stands among the entries of a directory that are left
abbrev pub are_whole : {K : Type 0} → Shape K → ℕ → List (Gapped Pair) → Bool
are_whole shape id left = starts_whole shape (is_of_kind id entry_record) left

-- whether one does, where one more of them was taken
abbrev pub GoesWhole : {K : Type 0} → Shape K → ℕ → List (Gapped Pair) → List (Gapped Pair) → Took → Type 0
GoesWhole shape id left left_then One = are_whole shape id left ≡ are_whole shape id left_then
GoesWhole shape id left left_then End = are_whole shape id left ≡ true
GoesWhole shape id left left_then Refused = Unit {0}

-- the records of an id and a kind are all there in a tree: none is missing, and each can be read
pub record HasKindIn {K : Type 0} (names : Names) (tree : Tree K) (root id kind : ℕ) : Type 0 where
  pub whole : is_kind_whole tree root id kind ≡ true
  pub read : AreRead names (flat_of tree root) id kind

-- the entries of a directory are; those of a reserved one are neither followed nor listed
abbrev pub HasEntriesIn : {K : Type 0} → Names → Tree K → ℕ → ℕ → Type 0
HasEntriesIn names tree root id = is_reserved id ≡ false → HasKindIn names tree root id entry_record

-- what is needed of facts and of entries is there in a tree
abbrev pub NeedsIn : {K : Type 0} → (Facts → (ℕ → Type 0) → Type 0) → Names → Tree K → ℕ → Type 0
NeedsIn needs names tree root = needs (facts_in names (flat_of tree root)) (HasEntriesIn names tree root)

-- one part of a path on from a place; an empty one is no component
abbrev pub by_part : Facts → Place → List ℕ → Result Place Answer
by_part facts place part = if is_component part then step facts place part else Ok place

-- all parts of a path on from a place
abbrev pub along : Facts → List (List ℕ) → Place → Result Place Answer
along facts parts place = walk facts (filter is_component parts) place

-- what one part of a path needs, and what all parts do
abbrev pub PartNeeds : Facts → (ℕ → Type 0) → Place → List ℕ → Type 0
PartNeeds facts has_all place part = is_component part ≡ true → StepNeeds facts has_all place part

abbrev pub AlongNeeds : Facts → (ℕ → Type 0) → List (List ℕ) → Place → Type 0
AlongNeeds facts has_all parts place = WalkNeeds facts has_all (filter is_component parts) place

-- nothing is asked of any directory
abbrev pub of_any : ℕ → Type 0
of_any id = Unit {0}

-- what holds where a value or an answer was given by searches; nothing is said of what was lost
abbrev pub WhereLed : {T : Type 0} → Type 0 → Onward T → Type 0
WhereLed P (To x) = P
WhereLed P (Answered a) = P
WhereLed P Lost = Unit {0}

-- what holds where a value or an answer was given by the facts of a view
abbrev pub WhereTold : {T : Type 0} → Type 0 → Result T (Stop PathStop) → Type 0
WhereTold P (Ok x) = P
WhereTold P (Err (Found (stops.Answer a))) = P
WhereTold P (Err (Found (stops.Fault fault))) = Unit {0}
WhereTold P (Err (Unsupported feature block)) = Unit {0}
WhereTold P (Err ReadFault) = Unit {0}
WhereTold P (Err NoMemory) = Unit {0}

-- what was answered by searches: the value, as view shows it, or the answer; nothing is said of what was lost
abbrev pub Leads : {T U : Type 0} → (T → U) → Result U Answer → Onward T → Type 0
Leads shows wanted (To x) = wanted ≡ Ok (shows x)
Leads shows wanted (Answered a) = wanted ≡ Err a
Leads shows wanted Lost = Unit {0}

-- facts by ids that don't fall
abbrev pub Rises : {X : Type 0} → List (Fact X) → Type 0
Rises [] = Unit {0}
Rises {X} (f ∷ fs) = ((g : Fact X) → In g fs → f.id ≤ g.id) × Rises fs

-- facts by ids that don't fall, none of which is below an id
abbrev pub IsFirst : {X : Type 0} → ℕ → List (Fact X) → Type 0
IsFirst {X} id fs = Rises fs × ((f : Fact X) → In f fs → id ≤ f.id)

-- the entries and the inodes of some facts, each by ids that don't fall
pub record Remembers (facts : Facts) (entries : List (Fact Entry)) (inodes : List (Fact Inode)) : Type 0 where
  pub all_entries : entries ≡ facts.entries
  pub all_inodes : inodes ≡ facts.inodes
  pub entries_rise : Rises entries
  pub inodes_rise : Rises inodes

-- some entries are ones that count among the entries of a view
abbrev pub HasEntries : Facts → List (Fact Entry) → Type 0
HasEntries facts entries = (e : Fact Entry) → In e entries → In e facts.entries × (is_reserved e.id ≡ false)

-- NoInode of a view: an entry's file has no inode, or the root has none
abbrev pub IsLack : Facts → View → TreeFault → Type 0
IsLack facts view fault =
    ((id : ℕ) × (name : List ℕ) × (fault ≡ NoInode view.slot view.xid id (Some name)) × IsNoInode facts id name)
    ⊎ ((fault ≡ NoInode view.slot view.xid root_id None) × (has_root facts ≡ false))

-- what was answered by the facts of a view: the value, as view shows it, the answer, or an inode that is missing; or memory ran out
abbrev pub IsKnown : {T U : Type 0} → Facts → View → (T → U) → Result U Answer → Result T (Stop PathStop) → Type 0
IsKnown facts view shows wanted (Ok x) = wanted ≡ Ok (shows x)
IsKnown facts view shows wanted (Err (Found (stops.Answer a))) = wanted ≡ Err a
IsKnown facts view shows wanted (Err (Found (stops.Fault fault))) = IsLack facts view fault
IsKnown facts view shows wanted (Err (Unsupported feature block)) = ⊥
IsKnown facts view shows wanted (Err ReadFault) = ⊥
IsKnown facts view shows wanted (Err NoMemory) = Unit {0}

-- NoInode of a view, of an entry's file
abbrev pub lacking_entry : View → ℕ → List ℕ → TreeFault
lacking_entry view id name = NoInode view.slot view.xid id (Some name)

-- the root, or NotFound where there is none
abbrev pub rooted : Facts → Result Place Answer
rooted facts = ok_or (root_of facts) NotFound

-- what was answered of an entry's file: its place, or that it has no inode; or memory ran out
abbrev pub IsPlaceKnown : Facts → View → Fact Entry → Result Place (Stop PathStop) → Type 0
IsPlaceKnown facts view e (Ok place) = place_by facts e.what ≡ Some place
IsPlaceKnown facts view e (Err (Found (stops.Answer a))) = ⊥
IsPlaceKnown facts view e (Err (Found (stops.Fault fault))) = (place_by facts e.what ≡ None) × (fault ≡ lacking_entry view e.id e.what.name)
IsPlaceKnown facts view e (Err (Unsupported feature block)) = ⊥
IsPlaceKnown facts view e (Err ReadFault) = ⊥
IsPlaceKnown facts view e (Err NoMemory) = Unit {0}

-- what was answered of an entry's file as it is told: its target, or that it has no inode; or memory ran out
abbrev pub IsTargetKnown : Facts → View → Fact Entry → Result Target (Stop PathStop) → Type 0
IsTargetKnown facts view e (Ok target) = option_map target_of (place_by facts e.what) ≡ Some target
IsTargetKnown facts view e (Err stop) = IsPlaceKnown facts view e (Err stop)

-- an entry's file as it is told
abbrev pub target_by : Facts → Entry → Option Target
target_by facts e = option_map target_of (place_by facts e)

-- the target of an entry whose file has a kind and a size
abbrev pub target_with : Fact Entry → KindAndSize → Target
target_with e told = record { id = e.what.file_id; name = e.what.name; kind = told.kind; size = told.size }

-- the kind and the size of an inode, as they are told
abbrev pub kind_told : Inode → KindAndSize
kind_told inode = record { size = size_of inode.stream; kind = inode_kind inode }

-- what is told so of an entry's file, where it has an inode
abbrev pub kind_by : Facts → Entry → Option KindAndSize
kind_by facts e = option_map kind_told (inode_at facts e.file_id)

-- the entries of some facts, by ids that don't fall, and what is told of the file of each
pub record Tells (facts : Facts) (entries : List (Fact Entry)) (kinds : List (Option KindAndSize)) : Type 0 where
  pub all_entries : entries ≡ facts.entries
  pub entries_rise : Rises entries
  pub all_kinds : kinds ≡ map (kind_by facts) (whats entries)

-- those of some entries, in their order
abbrev pub targets_with : List (Fact Entry) → List KindAndSize → List Target
targets_with [] kinds = []
targets_with (e ∷ es) [] = []
targets_with (e ∷ es) (told ∷ kinds) = target_with e told ∷ targets_with es kinds

-- what a directory's entries lead to, as it is told, in record order
abbrev pub targets_by : Facts → List Entry → List Target
targets_by facts es = filter_map (target_by facts) es

-- targets with their numbers, from one on
abbrev pub numbered : ℕ → List Target → List Numbered
numbered n [] = []
numbered n (target ∷ targets) = record { number = n; target = target } ∷ numbered (suc n) targets
