-- What is kept of the items of a view's Line.
use Rattle.std.specs.Prelude.{◌≡◌, ℕ, Bool, true, List, length, Option}
use Rattle.apfs_model.specs.Counts.{given}
use Rattle.obj_base.specs.declared.site.Site.{Site}
use Rattle.bt_cursor.specs.Tree.{Tree}
use Rattle.bt_cursor.specs.Line.{Item, line_of}
use Rattle.bt_cursor.specs.WholeTree.{leaf_pairs, IsWhole}
use Rattle.bt_cursor.specs.Flat.{flat_of}
use Rattle.fs_name.specs.declared.naming.Names.{Names}
use Rattle.vol_view.specs.Volumes.{Loaded}
use Rattle.vol_view.specs.Views.{view_flat, view_line, is_view_walkable, is_view_ordered, is_view_counted, is_view_whole}
use Rattle.vol_view.specs.declared.volume.View.{View}
use Rattle.view_rules.specs.Facts.{Facts, facts_in}
use Rattle.view_rules.specs.Rules.{view_facts, HasRecords}
use Rattle.view_facts.specs.Contents.{brief_facts, kept_facts}
use Rattle.view_facts.specs.Refusals.{IsRefusal}
use Rattle.view_facts.specs.declared.keep.Refusal.{Refusal}
use Rattle.view_facts.specs.declared.gathering.Walked.{Walked}
use Rattle.view_facts.specs.declared.gathering.ViewFacts.{ViewFacts}

-- what was kept of some items: what the records among them say, or of files alone, how many items and how many records they
-- are, and which record is refused, if one is
pub record IsKeptOf (files : Bool) (facts : Facts) (items records : ℕ) (refusal : Option Refusal) (line : List Item) : Type 0 where
  pub said : facts ≡ kept_facts files (facts_in facts.names (leaf_pairs line))
  pub passed : items ≡ given (length line)
  pub counted : records ≡ given (length (leaf_pairs line))
  pub refused : IsRefusal facts.names line refusal

-- what was kept of a whole tree, under names
pub record IsWalked {K : Type 0} (files : Bool) (tree : Tree K) (root : ℕ) (names : Names) (walked : Walked) : Type 0 where
  pub whole : IsWhole tree root
  pub facts : walked.facts ≡ kept_facts files (facts_in names (flat_of tree root))
  pub records : walked.records ≡ given (length (flat_of tree root))
  pub refusal : IsRefusal names (line_of tree root) walked.refusal

-- what was kept of a whole view
pub record IsWalkedView (files : Bool) (image : List ℕ) (site : Site) (volume : Loaded) (view : View) (walked : Walked) : Type 0 where
  pub walkable : is_view_walkable image site volume view ≡ true
  pub ordered : is_view_ordered image site volume view ≡ true
  pub counted : is_view_counted image site volume view ≡ true
  pub whole : is_view_whole image site volume view ≡ true
  pub facts : walked.facts ≡ kept_facts files (view_facts image site volume view)
  pub records : walked.records ≡ given (length (view_flat image site volume view))
  pub refusal : IsRefusal volume.names (view_line image site volume view) walked.refusal

-- these are what is kept of the facts of a view and the number of its records; its tree is whole and its records can be read
pub record IsGatheredView (image : List ℕ) (site : Site) (volume : Loaded) (view : View) (gathered : ViewFacts) : Type 0 where
  pub walkable : is_view_walkable image site volume view ≡ true
  pub ordered : is_view_ordered image site volume view ≡ true
  pub counted : is_view_counted image site volume view ≡ true
  pub readable : HasRecords volume.names (view_line image site volume view)
  pub facts : gathered.facts ≡ brief_facts (view_facts image site volume view)
  pub records : gathered.records ≡ given (length (view_flat image site volume view))

-- these are the inodes and the entries of a view, and no other facts; its tree is whole and its records can be read
pub record AreFiles (image : List ℕ) (site : Site) (volume : Loaded) (view : View) (gathered : Facts) : Type 0 where
  pub whole : is_view_whole image site volume view ≡ true
  pub ordered : is_view_ordered image site volume view ≡ true
  pub readable : HasRecords volume.names (view_line image site volume view)
  pub facts : gathered ≡ kept_facts true (view_facts image site volume view)
