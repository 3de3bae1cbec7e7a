-- What is told of a view that meets its rules.
use Rattle.std.specs.Prelude.{◌≡◌, ℕ, List, length, ◌++◌}
use Rattle.apfs_model.specs.Counts.{given}
use Rattle.obj_base.specs.declared.site.Site.{Site}
use Rattle.vol_view.specs.Volumes.{Loaded}
use Rattle.vol_view.specs.Views.{view_flat}
use Rattle.vol_view.specs.declared.volume.View.{View}
use Rattle.view_rules.specs.Rules.{view_facts}
use Rattle.view_rules.specs.declared.profile.Profile.{Profile}
use Rattle.tree_rules.specs.Notes.{hash_notes, unnamed_notes}
use Rattle.tree_rules.specs.declared.tallies.ViewTally.{ViewTally}
use Rattle.view_rules.specs.Facts.{Facts}
use Rattle.view_rules.specs.declared.notes.Note.{Note}
use Rattle.view_rules.specs.declared.profile.Profile.TheVariants.{Plain, Strict}

-- the notes of a view: those on hashes, which are faults under Strict, and then those on inodes, both in record order
unfoldable pub notes_of : Profile → View → Facts → List Note
notes_of Plain view facts = hash_notes view facts ++ unnamed_notes view facts
notes_of Strict view facts = unnamed_notes view facts

-- these are the number of a view's records, as it is given, and its notes
pub record IsTally (profile : Profile) (image : List ℕ) (site : Site) (volume : Loaded) (view : View) (tally : ViewTally) : Type 0 where
  pub records : tally.records ≡ given (length (view_flat image site volume view))
  pub notes : tally.notes.items ≡ notes_of profile view (view_facts image site volume view)
