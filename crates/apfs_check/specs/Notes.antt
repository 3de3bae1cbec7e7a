-- The notes of a container: what is odd in it, and no fault.
use Rattle.std.specs.Prelude.{ℕ, List, ◌++◌, map, flat_map}
use Rattle.apfs_model.specs.Counts.{given}
use Rattle.nx_ring.specs.Checkpoint.{Seen, site_of}
use Rattle.vol_view.specs.Heads.{heads_of}
use Rattle.vol_view.specs.Views.{views_of}
use Rattle.vol_view.specs.declared.head.VolHead.{VolHead}
use Rattle.vol_view.specs.declared.volume.View.{View}
use Rattle.ext_ref.specs.declared.range.NewRange.{NewRange}
use Rattle.view_rules.specs.Rules.{view_facts}
use Rattle.tree_rules.specs.Notes.{hash_notes, unnamed_notes}
use Rattle.view_rules.specs.declared.notes.Note.{Note}
use Rattle.view_rules.specs.declared.notes.Note.TheVariants.{Skipped, Unreached, Count}
use Rattle.view_rules.specs.declared.profile.Profile.{Profile}
use Rattle.view_rules.specs.declared.profile.Profile.TheVariants.{Plain, Strict}
use Rattle.apfs_check.specs.Volumes.{volume_of}
use Rattle.apfs_check.specs.Data.{unreached_in, miscounted_in, streams_in}

-- note skipped: one for each candidate that the newest checkpoint stands before, by index
abbrev pub skipped_note : ℕ × ℕ → Note
skipped_note candidate = Skipped candidate.0 candidate.1

-- those of a checkpoint
abbrev pub skipped_notes : Seen → List Note
skipped_notes seen = map skipped_note seen.skipped

-- the notes of a kind of all views of a volume: of the live view, and then of the snapshots' by transaction
abbrev pub of_views : (List ℕ → Seen → VolHead → View → List Note) → List ℕ → Seen → VolHead → List Note
of_views kind image seen head = flat_map (kind image seen head) (views_of (volume_of image seen head) seen)

-- note hash: those of a view
abbrev pub view_hash_notes : List ℕ → Seen → VolHead → View → List Note
view_hash_notes image seen head view = hash_notes view (view_facts image (site_of seen) (volume_of image seen head) view)

-- note unnamed: those of a view
abbrev pub view_unnamed_notes : List ℕ → Seen → VolHead → View → List Note
view_unnamed_notes image seen head view = unnamed_notes view (view_facts image (site_of seen) (volume_of image seen head) view)

-- note unreached: one for each longest run of a volume's blocks that no extent reaches
abbrev pub unreached_note : VolHead → ℕ × ℕ → Note
unreached_note head run = Unreached head.slot run.0 run.1

-- those of a volume
abbrev pub unreached_notes : List ℕ → Seen → VolHead → List Note
unreached_notes image seen head = map (unreached_note head) (unreached_in image seen head)

-- note count: one for each new range of a volume without snapshots whose count is wrong
abbrev pub count_note : List ℕ → Seen → VolHead → NewRange → Note
count_note image seen head r = Count head.slot r.first r.count (given (streams_in image seen head r))

-- those of a volume, in tree order
abbrev pub count_notes : List ℕ → Seen → VolHead → List Note
count_notes image seen head = map (count_note image seen head) (miscounted_in image seen head)

-- the notes of a kind of all volumes, by slot
abbrev pub of_volumes : (List ℕ → Seen → VolHead → List Note) → List ℕ → Seen → List Note
of_volumes kind image seen = flat_map (kind image seen) (heads_of image seen)

-- the notes of a container, in the order of their kinds; under Strict three kinds of them are faults
unfoldable pub notes_of : Profile → List ℕ → Seen → List Note
notes_of Plain image seen =
    skipped_notes seen
    ++ (of_volumes (of_views view_hash_notes) image seen
    ++ (of_volumes unreached_notes image seen
    ++ (of_volumes (of_views view_unnamed_notes) image seen
    ++ of_volumes count_notes image seen)))
notes_of Strict image seen = skipped_notes seen ++ of_volumes (of_views view_unnamed_notes) image seen
