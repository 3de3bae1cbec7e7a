-- The notes of a small view.
use Rattle.std.proofs.Common.{◌≡◌, ℕ, ◌*◌, true, false, [], ◌∷◌, map, None, refl}
use Rattle.std.specs.Prelude.{pos, codes}
use Rattle.fs_name.specs.Text.{is_ascii_name}
use Rattle.fs_name.specs.declared.naming.Names.TheVariants.{Exact}
use Rattle.fs_record.specs.Inodes.{Inode}
use Rattle.fs_record.specs.Entries.{Entry}
use Rattle.fs_record.specs.Facts.{Fact}
use Rattle.vol_view.specs.declared.volume.View.{View}
use Rattle.view_rules.specs.Facts.{Facts}
use Rattle.view_rules.specs.Names.{has_other_hash, has_other_name_hash}
use Rattle.view_rules.specs.declared.profile.Profile.TheVariants.{Plain, Strict}
use Rattle.tree_rules.specs.Notes.{is_unnamed, unnamed_note}
use Rattle.tree_rules.specs.Tallies.{notes_of}

abbrev inode : ℕ → ℕ → Fact Inode
inode id kind = record { id = id; what = record { parent = 2; private_id = id; links = pos 1; bsd_flags = 0; mode = 4096 * kind; stream = None } }

abbrev entry : ℕ → ℕ → Fact Entry
entry id file = record { id = id; what = record { name = codes "a"; hash = 7; file_id = file; kind = 8; sibling = None } }

abbrev facts : Facts
facts = record { names = Exact; inodes = inode 16 8 ∷ inode 17 8 ∷ inode 18 4 ∷ inode 15 8 ∷ inode 19 10 ∷ []; entries = entry 5 17 ∷ []; attributes = []; links = []; siblings = []; extents = [] }

abbrev view : View
view = record { slot = 0; xid = 1; root_oid = 1028 }

-- a file without an entry; one with an entry in 5; a directory; an id below 16; a link without an entry
unnamed : map (is_unnamed facts) facts.inodes ≡ true ∷ false ∷ false ∷ false ∷ true ∷ []
unfolding is_unnamed
unnamed = refl

-- the notes of both profiles, where names aren't hashed: in record order
notes : map (λ profile. notes_of profile view facts) (Plain ∷ Strict ∷ []) ≡ (unnamed_note view (inode 16 8) ∷ unnamed_note view (inode 19 10) ∷ []) ∷ (unnamed_note view (inode 16 8) ∷ unnamed_note view (inode 19 10) ∷ []) ∷ []
unfolding notes_of is_unnamed has_other_name_hash has_other_hash is_ascii_name
notes = refl
