-- What a run was handed beside the words: a source and a folder, before and after it. `Sunk` is the same of a sink.
use Rattle.std.specs.Prelude.{◌≡◌, ℕ, List, Option, None, Some}
use Rattle.apfs_model.specs.Counts.{Rose}
use Rattle.blk_source.specs.declared.source.Opened.{Opened}
use Rattle.blk_source.specs.declared.source.Opened.TheVariants.{Image}
use Rattle.blk_folder.specs.Items.{Item}
use Rattle.blk_folder.specs.declared.folder.Given.{Given}
use Rattle.blk_folder.specs.declared.folder.Given.TheVariants.{Nothing, Into}
use Rattle.img_gpt.specs.Slices.{sliced}
use Rattle.img_gpt.specs.declared.part.Part.{Part}

-- a source: its bytes where it tells them, and how often it failed
pub record Looked : Type 0 where
  pub bytes : Option (List ℕ)
  pub old_faults : ℕ
  pub new_faults : ℕ

abbrev pub looked : {S : Type 0} → (S → Option (List ℕ)) → (S → ℕ) → S → S → Looked
looked bytes faults old new = record { bytes = bytes old; old_faults = faults old; new_faults = faults new }

-- what was handed in for the image, where a source was
abbrev pub looked_at : {S : Type 0} → (S → Option (List ℕ)) → (S → ℕ) → Opened S → Opened S → Option Looked
looked_at bytes faults (Image old) (Image new) = Some (looked bytes faults old new)
looked_at bytes faults old new = None

-- a source failed in the run
abbrev pub LookFailed : Looked → Type 0
LookFailed source = Rose source.old_faults source.new_faults

-- a fact of the bytes of a source, where it tells them
abbrev pub OfImage : Looked → (List ℕ → Type 0) → Type 0
OfImage source P = (image : List ℕ) → source.bytes ≡ Some image → P image

-- a part of a source, which fails where the source does
abbrev pub part_looked : Part → Looked → Looked
part_looked part disk = record { bytes = sliced part.start part.length disk.bytes; old_faults = disk.old_faults; new_faults = disk.new_faults }

-- an image that was made, of which no read fails
abbrev pub made : List ℕ → Looked
made image = record { bytes = Some image; old_faults = 0; new_faults = 0 }

-- a folder: its items where it tells them, and how often it failed
pub record Stored : Type 0 where
  pub old : Option (List Item)
  pub new : Option (List Item)
  pub old_faults : ℕ
  pub new_faults : ℕ

abbrev pub stored : {F : Type 0} → (F → Option (List Item)) → (F → ℕ) → F → F → Stored
stored contents faults old new = record { old = contents old; new = contents new; old_faults = faults old; new_faults = faults new }

-- what was handed in for the folder, where a folder was
abbrev pub stored_in : {F : Type 0} → (F → Option (List Item)) → (F → ℕ) → Given F → Given F → Option Stored
stored_in contents faults (Into old) (Into new) = Some (stored contents faults old new)
stored_in contents faults old new = None

-- the folder failed in the run
abbrev pub StoreFailed : Option Stored → Type 0
StoreFailed None = ⊥
StoreFailed (Some folder) = Rose folder.old_faults folder.new_faults

-- what was handed in for the folder stays what it was
abbrev pub IsGivenKept : {F : Type 0} → Given F → Given F → Type 0
IsGivenKept Nothing Nothing = Unit {0}
IsGivenKept (Into old) (Into new) = Unit {0}
IsGivenKept old new = ⊥
