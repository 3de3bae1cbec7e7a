-- Entries of siblings that pair off with their links and their maps.
use Rattle.std.specs.Prelude.{◌≡◌, ℕ, ◌<◌, true, List, length}
use Rattle.std.specs.List.{slice_index_or}
use Rattle.fs_record.specs.Entries.{Entry}
use Rattle.fs_record.specs.Siblings.{Link}
use Rattle.fs_record.specs.Facts.{Fact}
use Rattle.view_rules.specs.Siblings.{go_together}

-- the file and the sibling of a map
abbrev pub sibling_pair : Fact ℕ → ℕ × ℕ
sibling_pair m = (m.what, m.id)

-- the first so many entries and links go together one by one, and the maps of their siblings stand beside them
pub record AreFellows (twins : List (Fact Entry)) (links : List (Fact Link)) (pairs : List (ℕ × ℕ)) (count : ℕ) : Type 0 where
  pub together : (i : ℕ) (e : Fact Entry) (l : Fact Link) → i < count → go_together (slice_index_or twins i e) (slice_index_or links i l) ≡ true
  pub mapped : (i : ℕ) (l : Fact Link) (p : ℕ × ℕ) → i < count → slice_index_or pairs i p ≡ ((slice_index_or links i l).what.file, (slice_index_or links i l).what.sibling)

-- there are as many entries as links and as maps, and all are fellows one by one
pub record PairOff (twins : List (Fact Entry)) (links : List (Fact Link)) (pairs : List (ℕ × ℕ)) : Type 0 where
  pub links_long : length links ≡ length twins
  pub pairs_long : length pairs ≡ length twins
  pub fellows : AreFellows twins links pairs (length twins)
