-- Rows of a tree, and the entries that they are from.
use Rattle.std.proofs.Common.{◌≡◌, ℕ, true, List, Some, ap, sym, ◌∙◌, subst}
use Rattle.std.specs.Prelude.{filter_map, ◌==◌}
use Rattle.std.specs.List.{find}
use Rattle.std.proofs.lemmas.Bool.Decides.{Decides-eqb}
use Rattle.apfs_model.specs.Lists.{In}
use Rattle.fs_record.specs.Inodes.{Inode}
use Rattle.fs_record.specs.Entries.{Entry}
use Rattle.fs_record.specs.Facts.{Fact, is_reserved}
use Rattle.view_rules.specs.Facts.{Facts, inode_at, does_count, names_file}
use Rattle.apfs_model.proofs.Searches.{found-in}
use Rattle.path_search.specs.Places.{Place}
use Rattle.path_search.specs.Found.{entries_in, place_by}
use Rattle.path_search.specs.Listing.{children}
use Rattle.view_tree.specs.Tree.{Row, row_after, rows_of}
use Rattle.apfs_model.proofs.BoolTests.{both-true, false-not}
use Rattle.apfs_model.proofs.Searches.{from-map}
use Rattle.path_search.proofs.Tallies.{in-given, in-by, mapped-at}
use Rattle.path_search.proofs.Entries.{in-entries, place-file}

-- ---- what a directory has
-- no more rows of a directory pass a test than entries of the view pass another

-- where a row of a directory is from
pub record IsFrom (facts : Facts) (id : ℕ) (row : Row) : Type 0 where
  pub entry : Fact Entry
  pub listed : In entry facts.entries
  pub inside : entry.id ≡ id
  pub names : names_file row.place.id entry ≡ true
  pub inode : inode_at facts row.place.id ≡ Some row.place.inode

pub rows-from : (facts : Facts) (before : List ℕ) (id : ℕ) (row : Row) → In row (rows_of facts before id) → IsFrom facts id row
unfolding children
rows-from facts before id row h =
    let t = from-map (row_after before) (children facts id) row h in
    let place : Place = t.0 in
    let k = in-by (λ (p : Place). p.name) (filter_map (place_by facts) (entries_in facts id)) place t.1.0 in
    let u = in-given (place_by facts) (entries_in facts id) place k in
    let v = in-entries facts id u.0 u.1.0 in
    let w = place-file facts u.0 place u.1.1 in
    let same : row.place ≡ place = ap (λ (r : Row). r.place) t.1.1 in
    let file : v.0.what.file_id ≡ row.place.id = ap (λ (e : Entry). e.file_id) v.1.2 ∙ (sym w.0 ∙ sym (ap (λ (p : Place). p.id) same)) in
    record {
      entry = v.0;
      listed = v.1.0;
      inside = v.1.1;
      names = both-true (does_count v.0) (v.0.what.file_id == row.place.id) (false-not (is_reserved v.0.id) (ap is_reserved v.1.1 ∙ v.1.3)) ((Decides-eqb v.0.what.file_id row.place.id).1 file);
      inode = subst (λ (p : Place). inode_at facts p.id ≡ Some p.inode) (sym same) w.1;
    }

-- ---- the one entry of a directory that is opened

-- the fact of an inode
pub inode-fact : (facts : Facts) (place : Place) → inode_at facts place.id ≡ Some place.inode → (f : Fact Inode) × (In f facts.inodes × (f.id ≡ place.id) × (f.what ≡ place.inode))
inode-fact facts place e =
    let t = mapped-at (λ (f : Fact Inode). f.what) (find (λ (f : Fact Inode). f.id == place.id) facts.inodes) place.inode e in
    let u = found-in (λ (f : Fact Inode). f.id == place.id) facts.inodes t.0 t.1.0 in
    (t.0, (u.0, (Decides-eqb t.0.id place.id).0 u.1, t.1.1))
