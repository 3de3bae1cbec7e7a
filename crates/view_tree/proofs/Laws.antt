-- What a tree answers, and where it names DirNames.
use Rattle.std.proofs.Common.{◌≡◌, ℕ, ◌≤◌, Bool, true, false, List, [], Some, Err, inl, inr, ap, ap₂, sym, ◌∙◌, arith}
use Rattle.std.specs.Prelude.{not, ◌&&◌, ◌==◌, nat_le, slice_get}
use Rattle.std.proofs.lemmas.Bool.{cases_eq}
use Rattle.std.proofs.lemmas.Bool.Decides.{Decides-eqb}
use Rattle.fs_record.specs.Inodes.{Inode}
use Rattle.fs_record.specs.Entries.{Entry}
use Rattle.fs_record.specs.Facts.{Fact, is_reserved, first_user_id}
use Rattle.view_rules.specs.Facts.{Facts, inode_at, is_directory, has_directory, does_count, names_file, entry_count, entry_count_in}
use Rattle.view_rules.specs.Directories.{is_user_directory, is_misnamed, IsDirNames}
use Rattle.apfs_model.proofs.Searches.{get-in}
use Rattle.path_search.specs.Places.{placed}
use Rattle.path_search.specs.Found.{entries_in, found}
use Rattle.view_tree.specs.Tree.{tree}
use Rattle.view_tree.specs.Met.{Spot, spot_in, IsMetTwice}
use Rattle.path_search.specs.declared.answer.Answer.{Answer}
use Rattle.apfs_model.proofs.BoolTests.{both-true, left-true, right-true, false-not, never-true}
use Rattle.path_search.proofs.Tallies.{tally, tally-is, tally-in, tally-apart}
use Rattle.path_search.proofs.Entries.{kept-entries}
use Rattle.view_tree.proofs.Rows.{inode-fact}
use Rattle.path_search.proofs.Laws.{passing, ok-err, IsPathAnswer, answers_then, found_answers, two-in}

-- what is answered of a tree is answered of the path
pub tree_answers : (facts : Facts) (path : List ℕ) (a : Answer) → tree facts path ≡ Err a → IsPathAnswer a
tree_answers facts path a e = answers_then IsPathAnswer (found facts path) _ (found_answers facts path) (λ place b h. absurd (ok-err _ b h)) a e

-- ---- DirNames
-- where a tree names DirNames, the fault is there
pub met_twice_is_there : (facts : Facts) (path : List ℕ) (id : ℕ) → IsMetTwice facts path id → IsDirNames facts id
unfolding is_misnamed
met_twice_is_there facts path id m =
    let p : Entry → Bool = λ (e : Entry). e.file_id == id in
    let a : Spot = m.one in
    let b : Spot = m.other in
    let kept : (k : ℕ) (f : Fact Entry) → f.id ≡ k → is_reserved k ≡ false → p f.what ≡ true → names_file id f ≡ true = λ k f s r h. both-true (does_count f) (f.what.file_id == id) (false-not (is_reserved f.id) (ap is_reserved s ∙ r)) h in
    let pa : p m.one_names.entry ≡ true = (Decides-eqb m.one_names.entry.file_id id).1 m.one_names.names in
    let pb : p m.other_names.entry ≡ true = (Decides-eqb m.other_names.entry.file_id id).1 m.other_names.names in
    let two : 2 ≤ tally (names_file id) facts.entries = elim (cases_eq a.id b.id) as (λ _. 2 ≤ tally (names_file id) facts.entries) [
      | inl s ↦
          let there : slice_get (entries_in facts a.id) b.number ≡ Some m.other_names.entry = ap (λ k. slice_get (entries_in facts k) b.number) s ∙ m.other_names.there in
          let n : a.number ≡ b.number → ⊥ = λ e. m.different (ap₂ spot_in s e) in
          let x = two-in p (entries_in facts a.id) a.number b.number m.one_names.entry m.other_names.entry m.one_names.there there pa pb n in
          let y = kept-entries facts a.id p (names_file id) (kept a.id) in
          omega arith
      | inr n ↦
          let here : ℕ → Fact Entry → Bool = λ k (f : Fact Entry). names_file id f && (f.id == k) in
          let into : (k : ℕ) (f : Fact Entry) → f.id ≡ k → is_reserved k ≡ false → p f.what ≡ true → here k f ≡ true = λ k f s r h. both-true (names_file id f) (f.id == k) (kept k f s r h) ((Decides-eqb f.id k).1 s) in
          let x = kept-entries facts a.id p (here a.id) (into a.id) in
          let y = kept-entries facts b.id p (here b.id) (into b.id) in
          let u = tally-in p (entries_in facts a.id) m.one_names.entry (get-in (entries_in facts a.id) a.number m.one_names.entry m.one_names.there) pa in
          let v = tally-in p (entries_in facts b.id) m.other_names.entry (get-in (entries_in facts b.id) b.number m.other_names.entry m.other_names.there) pb in
          let w = tally-apart (here a.id) (here b.id) (names_file id)
          (λ f h. left-true (names_file id f) (f.id == a.id) h)
          (λ f h. left-true (names_file id f) (f.id == b.id) h)
          (λ f h k. n (sym ((Decides-eqb f.id a.id).0 (right-true (names_file id f) (f.id == a.id) h)) ∙ (Decides-eqb f.id b.id).0 (right-true (names_file id f) (f.id == b.id) k)))
          facts.entries in
          omega arith
    ] in
    let t = passing (inode_at facts id) is_directory (left-true (has_directory facts id) (nat_le first_user_id id) m.directory) in
    let g = inode-fact facts (placed id [] t.0) t.1.0 in
    let f : Fact Inode = g.0 in
    let user : is_user_directory f ≡ true = both-true (is_directory f.what) (nat_le first_user_id f.id) (ap is_directory g.1.2 ∙ t.1.1) (ap (nat_le first_user_id) g.1.1 ∙ right-true (has_directory facts id) (nat_le first_user_id id) m.directory) in
    let once : Bool = (entry_count facts f.id == 1) && (entry_count_in facts f.id f.what.parent == 1) in
    let never : once ≡ false = never-true once (λ h.
    let one : entry_count facts f.id ≡ 1 = (Decides-eqb (entry_count facts f.id) 1).0 (left-true (entry_count facts f.id == 1) (entry_count_in facts f.id f.what.parent == 1) h) in
    let same : entry_count facts f.id ≡ entry_count facts id = ap (entry_count facts) g.1.1 in
    let z = tally-is (names_file id) facts.entries in
    omega arith) in
    inl (record { item = f; listed = g.1.0; same = g.1.1; breach = both-true (is_user_directory f) (not once) user (false-not once never) })
