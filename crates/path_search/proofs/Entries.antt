-- What the entries of a directory are.
use Rattle.std.proofs.Common.{◌≡◌, ℕ, ◌≤◌, Bool, true, false, cond, [], Some, refl, ap, sym, ◌∙◌, arith}
use Rattle.std.specs.Prelude.{filter, ◌==◌}
use Rattle.std.proofs.lemmas.Bool.Decides.{Decides-eqb}
use Rattle.apfs_model.specs.Lists.{In}
use Rattle.fs_record.specs.Entries.{Entry}
use Rattle.fs_record.specs.Facts.{Fact, all_for, is_reserved}
use Rattle.view_rules.specs.Facts.{Facts, inode_at}
use Rattle.path_search.specs.Places.{Place, placed}
use Rattle.path_search.specs.Found.{entries_in, place_by}
use Rattle.apfs_model.proofs.Searches.{from-map}
use Rattle.path_search.proofs.Tallies.{tally, tally-nil, tally-kept, in-kept, mapped-at}

-- no more entries of a directory pass a test than entries of the view pass another
pub kept-entries : (facts : Facts) (id : ℕ) (p : Entry → Bool) (q : Fact Entry → Bool) → ((f : Fact Entry) → f.id ≡ id → is_reserved id ≡ false → p f.what ≡ true → q f ≡ true) → tally p (entries_in facts id) ≤ tally q facts.entries
unfolding entries_in
kept-entries facts id p q h =
    let go : (b : Bool) → is_reserved id ≡ b → tally p (cond b [] (all_for id facts.entries)) ≤ tally q facts.entries = λ b. elim b as (λ b. is_reserved id ≡ b → tally p (cond b [] (all_for id facts.entries)) ≤ tally q facts.entries) [
      | true ↦ λ e. let n = tally-nil p in omega arith
      | false ↦ λ e. tally-kept (λ (f : Fact Entry). f.id == id) (λ (f : Fact Entry). f.what) p q (λ f s k. h f ((Decides-eqb f.id id).0 s) e k) facts.entries
    ] in
    go (is_reserved id) refl

-- an entry of a directory is one of the view's, and the directory isn't reserved
pub in-entries : (facts : Facts) (id : ℕ) (e : Entry) → In e (entries_in facts id) → (f : Fact Entry) × (In f facts.entries × (f.id ≡ id) × (f.what ≡ e) × (is_reserved id ≡ false))
unfolding entries_in
in-entries facts id e h =
    let Result : Type 0 = (f : Fact Entry) × (In f facts.entries × (f.id ≡ id) × (f.what ≡ e) × (is_reserved id ≡ false)) in
    let go : (b : Bool) → is_reserved id ≡ b → In e (cond b [] (all_for id facts.entries)) → Result = λ b. elim b as (λ b. is_reserved id ≡ b → In e (cond b [] (all_for id facts.entries)) → Result) [
      | true ↦ λ s k. absurd k
      | false ↦ λ s k.
          let t = from-map (λ (f : Fact Entry). f.what) (filter (λ (f : Fact Entry). f.id == id) facts.entries) e k in
          let u = in-kept (λ (f : Fact Entry). f.id == id) facts.entries t.0 t.1.0 in
          (t.0, (u.0, (Decides-eqb t.0.id id).0 u.1, sym t.1.1, s))
    ] in
    go (is_reserved id) refl h

-- an entry's place has the entry's file and the inode of that file
pub place-file : (facts : Facts) (e : Entry) (place : Place) → place_by facts e ≡ Some place → (place.id ≡ e.file_id) × (inode_at facts place.id ≡ Some place.inode)
place-file facts e place h =
    let t = mapped-at (placed e.file_id e.name) (inode_at facts e.file_id) place h in
    let same : place.id ≡ e.file_id = sym (ap (λ (p : Place). p.id) t.1.1) in
    let inode : t.0 ≡ place.inode = ap (λ (p : Place). p.inode) t.1.1 in
    (same, ap (inode_at facts) same ∙ (t.1.0 ∙ ap Some inode))
