-- Entries that may have the name of another one, where the hashes of ASCII names are right.
use Rattle.std.specs.Prelude.{◌≡◌, ℕ, ◌+◌, ◌-◌, ◌*◌, ◌^◌, ◌<◌, ◌≤◌, Bool, true, List, length, count_by}
use Rattle.std.specs.List.{slice_index_or}
use Rattle.fs_name.specs.Text.{is_ascii_name}
use Rattle.fs_record.specs.Entries.{Entry}
use Rattle.fs_record.specs.Facts.{Fact}
use Rattle.rule_index.specs.Ids.{count_in}
use Rattle.rule_index.specs.Digests.{digest_of}

-- the directory of an entry and its hash as one number, which is in the order of the directories, and in each of the hashes
abbrev pub entry_rank : Fact Entry → ℕ
entry_rank e = e.id * 2 ^ 32 + e.what.hash

-- the name of an entry is ASCII, and neither the entry before it nor the one after it has its directory and its hash
pub record IsAlone (entries : List (Fact Entry)) (i : ℕ) : Type 0 where
  pub ascii : (d : Fact Entry) → is_ascii_name (slice_index_or entries i d).what.name ≡ true
  pub before : (d : Fact Entry) → 0 < i → entry_rank (slice_index_or entries (i - 1) d) ≡ entry_rank (slice_index_or entries i d) → ⊥
  pub after : (d : Fact Entry) → i + 1 < length entries → entry_rank (slice_index_or entries (i + 1) d) ≡ entry_rank (slice_index_or entries i d) → ⊥

-- all that pass a test have one digest
abbrev pub HaveDigest : (Fact Entry → Bool) → ℕ → Type 0
HaveDigest test q = (e : Fact Entry) → test e ≡ true → digest_of e.id e.what.name ≡ q

-- none of the first so many that passes a test is alone
abbrev pub NoneAlone : List (Fact Entry) → ℕ → (Fact Entry → Bool) → Type 0
NoneAlone entries count test = (i : ℕ) (d : Fact Entry) → i < count → test (slice_index_or entries i d) ≡ true → IsAlone entries i → ⊥

-- numbers have the digests of the entries that aren't alone: no fewer of a digest than there are entries that pass a test, where none of these is alone and all have it
abbrev pub HasSuspects : List (Fact Entry) → List ℕ → Type 0
HasSuspects entries ids = (test : Fact Entry → Bool) (q : ℕ) → HaveDigest test q → NoneAlone entries (length entries) test → count_by test entries ≤ count_in ids q
