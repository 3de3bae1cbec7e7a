use Rattle.std.proofs.Common.{◌≡◌, ◌++◌}
use Rattle.std.specs.Prelude.{filter}
use Rattle.apfs_check.specs.NoteTests.{is_hash_note, is_unnamed_note}
use Rattle.apfs_check.proofs.gathered.Gathered.put_all.Given as goal

abbrev pub invariant-notes : goal.invariant-notes
invariant-notes l = record {
  hashes : l.self.hashes ≡ l.fn.self.hashes ++ filter is_hash_note l.yielded;
  unnamed : l.self.unnamed ≡ l.fn.self.unnamed ++ filter is_unnamed_note l.yielded;
  views : l.self.views ≡ l.fn.self.views;
  records : l.self.records ≡ l.fn.self.records;
  unreached : l.self.unreached ≡ l.fn.self.unreached;
  counts : l.self.counts ≡ l.fn.self.counts;
}
