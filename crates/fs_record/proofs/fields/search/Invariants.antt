-- What is found so far decides with the fields that are left; the next field begins at most 7 bytes after the value.
use Rattle.std.proofs.Common.{◌≡◌, ◌≤◌, ◌+◌, ◌*◌, ◌-◌, length, map, IfSome, None}
use Rattle.std.specs.List.{range_with_len}
use Rattle.fs_record.specs.Fields as spec
use Rattle.fs_record.specs.Search.{place_after}
use Rattle.fs_record.proofs.fields.search.Given as goal

abbrev pub invariant-fields : goal.invariant-fields
invariant-fields l = record {
  decides : place_after (length l.value) l.kind l.least None (spec.laid_out (l.at + 4 + 4 * spec.field_count_of l.value l.at) (spec.sizes_of l.value l.at)) ≡ place_after (length l.value) l.kind l.least l.found (spec.laid_out l.start (map (spec.size_at l.value l.at) (range_with_len l.i (l.count - l.i))));
  near : l.start ≤ length l.value + 7;
  inside : IfSome l.found (λ start. start + l.least ≤ length l.value);
}
