use Rattle.std.proofs.Common.{◌≡◌, ◌-◌, Some, slice_index_or, arith}
use Rattle.std.specs.List.{slice_get}
use Rattle.std.proofs.lemmas.Option.{slice_get-get_or}
use Rattle.fs_record.specs.declared.extents.FileExt.{FileExt}
use Rattle.file_extent.proofs.search.last_begun.Goals as goal

pub returns : goal.returns
returns c =
    let none : FileExt = record { logical = 0; length = 0; block = 0 } in
    let at : slice_get c.args.extents.now (c.args.n - 1) ≡ Some (slice_index_or c.args.extents.now (c.args.n - 1) none) = slice_get-get_or c.args.extents.now (c.args.n - 1) none (omega arith) in
    record { at = at; begun = c.requires.before (c.args.n - 1) (slice_index_or c.args.extents.now (c.args.n - 1) none) (omega arith) at }
