use Rattle.std.proofs.Common.{◌≡◌, true, ◌++◌, length, drop}
use Rattle.img_format.specs.Tables.{laid, is_laid}
use Rattle.img_format.specs.Steps.{fields_of}
use Rattle.img_format.proofs.field.lay.Given as goal

abbrev pub invariant-fields : goal.invariant-fields
invariant-fields l = record {
  same : l.block.items ++ laid 4096 (length l.block.items) (fields_of (drop l.field-index l.fields)) ≡ l.fn.block.items ++ laid 4096 (length l.fn.block.items) (fields_of l.fields);
  room : is_laid 4096 (length l.block.items) (fields_of (drop l.field-index l.fields)) ≡ true;
}
