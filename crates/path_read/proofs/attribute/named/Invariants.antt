use Rattle.std.proofs.Common.{◌≡◌, ◌<◌, ℕ, false, get_or}
use Rattle.fs_record.specs.Attributes.{Attribute}
use Rattle.path_read.specs.Attributes.{is_called}
use Rattle.path_read.proofs.attribute.named.Given as goal

abbrev pub invariant-loop-attribute : goal.invariant-loop-attribute
invariant-loop-attribute l = (k : ℕ) (d : Attribute) → k < l.attribute-index → is_called l.name (get_or l.attributes k d) ≡ false
