-- Which containers can be made.
use Rattle.std.specs.Prelude.{◌≡◌, ◌≤◌, length}
use Rattle.img_format.specs.declared.spec.Spec.{Spec}
use Rattle.img_format.specs.Names.{IsName}
use Rattle.img_format.specs.Limits.{least_blocks, most_blocks}

-- a container that can be made: its number of blocks, its volume's name, and identifiers of 16 bytes, as their type has them
pub record IsValid (spec : Spec) : Type 0 where
  pub least : least_blocks ≤ spec.blocks
  pub most : spec.blocks ≤ most_blocks
  pub name : IsName spec.name
  pub container : length spec.container ≡ 16
  pub volume : length spec.volume ≡ 16
