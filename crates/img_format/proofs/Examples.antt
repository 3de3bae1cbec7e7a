-- Fields of a new container's first block, by the offsets of the format.
use Rattle.std.proofs.Common.{◌≡◌, [], ◌∷◌, refl}
use Rattle.std.specs.Prelude.{ℕ, codes, slice_range}
use Rattle.img_format.specs.declared.spec.Spec.{Spec}
use Rattle.img_format.specs.Tables.{num, laid, sealed, object}
use Rattle.img_format.specs.Blocks.{super}
use Rattle.img_format.specs.Fresh.{block, fresh}

-- a container of so many blocks; its volume is called "new"
abbrev wanted : ℕ → Spec
wanted blocks = record { blocks = blocks; name = codes "new"; container = codes "0123456789abcdef"; volume = codes "fedcba9876543210" }

none : fresh (wanted 0) ≡ []
unfolding fresh
none = refl

-- the magic, blocks of 4,096 bytes, and how many there are
magic : slice_range (fresh (wanted 1)) 32 36 ≡ codes "NXSB"
unfolding num laid sealed object super block fresh
magic = refl

block_size : slice_range (fresh (wanted 1)) 36 40 ≡ 0 ∷ 16 ∷ 0 ∷ 0 ∷ []
unfolding num laid sealed object super block fresh
block_size = refl

blocks : slice_range (fresh (wanted 1)) 40 48 ≡ 1 ∷ 0 ∷ 0 ∷ 0 ∷ 0 ∷ 0 ∷ 0 ∷ 0 ∷ []
unfolding num laid sealed object super block fresh
blocks = refl

-- the identifier
identifier : slice_range (fresh (wanted 1)) 72 88 ≡ codes "0123456789abcdef"
unfolding num laid sealed object super block fresh
identifier = refl
