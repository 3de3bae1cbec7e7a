-- The site of a checkpoint is right for the source that it was read from.
use Rattle.std.specs.Prelude.{◌≡◌, ℕ, true, List, Ok}
use Rattle.std.proofs.Common.{mul_comm}
use Rattle.obj_base.specs.BlockSize.{is_accepted}
use Rattle.obj_base.specs.Site.{IsSiteFor}
use Rattle.nx_block.specs.Super.{block_size_of, block_count_of}
use Rattle.nx_block.specs.Read.{read_of}
use Rattle.nx_block.proofs.Laws.{read_means}
use Rattle.nx_ring.specs.Checkpoint.{Seen, site_of}
use Rattle.nx_ring.specs.Reading.{IsHeld}

-- a superblock that is read has an accepted block size
pub size_accepted : (nx : List ℕ) → read_of nx ≡ Ok nx → is_accepted (block_size_of nx) ≡ true
size_accepted nx e = (read_means nx nx e).1

pub site_right : (seen : Seen) (len : ℕ) → is_accepted (block_size_of seen.nx) ≡ true → IsHeld seen.nx len → IsSiteFor (site_of seen) len
unfolding site_of
site_right seen len accepted held = record { accepted = accepted; inside = rw (mul_comm (block_size_of seen.nx) (block_count_of seen.nx)) held }
