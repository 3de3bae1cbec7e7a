-- The one checkpoint of a new container.
use Rattle.std.specs.Prelude.{ℕ, List, [], ◌∷◌}
use Rattle.nx_ring.specs.declared.line.RingLine.{RingLine}
use Rattle.nx_ring.specs.declared.areas.Areas.{Areas}
use Rattle.nx_ring.specs.Objects.{Place}
use Rattle.nx_ring.specs.Checkpoint.{Seen}
use Rattle.img_format.specs.Tables.{size}
use Rattle.fresh_law.specs.Site.{block_at}

-- the areas
abbrev pub areas : Areas
areas = record { size = size; desc_base = 1; desc_blocks = 8; data_base = 9; data_blocks = 16 }

-- the candidate, in block 2
abbrev pub line : RingLine
line = record { index = 1; block = 2; xid = 1; desc_index = 0; desc_len = 2 }

-- where the object of an id is found: in one block
abbrev pub place : List ℕ → ℕ → ℕ → Place
place image oid block = record { oid = oid; block = block; bytes = block_at image block }

-- the checkpoint of that candidate
abbrev pub seen : List ℕ → Seen
seen image = record {
  line = line;
  nx = block_at image 2;
  mapped = place image 1024 9 ∷ place image 1025 10 ∷ place image 1029 11 ∷ place image 1030 12 ∷ [];
  skipped = [];
}
