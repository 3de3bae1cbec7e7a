-- A checkpoint, and what it maps.
use Rattle.std.specs.Prelude.{ℕ, ◌==◌, List, Option, option_map}
use Rattle.std.specs.List.{find}
use Rattle.nx_ring.specs.declared.line.RingLine.{RingLine}
use Rattle.obj_base.specs.declared.site.Site.{Site}
use Rattle.nx_block.specs.Super.{block_size_of, block_count_of}
use Rattle.nx_ring.specs.Objects.{Place}

-- a checkpoint: its line, the bytes of its superblock, the objects that it maps, and the candidates before which it stands, by index and transaction
pub record Seen : Type 0 where
  pub line : RingLine
  pub nx : List ℕ
  pub mapped : List Place
  pub skipped : List (ℕ × ℕ)

-- the ephemeral map: where an oid's object is found
unfoldable pub eph : Seen → ℕ → Option Place
eph seen oid = find (λ (p : Place). p.oid == oid) seen.mapped

-- the bytes of an oid's object
abbrev pub object_of : Seen → ℕ → Option (List ℕ)
object_of seen oid = option_map (λ (p : Place). p.bytes) (eph seen oid)

-- the first block of an oid's object
abbrev pub object_block_of : Seen → ℕ → Option ℕ
object_block_of seen oid = option_map (λ (p : Place). p.block) (eph seen oid)

-- what the objects of a checkpoint's container are measured by: its block size, its number of blocks, and its transaction
unfoldable pub site_of : Seen → Site
site_of seen = record { block_size = block_size_of seen.nx; blocks = block_count_of seen.nx; max_xid = seen.line.xid }
