-- The volumes that a container's superblock names (Container, nx_fs_oid).
use Rattle.std.specs.Prelude.{ℕ, Bool, ◌&&◌, ◌==◌, List, filter_map, Option, None, option_map, option_and_then, is_ok, Result, if◌then◌else◌}
use Rattle.std.specs.List.{range_with_len}
use Rattle.apfs_model.specs.Blocks.{block_of, in_container}
use Rattle.apfs_model.specs.Object.{volume_kind}
use Rattle.obj_base.specs.Sound.{sound_of, expecting}
use Rattle.obj_base.specs.declared.header.Header.{Header}
use Rattle.obj_base.specs.declared.header.HeadFault.{HeadFault}
use Rattle.obj_base.specs.declared.stop.Bad.{Bad}
use Rattle.obj_base.specs.declared.site.Site.{Site}
use Rattle.nx_block.specs.Super.{omap_oid_of, fs_oid_of, slots}
use Rattle.nx_ring.specs.Checkpoint.{Seen, site_of}
use Rattle.omap_map.specs.Resolve.{place_of}
use Rattle.omap_map.specs.Maps.{resolved_in}
use Rattle.omap_map.specs.declared.records.Place.{Place}
use Rattle.vol_view.specs.Fields as field
use Rattle.vol_view.specs.declared.head.VolHead.{VolHead}

-- a volume's superblock in a block
abbrev pub super_in : List ℕ → Site → ℕ → List ℕ
super_in image site block = block_of site.block_size image block

-- what the tests of its header say
abbrev pub super_test : List ℕ → Site → Option ℕ → ℕ → Result Header (Bad HeadFault)
super_test image site oid block = sound_of (super_in image site block) (expecting volume_kind oid site.max_xid)

-- Magic: a superblock has its magic
abbrev pub has_magic : List ℕ → Bool
has_magic bytes = field.magic_of bytes == field.volume_magic

-- a sound superblock of a volume
unfoldable pub is_super : List ℕ → Site → Option ℕ → ℕ → Bool
is_super image site oid block = is_ok (super_test image site oid block) && has_magic (super_in image site block)

-- the place of a volume: its oid is looked up in the container's map at the checkpoint's transaction
unfoldable pub volume_place : List ℕ → Seen → ℕ → Option Place
volume_place image seen oid = option_map place_of (resolved_in image (site_of seen) (omap_oid_of seen.nx) oid seen.line.xid)

-- the block of a volume, where its place gives one of the container
abbrev pub volume_block : List ℕ → Seen → ℕ → Option ℕ
volume_block image seen oid = option_and_then (λ (place : Place). in_container (site_of seen).blocks place.block) (volume_place image seen oid)

-- what a superblock tells of a volume
abbrev pub head_of : ℕ → ℕ → ℕ → List ℕ → VolHead
head_of slot oid block bytes = record {
  slot = slot;
  oid = oid;
  block = block;
  uuid = field.uuid_of bytes;
  role = field.role_of bytes;
  incompat = field.incompat_of bytes;
  snapshots = field.snapshots_of bytes;
  name = field.name_of bytes;
}

-- the volume of an oid in a slot, if there is one
abbrev pub head_for : List ℕ → Seen → ℕ → ℕ → Option VolHead
head_for image seen slot oid =
    if oid == 0 then None else
    option_map (λ block. head_of slot oid block (super_in image (site_of seen) block)) (volume_block image seen oid)

-- the volume in a slot, if there is one; a slot whose oid is 0 has none
unfoldable pub head_at : List ℕ → Seen → ℕ → Option VolHead
head_at image seen slot = head_for image seen slot (fs_oid_of seen.nx slot)

-- the volumes in the first so many slots
abbrev pub heads_in : List ℕ → Seen → ℕ → List VolHead
heads_in image seen n = filter_map (head_at image seen) (range_with_len 0 n)

-- the volumes of a container, by slot
unfoldable pub heads_of : List ℕ → Seen → List VolHead
heads_of image seen = heads_in image seen slots
