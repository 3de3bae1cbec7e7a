-- The object in a block of an image, judged by what is expected of it.
use Rattle.std.specs.Prelude.{ℕ, List, Result, Ok, Err}
use Rattle.apfs_model.specs.Blocks.{block_of}
use Rattle.obj_base.specs.Sound.{sound_of}
use Rattle.obj_base.specs.Stops.{in_block}
use Rattle.obj_base.specs.declared.header.Header.{Header}
use Rattle.obj_base.specs.declared.header.Expect.{Expect}
use Rattle.obj_base.specs.declared.header.HeadFault.{HeadFault}
use Rattle.obj_base.specs.declared.site.Site.{Site}
use Rattle.obj_base.specs.declared.stop.Bad.{Bad}
use Rattle.obj_base.specs.declared.stop.Stop.{Stop}
use Rattle.obj_base.specs.declared.stop.Unsound.{Unsound}

-- the bytes of the object in a block where it is sound, else the block and the test that fails
abbrev pub judged : ℕ → List ℕ → Result Header (Bad HeadFault) → Result (List ℕ) (Stop (Unsound HeadFault))
judged block bytes (Ok header) = Ok bytes
judged block bytes (Err bad) = Err (in_block block bad)

-- the sound object in a block of an image, or the first test that fails, with the block
unfoldable pub sound_object : List ℕ → Site → ℕ → Expect → Result (List ℕ) (Stop (Unsound HeadFault))
sound_object image site block expect =
    let bytes = block_of site.block_size image block in
    judged block bytes (sound_of bytes expect)
