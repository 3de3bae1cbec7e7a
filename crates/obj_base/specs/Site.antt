-- What a site must be for a source.
use Rattle.std.specs.Prelude.{◌≡◌, ℕ, ◌*◌, ◌≤◌, true}
use Rattle.obj_base.specs.BlockSize.{is_accepted}
use Rattle.obj_base.specs.declared.site.Site.{Site}

-- a site is right for a source of so many bytes: its block size is accepted, and all its blocks lie in the source
pub record IsSiteFor (site : Site) (size : ℕ) : Type 0 where
  pub accepted : is_accepted site.block_size ≡ true
  pub inside : site.block_size * site.blocks ≤ size
