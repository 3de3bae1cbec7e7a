-- Which names a volume of a new container can have.
use Rattle.std.specs.Prelude.{◌≡◌, ℕ, ◌≤◌, false, List, length}
use Rattle.std.specs.Str.{IsUtf8}
use Rattle.apfs_model.specs.Lists.{has}
use Rattle.img_format.specs.Limits.{most_name}

-- a name that a volume can have: in UTF-8, without a zero
pub record IsName (name : List ℕ) : Type 0 where
  pub some : 1 ≤ length name
  pub short : length name ≤ most_name
  pub zero_free : has name 0 ≡ false
  pub text : IsUtf8 name
