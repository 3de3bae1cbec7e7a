-- Images while they are made.
use Rattle.std.specs.Prelude.{◌≡◌, ◌≤◌, ℕ, max, vec_len}
use Rattle.img_plan.specs.declared.plan.Plan.{Plan}
use Rattle.img_make.specs.declared.laying.image.Image.{Image}

-- An image has as many blocks as before or more, of the same size.
abbrev pub HasGrown : Image → Image → Type 0
HasGrown old new = (new.geometry.size ≡ old.geometry.size) × (vec_len old.used ≤ vec_len new.used)

-- An image has blocks of a size, and as many as a plan asks for, and 51 at least.
abbrev pub IsImageOf : ℕ → Plan → Image → Type 0
IsImageOf size plan image = (image.geometry.size ≡ size) × (max plan.blocks 51 ≤ vec_len image.used)
