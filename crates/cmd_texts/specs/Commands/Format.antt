-- The command `format`: a new container.
use Rattle.std.specs.Prelude.{◌≡◌, ℕ, List}
use Rattle.img_format.specs.declared.spec.Spec.{Spec}
use Rattle.img_format.specs.Fresh.{fresh}

-- the text: the bytes of the container, whatever was handed in
abbrev pub IsText : Spec → List ℕ → Type 0
IsText spec text = text ≡ fresh spec
