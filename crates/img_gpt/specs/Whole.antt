-- A part of a source tells a part of its bytes, as long as it says.
use Rattle.std.proofs.Common.{◌≡◌, ℕ, ◌+◌, ◌≤◌, List, Option, None, Some, length, refl, sym, ap, ◌∙◌, arith}
use Rattle.std.proofs.lemmas.Grind.{common_steps}
use Rattle.apfs_model.specs.Bytes.{part_at}
use Rattle.img_gpt.specs.Slices.{sliced}

-- what it tells is a part of what the source tells
pub sliced_of : (start len : ℕ) (told : Option (List ℕ)) (image : List ℕ) → sliced start len told ≡ Some image → (disk : List ℕ) × (told ≡ Some disk) × (image ≡ part_at disk start len)
sliced_of start len None image e = absurd Prim.cc
sliced_of start len (Some disk) image e = let same : part_at disk start len ≡ image = Prim.cc in (disk, refl, sym same)

part_length : (disk : List ℕ) (start len : ℕ) → start + len ≤ length disk → length (part_at disk start len) ≡ len
part_length disk start len inside = grind (arith, common_steps, inside)

-- a part of bytes is as long as asked where it lies in them
pub sliced_whole : (start len size : ℕ) (told : Option (List ℕ)) (image : List ℕ) → ((disk : List ℕ) → told ≡ Some disk → length disk ≡ size) → start + len ≤ size → sliced start len told ≡ Some image → length image ≡ len
sliced_whole start len size told image whole inside e =
    let of = sliced_of start len told image e in
    let long : length of.0 ≡ size = whole of.0 of.1 in
    ap length of.2 ∙ part_length of.0 start len (omega (arith, long, inside))
