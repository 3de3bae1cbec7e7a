-- Counts of failures, parts of an image, and what sinks have.
use Rattle.std.proofs.Common.{◌≡◌, ℕ, List, [], ◌∷◌, ◌++◌, Option, Some, refl, ap, arith}
use Rattle.std.specs.Prelude.{codes, option_map}
use Rattle.apfs_model.specs.Counts.{one_more, Rose}
use Rattle.apfs_model.specs.Source.{Copies}
use Rattle.apfs_model.specs.Sink.{Wrote, WrotePart}

-- ---- counts: one that rose, and one that stayed
rose : Rose 3 4
rose = omega arith

stayed : Rose 3 3 → ⊥
stayed risen = omega arith

-- the greatest number of 64 bits stands for all beyond it
greatest : one_more 18446744073709551615 ≡ 18446744073709551615
greatest = refl

-- ---- two bytes of an image, from byte 1 on
copied : Copies (10 ∷ 11 ∷ 12 ∷ 13 ∷ []) 1 (11 ∷ 12 ∷ [])
copied = refl

-- ---- a sink that had "a" has all of "bc" more, or a part
all : Wrote (Some (codes "a")) (Some (codes "abc")) (codes "bc")
all held e = ap (λ (had : Option (List ℕ)). option_map (λ bytes. bytes ++ codes "bc") had) e

part : WrotePart (Some (codes "a")) (Some (codes "ab")) (codes "bc")
part held e = (codes "b", codes "c", refl, ap (λ (had : Option (List ℕ)). option_map (λ bytes. bytes ++ codes "b") had) e)
