-- Roots whose fields are laid out one by one.
use Rattle.std.proofs.Common.{◌≡◌, ℕ, true, false, Bool, List, [], ◌++◌, refl, ap}
use Rattle.img_format.specs.Tables.{size, Field, num, laid, sealed, header, object}
use Rattle.img_format.specs.Nodes.{root_fields, flags}
use Rattle.img_format.specs.Steps.{empty_fields}

after-header : (oid type subtype : ℕ) (before after : List Field) → laid size 32 before ≡ laid size 32 after → laid size 8 (header oid type subtype ++ before) ≡ laid size 8 (header oid type subtype ++ after)
unfolding laid num
after-header oid type subtype before after e = ap (λ (bs : List ℕ). num 8 oid ++ (num 8 1 ++ (num 4 type ++ (num 4 subtype ++ bs)))) e

-- an object says nothing of its fields but their bytes
pub same-object : (oid type subtype : ℕ) (before after : List Field) → laid size 32 before ≡ laid size 32 after → object oid type subtype before ≡ object oid type subtype after
unfolding object
same-object oid type subtype before after e = ap sealed (after-header oid type subtype before after e)

-- a root without entries
pub empty-laid : (fixed : Bool) → laid size 32 (empty_fields (flags fixed)) ≡ laid size 32 (root_fields fixed [])
unfolding laid num
empty-laid true = refl
empty-laid false = refl
