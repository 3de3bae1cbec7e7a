-- Woven lists that go on.
use Rattle.std.proofs.Common.{List, [], ◌∷◌, ◌++◌}
use Rattle.rule_changes.specs.Changes.{Weaves, ended, stays, differs}

-- a list is woven of itself and nothing
all-stay : {X : Type 0} (xs : List X) → Weaves xs xs []
all-stay [] = ended
all-stay (x ∷ xs) = stays x xs xs [] (all-stay xs)

-- some more items are the same
pub more-stay : {X : Type 0} (xs : List X) {all same other : List X} → Weaves all same other → Weaves (all ++ xs) (same ++ xs) other
more-stay xs ended = all-stay xs
more-stay xs (stays y all same other w) = stays y (all ++ xs) (same ++ xs) other (more-stay xs w)
more-stay xs (differs y all same other w) = differs y (all ++ xs) (same ++ xs) other (more-stay xs w)

-- a list is woven of nothing and itself
all-differ : {X : Type 0} (xs : List X) → Weaves xs [] xs
all-differ [] = ended
all-differ (x ∷ xs) = differs x xs [] xs (all-differ xs)

-- some more items are no other's
pub more-differ : {X : Type 0} (xs : List X) {all same other : List X} → Weaves all same other → Weaves (all ++ xs) same (other ++ xs)
more-differ xs ended = all-differ xs
more-differ xs (stays y all same other w) = stays y (all ++ xs) same (other ++ xs) (more-differ xs w)
more-differ xs (differs y all same other w) = differs y (all ++ xs) same (other ++ xs) (more-differ xs w)

-- what is woven after other items goes on
pub append-woven : {X : Type 0} {all same other more stay differ : List X} → Weaves all same other → Weaves more stay differ → Weaves (all ++ more) (same ++ stay) (other ++ differ)
append-woven ended v = v
append-woven {more = more} {stay = stay} {differ = differ} (stays y all same other w) v = stays y (all ++ more) (same ++ stay) (other ++ differ) (append-woven w v)
append-woven {more = more} {stay = stay} {differ = differ} (differs y all same other w) v = differs y (all ++ more) (same ++ stay) (other ++ differ) (append-woven w v)
