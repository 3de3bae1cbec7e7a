-- The map of (7, 3), (7, 5) marked deleted, and (9, 2).
use Rattle.std.specs.Prelude.{◌≡◌, ℕ, List, [], ◌∷◌, None, Some, refl}
use Rattle.omap_map.specs.Resolve.{latest, resolved, resolve, named_by}
use Rattle.omap_map.specs.declared.records.OmapRecord.{OmapRecord}
use Rattle.omap_map.specs.declared.records.Place.{Place}

abbrev mapped : ℕ → ℕ → ℕ → ℕ → OmapRecord
mapped oid xid flags paddr = record { oid = oid; xid = xid; flags = flags; size = 4096; paddr = paddr }

abbrev records : List OmapRecord
records = mapped 7 3 0 51 ∷ mapped 7 5 1 52 ∷ mapped 9 2 0 53 ∷ []

abbrev place : ℕ → ℕ → Place
place block xid = record { block = block; xid = xid; flags = 0; size = 4096 }

pub before_deleted : resolve records 7 4 ≡ Some (place 51 3)
unfolding resolve resolved latest
before_deleted = refl

pub deleted : resolve records 7 5 ≡ None
unfolding resolve resolved latest
deleted = refl

pub too_early : resolve records 7 2 ≡ None
unfolding resolve resolved latest
too_early = refl

pub other_id : resolve records 8 9 ≡ None
unfolding resolve resolved latest
other_id = refl

pub later : resolve records 9 9 ≡ Some (place 53 2)
unfolding resolve resolved latest
later = refl

pub outside : named_by records 9 53 9 ≡ None
unfolding named_by resolve resolved latest
outside = refl

pub inside : named_by records 9 54 9 ≡ Some 53
unfolding named_by resolve resolved latest
inside = refl
