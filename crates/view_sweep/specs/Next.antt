-- How far the record of an id goes, of those of an object map.
use Rattle.std.specs.Prelude.{◌≡◌, ◌⊎◌, ℕ, ◌<◌, ◌≤◌, List, length}
use Rattle.apfs_model.specs.Lists.{In}
use Rattle.omap_map.specs.declared.records.OmapRecord.{OmapRecord}
use Rattle.view_sweep.specs.declared.runs.Run.{Run}
use Rattle.view_sweep.specs.declared.wanted.SweptView.{SweptView}
use Rattle.view_sweep.specs.Runs.{AreRising}
use Rattle.view_sweep.specs.Sets.{view_of}

-- no record of an id is of a transaction after one
abbrev pub AreNoneAfter : List OmapRecord → ℕ → ℕ → Type 0
AreNoneAfter records oid x = (r : OmapRecord) → In r records → r.oid ≡ oid → r.xid ≤ x

-- no record of an id is of a transaction after one and before the next
pub record IsNext (records : List OmapRecord) (oid x next : ℕ) : Type 0 where
  pub after : x < next
  pub gap : (r : OmapRecord) → In r records → r.oid ≡ oid → (r.xid ≤ x) ⊎ (next ≤ r.xid)

-- two views have one volume, and the same names
pub record AreAsOne (a b : SweptView) : Type 0 where
  pub volume : a.volume ≡ b.volume
  pub map : a.map ≡ b.map
  pub hashed : a.hashed ≡ b.hashed

-- the transaction of a view
abbrev pub xid_of : SweptView → ℕ
xid_of view = view.xid

-- the views from a place up to another are of one volume, and their transactions don't fall
pub record IsStretch (views : List SweptView) (low end : ℕ) : Type 0 where
  pub one : (p q : ℕ) → low ≤ p → p ≤ q → q < end → AreAsOne (view_of views p) (view_of views q)
  pub rises : (p q : ℕ) → low ≤ p → p ≤ q → q < end → (view_of views p).xid ≤ (view_of views q).xid

-- each of some runs is such a stretch
pub record AreStretches (views : List SweptView) (runs : List Run) : Type 0 where
  pub inside : (r : Run) → In r runs → r.end ≤ length views
  pub stretch : (r : Run) → In r runs → IsStretch views r.from r.end

-- the stretches of the views before a place, but for the last one, which begins at another
pub record AreSoFar (views : List SweptView) (runs : List Run) (from place : ℕ) : Type 0 where
  pub rising : AreRising runs
  pub before : (r : Run) → In r runs → r.end ≤ from
  pub all : AreStretches views runs
  pub low : from < place
  pub stretch : IsStretch views from place
