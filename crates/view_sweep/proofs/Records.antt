-- The record by which an id resolves, from the place that it gives.
use Rattle.std.proofs.Common.{◌≡◌, ℕ, List, Option, Some, None, refl, ap, sym, ◌∙◌}
use Rattle.std.specs.Prelude.{option_map}
use Rattle.omap_map.specs.Resolve.{resolved, resolve, place_of}
use Rattle.omap_map.specs.Loading.{IsResolved}
use Rattle.omap_map.specs.declared.records.OmapRecord.{OmapRecord}
use Rattle.omap_map.specs.declared.records.Place.{Place}
use Rattle.omap_map.proofs.Laws.{resolved-means}

-- a record by the id and the place
abbrev pub record_by : ℕ → Place → OmapRecord
record_by oid p = record { oid = oid; xid = p.xid; flags = p.flags; size = p.size; paddr = p.block }

from-place : (records : List OmapRecord) (oid x : ℕ) (o : Option OmapRecord) (q : Option Place) → resolved records oid x ≡ o → option_map place_of o ≡ q → option_map (record_by oid) q ≡ o
from-place records oid x None q e f = ap (option_map (record_by oid)) (sym f)
from-place records oid x (Some r) q e f =
    let m : IsResolved records oid x r = resolved-means records oid x r e in
    ap (option_map (record_by oid)) (sym f) ∙ ap (λ (k : ℕ). Some (record { oid = k; xid = r.xid; flags = r.flags; size = r.size; paddr = r.paddr })) (sym m.same)

pub record_found : (records : List OmapRecord) (oid x : ℕ) (q : Option Place) → q ≡ resolve records oid x → option_map (record_by oid) q ≡ resolved records oid x
unfolding resolve
record_found records oid x q e = from-place records oid x (resolved records oid x) q refl (sym e)
