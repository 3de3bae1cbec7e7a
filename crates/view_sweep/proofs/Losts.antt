-- What is told of some is told of more.
use Rattle.std.proofs.Common.{ℕ, Option}
use Rattle.obj_base.specs.Stops.{Tells}
use Rattle.obj_base.specs.declared.stop.Stop.{Stop}
use Rattle.obj_base.specs.declared.stop.Stop.TheVariants.{Found, Unsupported, ReadFault, NoMemory}
use Rattle.omap_map.specs.declared.records.OmapRecord.{OmapRecord}
use Rattle.reach_rules.specs.declared.fault.ReachFault.{ReachFault}
use Rattle.reach_rules.specs.declared.fault.ReachFault.TheVariants.{Unnamed}
use Rattle.view_sweep.specs.declared.wanted.Want.TheVariants.{Root}
use Rattle.view_sweep.specs.declared.wanted.Wanted.{Wanted}
use Rattle.std.specs.Prelude.{false}
use Rattle.view_sweep.specs.Here.{IsLostHere, IsMappedBy}

-- an object that isn't wanted, where a list has no item
abbrev pub nobody : Wanted
nobody = record { view = record { slot = 0; place = 0; xid = 0; map = 0; hashed = false; volume = 0 }; oid = 0; want = Root }

pub lost-more : (look : Wanted → Option OmapRecord) (n : ℕ) (P Q : Wanted → Type 0) → ((w : Wanted) → P w → Q w) → (stop : Stop ReachFault) → Tells (IsLostHere look P) (IsMappedBy look n P) stop → Tells (IsLostHere look Q) (IsMappedBy look n Q) stop
lost-more look n P Q f (Found (Unnamed within oid xid)) h = record { one = h.one; wanted = f h.one h.wanted; lost = h.lost; shown = h.shown }
lost-more look n P Q f (Found fault) h = absurd h
lost-more look n P Q f (Unsupported feature block) h = record { one = h.one; by = h.by; wanted = f h.one h.wanted; found = h.found; at = h.at; has = h.has }
lost-more look n P Q f ReadFault h = tt
lost-more look n P Q f NoMemory h = tt
