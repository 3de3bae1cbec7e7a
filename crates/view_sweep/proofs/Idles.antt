-- Which records are used, where they are searched for in sorted ones.
use Rattle.std.proofs.Common.{◌≡◌, ℕ, ◌<◌, ◌≤◌, true, false, List, [], length, get_or, Result, Ok, Err, is_ok, inl, inr, ap, sym, ◌∙◌, subst, arith}
use Rattle.std.specs.declared.cmp.Ordering.TheVariants.{Less, Equal, Greater}
use Rattle.std.specs.List.Sorted.{IsSortedBy, IsPermutation, IsBinarySearchResult, IsPartitionPoint}
use Rattle.std.specs.Result.{MatchResult}
use Rattle.std.specs.List.{HoldsAt}
use Rattle.std.proofs.lemmas.Bool.{cases_lt}
use Rattle.std.proofs.lemmas.Cmp.{tied_itself}
use Rattle.std.proofs.lemmas.List.Sorted.{IsPermutation-sym, searchable_from_sorted}
use Rattle.apfs_model.specs.Lists.{In}
use Rattle.nx_ring.specs.Checkpoint.{Seen}
use Rattle.omap_map.specs.declared.records.OmapRecord.{OmapRecord}
use Rattle.obj_base.specs.declared.stop.Within.{Within}
use Rattle.obj_base.specs.declared.stop.Within.TheVariants.{Physical}
use Rattle.obj_base.specs.declared.stop.Stop.{Stop}
use Rattle.obj_base.specs.declared.stop.Stop.TheVariants.{Found, Unsupported, ReadFault, NoMemory}
use Rattle.obj_base.specs.Stops.{Tells, IsFree, NoFeature}
use Rattle.reach_rules.specs.declared.fault.ReachFault.{ReachFault}
use Rattle.reach_rules.specs.declared.fault.ReachFault.TheVariants.{UnusedMapping}
use Rattle.reach_rules.specs.Maps.{IsMapOf, IsUnused}
use Rattle.view_sweep.specs.declared.used.Used.{Used}
use Rattle.view_sweep.specs.declared.idle.MapRecords.{MapRecords}
use Rattle.view_sweep.specs.Order.{used_rank, is_used_below}
use Rattle.view_sweep.specs.Unused.{used_in, AreAllUsed, HasIdle, IsUnusedHere, AreMapsOf, AreUsedOnes}
use Rattle.view_sweep.proofs.Ranked.{in-place, place-in}
use Rattle.view_sweep.proofs.Orders.{used_total, used-one}
use Rattle.view_sweep.proofs.Steps.{in-permuted}

-- a map that isn't there, where a list has no item
abbrev pub nomap : MapRecords
nomap = record { within = Physical; map = 0; records = record { ref_ptr = (0, 0); now = [] } }

-- a search finds the record itself
pub found-among : (us : List Used) (one : Used) (i : ℕ) → i < length us → HoldsAt (λ (u : Used). used_rank u one ≡ Equal) us i → In one us
found-among us one i low h = subst (λ (u : Used). In u us) (used-one (get_or us i one) one (h one)) (place-in us i one low)

-- and where it finds none the record isn't there
ranks-apart : (u one : Used) → u ≡ one → used_rank u one ≡ Less → ⊥
ranks-apart u one e p = let t : used_rank one one ≡ Equal = tied_itself used_total one in let q : used_rank one one ≡ Less = ap (λ (x : Used). used_rank x one) (sym e) ∙ p in cc

ranks-above : (u one : Used) → u ≡ one → used_rank u one ≡ Greater → ⊥
ranks-above u one e p = let t : used_rank one one ≡ Equal = tied_itself used_total one in let q : used_rank one one ≡ Greater = ap (λ (x : Used). used_rank x one) (sym e) ∙ p in cc

pub none-among : (us : List Used) (one : Used) (i : ℕ) → IsPartitionPoint (λ (u : Used). used_rank u one ≡ Less) (λ (u : Used). used_rank u one ≡ Greater) us i → In one us → ⊥
none-among us one i parted h =
    let t = in-place us one one h in
    elim (cases_lt t.0 i) as (λ _. ⊥) [
      | inl low ↦ ranks-apart (get_or us t.0 one) one (sym t.1.1) (parted.0 t.0 one (omega arith) low)
      | inr high ↦ let end : t.0 < length us = t.1.0 in ranks-above (get_or us t.0 one) one (sym t.1.1) (parted.1 t.0 one (omega arith) end)
    ]

pub search-found : (us : List Used) (one : Used) (r : Result ℕ ℕ) → is_ok r ≡ true → MatchResult r (λ i. i < length us) (λ i. i ≤ length us) → IsBinarySearchResult (λ (u : Used). used_rank u one) us r → In one us
search-found us one (Ok i) e low found = found-among us one i low found
search-found us one (Err i) e low found = absurd (let z : false ≡ true = e in let q : ⊥ = cc in q)

pub search-none : (us : List Used) (one : Used) (r : Result ℕ ℕ) → IsSortedBy is_used_below us → is_ok r ≡ false → IsBinarySearchResult (λ (u : Used). used_rank u one) us r → In one us → ⊥
search-none us one (Ok i) sorted e found h = let z : true ≡ false = e in cc
search-none us one (Err i) sorted e found h = none-among us one i (found (searchable_from_sorted used_total (λ (u : Used). u) us one sorted)) h

-- ---- among the same in another order
pub used-permuted : (maps : List MapRecords) (us vs : List Used) → IsPermutation us vs → AreAllUsed maps us → AreAllUsed maps vs
used-permuted maps us vs p all = λ m i r j k. in-permuted us vs p (used_in m.map r) (all m i r j k)

-- ---- what it is of the maps of a container

pub maps-unused : (image : List ℕ) (seen : Seen) (maps : List MapRecords) (used : List Used) (within : Within) (oid xid : ℕ) → AreUsedOnes image seen used → AreMapsOf image seen maps → HasIdle maps used within oid xid → IsUnused image seen within oid xid
maps-unused image seen maps used within oid xid ones of h =
    let m : MapRecords = h.of in
    let facts = of m h.listed in
    record {
      map = m.map;
      of = subst (λ (w : Within). IsMapOf image seen w m.map) (sym h.within_is) facts.0;
      sound = facts.1;
      mapping = h.mapping;
      one = subst (λ (rs : List OmapRecord). In h.mapping rs) facts.2 h.is.one;
      kept = h.is.kept;
      idle = λ n f names e. h.is.idle (ones.all m.map h.mapping (record { naming = n; object = f; names = names; record_is = e }));
      oid_is = h.oid_is;
      xid_is = h.xid_is;
    }

-- ---- what stops the search
idle-permuted : (maps : List MapRecords) (us vs : List Used) → IsPermutation us vs → (within : Within) (oid xid : ℕ) → HasIdle maps us within oid xid → HasIdle maps vs within oid xid
idle-permuted maps us vs p within oid xid h = record {
  of = h.of;
  listed = h.listed;
  mapping = h.mapping;
  is = record { one = h.is.one; kept = h.is.kept; idle = λ i. h.is.idle (in-permuted vs us (IsPermutation-sym us vs p) (used_in h.of.map h.mapping) i) };
  within_is = h.within_is;
  oid_is = h.oid_is;
  xid_is = h.xid_is;
}

pub tells-permuted : (maps : List MapRecords) (us vs : List Used) → IsPermutation us vs → (stop : Stop ReachFault) → Tells (IsUnusedHere maps us) NoFeature stop → Tells (IsUnusedHere maps vs) NoFeature stop
tells-permuted maps us vs p (Found (UnusedMapping within oid xid)) h = idle-permuted maps us vs p within oid xid h
tells-permuted maps us vs p (Found fault) h = absurd h
tells-permuted maps us vs p (Unsupported feature block) h = absurd h
tells-permuted maps us vs p ReadFault h = tt
tells-permuted maps us vs p NoMemory h = tt

pub used-free : (maps : List MapRecords) (us : List Used) → AreAllUsed maps us → (stop : Stop ReachFault) → Tells (IsUnusedHere maps us) NoFeature stop → IsFree stop
used-free maps us all (Found (UnusedMapping within oid xid)) h = h.is.idle (all h.of h.listed h.mapping h.is.one h.is.kept)
used-free maps us all (Found fault) h = absurd h
used-free maps us all (Unsupported feature block) h = absurd h
used-free maps us all ReadFault h = tt
used-free maps us all NoMemory h = tt
