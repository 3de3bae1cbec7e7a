-- The owners that were told, and the objects that were counted.
use Rattle.std.proofs.Common.{◌≡◌, ℕ, false, List, [], ◌++◌, map, inl, inr, refl, sym, subst}
use Rattle.std.specs.Prelude.{not, ◌==◌}
use Rattle.std.specs.List.{flat_map}
use Rattle.apfs_model.specs.Lists.{In}
use Rattle.apfs_model.proofs.BoolTests.{not-true, false-not}
use Rattle.apfs_model.proofs.Searches.{in-left, in-right, in-append, from-map, in-flat_map, from-flat_map, in-filter, from-filter, filter-test}
use Rattle.nx_ring.specs.Checkpoint.{Seen}
use Rattle.omap_map.specs.declared.records.OmapRecord.{OmapRecord}
use Rattle.reach_rules.specs.declared.naming.Naming.{Naming}
use Rattle.reach_rules.specs.declared.owner.Owner.{Owner}
use Rattle.reach_rules.specs.Owners.{first_owners, owners_through}
use Rattle.reach_rules.specs.PoolOwners.{pool_owners_through}
use Rattle.reach_gather.specs.Joined.{HaveSame}
use Rattle.reach_gather.specs.ViewParts.{record_owner}
use Rattle.reach_gather.specs.Held.{IsOwnerThrough, some_owners}
use Rattle.reach_gather.specs.Finished.{AreRangesOnce}
use Rattle.reach_gather.proofs.Counts.{objects-once}
use Rattle.reach_sweep.specs.Composed.{AreOwnersAs, AreOwnersBy, ArePoolOwnersBy, AreObjectsBy}
use Rattle.reach_sweep.proofs.Added.{held-same}

-- an owner is one of some, and has a block
record IsSome (those : List Owner) (a : Owner) : Type 0 where
  there : In a those
  some : (a.blocks == 0) ≡ false

-- where the owners that are held are those with a block, the ranges are theirs
owners-as : (held those : List Owner) (ranges : List (ℕ × ℕ)) → ((a : Owner) → In a held → IsSome those a) → ((a : Owner) → IsSome those a → In a held) → AreRangesOnce held ranges → AreOwnersAs ranges those
owners-as held those ranges to back r = record {
  owners = r.each;
  are = record {
    apart = r.apart;
    there = λ a h. (to a (r.lists.0 a h)).there;
    some = λ a h. (to a (r.lists.0 a h)).some;
    all = λ a h s. r.lists.1 a (back a (record { there = h; some = s }));
  };
  same = r.same;
}

-- ---- the owners through namings
through-those : (t : Naming → List Owner) (these held : List Naming) → HaveSame these held → (a : Owner) → IsOwnerThrough t these a → IsSome (flat_map t held) a
through-those t these held same a w = record { there = in-flat_map t w.naming a held (same.there w.naming w.one) w.owner; some = w.some }

those-through : (t : Naming → List Owner) (these held : List Naming) → HaveSame these held → (a : Owner) → IsSome (flat_map t held) a → IsOwnerThrough t these a
those-through t these held same a s =
    let k = from-flat_map t a held s.there in
    record { naming = k.0; one = same.back k.0 k.1.0; owner = k.1.1; some = s.some }

-- ---- first owners, and records
from-some : (those : List Owner) (a : Owner) → In a (some_owners those) → IsSome those a
from-some those a h = record {
  there = from-filter (λ (o : Owner). not (o.blocks == 0)) a those h;
  some = not-true (a.blocks == 0) (filter-test (λ (o : Owner). not (o.blocks == 0)) a those h);
}

in-some : (those : List Owner) (a : Owner) → IsSome those a → In a (some_owners those)
in-some those a s = in-filter (λ (o : Owner). not (o.blocks == 0)) a those s.there (false-not (a.blocks == 0) s.some)

record-some : (records : List (ℕ × OmapRecord)) (a : Owner) → In a (map record_owner records) → (a.blocks == 0) ≡ false
record-some records a h = let t = from-map record_owner records a h in subst (λ (o : Owner). (o.blocks == 0) ≡ false) (sym t.1.1) refl

pub owners-by : (image : List ℕ) (seen : Seen) → AreOwnersBy image seen
owners-by image seen rest records start parts done ranges s g told r =
    let t = owners_through image seen in
    let same = held-same image seen g.these start parts s g.grew in
    let first : List Owner = first_owners seen.nx in
    let through : List Owner = flat_map t parts.namings in
    let of_records : List Owner = map record_owner records in
    let those : List Owner = first ++ (through ++ of_records) in
    let of_parts : (a : Owner) → In a parts.owners → IsSome those a = λ a h. elim (g.grew.owners.from a h) as (λ _. IsSome those a) [
      | inl k ↦
          let o = from-some first a (subst (λ (os : List Owner). In a os) s.owners k) in
          record { there = in-left a first (through ++ of_records) o.there; some = o.some }
      | inr w ↦
          let o = through-those t g.these parts.namings same a w in
          record { there = in-right a first (through ++ of_records) (in-left a through of_records o.there); some = o.some }
    ] in
    let to : (a : Owner) → In a done.owners → IsSome those a = λ a h. elim (in-append a parts.owners of_records (subst (λ (os : List Owner). In a os) told.owners h)) as (λ _. IsSome those a) [
      | inl k ↦ of_parts a k
      | inr k ↦ record { there = in-right a first (through ++ of_records) (in-right a through of_records k); some = record-some records a k }
    ] in
    let in_done : (a : Owner) → In a (parts.owners ++ of_records) → In a done.owners = λ a h. subst (λ (os : List Owner). In a os) (sym told.owners) h in
    let back : (a : Owner) → IsSome those a → In a done.owners = λ a o. elim (in-append a first (through ++ of_records) o.there) as (λ _. In a done.owners) [
      | inl k ↦ in_done a (in-left a parts.owners of_records (g.grew.owners.kept a (subst (λ (os : List Owner). In a os) (sym s.owners) (in-some first a (record { there = k; some = o.some })))))
      | inr k ↦ elim (in-append a through of_records k) as (λ _. In a done.owners) [
        | inl m ↦ in_done a (in-left a parts.owners of_records (g.grew.owners.grown a (those-through t g.these parts.namings same a (record { there = m; some = o.some }))))
        | inr m ↦ in_done a (in-right a parts.owners of_records m)
      ]
    ] in
    owners-as done.owners those ranges to back r

pub pool-owners-by : (image : List ℕ) (seen : Seen) → ArePoolOwnersBy image seen
pool-owners-by image seen rest records start parts done ranges s g told r =
    let t = pool_owners_through image seen in
    let same = held-same image seen g.these start parts s g.grew in
    let those : List Owner = flat_map t parts.namings in
    let to : (a : Owner) → In a done.pool_owners → IsSome those a = λ a h. elim (g.grew.pool_owners.from a (subst (λ (os : List Owner). In a os) told.pool_owners h)) as (λ _. IsSome those a) [
      | inl k ↦ absurd (let z : In a [] = subst (λ (os : List Owner). In a os) s.pool_owners k in z)
      | inr w ↦ through-those t g.these parts.namings same a w
    ] in
    let back : (a : Owner) → IsSome those a → In a done.pool_owners = λ a o.
    subst (λ (os : List Owner). In a os) (sym told.pool_owners) (g.grew.pool_owners.grown a (those-through t g.these parts.namings same a o)) in
    owners-as done.pool_owners those ranges to back r

-- ---- objects
pub objects-by : (image : List ℕ) (seen : Seen) → AreObjectsBy image seen
objects-by image seen all views records those number j recs n = record {
  objects = n.all;
  are = objects-once image seen all all records those (record { there = λ m h. h; back = λ m h. h }) j.outside (λ m h. let p = j.part.plain m h in (p.object, p.found)) recs number n;
  same = n.same;
}
