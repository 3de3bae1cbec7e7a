-- The parts of a container, added one after the other, and what is held of them then.
use Rattle.std.proofs.Common.{ℕ, List, [], ◌∷◌, ◌++◌, map, inl, inr, subst}
use Rattle.std.specs.List.{flat_map, range_with_len}
use Rattle.apfs_model.specs.Lists.{In}
use Rattle.nx_block.specs.Super.{slots}
use Rattle.nx_ring.specs.Checkpoint.{Seen}
use Rattle.reach_rules.specs.declared.naming.Naming.{Naming}
use Rattle.reach_rules.specs.Next.{roots, slot_namings}
use Rattle.reach_gather.specs.Joined.{AreAllOf, HaveSame}
use Rattle.reach_gather.specs.Container.{manager_naming, container_map_naming, reaper_naming, jumpstart_naming}
use Rattle.reach_gather.proofs.Joined.{part-all-of, part-same}
use Rattle.reach_gather.specs.Volumes.Told.{head_naming}
use Rattle.reach_gather.specs.Held.{Held, GrewBy}
use Rattle.reach_gather.specs.Adds.{Adds}
use Rattle.reach_gather.proofs.Growing.{adds-join, adds-as}
use Rattle.reach_sweep.specs.Composed.{IsStart, ArePartsAdded}

pub parts-added : (image : List ℕ) (seen : Seen) → ArePartsAdded image seen
unfolding roots
parts-added image seen heads rest a b c d e f p m o r j v =
    let reaper : List Naming = reaper_naming seen.nx in
    let jump : List Naming = jumpstart_naming seen.nx in
    let of_slots : List Naming = flat_map (slot_namings seen.nx) (range_with_len 0 slots) in
    let volumes : Adds image seen of_slots rest e f = adds-as image seen (map head_naming heads) of_slots rest e f p.slots_are v in
    let with_jump : Adds image seen (jump ++ of_slots) rest d f = adds-join image seen jump of_slots [] rest d e f j volumes in
    let with_reaper : Adds image seen (reaper ++ (jump ++ of_slots)) rest c f = adds-join image seen reaper (jump ++ of_slots) [] rest c d f r with_jump in
    let with_map : Adds image seen (container_map_naming seen.nx ∷ reaper ++ (jump ++ of_slots)) rest b f = adds-join image seen (container_map_naming seen.nx ∷ []) (reaper ++ (jump ++ of_slots)) [] rest b c f o with_reaper in
    adds-join image seen (manager_naming seen.nx ∷ []) (container_map_naming seen.nx ∷ reaper ++ (jump ++ of_slots)) [] rest a b f m with_map

-- what is held are the namings that were added
pub held-same : (image : List ℕ) (seen : Seen) (these : List Naming) (start parts : Held) → IsStart seen start → GrewBy image seen these start parts → HaveSame these parts.namings
held-same image seen these start parts s g = record {
  there = λ n h. g.namings.grown n h;
  back = λ n h. elim (g.namings.from n h) as (λ _. In n these) [
    | inl k ↦ absurd (let z : In n [] = subst (λ ns. In n ns) s.namings k in z)
    | inr k ↦ k
  ];
}

pub same-back : (xs ys : List Naming) → HaveSame xs ys → HaveSame ys xs
same-back xs ys s = record { there = s.back; back = s.there }

-- they are the part, with what all views name as its rest
pub held-part : (image : List ℕ) (seen : Seen) (rest views : List Naming) (start parts : Held) → IsStart seen start → Adds image seen (roots seen.nx) rest start parts → HaveSame views rest → AreAllOf image seen (roots seen.nx) parts.namings views
held-part image seen rest views start parts s g same = part-same image seen (roots seen.nx) g.these parts.namings rest views (held-same image seen g.these start parts s g.grew) (same-back views rest same) (part-all-of image seen (roots seen.nx) g.these rest g.part)
