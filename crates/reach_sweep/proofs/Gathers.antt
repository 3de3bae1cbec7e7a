-- The first owners, and what the volumes need so that they are added, told of the heads.
use Rattle.std.proofs.Common.{◌≡◌, ℕ, Bool, List, [], ◌∷◌, ◌++◌, map, refl, ap, sym, ◌∙◌, subst}
use Rattle.std.specs.Prelude.{not, ◌==◌, if◌then◌else◌}
use Rattle.std.proofs.lemmas.List.{append_assoc}
use Rattle.std.proofs.lemmas.List.Elements.{filter-append}
use Rattle.apfs_model.specs.Lists.{In}
use Rattle.apfs_model.proofs.Searches.{in-map}
use Rattle.nx_block.specs.Super.{desc_base_of, desc_blocks_of, data_base_of, data_blocks_of, locker_of, media_locker_of}
use Rattle.nx_ring.specs.Checkpoint.{Seen}
use Rattle.vol_view.specs.Volumes.{Loaded}
use Rattle.vol_view.specs.declared.head.VolHead.{VolHead}
use Rattle.reach_rules.specs.declared.naming.Namer.{Namer}
use Rattle.reach_rules.specs.declared.naming.Naming.{Naming}
use Rattle.reach_rules.specs.Next.{roots}
use Rattle.reach_rules.specs.declared.owner.Who.{Who}
use Rattle.reach_rules.specs.declared.owner.Who.TheVariants.{BlockZero, Descriptors, Checkpoints, KeyLocker, MediaLocker}
use Rattle.reach_rules.specs.declared.owner.Owner.{Owner}
use Rattle.reach_rules.specs.Owners.{owner, owner_of, first_owners}
use Rattle.reach_gather.specs.Container.{manager_naming, container_map_naming, reaper_naming, jumpstart_naming}
use Rattle.reach_gather.specs.Volumes.Told.{head_naming}
use Rattle.reach_gather.specs.Volumes.Laws.{HasParts}
use Rattle.reach_gather.specs.Held.{Held, some_owners}
use Rattle.reach_gather.specs.Adds.{Adds, AreLive}
use Rattle.reach_gather.specs.Views.{AreNamedParts, slots_namings}
use Rattle.reach_gather.proofs.Telling.{one-some}
use Rattle.reach_sweep.specs.Views.{head_of, AreVolumes, volumes_views}
use Rattle.reach_sweep.proofs.Added.{parts-added}
use Rattle.reach_sweep.proofs.Records.{heads-live}

-- ---- owners
-- an owner, where it has a block
abbrev pub told_if_some : Owner → List Owner
told_if_some o = if o.blocks == 0 then [] else o ∷ []

-- one more owner was told
pub some-more : (os : List Owner) (o : Owner) (old mid new : List Owner) → mid ≡ old ++ some_owners os → new ≡ mid ++ told_if_some o → new ≡ old ++ some_owners (os ++ o ∷ [])
some-more os o old mid new m n =
    let p : Owner → Bool = λ (x : Owner). not (x.blocks == 0) in
    n ∙ (ap (λ xs. xs ++ told_if_some o) m
    ∙ (append_assoc old (some_owners os) (told_if_some o)
    ∙ (ap (λ xs. old ++ (some_owners os ++ xs)) (sym (one-some (o.blocks == 0) o))
    ∙ ap (λ xs. old ++ xs) (sym (filter-append p os (o ∷ []))))))

-- an owner was told, by numbers that are these
pub told-as : (who : Who) (first blocks : ℕ) (f b : ℕ) (old new : List Owner) → f ≡ first → b ≡ blocks → new ≡ old ++ told_if_some (owner who f b) → new ≡ old ++ told_if_some (owner who first blocks)
told-as who first blocks f b old new p q e = e ∙ (ap (λ x. old ++ told_if_some (owner who x b)) p ∙ ap (λ x. old ++ told_if_some (owner who first x)) q)

-- block 0, the areas and the lockers were told, one after the other
pub first-told : (nx : List ℕ) (old a b c d e : List Owner)
    → a ≡ old ++ told_if_some (owner BlockZero 0 1)
    → b ≡ a ++ told_if_some (owner Descriptors (desc_base_of nx) (desc_blocks_of nx))
    → c ≡ b ++ told_if_some (owner Checkpoints (data_base_of nx) (data_blocks_of nx))
    → d ≡ c ++ told_if_some (owner_of KeyLocker (locker_of nx))
    → e ≡ d ++ told_if_some (owner_of MediaLocker (media_locker_of nx))
    → e ≡ old ++ some_owners (first_owners nx)
unfolding first_owners
first-told nx old a b c d e p q r s t =
    let block_zero : Owner = owner BlockZero 0 1 in
    let descriptors : Owner = owner Descriptors (desc_base_of nx) (desc_blocks_of nx) in
    let checkpoints : Owner = owner Checkpoints (data_base_of nx) (data_blocks_of nx) in
    let keys : Owner = owner_of KeyLocker (locker_of nx) in
    let media : Owner = owner_of MediaLocker (media_locker_of nx) in
    some-more (block_zero ∷ descriptors ∷ checkpoints ∷ keys ∷ []) media old d e
    (some-more (block_zero ∷ descriptors ∷ checkpoints ∷ []) keys old c d
    (some-more (block_zero ∷ descriptors ∷ []) checkpoints old b c
    (some-more (block_zero ∷ []) descriptors old a b p q) r) s) t

-- ---- volumes
slots-are : (volumes : List Loaded) → map head_naming (map head_of volumes) ≡ slots_namings volumes
slots-are [] = refl
slots-are (volume ∷ volumes) = ap (λ ns. head_naming volume.head ∷ ns) (slots-are volumes)

-- the namings of the volumes by their slots are those of the heads
heads-slots : (image : List ℕ) (seen : Seen) (heads : List VolHead) (volumes : List Loaded) (namer : Loaded → Namer) → AreVolumes image seen heads volumes namer → map head_naming heads ≡ slots_namings volumes
heads-slots image seen heads volumes namer v = ap (map head_naming) v.heads_are ∙ slots-are volumes

-- they are live
pub slots-live : (image : List ℕ) (seen : Seen) (heads : List VolHead) (volumes : List Loaded) (namer : Loaded → Namer) → HasParts image seen heads → AreVolumes image seen heads volumes namer → AreLive image seen (slots_namings volumes)
slots-live image seen heads volumes namer p v = λ n h. heads-live image seen heads n p (subst (λ (ns : List Naming). In n ns) (sym (heads-slots image seen heads volumes namer v)) h)

-- each volume is right, and the object of its superblock is known
pub named-parts : (image : List ℕ) (seen : Seen) (heads : List VolHead) (volumes : List Loaded) (namer : Loaded → Namer) → HasParts image seen heads → AreVolumes image seen heads volumes namer → AreNamedParts image seen namer volumes
named-parts image seen heads volumes namer p v = λ volume h.
    let there : In volume.head heads = subst (λ (hs : List VolHead). In volume.head hs) (sym v.heads_are) (in-map head_of volumes volume h) in
    let part = p.volumes volume.head volume there (v.loaded volume h) in
    (part, v.named volume part.mapping h part.mapped)

-- the five parts were added, so all roots were
pub roots-added : (image : List ℕ) (seen : Seen) (heads : List VolHead) (volumes : List Loaded) (namer : Loaded → Namer) (a b c d e f : Held)
    → HasParts image seen heads
    → AreVolumes image seen heads volumes namer
    → Adds image seen (manager_naming seen.nx ∷ []) [] a b
    → Adds image seen (container_map_naming seen.nx ∷ []) [] b c
    → Adds image seen (reaper_naming seen.nx) [] c d
    → Adds image seen (jumpstart_naming seen.nx) [] d e
    → Adds image seen (slots_namings volumes) (volumes_views seen namer volumes) e f
    → Adds image seen (roots seen.nx) (volumes_views seen namer volumes) a f
roots-added image seen heads volumes namer a b c d e f p v manager omap reaper jump slots =
    let rest : List Naming = volumes_views seen namer volumes in
    parts-added image seen heads rest a b c d e f p manager omap reaper jump (subst (λ (ns : List Naming). Adds image seen ns rest e f) (sym (heads-slots image seen heads volumes namer v)) slots)
