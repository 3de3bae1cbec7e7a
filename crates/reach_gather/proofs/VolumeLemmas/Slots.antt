-- The namings of slots are those of the heads.
use Rattle.std.proofs.Common.{◌≡◌, ℕ, ◌+◌, ◌*◌, ◌<◌, Bool, true, false, ◌==◌, List, [], ◌∷◌, ◌++◌, map, None, inl, inr, refl, ap, sym, ◌∙◌, if◌then◌else◌}
use Rattle.std.specs.Prelude.{filter_map, option_map}
use Rattle.std.specs.List.{range_with_len, cons_option, flat_map}
use Rattle.apfs_model.specs.Lists.{In}
use Rattle.apfs_model.proofs.BoolTests.{from-range}
use Rattle.nx_block.specs.Super.{fs_oid_of, slots}
use Rattle.nx_ring.specs.Checkpoint.{Seen, site_of}
use Rattle.vol_view.specs.Heads.{super_in, volume_block, head_of, head_at, heads_of}
use Rattle.vol_view.specs.Stops.{IsVolume, AreRight, AreHeads}
use Rattle.vol_view.specs.declared.head.VolHead.{VolHead}
use Rattle.reach_rules.specs.declared.naming.LookUp.TheVariants.{InContainer}
use Rattle.reach_rules.specs.declared.naming.Object.TheVariants.{Newest}
use Rattle.reach_rules.specs.declared.naming.Namer.TheVariants.{Whole}
use Rattle.reach_rules.specs.declared.naming.Expected.TheVariants.{VolumeIn}
use Rattle.reach_rules.specs.declared.naming.Naming.{Naming}
use Rattle.reach_rules.specs.Naming.{naming}
use Rattle.reach_rules.specs.Next.{slot_namings}
use Rattle.reach_gather.specs.Volumes.Told.{head_naming}
use Rattle.reach_gather.proofs.VolumeLemmas.Heads.{volume-block}

-- of one slot
one-slot : (image : List ℕ) (seen : Seen) (slot : ℕ) (ns : List Naming) (hs : List VolHead) → AreRight image seen → slot < slots → ns ≡ map head_naming hs → slot_namings seen.nx slot ++ ns ≡ map head_naming (cons_option (head_at image seen slot) hs)
unfolding head_at
one-slot image seen slot ns hs right low more =
    let oid : ℕ = fs_oid_of seen.nx slot in
    let made : ℕ → VolHead = λ block. head_of slot oid block (super_in image (site_of seen) block) in
    let n : Naming = naming (Whole Newest) (184 + 8 * slot) (VolumeIn slot) InContainer oid in
    let go : (b : Bool) → (oid == 0) ≡ b → (if b then [] else n ∷ []) ++ ns ≡ map head_naming (cons_option (if b then None else option_map made (volume_block image seen oid)) hs) =
    λ b. elim b as (λ b. (oid == 0) ≡ b → (if b then [] else n ∷ []) ++ ns ≡ map head_naming (cons_option (if b then None else option_map made (volume_block image seen oid)) hs)) [
      | true ↦ λ z. more
      | false ↦ λ z.
          let v : IsVolume image seen oid = right.volumes slot low z in
          ap (λ xs. n ∷ xs) more ∙ ap (λ o. map head_naming (cons_option (option_map made o) hs)) (sym (volume-block image seen oid v))
    ] in
    go (oid == 0) refl

-- of some slots
some-slots : (image : List ℕ) (seen : Seen) (xs : List ℕ) → AreRight image seen → ((slot : ℕ) → In slot xs → slot < slots) → flat_map (slot_namings seen.nx) xs ≡ map head_naming (filter_map (head_at image seen) xs)
some-slots image seen [] right low = refl
some-slots image seen (x ∷ xs) right low =
    one-slot image seen x (flat_map (slot_namings seen.nx) xs) (filter_map (head_at image seen) xs) right (low x (inl refl)) (some-slots image seen xs right (λ slot h. low slot (inr h)))

all-slots : (image : List ℕ) (seen : Seen) → AreRight image seen → flat_map (slot_namings seen.nx) (range_with_len 0 slots) ≡ map head_naming (heads_of image seen)
unfolding heads_of
all-slots image seen right = some-slots image seen (range_with_len 0 slots) right (λ slot h. from-range 0 slots slot h)

pub slots-are : (image : List ℕ) (seen : Seen) (heads : List VolHead) → AreHeads image seen heads → flat_map (slot_namings seen.nx) (range_with_len 0 slots) ≡ map head_naming heads
slots-are image seen heads are = all-slots image seen are.right ∙ ap (map head_naming) (sym are.same)
