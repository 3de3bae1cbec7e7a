-- No two of the blocks that tell of chunks have one naming, and how many they are.
use Rattle.std.proofs.Common.{◌≡◌, ℕ, ◌+◌, Bool, true, false, ◌++◌, length, refl, ap, sym, ◌∙◌, arith, length-append, if◌then◌else◌}
use Rattle.std.specs.Prelude.{◌*◌, ◌/◌, ◌%◌, ◌==◌, slice_index}
use Rattle.std.specs.List.{range_with_len}
use Rattle.std.proofs.lemmas.List.FromFn.{length-map-range_with_len}
use Rattle.apfs_model.specs.Apart.{Apart}
use Rattle.apfs_model.specs.Lists.{In}
use Rattle.apfs_model.proofs.Finite.{apart-range}
use Rattle.apfs_model.proofs.Searches.{from-map}
use Rattle.space_map.specs.Fields.{cabs_of, cibs_of, addresses_of}
use Rattle.space_map.specs.Stops.{Known}
use Rattle.reach_rules.specs.declared.naming.LookUp.TheVariants.{ByBlock}
use Rattle.reach_rules.specs.declared.naming.Object.TheVariants.{InBlock, OfId}
use Rattle.reach_rules.specs.declared.naming.Namer.TheVariants.{Whole}
use Rattle.reach_rules.specs.declared.naming.Expected.{Expected}
use Rattle.reach_rules.specs.declared.naming.Expected.TheVariants.{AddressBlock, InfoBlock}
use Rattle.reach_rules.specs.declared.naming.Naming.{Naming}
use Rattle.reach_rules.specs.Naming.{naming}
use Rattle.reach_gather.specs.Infos.{room_of, known_cab, known_cib, known_cabs, known_cibs}
use Rattle.reach_gather.proofs.Finishes.{apart_map, apart-append}

-- each is expected by its index
either-expects : (b : Bool) (m n : Naming) (e : Expected) → m.expected ≡ e → n.expected ≡ e → (if b then m else n).expected ≡ e
either-expects true m n e p q = p
either-expects false m n e p q = q

cib-expects : (oid : ℕ) (space : Known) (i : ℕ) → (known_cib oid space i).expected ≡ InfoBlock i
cib-expects oid space i =
    either-expects (cabs_of space.manager == 0) (naming (Whole (OfId oid)) (addresses_of space.manager + 8 * i) (InfoBlock i) ByBlock (slice_index space.cibs i))
    (naming (Whole (InBlock (slice_index space.cabs (i / room_of space.manager)))) (40 + 8 * (i % room_of space.manager)) (InfoBlock i) ByBlock (slice_index space.cibs i)) (InfoBlock i) refl refl

cab-one : (oid : ℕ) (space : Known) (i j : ℕ) → known_cab oid space i ≡ known_cab oid space j → i ≡ j
cab-one oid space i j e = let z : AddressBlock i ≡ AddressBlock j = ap (λ (n : Naming). n.expected) e in let k : i ≡ j = cc in k

cib-one : (oid : ℕ) (space : Known) (i j : ℕ) → known_cib oid space i ≡ known_cib oid space j → i ≡ j
cib-one oid space i j e =
    let z : InfoBlock i ≡ InfoBlock j = sym (cib-expects oid space i) ∙ (ap (λ (n : Naming). n.expected) e ∙ cib-expects oid space j) in
    let k : i ≡ j = cc in
    k

never-both : (oid : ℕ) (space : Known) (n : Naming) → In n (known_cabs oid space) → In n (known_cibs oid space) → ⊥
never-both oid space n h k =
    let s = from-map (known_cab oid space) (range_with_len 0 (cabs_of space.manager)) n h in
    let t = from-map (known_cib oid space) (range_with_len 0 (cibs_of space.manager)) n k in
    let i : ℕ = s.0 in
    let j : ℕ = t.0 in
    let z : AddressBlock i ≡ InfoBlock j = sym (ap (λ (m : Naming). m.expected) s.1.1) ∙ (ap (λ (m : Naming). m.expected) t.1.1 ∙ cib-expects oid space j) in
    let q : ⊥ = cc in
    q

pub infos-apart : (oid : ℕ) (space : Known) → Apart (known_cabs oid space ++ known_cibs oid space)
infos-apart oid space =
    apart-append (known_cabs oid space) (known_cibs oid space)
    (apart_map (known_cab oid space) (cab-one oid space) (range_with_len 0 (cabs_of space.manager)) (apart-range 0 (cabs_of space.manager)))
    (apart_map (known_cib oid space) (cib-one oid space) (range_with_len 0 (cibs_of space.manager)) (apart-range 0 (cibs_of space.manager)))
    (never-both oid space)

-- how many they are
pub infos-long : (oid : ℕ) (space : Known) → length (known_cabs oid space ++ known_cibs oid space) ≡ cabs_of space.manager + cibs_of space.manager
infos-long oid space =
    let both : length (known_cabs oid space ++ known_cibs oid space) ≡ length (known_cabs oid space) + length (known_cibs oid space) = length-append (known_cabs oid space) (known_cibs oid space) in
    let cabs : length (known_cabs oid space) ≡ cabs_of space.manager = length-map-range_with_len (known_cab oid space) 0 (cabs_of space.manager) in
    let cibs : length (known_cibs oid space) ≡ cibs_of space.manager = length-map-range_with_len (known_cib oid space) 0 (cibs_of space.manager) in
    omega (arith, both, cabs, cibs)
