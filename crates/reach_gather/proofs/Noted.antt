-- No more is read than namings are noted.
use Rattle.std.proofs.Common.{◌≡◌, ℕ, suc, ◌+◌, ◌≤◌, List, [], ◌∷◌, ◌++◌, length, map, inl, inr, refl, ap, Ok, Err, Option, ◌∙◌, arith}
use Rattle.std.specs.Prelude.{◌==◌}
use Rattle.std.proofs.lemmas.List.{length-map, append_assoc}
use Rattle.std.proofs.lemmas.List.FromFn.{length-map-range_with_len}
use Rattle.std.specs.Result.{IsErrOf}
use Rattle.apfs_model.specs.Kept.{IsKept}
use Rattle.apfs_model.proofs.BoolTests.{test_or, equal-from}
use Rattle.bt_cursor.specs.declared.step.Step.{Step}
use Rattle.nx_ring.specs.Checkpoint.{Seen, site_of}
use Rattle.space_map.specs.Fields.{cabs_of, cibs_of}
use Rattle.space_map.specs.Blocks.{address_at, cib_block}
use Rattle.space_map.specs.Stops.{Known, IsSpaceOf}
use Rattle.nx_block.specs.Super.{jumpstart_of}
use Rattle.reach_rules.specs.declared.naming.LookUp.TheVariants.{ByBlock}
use Rattle.reach_rules.specs.declared.naming.Object.TheVariants.{Newest}
use Rattle.reach_rules.specs.declared.naming.Namer.TheVariants.{Whole}
use Rattle.reach_rules.specs.declared.naming.Expected.TheVariants.{Jumpstart}
use Rattle.reach_rules.specs.declared.naming.Naming.{Naming}
use Rattle.reach_rules.specs.Next.{unless_zero}
use Rattle.reach_gather.specs.Jumped.{jump_root}
use Rattle.reach_gather.proofs.Jumps.{one-root}
use Rattle.reach_gather.specs.Infos.{known_cabs, known_cibs}
use Rattle.reach_gather.proofs.Growing.{noted-more}
use Rattle.reach_gather.proofs.Indexed.{infos-long}
use Rattle.reach_gather.proofs.Chunked.{cabs-known, cibs-known}

-- a naming is noted
pub noted-one : (old new : List Naming) (n : Naming) → new ≡ old ++ n ∷ [] → length new ≡ length old + 1
noted-one old new n e = noted-more old new (n ∷ []) e

-- what is noted isn't lost
pub noted-longer : (old new more : List Naming) → new ≡ old ++ more → length old ≤ length new
noted-longer old new more e = let l = noted-more old new more e in omega (arith, l)

-- a tree by one read for its root and one for each of its steps, each of which is noted
pub tree-read : (f : Step → Naming) (root : Naming) (noted steps : List Step) (a b c : List Naming) (before after : ℕ) → b ≡ a ++ root ∷ [] → c ≡ b ++ map f noted → noted ≡ steps → after ≤ before + suc (length steps)
    → after + length a ≤ before + length c
tree-read f root noted steps a b c before after p q same few =
    let one : length b ≡ length a + 1 = noted-one a b root p in
    let more : length c ≡ length b + length (map f noted) = noted-more b c (map f noted) q in
    let long : length (map f noted) ≡ length steps = length-map noted f ∙ ap length same in
    omega (arith, one, more, long, few)

-- the blocks that tell of chunks are noted, and not read
pub space-read : (image : List ℕ) (seen : Seen) (space : Known) (oid : ℕ) (manager : Naming) (a b c d e : List Naming) (before mid after : ℕ) → IsSpaceOf image seen space → b ≡ a ++ manager ∷ []
    → mid + length b ≤ before + length c → after + length c ≤ mid + length d → e ≡ (d ++ known_cabs oid space) ++ known_cibs oid space
    → after + (length space.cabs + length space.cibs) + length a ≤ before + length e
space-read image seen space oid manager a b c d e before mid after is p pool main q =
    let one : length b ≡ length a + 1 = noted-one a b manager p in
    let more : length e ≡ length d + length (known_cabs oid space ++ known_cibs oid space) = noted-more d e (known_cabs oid space ++ known_cibs oid space) (q ∙ append_assoc d (known_cabs oid space) (known_cibs oid space)) in
    let long : length (known_cabs oid space ++ known_cibs oid space) ≡ cabs_of space.manager + cibs_of space.manager = infos-long oid space in
    let cabs : length space.cabs ≡ cabs_of space.manager = ap length (cabs-known image seen space is) ∙ length-map-range_with_len (address_at space.manager) 0 (cabs_of space.manager) in
    let cibs : length space.cibs ≡ cibs_of space.manager = ap length (cibs-known image seen space is) ∙ length-map-range_with_len (cib_block (site_of seen).block_size image space.manager) 0 (cibs_of space.manager) in
    omega (arith, one, pool, main, more, long, cabs, cibs)

-- the superblock names one jumpstart at most
pub jump-none : (nx : List ℕ) → jumpstart_of nx ≡ 0 → length (jump_root nx) ≡ 0
jump-none nx zero = ap (λ o. length (unless_zero (Whole Newest) 1272 Jumpstart ByBlock o)) zero

pub jump-one : (nx : List ℕ) → length (jump_root nx) ≤ 1
jump-one nx = elim (test_or (jumpstart_of nx == 0)) as (λ _. length (jump_root nx) ≤ 1) [
  | inl z ↦ let e : length (jump_root nx) ≡ 0 = jump-none nx (equal-from (jumpstart_of nx) 0 z) in omega (arith, e)
  | inr s ↦ let e : length (jump_root nx) ≡ 1 = one-root nx (jumpstart_of nx) refl s in omega (arith, e)
]

-- an answer is no error
pub no-err : {T E : Type 0} (x : T) (e : E) → IsErrOf {T = T} {E = E} (Ok x) e → ⊥
no-err x e is = let q : ⊥ = cc in q

-- an error is the same one in place of another answer
pub same-err : {T U E : Type 0} (a e : E) → IsErrOf {T = T} {E = E} (Err a) e → IsErrOf {T = U} {E = E} (Err a) e
same-err {T} {U} {E} a e is = let s : a ≡ e = cc in λ i. Err (s i)

-- a source that is kept twice is kept
pub kept-on : {S : Type 0} (bytes : S → Option (List ℕ)) (size faults : S → ℕ) (a b c : S) → IsKept bytes size faults a b → IsKept bytes size faults b c → IsKept bytes size faults a c
kept-on bytes size faults a b c one two = record {
  same_bytes = two.same_bytes ∙ one.same_bytes;
  same_size = two.same_size ∙ one.same_size;
  later = let x : faults a ≤ faults b = one.later in let y : faults b ≤ faults c = two.later in omega arith;
}
