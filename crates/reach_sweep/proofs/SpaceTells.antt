-- What is told of the space, of the pool's bits and of the container's object map is there, said of what is reached.
use Rattle.std.proofs.Common.{◌≡◌, ℕ, Bool, true, false, List, Some, None, ap, sym, ◌∙◌}
use Rattle.std.specs.Prelude.{is_some, ◌&&◌, nat_lt, if◌then◌else◌}
use Rattle.apfs_model.specs.Blocks.{in_container}
use Rattle.obj_base.specs.Stops.{Tells, NoFeature, IsFree, raised}
use Rattle.obj_base.specs.declared.stop.Stop.{Stop}
use Rattle.obj_base.specs.declared.stop.Stop.TheVariants.{Found, Unsupported, ReadFault, NoMemory}
use Rattle.nx_block.specs.Super.{omap_oid_of}
use Rattle.nx_ring.specs.Checkpoint.{Seen, site_of}
use Rattle.omap_map.specs.declared.fault.OmapFault.{OmapFault}
use Rattle.omap_map.proofs.Loads.{whole-object, object-inside}
use Rattle.space_map.specs.Stops.{HasManager, IsSpaceFault, IsSpaceFeature}
use Rattle.space_map.specs.declared.fault.SpaceFault.{SpaceFault}
use Rattle.space_map.specs.declared.fault.SpaceFault.TheVariants as spaces
use Rattle.space_pool.specs.Stops.{IsPoolFault}
use Rattle.space_pool.specs.declared.fault.PoolFault.{PoolFault}
use Rattle.space_pool.specs.declared.fault.PoolFault.TheVariants as pools
use Rattle.reach_rules.specs.Raised.{of_space, of_pool, of_map}
use Rattle.reach_rules.specs.Faults.{Present}
use Rattle.reach_rules.specs.Features.{HasFeature}
use Rattle.reach_rules.specs.Reached.{IsReachedFault}
use Rattle.reach_rules.proofs.SpaceLifted.{space-present, space-feature}
use Rattle.reach_rules.proofs.QueuesLifted.{pool-present}
use Rattle.reach_gather.specs.Volumes.Parts.{IsMapPart, container_map}

space-reached : (image : List ℕ) (seen : Seen) (fault : SpaceFault) → Present image seen (of_space seen fault) → IsReachedFault image seen (of_space seen fault)
space-reached image seen (spaces.Unnamed within oid) p = p
space-reached image seen (spaces.Unsound block why) p = p
space-reached image seen spaces.Geometry p = p
space-reached image seen (spaces.Cab i) p = p
space-reached image seen (spaces.Cib i) p = p
space-reached image seen (spaces.Index k) p = p
space-reached image seen (spaces.Place block) p = p
space-reached image seen spaces.FreeTotal p = p

pub space-tells : (image : List ℕ) (seen : Seen) (stop : Stop SpaceFault) → Tells (IsSpaceFault image seen) (IsSpaceFeature image seen) stop → Tells (IsReachedFault image seen) (HasFeature image seen) (raised (of_space seen) stop)
space-tells image seen (Found fault) t = space-reached image seen fault (space-present image seen fault t)
space-tells image seen (Unsupported feature block) t = space-feature image seen feature block t
space-tells image seen ReadFault t = t
space-tells image seen NoMemory t = t

-- of the pool's bits a fault of their shape is told
pool-reached : (image : List ℕ) (seen : Seen) (manager : List ℕ) (fault : PoolFault) → IsPoolFault seen manager fault → Present image seen (of_pool seen fault) → IsReachedFault image seen (of_pool seen fault)
pool-reached image seen manager (pools.Index i) f p = p
pool-reached image seen manager pools.Count f p = p
pool-reached image seen manager (pools.Place block) f p = p
pool-reached image seen manager (pools.Unnamed oid) f p = p
pool-reached image seen manager (pools.Walk root why) f p = absurd f
pool-reached image seen manager (pools.Value root item) f p = p

pub pool-tells : (image : List ℕ) (seen : Seen) (manager : List ℕ) (block : ℕ) → HasManager seen manager block → (stop : Stop PoolFault) → Tells (IsPoolFault seen manager) NoFeature stop → Tells (IsReachedFault image seen) (HasFeature image seen) (raised (of_pool seen) stop)
pool-tells image seen manager block h (Found fault) t = pool-reached image seen manager fault t (pool-present image seen manager block h fault t)
pool-tells image seen manager block h (Unsupported feature at) t = absurd t
pool-tells image seen manager block h ReadFault t = t
pool-tells image seen manager block h NoMemory t = t

-- ---- the container's object map
-- one that is right lies in a block of the container
pub never-lost : (image : List ℕ) (seen : Seen) → IsMapPart image seen (container_map seen) → (nat_lt 0 (omap_oid_of seen.nx) && nat_lt (omap_oid_of seen.nx) (site_of seen).blocks) ≡ false → ⊥
never-lost image seen part lost =
    let oid : ℕ = omap_oid_of seen.nx in
    let some : is_some (in_container (site_of seen).blocks oid) ≡ true = object-inside image (site_of seen) oid (whole-object image (site_of seen) oid part.whole) in
    let none : is_some (in_container (site_of seen).blocks oid) ≡ false = ap (λ (b : Bool). is_some (if b then Some oid else None)) lost in
    let z : false ≡ true = sym none ∙ some in
    let q : ⊥ = cc in q

-- and nothing but the source and the memory stops its load
pub free-tells : (image : List ℕ) (seen : Seen) (stop : Stop OmapFault) → IsFree stop → Tells (IsReachedFault image seen) (HasFeature image seen) (raised (of_map seen) stop)
free-tells image seen (Found fault) free = absurd free
free-tells image seen (Unsupported feature block) free = absurd free
free-tells image seen ReadFault free = tt
free-tells image seen NoMemory free = tt
