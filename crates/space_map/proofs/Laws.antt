-- Where a container's space is right, no fault of it is there.
use Rattle.std.specs.Prelude.{◌≡◌, ℕ, ◌<◌, Bool, true, false, ◌&&◌, nat_lt, List, Option, None, Some, Err, is_ok, is_some}
use Rattle.std.proofs.Common.{arith, ap, sym, ◌∙◌, subst, inl, inr}
use Rattle.std.proofs.lemmas.Grind.{common_steps}
use Rattle.apfs_model.specs.Blocks.{in_container}
use Rattle.apfs_model.proofs.BoolTests.{clash, left-true, right-true, other-true}
use Rattle.apfs_model.specs.Lists.{In}
use Rattle.obj_base.specs.Stops.{Tells, IsFree}
use Rattle.obj_base.specs.declared.header.HeadFault.{HeadFault}
use Rattle.obj_base.specs.declared.stop.Bad.{Bad}
use Rattle.obj_base.specs.declared.stop.Bad.TheVariants.{Found, Unsupported}
use Rattle.obj_base.specs.declared.stop.Feature.{Feature}
use Rattle.obj_base.specs.declared.stop.Stop.{Stop}
use Rattle.obj_base.specs.declared.stop.Stop.TheVariants as stops
use Rattle.nx_ring.specs.Checkpoint.{Seen, site_of}
use Rattle.obj_base.specs.declared.stop.Within.TheVariants.{Physical, Ephemeral, Container, Volume}
use Rattle.obj_base.specs.declared.site.Site.{Site}
use Rattle.space_map.specs.Fields.{cabs_of, cibs_of, chunks_of}
use Rattle.space_map.specs.Blocks.{manager_of, manager_test, address_at, cib_block, info_test, is_info, is_cab_named, is_cib_named}
use Rattle.space_map.specs.Chunks.{chunk_at, is_told}
use Rattle.space_map.specs.Marks.{lacks_bitmap}
use Rattle.space_map.specs.Tests.{is_in_pool}
use Rattle.space_map.specs.Stops.{HasManager, NamesInfo, MustBeInPool, space_features, IsFaultOf, IsRightSpace, is_bitmap_placed, IsSpaceFault, IsSpaceFeature, IsSpaceOf, Known}
use Rattle.space_map.specs.declared.fault.SpaceFault.{SpaceFault}
use Rattle.space_map.specs.declared.fault.SpaceFault.TheVariants.{Unnamed, Unsound, Geometry, Cab, Cib, Index, Place, FreeTotal}

lower : (m n : ℕ) (b : Bool) → (nat_lt m n && b) ≡ true → m < n
lower m n b e = grind (arith, common_steps)

cab-low : (manager : List ℕ) (i : ℕ) → is_cab_named manager i ≡ true → i < cabs_of manager
unfolding is_cab_named
cab-low manager i e = lower i (cabs_of manager) _ e

cib-low : (image : List ℕ) (site : Site) (manager : List ℕ) (i : ℕ) → is_cib_named image site manager i ≡ true → i < cibs_of manager
unfolding is_cib_named
cib-low image site manager i e = lower i (cibs_of manager) _ e

chunk-low : (image : List ℕ) (site : Site) (manager : List ℕ) (k : ℕ) → is_told image site manager k ≡ true → k < chunks_of manager
unfolding is_told
chunk-low image site manager k e = lower k (chunks_of manager) _ (left-true _ _ e)

info-inside : (image : List ℕ) (site : Site) (kind block : ℕ) → is_info image site kind block ≡ true → is_some (in_container site.blocks block) ≡ true
unfolding is_info
info-inside image site kind block e = left-true _ _ e

info-ok : (image : List ℕ) (site : Site) (kind block : ℕ) → is_info image site kind block ≡ true → is_ok (info_test image site kind block) ≡ true
unfolding is_info
info-ok image site kind block e = right-true _ _ e

bitmap-placed : (image : List ℕ) (site : Site) (manager : List ℕ) (k : ℕ) → is_bitmap_placed site manager (chunk_at site.block_size image manager k) ≡ true → lacks_bitmap (chunk_at site.block_size image manager k) ≡ false → is_in_pool site manager (chunk_at site.block_size image manager k).bitmap ≡ true
unfolding is_bitmap_placed
bitmap-placed image site manager k e f = other-true _ _ f e

-- a block that is named as telling of chunks is sound and in the pool
named-sound : (image : List ℕ) (site : Site) (manager : List ℕ) (kind block : ℕ) → IsRightSpace image site manager → NamesInfo image site manager kind block → is_info image site kind block ≡ true
named-sound image site manager kind block right (inl (k, (i, cab))) =
    subst (λ b. is_info image site kind b ≡ true) (sym cab.same) (subst (λ n. is_info image site n (address_at manager i) ≡ true) (sym k) (right.cabs i (cab-low manager i cab.named)).sound)
named-sound image site manager kind block right (inr (k, (i, cib))) =
    subst (λ b. is_info image site kind b ≡ true) (sym cib.same) (subst (λ n. is_info image site n (cib_block site.block_size image manager i) ≡ true) (sym k) (right.cibs i (cib-low image site manager i cib.named)).sound)

named-placed : (image : List ℕ) (site : Site) (manager : List ℕ) (kind block : ℕ) → IsRightSpace image site manager → NamesInfo image site manager kind block → is_in_pool site manager block ≡ true
named-placed image site manager kind block right (inl (k, (i, cab))) = subst (λ b. is_in_pool site manager b ≡ true) (sym cab.same) (right.cabs i (cab-low manager i cab.named)).placed
named-placed image site manager kind block right (inr (k, (i, cib))) = subst (λ b. is_in_pool site manager b ≡ true) (sym cib.same) (right.cibs i (cib-low image site manager i cib.named)).placed

must-placed : (image : List ℕ) (site : Site) (manager : List ℕ) (block : ℕ) → IsRightSpace image site manager → MustBeInPool image site manager block → is_in_pool site manager block ≡ true
must-placed image site manager block right (inl (kind, named)) = named-placed image site manager kind block right named
must-placed image site manager block right (inr bitmap) =
    subst (λ b. is_in_pool site manager b ≡ true) (sym bitmap.same) (bitmap-placed image site manager bitmap.chunk (right.bitmaps bitmap.chunk (chunk-low image site manager bitmap.chunk bitmap.told)) bitmap.some)

-- where a container's space is right, no fault of its manager or of what stands below it is there
pub space-refutes : (image : List ℕ) (site : Site) (manager : List ℕ) (fault : SpaceFault) → IsRightSpace image site manager → IsFaultOf image site manager fault → ⊥
space-refutes image site manager (Unnamed Physical oid) right ((kind, named), none) =
    clash (is_some (in_container site.blocks oid)) (info-inside image site kind oid (named-sound image site manager kind oid right named)) (ap is_some none)
space-refutes image site manager (Unnamed Ephemeral oid) right h = h
space-refutes image site manager (Unnamed Container oid) right h = h
space-refutes image site manager (Unnamed (Volume slot) oid) right h = h
space-refutes image site manager (Unsound block why) right (kind, named, failing) =
    clash (is_ok (info_test image site kind block)) (info-ok image site kind block (named-sound image site manager kind block right named.named)) (ap is_ok failing)
space-refutes image site manager Geometry right wrong = clash _ right.shaped wrong
space-refutes image site manager (Cab i) right (named, sound, wrong) = clash _ (right.cabs i (cab-low manager i named)).right wrong
space-refutes image site manager (Cib i) right (named, sound, wrong) = clash _ (right.cibs i (cib-low image site manager i named)).right wrong
space-refutes image site manager (Index k) right (told, wrong) = clash _ (right.chunks k (chunk-low image site manager k told)) wrong
space-refutes image site manager (Place block) right (must, wrong) = clash _ (must-placed image site manager block right must) wrong
space-refutes image site manager FreeTotal right (told, wrong) = clash _ right.total wrong

right-manager : (seen : Seen) (m m' : List ℕ) (b : ℕ) → HasManager seen m b → manager_of seen ≡ Some m' → m ≡ m'
right-manager seen m m' b has other = let e : ◌≡◌ {A = Option (List ℕ)} (Some m) (Some m') = sym has.some ∙ other in cc

info-clash : {A : Type 0} (image : List ℕ) (site : Site) (manager : List ℕ) (kind block : ℕ) (bad : Bad HeadFault) → IsRightSpace image site manager → NamesInfo image site manager kind block → info_test image site kind block ≡ Err bad → A
info-clash image site manager kind block bad right named failing =
    clash (is_ok (info_test image site kind block)) (info-ok image site kind block (named-sound image site manager kind block right named)) (ap is_ok failing)

test-clash : {A : Type 0} (seen : Seen) (m m' : List ℕ) (b : ℕ) (bad : Bad HeadFault) → HasManager seen m b → manager_of seen ≡ Some m' → manager_test seen m' ≡ Err bad → A
test-clash seen m m' b bad has other failing =
    clash (is_ok (manager_test seen m')) (subst (λ x. is_ok (manager_test seen x) ≡ true) (right-manager seen m m' b has other) has.sound) (ap is_ok failing)

fault-free : (image : List ℕ) (seen : Seen) (space : Known) (fault : SpaceFault) → IsSpaceOf image seen space → IsSpaceFault image seen fault → ⊥
fault-free image seen space (Unnamed Ephemeral oid) is (inl (same, none)) = let e : ◌≡◌ {A = Option ℕ} (Some is.block) None = sym is.manager.at ∙ none in cc
fault-free image seen space (Unnamed Physical oid) is (inl h) = h
fault-free image seen space (Unnamed Container oid) is (inl h) = h
fault-free image seen space (Unnamed (Volume slot) oid) is (inl h) = h
fault-free image seen space (Unsound block why) is (inl h) = h
fault-free image seen space Geometry is (inl h) = h
fault-free image seen space (Cab i) is (inl h) = h
fault-free image seen space (Cib i) is (inl h) = h
fault-free image seen space (Index k) is (inl h) = h
fault-free image seen space (Place block) is (inl h) = h
fault-free image seen space FreeTotal is (inl h) = h
fault-free image seen space (Unsound block why) is (inr (inl (m, some, at, failing))) = test-clash seen space.manager m is.block (Found why) is.manager some failing
fault-free image seen space (Unnamed within oid) is (inr (inl h)) = h
fault-free image seen space Geometry is (inr (inl h)) = h
fault-free image seen space (Cab i) is (inr (inl h)) = h
fault-free image seen space (Cib i) is (inr (inl h)) = h
fault-free image seen space (Index k) is (inr (inl h)) = h
fault-free image seen space (Place block) is (inr (inl h)) = h
fault-free image seen space FreeTotal is (inr (inl h)) = h
fault-free image seen space fault is (inr (inr (m, b, has, h))) =
    space-refutes image (site_of seen) space.manager fault is.right (subst (λ x. IsFaultOf image (site_of seen) x fault) (sym (right-manager seen space.manager m is.block is.manager has.some)) h)

feature-free : (image : List ℕ) (seen : Seen) (space : Known) (feature : Feature) (block : ℕ) → IsSpaceOf image seen space → IsSpaceFeature image seen feature block → ⊥
feature-free image seen space feature block is (inl (m, some, at, inl failing)) = test-clash seen space.manager m is.block (Unsupported feature) is.manager some failing
feature-free image seen space feature block is (inl (m, some, at, inr (ok, h))) =
    let same : m ≡ space.manager = sym (right-manager seen space.manager m is.block is.manager some) in
    subst (In feature) is.right.plain (subst (λ x. In feature (space_features x)) same h)
feature-free image seen space feature block is (inr (m, b, has, (kind, named, failing))) =
    let same : m ≡ space.manager = sym (right-manager seen space.manager m is.block is.manager has.some) in
    info-clash image (site_of seen) space.manager kind block (Unsupported feature) is.right (subst (λ x. NamesInfo image (site_of seen) x kind block) same named.named) failing

-- where a container's space is right, nothing that could stop a call is there
pub right-free : (image : List ℕ) (seen : Seen) (space : Known) (stop : Stop SpaceFault) → IsSpaceOf image seen space → Tells (IsSpaceFault image seen) (IsSpaceFeature image seen) stop → IsFree stop
right-free image seen space (stops.Found fault) is h = fault-free image seen space fault is h
right-free image seen space (stops.Unsupported feature block) is h = feature-free image seen space feature block is h
right-free image seen space stops.ReadFault is h = tt
right-free image seen space stops.NoMemory is h = tt
