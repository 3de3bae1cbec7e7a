-- The blocks that tell of chunks: how they are named, read and counted.
use Rattle.std.specs.Prelude.{◌≡◌, ℕ, zero, suc, ◌+◌, ◌-◌, ◌*◌, ◌/◌, ◌%◌, ◌<◌, ◌≤◌, Bool, true, false, ◌&&◌, ◌==◌, nat_lt, min, List, [], ◌∷◌, ◌++◌, length, map, refl, Some, None, Ok, Err, Result, is_ok, is_some, slice_index_or, if◌then◌else◌}
use Rattle.std.specs.List.{range_with_len}
use Rattle.std.proofs.Common.{arith, ap, sym, ◌∙◌, subst, inl, length-append, append_assoc, append-nil}
use Rattle.std.proofs.lemmas.Grind.{common_steps}
use Rattle.std.proofs.lemmas.List.FromFn.{map-range_with_len_more, length-map-range_with_len, get_or-map-range_with_len}
use Rattle.std.proofs.Math.Numerals.{add-one}
use Rattle.apfs_model.specs.Blocks.{block_of, in_container, rounded_up}
use Rattle.apfs_model.specs.Object.{cab_kind}
use Rattle.apfs_model.proofs.BoolTests.{clash, both-true, other-true, from-below, equal-from}
use Rattle.obj_base.specs.BlockSize.{is_accepted}
use Rattle.obj_base.specs.Sound.{expecting}
use Rattle.obj_base.specs.Stops.{Tells, raised}
use Rattle.obj_base.specs.declared.header.Header.{Header}
use Rattle.obj_base.specs.declared.header.HeadFault.{HeadFault}
use Rattle.obj_base.specs.declared.stop.Bad.{Bad}
use Rattle.obj_base.specs.declared.stop.Bad.TheVariants as bads
use Rattle.obj_base.specs.declared.stop.Feature.{Feature}
use Rattle.obj_base.specs.declared.stop.Stop.{Stop}
use Rattle.obj_base.specs.declared.stop.Stop.TheVariants.{Found, Unsupported, ReadFault, NoMemory}
use Rattle.obj_base.specs.declared.stop.Unsound.{Unsound}
use Rattle.obj_base.specs.declared.site.Site.{Site}
use Rattle.blk_read.specs.Object.{judged, sound_object}
use Rattle.blk_read.proofs.Sizes.{accepted_size}
use Rattle.space_map.specs.Fields.{cab_cibs_of, cib_chunks_of, cabs_of, cibs_of, chunks_of}
use Rattle.space_map.specs.Geometry.{is_shaped, has_address}
use Rattle.space_map.specs.Blocks.{address_at, cab_address_at, cab_block_for, cab_blocks, cib_block, cib_blocks, info_test, info_index_of, info_count_of, is_info, is_cab_named, has_cab_for, is_cib_named}
use Rattle.space_map.specs.Tests.{share, is_cab, is_cib}
use Rattle.space_map.specs.Stops.{NamesCib, NamesInfo, NamesInside, IsFaultOf, IsInfoFeature, IsRightCab}
use Rattle.space_map.specs.Held.{unsound, first_cibs, AreNamed}
use Rattle.space_map.proofs.Shapes.{unit_start, units_hold, mul-add-mod}
use Rattle.space_map.proofs.Places.{shape-from, cab-address, cib-address, cib-place, cib-cab}
use Rattle.std.proofs.lemmas.Nat.{div-mul-add}

-- a block of the container, by its test
pub container-inside : (blocks block : ℕ) → (nat_lt 0 block && nat_lt block blocks) ≡ true → in_container blocks block ≡ Some block
container-inside blocks block e = ap (λ (b : Bool). if b then Some block else None) e

-- the object of a kind in a block
abbrev info_object : List ℕ → Site → ℕ → ℕ → Result (List ℕ) (Stop (Unsound HeadFault))
info_object image site kind block = sound_object image site block (expecting kind (Some block) site.max_xid)

judged-got : (block : ℕ) (bytes got : List ℕ) (r : Result Header (Bad HeadFault)) → judged block bytes r ≡ Ok got → (got ≡ bytes) × (is_ok r ≡ true)
judged-got block bytes got (Ok h) e = (cc, refl)
judged-got block bytes got (Err (bads.Found why)) e = absurd (cc)
judged-got block bytes got (Err (bads.Unsupported feature)) e = absurd (cc)

pub info-got : (image : List ℕ) (site : Site) (kind block : ℕ) (got : List ℕ) → info_object image site kind block ≡ Ok got → (got ≡ block_of site.block_size image block) × (is_ok (info_test image site kind block) ≡ true)
unfolding sound_object
info-got image site kind block got e = judged-got block (block_of site.block_size image block) got (info_test image site kind block) e

-- what was read is such an object
pub info-sound : (image : List ℕ) (site : Site) (kind block : ℕ) (got : List ℕ) → (nat_lt 0 block && nat_lt block site.blocks) ≡ true → info_object image site kind block ≡ Ok got → is_info image site kind block ≡ true
unfolding is_info
info-sound image site kind block got inside e =
    both-true (is_some (in_container site.blocks block)) _ (ap is_some (container-inside site.blocks block inside)) (info-got image site kind block got e).1

judged-found : (block : ℕ) (bytes : List ℕ) (r : Result Header (Bad HeadFault)) (f : Unsound HeadFault) → judged block bytes r ≡ Err (Found f) → (f.block ≡ block) × (r ≡ Err (bads.Found f.why))
judged-found block bytes (Ok h) f e = absurd (cc)
judged-found block bytes (Err (bads.Found why)) f e =
    let this : Unsound HeadFault = record { block = block; why = why } in
    let same : this ≡ f = cc in
    (ap (λ (u : Unsound HeadFault). u.block) (sym same), ap (λ (u : Unsound HeadFault). Err (bads.Found u.why)) same)
judged-found block bytes (Err (bads.Unsupported feature)) f e = absurd (cc)

judged-feature : (block : ℕ) (bytes : List ℕ) (r : Result Header (Bad HeadFault)) (name : Feature) (at : ℕ) → judged block bytes r ≡ Err (Unsupported name at) → (at ≡ block) × (r ≡ Err (bads.Unsupported name))
judged-feature block bytes (Ok h) name at e = absurd (cc)
judged-feature block bytes (Err (bads.Found why)) name at e = absurd (cc)
judged-feature block bytes (Err (bads.Unsupported feature)) name at e = (cc, cc)

-- a test of such an object that fails is a fault of the space, or a feature
pub info-tells : (image : List ℕ) (site : Site) (manager : List ℕ) (kind block : ℕ) (stop : Stop (Unsound HeadFault)) → (nat_lt 0 block && nat_lt block site.blocks) ≡ true → NamesInfo image site manager kind block
    → Tells (λ f. info_object image site kind block ≡ Err (Found f)) (λ name at. info_object image site kind block ≡ Err (Unsupported name at)) stop
    → Tells (IsFaultOf image site manager) (IsInfoFeature image site manager) (raised unsound stop)
unfolding sound_object
info-tells image site manager kind block (Found f) inside named e =
    let two = judged-found block (block_of site.block_size image block) (info_test image site kind block) f e in (
      kind,
      subst (λ b. NamesInside image site manager kind b) (sym two.0) (record { named = named; inside = container-inside site.blocks block inside }),
      subst (λ b. info_test image site kind b ≡ Err (bads.Found f.why)) (sym two.0) two.1,
    )
info-tells image site manager kind block (Unsupported name at) inside named e =
    let two = judged-feature block (block_of site.block_size image block) (info_test image site kind block) name at e in (
      kind,
      subst (λ b. NamesInside image site manager kind b) (sym two.0) (record { named = named; inside = container-inside site.blocks block inside }),
      subst (λ b. info_test image site kind b ≡ Err (bads.Unsupported name)) (sym two.0) two.1,
    )
info-tells image site manager kind block ReadFault inside named e = tt
info-tells image site manager kind block NoMemory inside named e = tt

some-of : (n i : ℕ) → i < n → (n == 0) ≡ false
some-of n i low = grind (arith, common_steps)

-- an address block of the manager is named
pub cab-has-address : (site : Site) (manager : List ℕ) (i : ℕ) → is_shaped site manager ≡ true → i < cabs_of manager → has_address manager i ≡ true
cab-has-address site manager i shaped low = cab-address site manager (shape-from site manager shaped) i (some-of (cabs_of manager) i low) low

pub cab-is-named : (site : Site) (manager : List ℕ) (i : ℕ) → is_shaped site manager ≡ true → i < cabs_of manager → is_cab_named manager i ≡ true
unfolding is_cab_named
cab-is-named site manager i shaped low = both-true (nat_lt i (cabs_of manager)) _ (from-below i (cabs_of manager) low) (cab-has-address site manager i shaped low)

pub cab-names : (image : List ℕ) (site : Site) (manager : List ℕ) (i block : ℕ) → is_shaped site manager ≡ true → i < cabs_of manager → block ≡ address_at manager i → NamesInfo image site manager cab_kind block
cab-names image site manager i block shaped low same = inl (refl, (i, record { named = cab-is-named site manager i shaped low; same = same }))

-- the test of an address block, by its bytes
pub cab-test : (manager : List ℕ) (i count : ℕ) (bytes cab : List ℕ) (b : Bool) → b ≡ ((info_index_of bytes == i) && (info_count_of bytes == count)) → count ≡ share (cibs_of manager) (cab_cibs_of manager) i → bytes ≡ cab → is_cab manager i cab ≡ b
unfolding is_cab
cab-test manager i count bytes cab b e counted same = sym (e ∙ (ap (λ n. (info_index_of bytes == i) && (info_count_of bytes == n)) counted ∙ ap (λ xs. (info_index_of xs == i) && (info_count_of xs == share (cibs_of manager) (cab_cibs_of manager) i)) same))

-- the test of a chunk-info block, by its bytes
pub cib-test : (manager : List ℕ) (i count : ℕ) (bytes cib : List ℕ) (b : Bool) → b ≡ ((info_index_of bytes == i) && (info_count_of bytes == count)) → count ≡ share (chunks_of manager) (cib_chunks_of manager) i → bytes ≡ cib → is_cib manager i cib ≡ b
unfolding is_cib
cib-test manager i count bytes cib b e counted same = sym (e ∙ (ap (λ n. (info_index_of bytes == i) && (info_count_of bytes == n)) counted ∙ ap (λ xs. (info_index_of xs == i) && (info_count_of xs == share (chunks_of manager) (cib_chunks_of manager) i)) same))

-- one more address
pub addresses_more : (cab front : List ℕ) (n : ℕ) → front ++ map (cab_address_at cab) (range_with_len 0 (n + 1)) ≡ (front ++ map (cab_address_at cab) (range_with_len 0 n)) ++ cab_address_at cab n ∷ []
addresses_more cab front n =
    ap (λ xs. front ++ xs) (map-range_with_len_more (cab_address_at cab) 0 n n (omega arith))
    ∙ sym (append_assoc front (map (cab_address_at cab) (range_with_len 0 n)) (cab_address_at cab n ∷ []))

pub direct_more : (manager : List ℕ) (n : ℕ) → map (address_at manager) (range_with_len 0 (n + 1)) ≡ map (address_at manager) (range_with_len 0 n) ++ address_at manager n ∷ []
direct_more manager n = map-range_with_len_more (address_at manager) 0 n n (omega arith)

none-of : (n : ℕ) → n ≡ 0 → (n == 0) ≡ true
none-of n e = grind (arith, common_steps)

-- an address of the manager, where it has those of the chunk-info blocks
pub cib-has-address : (site : Site) (manager : List ℕ) (i : ℕ) → is_shaped site manager ≡ true → cabs_of manager ≡ 0 → i < cibs_of manager → has_address manager i ≡ true
cib-has-address site manager i shaped none low = cib-address site manager (shape-from site manager shaped) i (none-of (cabs_of manager) none) low

joined-more : (f g : ℕ → ℕ) (a n : ℕ) → g n ≡ f (a + n) → map f (range_with_len 0 a) ++ map g (range_with_len 0 n) ≡ map f (range_with_len 0 (a + n)) → map f (range_with_len 0 a) ++ map g (range_with_len 0 (n + 1)) ≡ map f (range_with_len 0 (a + (n + 1)))
joined-more f g a n here before =
    ap (λ xs. map f (range_with_len 0 a) ++ xs) (map-range_with_len_more g 0 n n (omega arith))
    ∙ (sym (append_assoc (map f (range_with_len 0 a)) (map g (range_with_len 0 n)) (g n ∷ []))
    ∙ (ap (λ xs. xs ++ g n ∷ []) before
    ∙ (ap (λ x. map f (range_with_len 0 (a + n)) ++ x ∷ []) here
    ∙ (sym (map-range_with_len_more f 0 (a + n) (a + n) (omega arith))
    ∙ ap (λ m. map f (range_with_len 0 m)) (let e : a + n + 1 ≡ a + (n + 1) = omega arith in e)))))

-- a list by numbers goes on with one that goes on by the same numbers
joined : (f g : ℕ → ℕ) (a n : ℕ) → ((j : ℕ) → j < n → g j ≡ f (a + j)) → map f (range_with_len 0 a) ++ map g (range_with_len 0 n) ≡ map f (range_with_len 0 (a + n))
joined f g a zero each = append-nil (map f (range_with_len 0 a)) ∙ ap (λ m. map f (range_with_len 0 m)) (let e : a ≡ a + 0 = omega arith in e)
joined f g a (suc n) each =
    subst (λ m. map f (range_with_len 0 a) ++ map g (range_with_len 0 m) ≡ map f (range_with_len 0 (a + m))) (add-one n)
    (joined-more f g a n (each n (omega arith)) (joined f g a n (λ j low. each j (omega arith))))

-- how many fall to the places so far and the next
pub count_next : (all each i len new : ℕ) → len ≡ min all (each * i) → each * i < all → new ≡ len + share all each i → new ≡ min all (each * (i + 1))
count_next all each i len new e low f = omega arith

-- all places together hold all
pub count_all : (all each n len : ℕ) → all ≤ each * n → len ≡ min all (each * n) → len ≡ all
count_all all each n len holds e = omega arith

pub cabs_hold : (site : Site) (manager : List ℕ) → is_shaped site manager ≡ true → 1 ≤ cabs_of manager → cibs_of manager ≤ cab_cibs_of manager * cabs_of manager
cabs_hold site manager shaped some =
    let s = shape-from site manager shaped in
    let e : cabs_of manager ≡ rounded_up (cibs_of manager) (cab_cibs_of manager) = equal-from (cabs_of manager) (rounded_up (cibs_of manager) (cab_cibs_of manager)) (other-true (cabs_of manager == 0) _ (some-of (cabs_of manager) 0 (omega arith)) s.cabs) in
    subst (λ n. cibs_of manager ≤ cab_cibs_of manager * n) (sym e) (units_hold (cibs_of manager) (cab_cibs_of manager) s.some_cibs)

pub cabs_start : (site : Site) (manager : List ℕ) (i : ℕ) → is_shaped site manager ≡ true → i < cabs_of manager → cab_cibs_of manager * i < cibs_of manager
cabs_start site manager i shaped low =
    let s = shape-from site manager shaped in
    let e : cabs_of manager ≡ rounded_up (cibs_of manager) (cab_cibs_of manager) = equal-from (cabs_of manager) (rounded_up (cibs_of manager) (cab_cibs_of manager)) (other-true (cabs_of manager == 0) _ (some-of (cabs_of manager) i low) s.cabs) in
    let start = unit_start (cibs_of manager) (cab_cibs_of manager) i s.some_cibs (subst (λ n. i < n) e low) in
    omega (arith, start)

pub cibs_hold : (site : Site) (manager : List ℕ) → is_shaped site manager ≡ true → chunks_of manager ≤ cib_chunks_of manager * cibs_of manager
cibs_hold site manager shaped =
    let s = shape-from site manager shaped in
    subst (λ n. chunks_of manager ≤ cib_chunks_of manager * n) (sym s.cibs) (units_hold (chunks_of manager) (cib_chunks_of manager) s.some_chunks)

pub cibs_start : (site : Site) (manager : List ℕ) (i : ℕ) → is_shaped site manager ≡ true → i < cibs_of manager → cib_chunks_of manager * i < chunks_of manager
cibs_start site manager i shaped low =
    let s = shape-from site manager shaped in
    let start = unit_start (chunks_of manager) (cib_chunks_of manager) i s.some_chunks (subst (λ n. i < n) s.cibs low) in
    omega (arith, start)

-- the addresses that fall to an address block lie in it
pub cab_room : (site : Site) (manager : List ℕ) (i : ℕ) → is_accepted site.block_size ≡ true → is_shaped site manager ≡ true → 40 + 8 * share (cibs_of manager) (cab_cibs_of manager) i ≤ site.block_size
cab_room site manager i accepted shaped =
    let s = shape-from site manager shaped in
    let few : cab_cibs_of manager ≤ (site.block_size - 40) / 8 = s.few_cibs in
    let size : 4096 ≤ site.block_size = (accepted_size site.block_size accepted).0 in
    omega (arith, few, size)

if-false : {X : Type 0} (b : Bool) (x y : X) → b ≡ false → (if b then x else y) ≡ y
if-false true x y e = clash true refl e
if-false false x y e = refl

if-true : {X : Type 0} (b : Bool) (x y : X) → b ≡ true → (if b then x else y) ≡ x
if-true true x y e = refl
if-true false x y e = clash false e refl

-- an address of an address block is the one of its number
cab-here : (image : List ℕ) (site : Site) (manager cab : List ℕ) (i j : ℕ) → (cabs_of manager == 0) ≡ false → j < cab_cibs_of manager → cab ≡ block_of site.block_size image (address_at manager i) → cab_address_at cab j ≡ cib_block site.block_size image manager (cab_cibs_of manager * i + j)
unfolding cib_block
cab-here image site manager cab i j some low same =
    let m = cab_cibs_of manager in
    let turn : m * i + j ≡ i * m + j = omega arith in
    let at : (m * i + j) / m ≡ i = ap (λ n. n / m) turn ∙ div-mul-add i m j low in
    let place : (m * i + j) % m ≡ j = ap (λ n. n % m) turn ∙ mul-add-mod i m j low in
    ap (λ bytes. cab_address_at bytes j) same
    ∙ (ap (λ b. cab_address_at (block_of site.block_size image (address_at manager b)) j) (sym at)
    ∙ (ap (λ p. cab_address_at (block_of site.block_size image (cab_block_for manager (m * i + j))) p) (sym place)
    ∙ sym (if-false (cabs_of manager == 0) (address_at manager (m * i + j)) (cab_address_at (block_of site.block_size image (cab_block_for manager (m * i + j))) ((m * i + j) % m)) some)))

-- the chunk-info blocks go on with those of the next address block
pub cibs_joined : (image : List ℕ) (site : Site) (manager cab front new : List ℕ) (i : ℕ) → is_shaped site manager ≡ true → i < cabs_of manager → cab ≡ block_of site.block_size image (address_at manager i) → length front ≡ min (cibs_of manager) (cab_cibs_of manager * i)
    → front ≡ first_cibs image site manager (length front) → new ≡ front ++ map (cab_address_at cab) (range_with_len 0 (share (cibs_of manager) (cab_cibs_of manager) i)) → new ≡ first_cibs image site manager (length new)
cibs_joined image site manager cab front new i shaped low same long before added =
    let n = share (cibs_of manager) (cab_cibs_of manager) i in
    let f = cib_block site.block_size image manager in
    let start = cabs_start site manager i shaped low in
    let base : length front ≡ cab_cibs_of manager * i = omega (arith, start, long) in
    let each : (j : ℕ) → j < n → cab_address_at cab j ≡ f (length front + j) = λ j h. cab-here image site manager cab i j (some-of (cabs_of manager) i low) (omega (arith, h)) same ∙ ap (λ b. f (b + j)) (sym base) in
    let all : new ≡ first_cibs image site manager (length front + n) = added ∙ (ap (λ xs. xs ++ map (cab_address_at cab) (range_with_len 0 n)) before ∙ joined f (cab_address_at cab) (length front) n each) in
    let len : length new ≡ length front + n = ap length all ∙ length-map-range_with_len f 0 (length front + n) in
    all ∙ ap (first_cibs image site manager) (sym len)

-- how many chunk-info blocks there are with those of the next address block
pub cibs_counted : (manager cab front new : List ℕ) (i : ℕ) → new ≡ front ++ map (cab_address_at cab) (range_with_len 0 (share (cibs_of manager) (cab_cibs_of manager) i)) → length new ≡ length front + share (cibs_of manager) (cab_cibs_of manager) i
cibs_counted manager cab front new i added =
    ap length added ∙ (length-append front (map (cab_address_at cab) (range_with_len 0 (share (cibs_of manager) (cab_cibs_of manager) i)))
    ∙ ap (λ n. length front + n) (length-map-range_with_len (cab_address_at cab) 0 (share (cibs_of manager) (cab_cibs_of manager) i)))

-- no address blocks are listed where there are none
pub cabs_none : (manager : List ℕ) → cabs_of manager ≡ 0 → [] ≡ cab_blocks manager
unfolding cab_blocks
cabs_none manager e = ap (λ n. map (address_at manager) (range_with_len 0 n)) (sym e)

pub cabs_all : (manager : List ℕ) (cabs : List ℕ) (n : ℕ) → n ≡ cabs_of manager → cabs ≡ map (address_at manager) (range_with_len 0 n) → cabs ≡ cab_blocks manager
unfolding cab_blocks
cabs_all manager cabs n e f = f ∙ ap (λ m. map (address_at manager) (range_with_len 0 m)) e

-- the chunk-info blocks whose addresses the manager has are named
pub named_direct : (image : List ℕ) (site : Site) (manager cibs : List ℕ) → is_shaped site manager ≡ true → cabs_of manager ≡ 0 → cibs ≡ map (address_at manager) (range_with_len 0 (cibs_of manager)) → AreNamed image site manager cibs
unfolding is_cib_named cib_blocks cib_block
named_direct image site manager cibs shaped none all =
    let zero_cabs : (cabs_of manager == 0) ≡ true = none-of (cabs_of manager) none in
    record {
      cabs = λ i low. absurd (omega (arith, low, none));
      named = λ i low. both-true (nat_lt i (cibs_of manager)) _ (from-below i (cibs_of manager) low)
          (if-true (cabs_of manager == 0) (has_address manager i) (has_cab_for image site manager i) zero_cabs ∙ cib-has-address site manager i shaped none low);
      same = all ∙ ap (λ (b : Bool). map (λ i. if b then address_at manager i else cab_address_at (block_of site.block_size image (cab_block_for manager i)) (i % cab_cibs_of manager)) (range_with_len 0 (cibs_of manager))) (sym zero_cabs);
    }

has-cab : (image : List ℕ) (site : Site) (manager : List ℕ) (i : ℕ) → is_shaped site manager ≡ true → (cabs_of manager == 0) ≡ false → ((k : ℕ) → k < cabs_of manager → IsRightCab image site manager k) → i < cibs_of manager → has_cab_for image site manager i ≡ true
unfolding has_cab_for
has-cab image site manager i shaped some right low =
    let s = shape-from site manager shaped in
    let at = cib-cab site manager s i some low in
    both-true _ _ (cib-place site manager s i) (both-true (is_cab_named manager (i / cab_cibs_of manager)) _ (cab-is-named site manager (i / cab_cibs_of manager) shaped at) (right (i / cab_cibs_of manager) at).sound)

-- those whose addresses the address blocks have are named
pub named_by_cabs : (image : List ℕ) (site : Site) (manager cibs : List ℕ) → is_shaped site manager ≡ true → 1 ≤ cabs_of manager → ((k : ℕ) → k < cabs_of manager → IsRightCab image site manager k) → cibs ≡ first_cibs image site manager (cibs_of manager) → AreNamed image site manager cibs
unfolding is_cib_named cib_blocks
named_by_cabs image site manager cibs shaped some right all =
    let cabs : (cabs_of manager == 0) ≡ false = some-of (cabs_of manager) 0 (omega arith) in
    record {
      cabs = right;
      named = λ i low. both-true (nat_lt i (cibs_of manager)) _ (from-below i (cibs_of manager) low)
          (if-false (cabs_of manager == 0) (has_address manager i) (has_cab_for image site manager i) cabs ∙ has-cab image site manager i shaped cabs right low);
      same = all;
    }

-- a chunk-info block of the list is named
pub cib-names : (image : List ℕ) (site : Site) (manager cibs : List ℕ) (i none : ℕ) → AreNamed image site manager cibs → i < cibs_of manager → NamesCib image site manager i (slice_index_or cibs i none)
unfolding cib_blocks
cib-names image site manager cibs i none all low =
    record {
      named = all.named i low;
      same = ap (λ xs. slice_index_or xs i none) all.same ∙ get_or-map-range_with_len (cib_block site.block_size image manager) 0 (cibs_of manager) i i none low (omega arith);
    }

pub direct_all : (manager cibs : List ℕ) (n : ℕ) → n ≡ cibs_of manager → cibs ≡ map (address_at manager) (range_with_len 0 n) → cibs ≡ map (address_at manager) (range_with_len 0 (cibs_of manager))
direct_all manager cibs n e f = f ∙ ap (λ m. map (address_at manager) (range_with_len 0 m)) e

pub direct_long : (manager cibs : List ℕ) (n : ℕ) → n ≡ cibs_of manager → cibs ≡ map (address_at manager) (range_with_len 0 n) → length cibs ≡ cibs_of manager
direct_long manager cibs n e f = ap length f ∙ (length-map-range_with_len (address_at manager) 0 n ∙ e)
