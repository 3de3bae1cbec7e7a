-- Places of chunks and of the blocks that tell of them, where the shape is right.
use Rattle.std.proofs.Common.{◌≡◌, ℕ, ◌+◌, ◌-◌, ◌*◌, ◌/◌, ◌%◌, ◌<◌, ◌≤◌, Bool, true, false, ◌&&◌, ◌||◌, ◌==◌, nat_lt, nat_le, List, length, refl, sym, subst, arith, if◌then◌else◌}
use Rattle.std.proofs.Math.Nat.{div-lt_iff_lt-mul, lt-div-mul-add, mod-lt}
use Rattle.apfs_model.specs.Blocks.{rounded_up}
use Rattle.obj_base.specs.declared.site.Site.{Site}
use Rattle.space_map.specs.Fields.{cib_chunks_of, cab_cibs_of, blocks_of, chunks_of, cibs_of, cabs_of, addresses_of}
use Rattle.space_map.specs.Geometry.{chunk_len, most_chunks, most_cibs, has_units, has_rooms, has_numbers, address_count, has_address, has_addresses, is_shaped, has_cib_place, has_chunk_place}
use Rattle.apfs_model.proofs.BoolTests.{left-true, right-true, both-true, other-true, from-below, upto-from, from-upto, equal-from}

-- a thing of so many stands in one of as many units as they need
pub below-rounded : (i n unit : ℕ) → 1 ≤ unit → i < n → i / unit < rounded_up n unit
below-rounded i n unit some low =
    let pos : 0 < unit = omega arith in
    let a : n + (unit - 1) < (n + (unit - 1)) / unit * unit + unit = lt-div-mul-add pos in
    let b : i < (n + (unit - 1)) / unit * unit = omega arith in
    (div-lt_iff_lt-mul pos).1 b

-- what a right shape says
pub record Shape (site : Site) (manager : List ℕ) : Type 0 where
  pub some_chunks : 1 ≤ cib_chunks_of manager
  pub few_chunks : cib_chunks_of manager ≤ most_chunks site.block_size
  pub some_cibs : 1 ≤ cab_cibs_of manager
  pub few_cibs : cab_cibs_of manager ≤ most_cibs site.block_size
  pub chunks : chunks_of manager ≡ rounded_up site.blocks (chunk_len site.block_size)
  pub cibs : cibs_of manager ≡ rounded_up (chunks_of manager) (cib_chunks_of manager)
  pub cabs : ((cabs_of manager == 0) || (cabs_of manager == rounded_up (cibs_of manager) (cab_cibs_of manager))) ≡ true
  pub addresses : has_addresses manager ≡ true

pub shape-from : (site : Site) (manager : List ℕ) → is_shaped site manager ≡ true → Shape site manager
unfolding is_shaped has_units has_rooms has_numbers
shape-from site manager e =
    let sizes = left-true (has_units site.block_size manager && has_rooms site.block_size manager) (has_numbers site manager && has_addresses manager) e in
    let back = right-true (has_units site.block_size manager && has_rooms site.block_size manager) (has_numbers site manager && has_addresses manager) e in
    let rooms = right-true (has_units site.block_size manager) (has_rooms site.block_size manager) sizes in
    let chunks = left-true (nat_le 1 (cib_chunks_of manager) && nat_le (cib_chunks_of manager) (most_chunks site.block_size)) (nat_le 1 (cab_cibs_of manager) && nat_le (cab_cibs_of manager) (most_cibs site.block_size)) rooms in
    let cibs = right-true (nat_le 1 (cib_chunks_of manager) && nat_le (cib_chunks_of manager) (most_chunks site.block_size)) (nat_le 1 (cab_cibs_of manager) && nat_le (cab_cibs_of manager) (most_cibs site.block_size)) rooms in
    let numbers = left-true (has_numbers site manager) (has_addresses manager) back in
    let first = left-true ((blocks_of manager == site.blocks) && (chunks_of manager == rounded_up site.blocks (chunk_len site.block_size))) _ numbers in
    let second = right-true ((blocks_of manager == site.blocks) && (chunks_of manager == rounded_up site.blocks (chunk_len site.block_size))) _ numbers in
    record {
      some_chunks = upto-from 1 (cib_chunks_of manager) (left-true (nat_le 1 (cib_chunks_of manager)) _ chunks);
      few_chunks = upto-from (cib_chunks_of manager) (most_chunks site.block_size) (right-true (nat_le 1 (cib_chunks_of manager)) _ chunks);
      some_cibs = upto-from 1 (cab_cibs_of manager) (left-true (nat_le 1 (cab_cibs_of manager)) _ cibs);
      few_cibs = upto-from (cab_cibs_of manager) (most_cibs site.block_size) (right-true (nat_le 1 (cab_cibs_of manager)) _ cibs);
      chunks = equal-from (chunks_of manager) _ (right-true (blocks_of manager == site.blocks) _ first);
      cibs = equal-from (cibs_of manager) _ (left-true (cibs_of manager == rounded_up (chunks_of manager) (cib_chunks_of manager)) _ second);
      cabs = right-true (cibs_of manager == rounded_up (chunks_of manager) (cib_chunks_of manager)) _ second;
      addresses = right-true (has_numbers site manager) (has_addresses manager) back;
    }

-- each address lies in the manager
pub address-inside : (site : Site) (manager : List ℕ) → Shape site manager → (i : ℕ) → i < address_count manager → has_address manager i ≡ true
unfolding has_address has_addresses
address-inside site manager s i low =
    let b : addresses_of manager + 8 * address_count manager ≤ length manager = upto-from (addresses_of manager + 8 * address_count manager) (length manager) s.addresses in
    both-true (nat_lt i (address_count manager)) _ (from-below i (address_count manager) low) (from-upto (addresses_of manager + 8 * i + 8) (length manager) (omega arith))

if-true : {X : Type 0} (b : Bool) (x y : X) → b ≡ true → (if b then x else y) ≡ x
if-true true x y e = refl
if-true false x y e = let z : false ≡ true = e in absurd (let q : ⊥ = cc in q)

if-false : {X : Type 0} (b : Bool) (x y : X) → b ≡ false → (if b then x else y) ≡ y
if-false true x y e = let z : true ≡ false = e in absurd (let q : ⊥ = cc in q)
if-false false x y e = refl

pub cab-address : (site : Site) (manager : List ℕ) → Shape site manager → (i : ℕ) → (cabs_of manager == 0) ≡ false → i < cabs_of manager → has_address manager i ≡ true
cab-address site manager s i some low = address-inside site manager s i (subst (λ n. i < n) (sym (if-false (cabs_of manager == 0) (cibs_of manager) (cabs_of manager) some)) low)

pub cib-address : (site : Site) (manager : List ℕ) → Shape site manager → (i : ℕ) → (cabs_of manager == 0) ≡ true → i < cibs_of manager → has_address manager i ≡ true
cib-address site manager s i none low = address-inside site manager s i (subst (λ n. i < n) (sym (if-true (cabs_of manager == 0) (cibs_of manager) (cabs_of manager) none)) low)

-- a chunk-info block has a place in a chunk-info address block that is there
pub cib-place : (site : Site) (manager : List ℕ) → Shape site manager → (i : ℕ) → has_cib_place site.block_size manager i ≡ true
unfolding has_cib_place
cib-place site manager s i =
    let pos : 0 < cab_cibs_of manager = let k = s.some_cibs in omega arith in
    let m : i % cab_cibs_of manager < cab_cibs_of manager = mod-lt i pos in
    let few = s.few_cibs in
    both-true (nat_lt (i % cab_cibs_of manager) (cab_cibs_of manager)) _ (from-below (i % cab_cibs_of manager) (cab_cibs_of manager) m) (from-below (i % cab_cibs_of manager) (most_cibs site.block_size) (omega arith))

pub cib-cab : (site : Site) (manager : List ℕ) → Shape site manager → (i : ℕ) → (cabs_of manager == 0) ≡ false → i < cibs_of manager → i / cab_cibs_of manager < cabs_of manager
cib-cab site manager s i some low =
    let e = equal-from (cabs_of manager) (rounded_up (cibs_of manager) (cab_cibs_of manager)) (other-true (cabs_of manager == 0) _ some s.cabs) in
    subst (λ n. i / cab_cibs_of manager < n) (sym e) (below-rounded i (cibs_of manager) (cab_cibs_of manager) s.some_cibs low)

-- a chunk has a place in a chunk-info block that is there
pub chunk-place : (site : Site) (manager : List ℕ) → Shape site manager → (k : ℕ) → has_chunk_place site.block_size manager k ≡ true
unfolding has_chunk_place
chunk-place site manager s k =
    let pos : 0 < cib_chunks_of manager = let j = s.some_chunks in omega arith in
    let m : k % cib_chunks_of manager < cib_chunks_of manager = mod-lt k pos in
    let few = s.few_chunks in
    both-true (nat_lt (k % cib_chunks_of manager) (cib_chunks_of manager)) _ (from-below (k % cib_chunks_of manager) (cib_chunks_of manager) m) (from-below (k % cib_chunks_of manager) (most_chunks site.block_size) (omega arith))

pub chunk-cib : (site : Site) (manager : List ℕ) → Shape site manager → (k : ℕ) → k < chunks_of manager → k / cib_chunks_of manager < cibs_of manager
chunk-cib site manager s k low = subst (λ n. k / cib_chunks_of manager < n) (sym s.cibs) (below-rounded k (chunks_of manager) (cib_chunks_of manager) s.some_chunks low)

-- a block has its place in a chunk that is there
pub block-chunk : (site : Site) (manager : List ℕ) → Shape site manager → (block : ℕ) → 1 ≤ site.block_size → block < site.blocks → block / chunk_len site.block_size < chunks_of manager
block-chunk site manager s block some low = subst (λ n. block / chunk_len site.block_size < n) (sym s.chunks) (below-rounded block site.blocks (chunk_len site.block_size) (omega arith) low)
