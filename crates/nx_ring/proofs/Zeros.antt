-- Reading block 0.
use Rattle.std.proofs.Common.{◌≡◌, ℕ, ◌≤◌, true, false, List, length, Some, None, Ok, Err, Result, nat_lt, IfOk, IfErr, ap, sym, ◌∙◌, arith}
use Rattle.std.specs.Prelude.{◌==◌}
use Rattle.std.proofs.lemmas.Grind.{common_steps}
use Rattle.apfs_model.specs.Blocks.{block_of}
use Rattle.obj_base.specs.declared.stop.Stop.{Stop}
use Rattle.obj_base.specs.declared.stop.Stop.TheVariants.{Found, Unsupported, ReadFault, NoMemory}
use Rattle.obj_base.specs.Stops.{Gives, IsFree}
use Rattle.obj_base.specs.BlockSize.{is_accepted}
use Rattle.nx_block.specs.Super.{block_size_of}
use Rattle.nx_block.specs.Read.{size_of}
use Rattle.nx_block.proofs.Laws.{size_means}
use Rattle.nx_ring.specs.declared.fault.RingFault.{RingFault}
use Rattle.nx_ring.specs.declared.fault.RingFault.TheVariants.{BlockZero}
use Rattle.nx_ring.specs.Zero.{first_of, size_in, zero_of, has_zero}
use Rattle.nx_ring.specs.Reading.{zero_in, zero_reads}

-- block 0 takes one read or more
pub one_read : (image : List ℕ) → 1 ≤ zero_reads image
unfolding zero_reads
one_read image = Prim.grind (arith, common_steps)

-- the block size that an image gives is the one that was read
size_is : (image first : List ℕ) (size : ℕ) → first ≡ first_of image → Some size ≡ size_of first → size_in image ≡ size
unfolding size_in
size_is image first size e f = ap block_size_of (sym e) ∙ sym (size_means first size (sym f)).0

-- a larger block 0 takes two
pub two_reads : (image first : List ℕ) (size : ℕ) → first ≡ first_of image → Some size ≡ size_of first → (size == 4096) ≡ false → zero_reads image ≡ 2
unfolding zero_reads
two_reads image first size e f other = let is = size_is image first size e f in Prim.grind (arith, common_steps, is, other)

has_it : (image : List ℕ) (size : ℕ) → size_in image ≡ size → Some size ≡ size_of (first_of image) → nat_lt (length image) 4096 ≡ false → nat_lt (length image) size ≡ false → has_zero image ≡ true
unfolding has_zero
has_it image size e f long wide = Prim.grind (arith, common_steps, e, f, long, wide)

-- block 0 is there, where an image has its first bytes and as many as they tell of
pub zero_there : (image first : List ℕ) (size : ℕ) → first ≡ first_of image → Some size ≡ size_of first → nat_lt (length image) 4096 ≡ false → nat_lt (length image) size ≡ false → zero_in image ≡ Ok (block_of size image 0)
unfolding zero_in zero_of
zero_there image first size e f long wide =
    let is = size_is image first size e f in
    let has = has_it image size is (f ∙ ap size_of e) long wide in
    Prim.grind (arith, common_steps, is, has)

-- block 0 is the first bytes, where they tell of no more
pub zero_first : (image first : List ℕ) (size : ℕ) → first ≡ first_of image → Some size ≡ size_of first → nat_lt (length image) 4096 ≡ false → size ≡ 4096 → zero_in image ≡ Ok first
zero_first image first size e f long same =
    let wide : nat_lt (length image) size ≡ false = ap (nat_lt (length image)) same ∙ long in
    zero_there image first size e f long wide ∙ ap Ok (ap (λ n. block_of n image 0) same ∙ sym e)

-- block 0 isn't there, where an image is shorter than its first bytes tell
pub zero_cut : (image first : List ℕ) (size : ℕ) → first ≡ first_of image → Some size ≡ size_of first → nat_lt (length image) size ≡ true → zero_in image ≡ Err (Found BlockZero)
unfolding zero_in has_zero
zero_cut image first size e f cut = let is = size_is image first size e f in Prim.grind (arith, common_steps, is, cut)

-- block 0 isn't there, where an image has fewer than its first bytes
pub zero_short : (image : List ℕ) → nat_lt (length image) 4096 ≡ true → zero_in image ≡ Err (Found BlockZero)
unfolding zero_in has_zero
zero_short image short = Prim.grind (arith, common_steps, short)

-- block 0 isn't there, where the first bytes tell of no size
pub zero_unsized : (image first : List ℕ) → first ≡ first_of image → None ≡ size_of first → zero_in image ≡ Err (Found BlockZero)
unfolding zero_in has_zero
zero_unsized image first e f = let none = f ∙ ap size_of e in Prim.grind (arith, common_steps, none)

bounds : (n : ℕ) → is_accepted n ≡ true → (1 ≤ n) × (n ≤ 65536)
bounds n e = (Prim.grind (arith, common_steps, e), Prim.grind (arith, common_steps, e))

-- a block size that was read is accepted, and that of a block that can be read
pub size_bounds : (bytes : List ℕ) (size : ℕ) → Some size ≡ size_of bytes → (is_accepted size ≡ true) × (1 ≤ size) × (size ≤ 65536)
size_bounds bytes size e =
    let accepted = (size_means bytes size (sym e)).1 in
    let both = bounds size accepted in
    (accepted, both.0, both.1)

-- an answer is given by a result that is its value or free
pub given : {T U : Type 0} (view : T → U) (value : U) (answer : Result U (Stop RingFault)) (result : Result T (Stop RingFault)) → answer ≡ Ok value → IfOk result (λ x. view x ≡ value) → IfErr result IsFree → Gives view result answer
given view value answer (Ok x) e f g = e ∙ ap Ok (sym f)
given view value answer (Err NoMemory) e f g = tt
given view value answer (Err ReadFault) e f g = tt
given view value answer (Err (Found fault)) e f g = absurd g
given view value answer (Err (Unsupported name block)) e f g = absurd g
