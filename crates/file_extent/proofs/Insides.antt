-- Where the bytes of an extent lie in the source.
use Rattle.std.proofs.Common.{◌≡◌, ℕ, ◌+◌, ◌-◌, ◌*◌, ◌/◌, ◌%◌, ◌<◌, ◌≤◌, Bool, true, false, cond, ◌&&◌, nat_lt, nat_le, List, [], ◌∷◌, length, Some, inl, inr, refl, sym, subst, arith, ◌^◌}
use Rattle.std.proofs.lemmas.Bool.Decides.{nat_tests}
use Rattle.std.proofs.lemmas.Option.{none-some, same_Some}
use Rattle.apfs_model.specs.Lists.{In}
use Rattle.apfs_model.proofs.BoolTests.{right-true, other-true, upto-from, all-in}
use Rattle.obj_base.specs.BlockSize.{is_accepted}
use Rattle.obj_base.specs.Site.{IsSiteFor}
use Rattle.obj_base.specs.declared.site.Site.{Site}
use Rattle.fs_record.specs.StreamExtents.{extent_end, covers, is_hole, extent_blocks, is_extent_placed}
use Rattle.fs_record.specs.declared.extents.FileExt.{FileExt}
use Rattle.file_extent.specs.Streams.{extent_over, are_extents_placed}
use Rattle.file_extent.specs.Laid.{AreLaid, IsPart}

-- an extent that covers a byte is one of them, and covers it
record IsOver (es : List FileExt) (j : ℕ) (e : FileExt) : Type 0 where
  one : In e es
  over : covers e j ≡ true

over-if : (b : Bool) (x e : FileExt) (es : List FileExt) (j : ℕ) → covers x j ≡ b → cond b (Some x) (extent_over es j) ≡ Some e → (extent_over es j ≡ Some e → IsOver es j e) → IsOver (x ∷ es) j e
over-if true x e es j test at rest = let same : x ≡ e = same_Some x e at in record { one = inl (sym same); over = subst (λ (y : FileExt). covers y j ≡ true) same test }
over-if false x e es j test at rest = let r = rest at in record { one = inr r.one; over = r.over }

over-in : (es : List FileExt) (j : ℕ) (e : FileExt) → extent_over es j ≡ Some e → IsOver es j e
over-in [] j e at = absurd (none-some e at)
over-in (x ∷ es) j e at = over-if (covers x j) x e es j refl at (over-in es j e)

-- where the bytes of a part lie in their extent
pub record IsInside (es : List FileExt) (i n : ℕ) (e : FileExt) : Type 0 where
  pub one : In e es
  pub from : e.logical ≤ i
  pub to : i + n ≤ extent_end e

covers-from : (e : FileExt) (j : ℕ) → covers e j ≡ true → e.logical ≤ j
covers-from e j h = grind (arith, nat_tests)

covers-to : (e : FileExt) (j : ℕ) → covers e j ≡ true → j < extent_end e
covers-to e j h = grind (arith, nat_tests)

pub part-inside : (es : List FileExt) (i n : ℕ) (e : FileExt) → IsPart es i (Some e) n → IsInside es i n e
part-inside es i n e part =
    let some : 0 < n = part.some in
    let first : IsOver es i e = over-in es i e (part.same i (omega arith) (omega arith)) in
    let last : IsOver es ((i + n) - 1) e = over-in es ((i + n) - 1) e (part.same ((i + n) - 1) (omega arith) (omega arith)) in
    let end : (i + n) - 1 < extent_end e = covers-to e ((i + n) - 1) last.over in
    record { one = first.one; from = covers-from e i first.over; to = omega arith }

-- an accepted size is above 0
pub size-some : (size : ℕ) → is_accepted size ≡ true → 0 < size
size-some size e = grind (arith, nat_tests)

rounded : (size length : ℕ) → 0 < size → length ≤ size * ((length + (size - 1)) / size)
rounded size length some =
    let split : size * ((length + (size - 1)) / size) + (length + (size - 1)) % size ≡ length + (size - 1) = omega arith in
    let low : (length + (size - 1)) % size < size = omega arith in
    omega (arith, split, low)

times-le : (a b c : ℕ) → b ≤ c → a * b ≤ a * c
times-le a b c le = grind arith

times-plus : (a b c : ℕ) → a * (b + c) ≡ a * b + a * c
times-plus a b c = grind arith

-- the bytes of a part that lies in an extent lie in the source
pub bytes-inside : (site : Site) (es : List FileExt) (i n size : ℕ) (e : FileExt) → IsSiteFor site size → AreLaid site es → IsInside es i n e → is_hole e ≡ false → (site.block_size * e.block + (i - e.logical)) + n ≤ size
unfolding is_extent_placed are_extents_placed
bytes-inside site es i n size e for laid inside solid =
    let bs : ℕ = site.block_size in
    let some : 0 < bs = size-some bs for.accepted in
    let placed : is_extent_placed bs site.blocks e ≡ true = all-in (is_extent_placed bs site.blocks) es laid.placed e inside.one in
    let there : (nat_lt e.block (2 ^ 63) && nat_le (e.block + extent_blocks bs e) site.blocks) ≡ true = other-true (is_hole e) (nat_lt e.block (2 ^ 63) && nat_le (e.block + extent_blocks bs e) site.blocks) solid placed in
    let fits : e.block + extent_blocks bs e ≤ site.blocks = upto-from (e.block + extent_blocks bs e) site.blocks (right-true (nat_lt e.block (2 ^ 63)) (nat_le (e.block + extent_blocks bs e) site.blocks) there) in
    let whole : bs * (e.block + extent_blocks bs e) ≤ bs * site.blocks = times-le bs (e.block + extent_blocks bs e) site.blocks fits in
    let spread : bs * (e.block + extent_blocks bs e) ≡ bs * e.block + bs * extent_blocks bs e = times-plus bs e.block (extent_blocks bs e) in
    let long : e.length ≤ bs * extent_blocks bs e = rounded bs e.length some in
    let all : bs * site.blocks ≤ size = for.inside in
    let from : e.logical ≤ i = inside.from in
    let to : i + n ≤ e.logical + e.length = inside.to in
    omega (arith, whole, spread, long, all, from, to)

-- a run of bytes of an extent that has blocks, in a source of a size
pub record IsRunInside (site : Site) (e : FileExt) (i n size : ℕ) : Type 0 where
  pub from : e.logical ≤ i
  pub ends : (site.block_size * e.block + (i - e.logical)) + n ≤ size

pub run-inside : (site : Site) (es : List FileExt) (i n size : ℕ) (e : FileExt) → IsSiteFor site size → AreLaid site es → IsPart es i (Some e) n → is_hole e ≡ false → IsRunInside site e i n size
run-inside site es i n size e for laid part solid =
    let inside = part-inside es i n e part in
    record { from = inside.from; ends = bytes-inside site es i n size e for laid inside solid }
