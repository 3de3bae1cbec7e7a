use Rattle.std.proofs.Common.{◌≡◌, ◌*◌, ◌+◌, ◌-◌, ◌≤◌, min, inl, inr, refl, ap, ◌∙◌, arith, length, ℕ, List, slice_range}
use Rattle.std.proofs.lemmas.Grind.{common_steps}
use Rattle.blk_cache.specs.Keeping.{IsCopy}
use Rattle.blk_cache.proofs.Ranges.{range-range, range_copies}
use Rattle.blk_cache.proofs.Keeps.{lost_grows, lost_cache, moved_cache, read_copy}
use Rattle.blk_cache.proofs.Puts.{put_kept, put_grows, put_cache}
use Rattle.blk_cache.proofs.part.fill.Goals as goal

long : (g : _) (c : goal.After-keep g) → length c.in_ok-bytes-in-Ok.bytes.items ≡ min c.args.store.now.size (g.S.BlockSource.bytes_len c.args.inner.now - c.args.store.now.size * c.args.block)
long g c = c.in_ok-bytes-in-Ok.ensures.long ∙ grind (arith, common_steps, c.in-Ok.ensures.items, c.min-len.ensures, c.size-end.ensures)

pub returns-in_ok-bytes-in-Ok-clause-found : goal.returns-in_ok-bytes-in-Ok-clause-found
returns-in_ok-bytes-in-Ok-clause-found g c = λ image told.
    let first = c.args.store.now.size * c.args.block in
    let all = c.in_ok-bytes-in-Ok.bytes.items in
    let within : c.args.from + length c.args.into.now ≤ length all = omega (arith, long g c, c.requires.inside, c.requires.within) in
    range_copies image c.copy_from_slice.new.self (first + c.args.from) (first + c.args.from) (length c.args.into.now)
    (c.copy_from_slice.ensures.after
    ∙ ap (λ (l : List ℕ). slice_range l c.args.from (c.args.from + length c.args.into.now)) (c.deref.ensures.value ∙ c.in_ok-bytes-in-Ok.ensures.found image told)
    ∙ range-range image first (length all) c.args.from (length c.args.into.now) within)
    refl c.copy_from_slice.ensures.len

copy : (g : _) (c : goal.After-keep g) → IsCopy g.S.BlockSource.bytes g.S.BlockSource.bytes_len c.args.inner.now c.args.store.now.size (c.args.block, c.in_ok-bytes-in-Ok.bytes)
copy g c = read_copy g.S.BlockSource.bytes g.S.BlockSource.bytes_len c.args.inner.now c.args.store.now.size c.args.block c.in_ok-bytes-in-Ok.bytes g.met.S.BlockSource.whole (omega (arith, c.requires.inside, c.requires.some)) (long g c) c.in_ok-bytes-in-Ok.ensures.found

pub returns-in_ok-bytes-in-Ok-clause-cache : goal.returns-in_ok-bytes-in-Ok-clause-cache
returns-in_ok-bytes-in-Ok-clause-cache g c =
    moved_cache g.S.BlockSource.bytes g.S.BlockSource.bytes_len g.S.BlockSource.faults c.args.inner.now c.fetch.new.inner c.keep.new.self
    (elim c.keep.ensures.kept [
      | inl put ↦ put_cache g.S.BlockSource.bytes g.S.BlockSource.bytes_len c.args.inner.now c.args.store.now c.keep.new.self c.args.block c.in_ok-bytes-in-Ok.bytes c.requires.cache c.requires.lacks (copy g c) (record { blocks = put.0; size = c.keep.ensures.size; lost = put.1 })
      | inr lost ↦ lost_cache g.S.BlockSource.bytes g.S.BlockSource.bytes_len c.args.inner.now c.args.store.now c.keep.new.self c.requires.cache lost.0 c.keep.ensures.size
    ])
    c.in_ok-bytes-in-Ok.ensures.kept

pub returns-in_ok-bytes-in-Ok-clause-grows : goal.returns-in_ok-bytes-in-Ok-clause-grows
returns-in_ok-bytes-in-Ok-clause-grows g c = elim c.keep.ensures.kept [
  | inl put ↦ put_grows g.S.BlockSource.bytes g.S.BlockSource.bytes_len c.args.inner.now c.args.store.now c.keep.new.self c.args.block c.in_ok-bytes-in-Ok.bytes c.requires.cache c.requires.lacks (record { blocks = put.0; size = c.keep.ensures.size; lost = put.1 })
  | inr lost ↦ lost_grows c.args.store.now c.keep.new.self lost.0 c.keep.ensures.size c.keep.ensures.later
]

pub returns-in_ok-bytes-in-Ok-clause-last : goal.returns-in_ok-bytes-in-Ok-clause-last
returns-in_ok-bytes-in-Ok-clause-last g c = elim c.keep.ensures.kept [
  | inl put ↦ inl (put_kept c.args.store.now c.keep.new.self c.args.block c.in_ok-bytes-in-Ok.bytes (record { blocks = put.0; size = c.keep.ensures.size; lost = put.1 }))
  | inr lost ↦ inr (omega (arith, lost.1))
]
