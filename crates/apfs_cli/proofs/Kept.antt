-- The size of the blocks that are kept, by the first bytes of an image.
use Rattle.std.proofs.Common.{◌≡◌, ℕ, ◌+◌, ◌≤◌, List, length, false, nat_lt, ap, ◌∙◌, arith}
use Rattle.std.specs.Prelude.{slice_range, unwrap_or}
use Rattle.nx_block.specs.Read.{size_of}
use Rattle.apfs_cli.specs.Cache.{kept_size}

pub kept_size_at : (image first : List ℕ) (size : ℕ) → 4096 ≤ length image → length first ≡ 4096 → first ≡ slice_range image 0 (0 + length first) →
    size ≡ unwrap_or (size_of first) 4096 → size ≡ kept_size image
kept_size_at image first size long len copy is =
    let low : nat_lt (length image) 4096 ≡ false = grind (arith, long) in
    let end : 0 + length first ≡ 4096 = omega (arith, len) in
    let same : first ≡ slice_range image 0 4096 = copy ∙ ap (λ n. slice_range image 0 n) end in
    rw (low, ← same) is
