-- How far the blocks of ranges go on without a gap.
use Rattle.std.specs.Prelude.{◌≡◌, ℕ, ◌+◌, ◌≤◌, ◌<◌, ◌&&◌, nat_le, nat_lt, true, false, List, if◌then◌else◌}
use Rattle.ext_ref.specs.Cover.{is_owned}
use Rattle.ext_ref.specs.declared.range.NewRange.{NewRange}

-- the end of a range that doesn't begin after a block, where it is further on than another end
abbrev pub further : ℕ → ℕ → NewRange → ℕ
further block far r = if nat_le r.first block && nat_lt far (r.first + r.length) then r.first + r.length else far

-- the blocks from one on lie in ranges up to an end; where that is no further on, the block lies in none
pub record Reaches (ranges seen : List NewRange) (block far : ℕ) : Type 0 where
  pub onward : block ≤ far
  pub owned : (k : ℕ) → block ≤ k → k < far → is_owned ranges k ≡ true
  pub stuck : far ≡ block → is_owned seen block ≡ false
