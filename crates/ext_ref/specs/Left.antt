-- What is left of the blocks of ranges without those of others.
use Rattle.std.specs.Prelude.{◌≡◌, ℕ, ◌+◌, ◌-◌, ◌^◌, ◌≤◌, ◌<◌, ◌&&◌, not, pos, Bool, List, length, slice_index_or}
use Rattle.std.specs.List.{All}
use Rattle.fs_record.specs.StreamExtents.{extent_blocks}
use Rattle.fs_record.specs.declared.extents.FileExt.{FileExt}
use Rattle.ext_ref.specs.Spans.{is_spanned, AreApart, BeginBy}
use Rattle.ext_ref.specs.declared.range.NewRange.{NewRange}
use Rattle.ext_ref.specs.declared.covering.Span.{Span}

-- each span has a block
abbrev pub AreFull : List Span → Type 0
AreFull spans = All (λ (s : Span). s.first < s.end) spans

-- a span as a run: its first block, and how many blocks it has
abbrev pub run_of : Span → ℕ × ℕ
run_of s = (s.first, s.end - s.first)

-- a block lies in a span of the first spans and in none of the others
abbrev pub is_left : List Span → List Span → ℕ → Bool
is_left spans others block = is_spanned spans block && not (is_spanned others block)

-- of some spans, those before a place end by a block
abbrev pub EndBy : ℕ → ℕ → List Span → Type 0
EndBy block place spans = (k : ℕ) (none : Span) → k < place → k < length spans → (slice_index_or spans k none).end ≤ block

-- spans are apart and have a block each, and none begins after a block
pub record AreUpTo (block : ℕ) (spans : List Span) : Type 0 where
  pub apart : AreApart spans
  pub full : AreFull spans
  pub by : BeginBy block spans

-- where a span has a block, it ends by block 2^64 - 1
abbrev pub AreLow : List Span → Type 0
AreLow spans = All (λ (s : Span). s.first < s.end → s.end < 2 ^ 64) spans

-- spans are apart, have a block each, and have exactly the blocks that are left of spans without others
pub record AreLeft (cover others spans : List Span) : Type 0 where
  pub apart : AreApart spans
  pub full : AreFull spans
  pub blocks : (k : ℕ) → is_spanned spans k ≡ is_left cover others k

-- no range ends after block 2^64 - 1
abbrev pub AreShort : List NewRange → Type 0
AreShort ranges = All (λ (r : NewRange). r.first + r.length < 2 ^ 64) ranges

-- no extent does; the extent stands after its stream's id
abbrev pub AreShortExtents : ℕ → List (ℕ × FileExt) → Type 0
AreShortExtents block_size extents = All (λ (x : ℕ × FileExt). x.1.block + extent_blocks block_size x.1 < 2 ^ 64) extents

-- the blocks of an extent as a range
abbrev pub reach_of : ℕ → FileExt → NewRange
reach_of block_size e = record { first = e.block; length = extent_blocks block_size e; count = pos 0 }
