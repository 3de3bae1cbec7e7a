-- Spans: ranges of blocks by their ends, joined and in order, so that a block is found by a search.
use Rattle.std.specs.Prelude.{◌≡◌, ℕ, ◌+◌, ◌≤◌, ◌<◌, ◌&&◌, nat_le, nat_lt, max, Bool, List, Option, None, Some, if◌then◌else◌}
use Rattle.std.specs.List.{list_any, list_all, range_with_len, All, AllPairs}
use Rattle.ext_ref.specs.Cover.{is_owned}
use Rattle.ext_ref.specs.declared.range.NewRange.{NewRange}
use Rattle.ext_ref.specs.declared.covering.Span.{Span}

-- the span of a range
abbrev pub span_of : NewRange → Span
span_of r = record { first = r.first; end = r.first + r.length }

-- a span has a block
abbrev pub span_has : ℕ → Span → Bool
span_has block s = nat_le s.first block && nat_lt block s.end

-- a block lies in some span
abbrev pub is_spanned : List Span → ℕ → Bool
is_spanned spans block = list_any (span_has block) spans

-- where a span that doesn't begin before another meets it, both as one
abbrev pub joined_spans : Span → Span → Option Span
joined_spans last span = if nat_le span.first last.end then Some (record { first = last.first; end = max last.end span.end }) else None

-- no span ends before it begins
abbrev pub AreProper : List Span → Type 0
AreProper spans = All (λ (s : Span). s.first ≤ s.end) spans

-- each span ends before all later ones begin
pub record AreApart (spans : List Span) : Type 0 where
  pub proper : AreProper spans
  pub apart : AllPairs (λ (s t : Span). s.end < t.first) spans

-- no span begins after a block
abbrev pub BeginBy : ℕ → List Span → Type 0
BeginBy block spans = All (λ (s : Span). s.first ≤ block) spans

-- spans have the blocks of ranges
abbrev pub IsCoverOf : List NewRange → List Span → Type 0
IsCoverOf ranges spans = (block : ℕ) → is_spanned spans block ≡ is_owned ranges block

-- each block of a range, by its first block and its length, lies in some span
abbrev pub are_spanned : List Span → ℕ → ℕ → Bool
are_spanned spans first length = list_all (is_spanned spans) (range_with_len first length)
