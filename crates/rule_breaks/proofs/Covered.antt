-- That a cover covers what its ranges cover.
use Rattle.std.proofs.Common.{◌≡◌, ℕ, List}
use Rattle.ext_ref.specs.Cover.{is_covered}
use Rattle.ext_ref.specs.Spans.{IsCoverOf, are_spanned}
use Rattle.ext_ref.specs.declared.range.NewRange.{NewRange}
use Rattle.ext_ref.specs.declared.covering.Span.{Span}
use Rattle.ext_ref.proofs.Spans.{cover-same}

pub covers_same : (ranges : List NewRange) (spans : List Span) (first n : ℕ) → IsCoverOf ranges spans → are_spanned spans first n ≡ is_covered ranges first n
covers_same ranges spans first n cover = cover-same ranges spans first n cover
