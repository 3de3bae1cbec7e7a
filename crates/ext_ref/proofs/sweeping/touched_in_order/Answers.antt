use Rattle.std.proofs.Common.{◌≡◌, ◌∙◌, ◌<◌, ℕ, List, length, get_or, map, sym, subst}
use Rattle.std.specs.Prelude.{filter, count_by}
use Rattle.std.specs.List.{list_any}
use Rattle.std.proofs.lemmas.Result.{IfOk-weaker}
use Rattle.apfs_model.specs.Apart.{Apart}
use Rattle.fs_record.specs.declared.extents.FileExt.{FileExt}
use Rattle.ext_ref.specs.Same.{HaveSame}
use Rattle.ext_ref.specs.Spans.{span_has}
use Rattle.ext_ref.specs.Sweep.{meets, is_of, streams_at}
use Rattle.ext_ref.specs.declared.covering.Span.{Span}
use Rattle.ext_ref.proofs.Sweeps.{streams-counted}
use Rattle.ext_ref.proofs.sweeping.touched_in_order.Goals as goal

pub returns-clause-counts : goal.returns-clause-counts
returns-clause-counts c all moves =
    let size : ℕ = c.args.block_size in
    let spans : List Span = c.args.spans.now in
    let extents : List (ℕ × FileExt) = c.args.extents.now in
    let ids : List ℕ = c.deref.result.now in
    let same : HaveSame (map (λ (x : ℕ × FileExt). x.0) extents) ids = subst (λ (ns : List ℕ). HaveSame (map (λ (x : ℕ × FileExt). x.0) extents) ns) (sym c.deref.ensures.value) c.in_ok-ids.ensures.same in
    let apart : Apart ids = subst (λ (ns : List ℕ). Apart ns) (sym c.deref.ensures.value) c.in_ok-ids.ensures.apart in
    IfOk-weaker c.touched_by.result
    (λ out. (i : ℕ) (none : Span) → i < length spans → count_by (span_has i) out.items ≡ count_by (λ (id : ℕ). list_any (meets size (get_or spans i none)) (filter (is_of id) extents)) ids)
    (λ out. (i : ℕ) (none : Span) → i < length spans → count_by (span_has i) out.items ≡ streams_at size all (get_or spans i none))
    (λ out each i none low. each i none low ∙ streams-counted size all extents ids (get_or spans i none) moves same apart)
    c.touched_by.ensures.counts
