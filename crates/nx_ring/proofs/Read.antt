-- What was read of a candidate.
use Rattle.std.proofs.Common.{◌≡◌, ℕ, ◌+◌, ◌<◌, Bool, List, [], ◌∷◌, ◌++◌, length, map, filter, take, get_or, true, ap, ◌∙◌, nat_lt, arith}
use Rattle.std.proofs.lemmas.Grind.{common_steps}
use Rattle.std.proofs.lemmas.List.{take_more, map-append}
use Rattle.std.proofs.lemmas.List.Elements.{filter-append}
use Rattle.nx_ring.specs.declared.areas.Areas.{Areas}
use Rattle.nx_ring.specs.declared.line.RingLine.{RingLine}
use Rattle.nx_ring.specs.declared.mappings.Mapping.{Mapping}
use Rattle.nx_ring.specs.Candidates.{candidate, ring_block}
use Rattle.nx_ring.specs.Valid.{mappings_of, have_objects, is_valid}
use Rattle.nx_ring.specs.Objects.{Place, place_at}
use Rattle.nx_ring.specs.Checkpoint.{Seen}
use Rattle.nx_ring.specs.Newest.{seen_of, skipped_of}

-- one more candidate that may be skipped
pub skipped_more : (lines : List RingLine) (xid i : ℕ) (d : RingLine) → i < length lines → skipped_of (take (i + 1) lines) xid ≡ skipped_of (take i lines) xid ++ skipped_of (get_or lines i d ∷ []) xid
unfolding skipped_of
skipped_more lines xid i d low =
    let entry : RingLine → ℕ × ℕ = λ line. (line.index, line.xid) in
    let passed : RingLine → Bool = λ line. nat_lt xid line.xid in
    ap (λ (ls : List RingLine). map entry (filter passed ls)) (take_more lines i d low)
    ∙ (ap (map entry) (filter-append passed (take i lines) (get_or lines i d ∷ []))
    ∙ map-append entry (filter passed (take i lines)) (filter passed (get_or lines i d ∷ [])))

abbrev made_of : RingLine → List ℕ → List Place → List (ℕ × ℕ) → Seen
made_of line nx mapped skipped = record { line = line; nx = nx; mapped = mapped; skipped = skipped }

-- what was read of a candidate is its checkpoint
pub seen_is : (image : List ℕ) (areas : Areas) (index : ℕ) (line : RingLine) (nx : List ℕ) (mapped : List Place) (skipped : List (ℕ × ℕ)) → line.index ≡ index → nx ≡ ring_block image areas index → mapped ≡ map (place_at image areas) (mappings_of image areas line) → skipped ≡ [] → made_of line nx mapped skipped ≡ seen_of image areas [] line
unfolding seen_of
seen_is image areas index line nx mapped skipped e f g h = Prim.cc

-- where a candidate is valid, each of its mappings finds its object
pub objects_there : (image : List ℕ) (areas : Areas) (line : RingLine) (ms : List Mapping) → is_valid image areas line ≡ true → ms ≡ mappings_of image areas line → have_objects image areas line.xid ms ≡ true
unfolding is_valid
objects_there image areas line ms e f = ap (have_objects image areas line.xid) f ∙ Prim.grind (arith, common_steps, e)
