use Rattle.std.proofs.Common.{◌≡◌, ◌∙◌, ℕ, List, [], ◌∷◌, map, ap, Bor}
use Rattle.std.specs.Prelude.{string_bytes}
use Rattle.std.specs.List.{flat_map, join_by}
use Rattle.path_search.specs.Paths.{slash, parts_of}
use Rattle.tree_export.specs.Safe.{safe_byte, safe_part, safe_path}
use Rattle.tree_export.proofs.Safes.{joined_as, mapped_by, ok_as}
use Rattle.tree_export.proofs.safe.written.Goals as goal

pub returns : goal.returns
unfolding safe_path
returns c =
    let now : Bor (List ℕ) → List ℕ = λ p. p.now in
    let parts : List (List ℕ) = parts_of (flat_map safe_byte c.args.path.now) in
    let same : map now c.deref-3.result.now ≡ map safe_part parts =
    ap (map now) c.deref-3.ensures.value
    ∙ (c.in_ok-safe.ensures ∙ mapped_by now safe_part c.deref-2.result.now parts (ap (map now) c.deref-2.ensures.value ∙ (c.in_ok-parts.ensures ∙ ap parts_of (c.deref.ensures ∙ c.in_ok-path.ensures)))) in
    ok_as string_bytes c.join.result (join_by now (slash ∷ []) c.deref-3.result.now) (join_by safe_part (slash ∷ []) parts) (joined_as now safe_part (slash ∷ []) c.deref-3.result.now parts same) c.join.ensures.ok
