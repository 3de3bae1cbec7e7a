use Rattle.std.proofs.Common.{◌≡◌, ◌∙◌, ◌==◌, ℕ, List, map, ap, Bor}
use Rattle.std.specs.Prelude.{codes, string_bytes}
use Rattle.std.specs.List.{flat_map, join_by, slice_split}
use Rattle.tree_export.specs.Safe.{safe_byte}
use Rattle.tree_export.proofs.Safes.{join_map, zeros_joined, ok_as}
use Rattle.tree_export.proofs.safe.without_zeros.Goals as goal

pub returns : goal.returns
returns c =
    let now : Bor (List ℕ) → List ℕ = λ p. p.now in
    let pieces : map now c.deref.result.now ≡ slice_split (λ (byte : ℕ). byte == 0) c.args.text.now = ap (map now) c.deref.ensures.value ∙ c.in_ok-pieces.ensures in
    ok_as string_bytes c.join.result (join_by now (codes "\\x00") c.deref.result.now) (flat_map safe_byte c.args.text.now)
    (join_map now (codes "\\x00") c.deref.result.now ∙ (ap (join_by (λ (p : List ℕ). p) (codes "\\x00")) pieces ∙ zeros_joined c.args.text.now)) c.join.ensures.ok
