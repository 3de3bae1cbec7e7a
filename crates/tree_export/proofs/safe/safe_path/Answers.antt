-- A path that is written as it is, or one that was made of its components.
use Rattle.std.proofs.Common.{◌≡◌, ℕ, List, sym, subst}
use Rattle.std.specs.Prelude.{string_bytes}
use Rattle.tree_export.specs.Safe.{IsSafe, safe_path}
use Rattle.tree_export.proofs.Safes.{ok_as, ok_has, path_safe}
use Rattle.tree_export.proofs.safe.safe_path.Goals as goal

pub returns-then-is_plain : goal.returns-then-is_plain
returns-then-is_plain c =
    let P : List ℕ → Type 0 = λ text. safe_path text ≡ text in
    let same : safe_path c.args.path.now ≡ c.args.path.now = subst P c.as_bytes.ensures.value (c.is_plain.ensures c.if-is_plain.true) in
    let written = ok_as string_bytes c.from_str.result c.args.path.now (safe_path c.args.path.now) (sym same) c.from_str.ensures.ok in
    record { written = written; safe = ok_has string_bytes IsSafe c.from_str.result (safe_path c.args.path.now) (path_safe c.args.path.now) written }

pub returns : goal.returns
returns c = record { written = c.written.ensures; safe = ok_has string_bytes IsSafe c.written.result (safe_path c.args.path.now) (path_safe c.args.path.now) c.written.ensures }
