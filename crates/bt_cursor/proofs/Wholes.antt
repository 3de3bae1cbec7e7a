-- What the test of a tree means.
use Rattle.std.proofs.Common.{◌≡◌, ℕ, true, arith}
use Rattle.std.proofs.lemmas.Grind.{common_steps}
use Rattle.bt_cursor.specs.Tree.{Tree}
use Rattle.bt_cursor.specs.Whole.{is_whole}
use Rattle.bt_cursor.specs.WholeTree.{IsWhole}
use Rattle.bt_cursor.specs.Met.{is_walkable}
use Rattle.bt_cursor.specs.Line.{line_of}
use Rattle.bt_cursor.specs.Order.{is_ordered}
use Rattle.bt_cursor.specs.Counts.{is_counted}
use Rattle.std.specs.Prelude.{Bool, ◌&&◌}

first-of : (a b c : Bool) → (a && (b && c)) ≡ true → a ≡ true
first-of a b c e = grind (arith, common_steps)

second-of : (a b c : Bool) → (a && (b && c)) ≡ true → b ≡ true
second-of a b c e = grind (arith, common_steps)

third-of : (a b c : Bool) → (a && (b && c)) ≡ true → c ≡ true
third-of a b c e = grind (arith, common_steps)

pub whole_means : {K : Type 0} (tree : Tree K) (root : ℕ) → is_whole tree root ≡ true → IsWhole tree root
whole_means tree root e =
    let a = is_walkable tree root in
    let b = is_ordered tree.shape (line_of tree root) in
    let c = is_counted tree root in
    record { walkable = first-of a b c e; ordered = second-of a b c e; counted = third-of a b c e }

pub means_whole : {K : Type 0} (tree : Tree K) (root : ℕ) → IsWhole tree root → is_whole tree root ≡ true
means_whole tree root whole = rw whole.walkable (rw whole.ordered whole.counted)
