-- What is known of a sound node, and facts of an answer that is Ok.
use Rattle.std.proofs.Common.{◌≡◌, ℕ, true, List, Some, Ok, Err, Result, sym, ap, ◌∙◌, arith}
use Rattle.std.specs.Prelude.{OnOk}
use Rattle.std.proofs.lemmas.Bool.Decides.{nat_tests}
use Rattle.obj_base.specs.Sound.{agrees}
use Rattle.obj_base.specs.declared.site.Site.{Site}
use Rattle.bt_node.specs.Shape.{Shape}
use Rattle.bt_node.specs.Node.{level_of}
use Rattle.bt_node.specs.Soundness.{has_level}
use Rattle.bt_node.specs.SoundNode.{IsNode}
use Rattle.bt_node.specs.declared.node.NodeAt.{NodeAt}
use Rattle.bt_node.proofs.Laws.{node_means}

level-at : (level n : ℕ) → agrees (Some level) n ≡ true → n ≡ level
level-at level n e = grind (arith, nat_tests)

-- the level of a sound node is the one that is expected
pub node-level : {K : Type 0} (shape : Shape K) (at : NodeAt) (site : Site) (node : List ℕ) (level : ℕ) → IsNode shape at site node → at.level ≡ Some level → level_of node ≡ level
node-level shape at site node level sound e =
    level-at level (level_of node) (sym (ap (λ o. has_level o node) e) ∙ (node_means shape at site node sound).level_right)

pub on-ok : {T E : Type 0} (P Q : Type 0) (r : Result T E) → (P → Q) → OnOk r P → OnOk r Q
on-ok P Q (Ok x) f h = f h
on-ok P Q (Err e) f h = tt

pub on-both : {T E : Type 0} (P Q R : Type 0) (r : Result T E) → (P → Q → R) → OnOk r P → OnOk r Q → OnOk r R
on-both P Q R (Ok x) f h k = f h k
on-both P Q R (Err e) f h k = tt
