-- What is known of a sound node.
use Rattle.std.specs.Prelude.{Err, Ok, Result}
use Rattle.std.proofs.Common.{◌≡◌, ℕ, ◌*◌, ◌≤◌, ◌<◌, true, false, Bool, cond, List, length, Some, arith, ap, sym, ◌∙◌}
use Rattle.std.proofs.lemmas.Bool.Decides.{nat_tests}
use Rattle.std.proofs.lemmas.Grind.{common_steps}
use Rattle.obj_base.specs.BlockSize.{is_accepted}
use Rattle.obj_base.specs.Stops.{Tells}
use Rattle.obj_base.specs.declared.header.Header.{Header}
use Rattle.obj_base.specs.declared.header.HeadFault.{HeadFault}
use Rattle.obj_base.specs.declared.stop.Bad.{Bad}
use Rattle.obj_base.specs.declared.stop.Stop.{Stop}
use Rattle.obj_base.specs.declared.stop.Stop.TheVariants.{Found, Unsupported, ReadFault, NoMemory}
use Rattle.obj_base.specs.Sound.{agrees, sound_of}
use Rattle.bt_node.specs.Shape.{Shape}
use Rattle.bt_node.specs.Node.{level_of, count_of, is_fixed, is_root, end_of, keys_begin, table_length_of}
use Rattle.bt_node.specs.Entries.{Pair}
use Rattle.bt_node.specs.Soundness.{node_of, node_expect, with_header, after_head, has_level}
use Rattle.bt_node.specs.SoundNode.{IsNode}
use Rattle.bt_node.specs.declared.node.NodeAt.{NodeAt}
use Rattle.obj_base.specs.declared.site.Site.{Site}
use Rattle.bt_node.proofs.Laws.{node_means}
use Rattle.bt_cursor.specs.Tree.{Tree, child_place}
use Rattle.bt_cursor.specs.Met.{IsMet}
use Rattle.bt_cursor.specs.Faults.{IsNodeFault, HasFeature}
use Rattle.bt_cursor.specs.WholeTree.{IsOfNodes}
use Rattle.bt_cursor.specs.Stack.{IsStep}
use Rattle.bt_cursor.specs.declared.fault.WalkFault.{WalkFault}
use Rattle.bt_cursor.specs.declared.fault.WalkFault.TheVariants.{Unsound, Unnamed, Order, Counts}
use Rattle.bt_cursor.specs.declared.way.Step.{Step}

-- a node that passes the tests is the one that was tested
after-same : {K : Type 0} (shape : Shape K) (at : NodeAt) (site : Site) (node other : List ℕ) → after_head shape at site node ≡ Ok other → other ≡ node
unfolding after_head
after-same shape at site node other e = grind (arith, common_steps)

with-same : {K : Type 0} (shape : Shape K) (at : NodeAt) (site : Site) (node other : List ℕ) (r : Result Header (Bad HeadFault)) → with_header shape at site node r ≡ Ok other → other ≡ node
with-same shape at site node other (Ok h) e = after-same shape at site node other e
with-same shape at site node other (Err bad) e = absurd (cc)

pub node_same : {K : Type 0} (shape : Shape K) (at : NodeAt) (site : Site) (node other : List ℕ) → node_of shape at site node ≡ Ok other → other ≡ node
unfolding node_of
node_same shape at site node other e = with-same shape at site node other (sound_of node (node_expect shape at site)) e

times-few : (b : Bool) (n m : ℕ) → n * cond b 4 8 ≤ m → n ≤ m
times-few true n m e = omega (arith, e)
times-few false n m e = omega (arith, e)

ends-inside : (node : List ℕ) → end_of node ≤ length node
unfolding end_of
ends-inside node = grind (arith, common_steps)

keys-after : (node : List ℕ) → table_length_of node ≤ keys_begin node
unfolding keys_begin
keys-after node = omega arith

-- a node has no more entries than bytes
node_few : {K : Type 0} (shape : Shape K) (at : NodeAt) (site : Site) (node : List ℕ) → IsNode shape at site node → count_of node ≤ length node
node_few shape at site node sound =
    let table = (node_means shape at site node sound).table in
    omega (arith, times-few (is_fixed node) (count_of node) (table_length_of node) table.holds, keys-after node, table.ends, ends-inside node)

pub accepted_size : (size : ℕ) → is_accepted size ≡ true → (96 ≤ size) × (size ≤ 65536)
accepted_size size e =
    let low : 96 ≤ size = grind (arith, nat_tests) in
    let high : size ≤ 65536 = grind (arith, nat_tests) in
    (low, high)

-- the entries of a step's node are few
pub step_few : {K : Type 0} (shape : Shape K) (site : Site) (step : Step) → IsStep shape site step → count_of step.block.items ≤ 65536
step_few shape site step sound = omega (arith, node_few shape step.at site step.block.items sound.node, sound.long, (accepted_size site.block_size sound.accepted).1)

-- the level of a child's node is the one expected
level-at : (level n : ℕ) → agrees (Some level) n ≡ true → n ≡ level
level-at level n e = grind (arith, nat_tests)

pub node-child : {K : Type 0} (shape : Shape K) (site : Site) (at : NodeAt) (node : List ℕ) (level : ℕ) (pair : Pair) → IsNode shape at site node → at ≡ child_place level pair → level_of node ≡ level
node-child shape site at node level pair sound place =
    level-at level (level_of node) (sym (ap (λ (a : NodeAt). has_level a.level node) place) ∙ (node_means shape at site node sound).level_right)

-- another node than a root has an entry
pub node-some : {K : Type 0} (shape : Shape K) (site : Site) (at : NodeAt) (node : List ℕ) → IsNode shape at site node → at.root ≡ false → 0 < count_of node
node-some shape site at node sound child =
    let filled = (node_means shape at site node sound).filled in
    grind (arith, nat_tests, common_steps, filled)

-- a stop that tells of a place that is met
pub gap_fault : {K : Type 0} (tree : Tree K) (root : ℕ) (at : NodeAt) (stop : Stop WalkFault) → IsMet tree root at → IsOfNodes stop → Tells (λ f. tree.look at ≡ Err (Found f)) (λ name block. tree.look at ≡ Err (Unsupported name block)) stop → Tells (IsNodeFault tree root) (HasFeature tree root) stop
gap_fault tree root at (Found (Unsound block why)) met of told = record { at = at; met = met; gap = told }
gap_fault tree root at (Found (Unnamed oid)) met of told = record { at = at; met = met; gap = told }
gap_fault tree root at (Found (Order item)) met of told = of
gap_fault tree root at (Found Counts) met of told = of
gap_fault tree root at (Unsupported feature block) met of told = record { at = at; met = met; gap = told }
gap_fault tree root at ReadFault met of told = tt
gap_fault tree root at NoMemory met of told = tt

-- a root tells of its tree
pub root_told : {K : Type 0} (shape : Shape K) (site : Site) (step : Step) → IsStep shape site step → step.at.root ≡ true → is_root step.block.items ≡ true
root_told shape site step sound root = (node_means shape step.at site step.block.items sound.node).root_right ∙ root
