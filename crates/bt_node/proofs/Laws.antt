-- What the tests of a node mean.
use Rattle.std.specs.Prelude.{◌≡◌, ℕ, ◌+◌, ◌≤◌, ◌<◌, Bool, true, false, not, ◌&&◌, ◌==◌, nat_lt, List, length, Result, Ok, Err, is_ok}
use Rattle.std.proofs.Common.{arith, sym, ◌∙◌, refl, inl, inr}
use Rattle.std.proofs.lemmas.Bool.{cases_Bool}
use Rattle.std.proofs.lemmas.Bool.Decides.{nat_tests}
use Rattle.std.proofs.lemmas.Grind.{common_steps}
use Rattle.obj_base.specs.declared.header.Header.{Header}
use Rattle.obj_base.specs.declared.header.HeadFault.{HeadFault}
use Rattle.obj_base.specs.declared.stop.Bad.{Bad}
use Rattle.obj_base.specs.Sound.{sound_of}
use Rattle.obj_base.proofs.SoundLemmas.{sound_means, means_sound}
use Rattle.obj_base.specs.declared.site.Site.{Site}
use Rattle.bt_node.specs.declared.node.NodeAt.{NodeAt}
use Rattle.bt_node.specs.Shape.{Shape}
use Rattle.bt_node.specs.Node.{level_of, count_of, is_root, is_leaf, is_hashed, lacks_header, end_of, keys_begin, node_size_of}
use Rattle.bt_node.specs.Entries.{place_of, is_ghost}
use Rattle.bt_node.specs.Soundness.{node_expect, is_alike, has_layout, has_level, has_right_flags, is_empty, is_key_inside, is_value_inside, is_table_inside, is_entry_inside, is_bounded, has_value, has_values, has_key, has_keys, each_entry, with_header, after_head, node_of}
use Rattle.bt_node.specs.SoundNode.{IsEntry, IsTable, IsSoundNode}
use Rattle.bt_node.specs.View.{IsLegible}
use Rattle.bt_node.proofs.Ranges.{one_passes, all_pass}
use Rattle.bt_node.proofs.Places.{table_holds, table_ends, bounded_table, bounded_entry, key_ends}

-- the header's test is passed
with_header-ok : {K : Type 0} (shape : Shape K) (at : NodeAt) (site : Site) (node : List ℕ) (r : Result Header (Bad HeadFault)) → with_header shape at site node r ≡ Ok node → is_ok r ≡ true
with_header-ok shape at site node (Ok h) e = refl
with_header-ok shape at site node (Err bad) e = Prim.cc

-- and so are those that follow
with_header-after : {K : Type 0} (shape : Shape K) (at : NodeAt) (site : Site) (node : List ℕ) (r : Result Header (Bad HeadFault)) → with_header shape at site node r ≡ Ok node → after_head shape at site node ≡ Ok node
with_header-after shape at site node (Ok h) e = e
with_header-after shape at site node (Err bad) e = absurd (Prim.cc)

after-with_header : {K : Type 0} (shape : Shape K) (at : NodeAt) (site : Site) (node : List ℕ) (r : Result Header (Bad HeadFault)) → is_ok r ≡ true → with_header shape at site node r ≡ after_head shape at site node
after-with_header shape at site node (Ok h) e = refl
after-with_header shape at site node (Err bad) e = absurd (Prim.cc)

-- the answers of the tests of a node that passes them
record Passed {K : Type 0} (shape : Shape K) (at : NodeAt) (site : Site) (node : List ℕ) : Type 0 where
  unsealed : is_hashed node ≡ false
  headed : lacks_header node ≡ false
  flagged : has_right_flags shape.layout at node ≡ true
  shallow : (at.root && nat_lt 15 (level_of node)) ≡ false
  levelled : has_level at.level node ≡ true
  sized : (at.root && not (node_size_of node == site.block_size)) ≡ false
  filled : is_empty node ≡ false
  bounded : is_bounded shape node ≡ true
  valued : has_values shape node ≡ true
  keyed : has_keys shape node ≡ true

after_head-passed : {K : Type 0} (shape : Shape K) (at : NodeAt) (site : Site) (node : List ℕ) → after_head shape at site node ≡ Ok node → Passed shape at site node
unfolding after_head
after_head-passed shape at site node e = record {
  unsealed = Prim.grind (arith, common_steps);
  headed = Prim.grind (arith, common_steps);
  flagged = Prim.grind (arith, common_steps);
  shallow = Prim.grind (arith, common_steps);
  levelled = Prim.grind (arith, common_steps);
  sized = Prim.grind (arith, common_steps);
  filled = Prim.grind (arith, common_steps);
  bounded = Prim.grind (arith, common_steps);
  valued = Prim.grind (arith, common_steps);
  keyed = Prim.grind (arith, common_steps);
}

passed-after_head : {K : Type 0} (shape : Shape K) (at : NodeAt) (site : Site) (node : List ℕ) → Passed shape at site node → after_head shape at site node ≡ Ok node
unfolding after_head
passed-after_head shape at site node p = Prim.grind (arith, common_steps, p.unsealed, p.headed, p.flagged, p.shallow, p.levelled, p.sized, p.filled, p.bounded, p.valued, p.keyed)

alike-same : (a b : Bool) → is_alike a b ≡ true → b ≡ a
alike-same true b e = e
alike-same false true e = absurd (Prim.cc)
alike-same false false e = refl

same-alike : (a b : Bool) → b ≡ a → is_alike a b ≡ true
same-alike true b e = e
same-alike false true e = absurd (Prim.cc)
same-alike false false e = refl

-- what the flags' test says
flags-root : {K : Type 0} (shape : Shape K) (at : NodeAt) (node : List ℕ) → has_right_flags shape.layout at node ≡ true → is_root node ≡ at.root
unfolding has_right_flags
flags-root shape at node e = alike-same at.root (is_root node) (Prim.grind (arith, common_steps))

flags-leaf : {K : Type 0} (shape : Shape K) (at : NodeAt) (node : List ℕ) → has_right_flags shape.layout at node ≡ true → is_leaf node ≡ (level_of node == 0)
unfolding has_right_flags
flags-leaf shape at node e = sym (alike-same (is_leaf node) (level_of node == 0) (Prim.grind (arith, common_steps)))

flags-fixed : {K : Type 0} (shape : Shape K) (at : NodeAt) (node : List ℕ) → has_right_flags shape.layout at node ≡ true → has_layout shape.layout node ≡ true
unfolding has_right_flags
flags-fixed shape at node e = Prim.grind (arith, common_steps)

right-flags : {K : Type 0} (shape : Shape K) (at : NodeAt) (node : List ℕ) → is_root node ≡ at.root → is_leaf node ≡ (level_of node == 0) → has_layout shape.layout node ≡ true → has_right_flags shape.layout at node ≡ true
unfolding has_right_flags
right-flags shape at node root leaf fixed =
    let first : is_alike at.root (is_root node) ≡ true = same-alike at.root (is_root node) root in
    let second : is_alike (is_leaf node) (level_of node == 0) ≡ true = same-alike (is_leaf node) (level_of node == 0) (sym leaf) in
    Prim.grind (arith, common_steps, first, second, fixed)

-- what the other tests of a node's fields say
shallow-level : (root : Bool) (level : ℕ) → (root && nat_lt 15 level) ≡ false → root ≡ true → level ≤ 15
shallow-level root level e r = Prim.grind (arith, nat_tests, common_steps)

level-shallow : (root : Bool) (level : ℕ) → (root ≡ true → level ≤ 15) → (root && nat_lt 15 level) ≡ false
level-shallow true level h = let low : level ≤ 15 = h refl in Prim.grind (arith, nat_tests, common_steps, low)
level-shallow false level h = refl

sized-size : (root : Bool) (a b : ℕ) → (root && not (a == b)) ≡ false → root ≡ true → a ≡ b
sized-size root a b e r = Prim.grind (arith, nat_tests, common_steps)

size-sized : (root : Bool) (a b : ℕ) → (root ≡ true → a ≡ b) → (root && not (a == b)) ≡ false
size-sized true a b h = let same : a ≡ b = h refl in Prim.grind (arith, nat_tests, common_steps, same)
size-sized false a b h = refl

empty-root : (node : List ℕ) → is_empty node ≡ false → count_of node ≡ 0 → is_root node ≡ true
unfolding is_empty
empty-root node e none = Prim.grind (arith, nat_tests, common_steps)

empty-level : (node : List ℕ) → is_empty node ≡ false → count_of node ≡ 0 → level_of node ≡ 0
unfolding is_empty
empty-level node e none = Prim.grind (arith, nat_tests, common_steps)

filled-empty : (root : Bool) (node : List ℕ) → is_root node ≡ root → (count_of node ≡ 0 → (root ≡ true) × (level_of node ≡ 0)) → is_empty node ≡ false
unfolding is_empty
filled-empty root node same h = Prim.grind (arith, nat_tests, common_steps, same, h)

-- what the tests of an entry say
value-begins : {K : Type 0} (shape : Shape K) (node : List ℕ) (i : ℕ) → is_entry_inside shape node i ≡ true → is_ghost (place_of shape node i) ≡ false → keys_begin node + (place_of shape node i).value_offset ≤ end_of node
unfolding is_value_inside
value-begins shape node i e there = Prim.grind (arith, nat_tests, common_steps)

value-ends : {K : Type 0} (shape : Shape K) (node : List ℕ) (i : ℕ) → is_entry_inside shape node i ≡ true → is_ghost (place_of shape node i) ≡ false → (place_of shape node i).value_len ≤ (place_of shape node i).value_offset
unfolding is_value_inside
value-ends shape node i e there = Prim.grind (arith, nat_tests, common_steps)

value-child : {K : Type 0} (shape : Shape K) (node : List ℕ) (i : ℕ) → is_entry_inside shape node i ≡ true → is_ghost (place_of shape node i) ≡ false → 0 < level_of node → 8 ≤ (place_of shape node i).value_len
unfolding is_value_inside
value-child shape node i e there upper = Prim.grind (arith, nat_tests, common_steps)

value-inside : {K : Type 0} (shape : Shape K) (node : List ℕ) (i : ℕ) → IsEntry shape node i → is_value_inside node (place_of shape node i) ≡ true
unfolding is_value_inside
value-inside shape node i entry =
    elim (cases_Bool (is_ghost (place_of shape node i))) [
      | inl ghost_there ↦ Prim.grind (arith, common_steps, ghost_there)
      | inr there ↦
          let begins : keys_begin node + (place_of shape node i).value_offset ≤ end_of node = entry.value_begins there in
          let ends : (place_of shape node i).value_len ≤ (place_of shape node i).value_offset = entry.value_ends there in
          Prim.grind (arith, nat_tests, common_steps, begins, ends, entry.child_fits)
    ]

key-inside : {K : Type 0} (shape : Shape K) (node : List ℕ) (i : ℕ) → IsEntry shape node i → is_key_inside node (place_of shape node i) ≡ true
unfolding is_key_inside
key-inside shape node i entry = Prim.grind (arith, nat_tests, common_steps, entry.key_ends)

entry-inside : {K : Type 0} (shape : Shape K) (node : List ℕ) (i : ℕ) → IsEntry shape node i → is_entry_inside shape node i ≡ true
entry-inside shape node i entry = Prim.grind (arith, common_steps, key-inside shape node i entry, value-inside shape node i entry)

-- an entry without a value stands where it may
values-one : {K : Type 0} (shape : Shape K) (node : List ℕ) (i : ℕ) → has_values shape node ≡ true → i < count_of node → is_ghost (place_of shape node i) ≡ true → (shape.ghosts && (level_of node == 0)) ≡ true
unfolding has_values
values-one shape node i all low is =
    elim (cases_Bool (shape.ghosts && (level_of node == 0))) [
      | inl may ↦ may
      | inr not_there ↦
          let each : each_entry node (has_value shape node) ≡ true = Prim.grind (arith, common_steps, not_there) in
          let valued : has_value shape node i ≡ true = one_passes (has_value shape node) (count_of node) i each low in
          absurd (Prim.grind (arith, common_steps, valued, is))
    ]

one-values : {K : Type 0} (shape : Shape K) (node : List ℕ) → ((i : ℕ) → i < count_of node → is_ghost (place_of shape node i) ≡ true → (shape.ghosts ≡ true) × (level_of node ≡ 0)) → has_values shape node ≡ true
unfolding has_values
one-values shape node h =
    elim (cases_Bool (shape.ghosts && (level_of node == 0))) [
      | inl may ↦ Prim.grind (arith, common_steps, may)
      | inr not_there ↦
          let each : each_entry node (has_value shape node) ≡ true = all_pass (has_value shape node) (count_of node) (λ i low. elim (cases_Bool (is_ghost (place_of shape node i))) [
            | inl is ↦ let may : (shape.ghosts ≡ true) × (level_of node ≡ 0) = h i low is in absurd (Prim.grind (arith, nat_tests, common_steps, not_there, may.0, may.1))
            | inr there ↦ Prim.grind (arith, common_steps, there)
          ]) in
          Prim.grind (arith, common_steps, each)
    ]

keys-one : {K : Type 0} (shape : Shape K) (node : List ℕ) (i : ℕ) → has_keys shape node ≡ true → i < count_of node → has_key shape node i ≡ true
unfolding has_keys
keys-one shape node i all low = one_passes (has_key shape node) (count_of node) i all low

one-keys : {K : Type 0} (shape : Shape K) (node : List ℕ) → ((i : ℕ) → i < count_of node → has_key shape node i ≡ true) → has_keys shape node ≡ true
unfolding has_keys
one-keys shape node h = all_pass (has_key shape node) (count_of node) h

-- the entries of a node that passes the tests
passed-entry : {K : Type 0} (shape : Shape K) (node : List ℕ) (i : ℕ) → is_entry_inside shape node i ≡ true → (is_ghost (place_of shape node i) ≡ true → (shape.ghosts && (level_of node == 0)) ≡ true) → has_key shape node i ≡ true → IsEntry shape node i
passed-entry shape node i inside may key = record {
  key_ends = key_ends shape node i inside;
  value_begins = λ there. value-begins shape node i inside there;
  value_ends = λ there. value-ends shape node i inside there;
  child_fits = λ upper. elim (cases_Bool (is_ghost (place_of shape node i))) [
    | inl is ↦ absurd (Prim.grind (arith, nat_tests, common_steps, may is, upper))
    | inr there ↦ value-child shape node i inside there upper
  ];
  valued = λ is. (Prim.grind (arith, nat_tests, common_steps, may is), Prim.grind (arith, nat_tests, common_steps, may is));
  readable = key;
}

passed-table : {K : Type 0} (shape : Shape K) (node : List ℕ) → is_bounded shape node ≡ true → has_values shape node ≡ true → has_keys shape node ≡ true → IsTable shape node
passed-table shape node bounded valued keyed = record {
  holds = table_holds node (bounded_table shape node bounded);
  ends = table_ends node (bounded_table shape node bounded);
  entries = λ i low. passed-entry shape node i (bounded_entry shape node i bounded low) (λ is. values-one shape node i valued low is) (keys-one shape node i keyed low);
}

table-inside : {K : Type 0} (shape : Shape K) (node : List ℕ) → IsTable shape node → is_table_inside node ≡ true
unfolding is_table_inside
table-inside shape node t = Prim.grind (arith, nat_tests, common_steps, t.holds, t.ends)

table-bounded : {K : Type 0} (shape : Shape K) (node : List ℕ) → IsTable shape node → is_bounded shape node ≡ true
unfolding is_bounded
table-bounded shape node t =
    let each : each_entry node (is_entry_inside shape node) ≡ true = all_pass (is_entry_inside shape node) (count_of node) (λ i low. entry-inside shape node i (t.entries i low)) in
    Prim.grind (arith, common_steps, each, table-inside shape node t)

passed-sound : {K : Type 0} (shape : Shape K) (at : NodeAt) (site : Site) (node : List ℕ) → is_ok (sound_of node (node_expect shape at site)) ≡ true → Passed shape at site node → IsSoundNode shape at site node
passed-sound shape at site node header p =
    let root : is_root node ≡ at.root = flags-root shape at node p.flagged in
    record {
      header = sound_means node (node_expect shape at site) header;
      unsealed = p.unsealed;
      headed = p.headed;
      root_right = root;
      leaf_right = flags-leaf shape at node p.flagged;
      fixed_right = flags-fixed shape at node p.flagged;
      shallow = λ r. shallow-level at.root (level_of node) p.shallow r;
      level_right = p.levelled;
      size_right = λ r. sized-size at.root (node_size_of node) site.block_size p.sized r;
      filled = λ none. (sym root ∙ empty-root node p.filled none, empty-level node p.filled none);
      table = passed-table shape node p.bounded p.valued p.keyed;
    }

sound-passed : {K : Type 0} (shape : Shape K) (at : NodeAt) (site : Site) (node : List ℕ) → IsSoundNode shape at site node → Passed shape at site node
sound-passed shape at site node s = record {
  unsealed = s.unsealed;
  headed = s.headed;
  flagged = right-flags shape at node s.root_right s.leaf_right s.fixed_right;
  shallow = level-shallow at.root (level_of node) s.shallow;
  levelled = s.level_right;
  sized = size-sized at.root (node_size_of node) site.block_size s.size_right;
  filled = filled-empty at.root node s.root_right s.filled;
  bounded = table-bounded shape node s.table;
  valued = one-values shape node (λ i low is. (s.table.entries i low).valued is);
  keyed = one-keys shape node (λ i low. (s.table.entries i low).readable);
}

-- a node that passes all tests has the facts of a sound one
pub node_means : {K : Type 0} (shape : Shape K) (at : NodeAt) (site : Site) (node : List ℕ) → node_of shape at site node ≡ Ok node → IsSoundNode shape at site node
unfolding node_of
node_means shape at site node e =
    let r = sound_of node (node_expect shape at site) in
    passed-sound shape at site node (with_header-ok shape at site node r e) (after_head-passed shape at site node (with_header-after shape at site node r e))

-- a node with the facts of a sound one passes all tests
pub means_node : {K : Type 0} (shape : Shape K) (at : NodeAt) (site : Site) (node : List ℕ) → IsSoundNode shape at site node → node_of shape at site node ≡ Ok node
unfolding node_of
means_node shape at site node s =
    after-with_header shape at site node (sound_of node (node_expect shape at site)) (means_sound node (node_expect shape at site) s.header)
    ∙ passed-after_head shape at site node (sound-passed shape at site node s)

-- the bytes of a sound node can be lent
pub node_legible : {K : Type 0} (shape : Shape K) (at : NodeAt) (site : Site) (node : List ℕ) → 96 ≤ length node → node_of shape at site node ≡ Ok node → IsLegible shape node
node_legible shape at site node long e = record { long = long; table = (node_means shape at site node e).table }
