-- Trees that are whole, and what the namings of their roots lead to, by the steps that a walk met.
use Rattle.std.proofs.Common.{◌≡◌, ℕ, zero, suc, ◌+◌, Bool, true, false, List, [], ◌∷◌, length, Option, Some, None, refl, ap, sym, ◌∙◌, subst, arith, length-append}
use Rattle.std.specs.Prelude.{is_none, slice_get, ◌==◌, if◌then◌else◌}
use Rattle.std.proofs.lemmas.Bool.Decides.{nat_tests}
use Rattle.std.proofs.lemmas.Bool.{or_parts}
use Rattle.std.specs.List.{list_any}
use Rattle.apfs_model.specs.Lists.{passes}
use Rattle.bt_node.specs.Shape.{Shape}
use Rattle.bt_node.specs.Entries.{Pair}
use Rattle.bt_cursor.specs.Tree.{Tree, child_in, tree_in}
use Rattle.bt_cursor.specs.Line.{Item, line_of}
use Rattle.bt_cursor.specs.Met.{places_under, places_in, places_of, has_node, nodes_of, is_walkable}
use Rattle.bt_cursor.specs.Order.{out_of_order}
use Rattle.bt_cursor.specs.Counts as counts
use Rattle.bt_cursor.specs.WholeTree.{IsWhole}
use Rattle.bt_cursor.proofs.Walkables.{filter-all}
use Rattle.bt_cursor.specs.declared.step.Step.{Step}
use Rattle.bt_cursor.specs.Steps.{step_in, steps_in, steps_of}
use Rattle.nx_ring.specs.Checkpoint.{Seen, site_of}
use Rattle.reach_rules.specs.declared.naming.LookUp.{LookUp}
use Rattle.reach_rules.specs.declared.naming.Object.{Object}
use Rattle.reach_rules.specs.declared.naming.TreeKind.{TreeKind}
use Rattle.reach_rules.specs.declared.naming.Expected.TheVariants.{TreeRoot}
use Rattle.reach_rules.specs.declared.naming.Naming.{Naming}
use Rattle.reach_rules.specs.Next.{next}
use Rattle.reach_rules.specs.Trees.{tree_line, misplaced, has_counts, is_short}
use Rattle.reach_gather.specs.Namings.{tree_steps, tree_namings, AreNamingsOf}
use Rattle.reach_gather.specs.Walked.{has_all_nodes, IsWholeTree}
use Rattle.reach_gather.proofs.Counted.{AreAllFrom}
use Rattle.reach_gather.proofs.Law.{IsTreeOf, tree-lives}
use Rattle.reach_gather.proofs.Plain.{live-plain}

-- the trees of a kind are these
pub record IsKindOf {K : Type 0} (image : List ℕ) (seen : Seen) (kind : TreeKind) (how : LookUp) (object : ℕ → Object) (shape : Shape K) (named : ℕ → Option ℕ) : Type 0 where
  pub tree : IsTreeOf image seen kind how object shape named
  pub line : (root : ℕ) → tree_line image seen kind root ≡ line_of (tree_in shape (site_of seen) named image) root
  pub order : (root : ℕ) → misplaced image seen kind root ≡ out_of_order shape (line_of (tree_in shape (site_of seen) named image) root)
  pub count : (root : ℕ) → has_counts image seen kind root ≡ counts.is_counted (tree_in shape (site_of seen) named image) root
  pub nodes : (root : ℕ) → has_all_nodes image seen kind root ≡ is_walkable (tree_in shape (site_of seen) named image) root
  pub steps : (root : ℕ) → tree_steps image seen kind root ≡ steps_of (tree_in shape (site_of seen) named image) root

pub none-from : (o : Option ℕ) → is_none o ≡ true → o ≡ None
none-from None e = refl
none-from (Some n) e = absurd (cc)

-- ---- what is too short
-- where no item is refused, none is too short
never-short : (refuses short : Item → Bool) → ((item : Item) → refuses item ≡ short item) → (items : List Item) → list_any refuses items ≡ false → (number : ℕ) → passes (slice_get items number) short ≡ false
never-short refuses short same [] e number = refl
never-short refuses short same (item ∷ items) e zero = sym (same item) ∙ (or_parts (refuses item) (list_any refuses items) e).0
never-short refuses short same (item ∷ items) e (suc number) = never-short refuses short same items (or_parts (refuses item) (list_any refuses items) e).1 number

-- ---- a whole tree
pub whole-from : {K : Type 0} {image : List ℕ} {seen : Seen} {kind : TreeKind} {how : LookUp} {object : ℕ → Object} {shape : Shape K} {named : ℕ → Option ℕ} → IsKindOf image seen kind how object shape named → (root : ℕ) (refuses : Item → Bool) →
    ((item : Item) → refuses item ≡ is_short kind item) → IsWhole (tree_in shape (site_of seen) named image) root → list_any refuses (line_of (tree_in shape (site_of seen) named image) root) ≡ false → IsWholeTree image seen kind root
whole-from {K} {image} {seen} {kind} {how} {object} {shape} {named} k root refuses same whole none =
    let tree : Tree K = tree_in shape (site_of seen) named image in
    record {
      nodes = k.nodes root ∙ whole.walkable;
      right = record {
        ordered = k.order root ∙ none-from (out_of_order shape (line_of tree root)) whole.ordered;
        counted = k.count root ∙ whole.counted;
        long = λ number low. ap (λ items. passes (slice_get items number) (is_short kind)) (k.line root) ∙ never-short refuses (is_short kind) same (line_of tree root) none number;
      };
    }

-- what is live from its root's naming
namings-from : {K : Type 0} {image : List ℕ} {seen : Seen} {kind : TreeKind} {how : LookUp} {object : ℕ → Object} {shape : Shape K} {named : ℕ → Option ℕ} → IsKindOf image seen kind how object shape named → (root : ℕ) (steps : List Step) →
    steps ≡ steps_of (tree_in shape (site_of seen) named image) root → is_walkable (tree_in shape (site_of seen) named image) root ≡ true → (n : Naming) → n.expected ≡ TreeRoot kind → n.how ≡ how → n.oid ≡ root → AreNamingsOf image seen n (tree_namings object kind n steps)
namings-from {K} {image} {seen} {kind} {how} {object} {shape} {named} k root steps s all n e h o =
    let tree : Tree K = tree_in shape (site_of seen) named image in
    let of : IsTreeOf image seen kind n.how object shape named = subst (λ x. IsTreeOf image seen kind x object shape named) (sym h) k.tree in
    let same : steps_of tree n.oid ≡ steps = ap (steps_of tree) o ∙ sym s in
    let from : AreAllFrom (next image seen) (n ∷ []) (tree_namings object kind n steps) = subst (λ xs. AreAllFrom (next image seen) (n ∷ []) (tree_namings object kind n xs)) same (tree-lives image seen kind object shape named n of e) in
    record {
      live = from.live;
      counted = from.counted;
      plain = λ m m-in. live-plain image seen kind object shape named n m of e (ap (is_walkable tree) o ∙ all) (from.live.0 m m-in);
    }

-- so it is where the tree is known to be whole
pub whole-namings : {K : Type 0} {image : List ℕ} {seen : Seen} {kind : TreeKind} {how : LookUp} {object : ℕ → Object} {shape : Shape K} {named : ℕ → Option ℕ} → IsKindOf image seen kind how object shape named → (root : ℕ) (steps : List Step) →
    IsWholeTree image seen kind root → steps ≡ tree_steps image seen kind root → (n : Naming) → n.expected ≡ TreeRoot kind → n.how ≡ how → n.oid ≡ root → AreNamingsOf image seen n (tree_namings object kind n steps)
whole-namings k root steps whole are n e h o = namings-from k root steps (are ∙ k.steps root) (sym (k.nodes root) ∙ whole.nodes) n e h o

-- ---- as many nodes as steps, and the root
one-each : (level : ℕ) (pair : Pair) (s : Step) → length (if level == 0 then [] else s ∷ []) ≡ length (places_under level pair)
one-each zero pair s = refl
one-each (suc level) pair s = let upper : (suc level == 0) ≡ false = grind (arith, nat_tests) in ap (λ (b : Bool). length (if b then [] else s ∷ [])) upper

steps-count : (items : List Item) → length (steps_in items) ≡ length (places_in items)
steps-count [] = refl
steps-count (item ∷ items) =
    length-append (step_in item) (steps_in items)
    ∙ (ap (λ n. n + length (steps_in items)) (one-each item.level item.pair (record { node = item.node; at = item.at; level = item.level; child = child_in item.pair }))
    ∙ (ap (λ n. length (places_under item.level item.pair) + n) (steps-count items) ∙ sym (length-append (places_under item.level item.pair) (places_in items))))

pub nodes-count : {K : Type 0} (tree : Tree K) (root : ℕ) → is_walkable tree root ≡ true → length (nodes_of tree root) ≡ suc (length (steps_of tree root))
nodes-count tree root all = ap length (filter-all (has_node tree) (places_of tree root) all) ∙ ap suc (sym (steps-count (line_of tree root)))
