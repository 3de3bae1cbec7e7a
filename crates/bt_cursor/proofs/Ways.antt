-- A way that goes on.
use Rattle.std.proofs.Common.{◌≡◌, ℕ, suc, ◌+◌, ◌<◌, ◌≤◌, List, [], ◌∷◌, ◌++◌, length, get_or, refl, ap, sym, ◌∙◌, arith, subst, All, inl, inr, length-append, Some, Ok}
use Rattle.std.proofs.lemmas.List.Elements.{All-push, All-pop, All-nil}
use Rattle.std.proofs.lemmas.List.{get_or_push, get_or_append_left}
use Rattle.std.proofs.lemmas.Bool.{cases_lt}
use Rattle.bt_node.specs.Shape.{Shape}
use Rattle.bt_node.specs.Node.{level_of, count_of}
use Rattle.bt_node.specs.Entries.{pair_of}
use Rattle.obj_base.specs.declared.site.Site.{Site}
use Rattle.bt_cursor.specs.Tree.{Tree, root_place, child_place}
use Rattle.bt_cursor.specs.Met.{IsMet, first, after}
use Rattle.bt_cursor.specs.Stack.{IsStep, IsLong, IsWay, IsMetStep, IsUnder, IsLinked, IsIn, bottom}
use Rattle.bt_cursor.specs.declared.way.Step.{Step}

-- a bound that falls by one from one item to the next holds of one more
levels_push : (above : List Step) (upper : Step) (bound : ℕ) → ((i : ℕ) (d : Step) → i < length above → level_of (get_or above i d).block.items + i < bound) → level_of upper.block.items + length above < bound →
    (i : ℕ) (d : Step) → i < length (above ++ upper ∷ []) → level_of (get_or (above ++ upper ∷ []) i d).block.items + i < bound
levels_push above upper bound each this i d low =
    elim (cases_lt i (length above)) [
      | inl before ↦ subst (λ (s : Step). level_of s.block.items + i < bound) (sym (get_or_append_left above (upper ∷ []) d i before)) (each i d before)
      | inr past ↦
          let here : length above ≡ i = omega (arith, length-append above (upper ∷ []), low) in
          subst (λ (s : Step). level_of s.block.items + i < bound) (sym (get_or_push above upper d i here)) (omega (arith, this, here))
    ]

pub IsWay-down : {K : Type 0} (shape : Shape K) (site : Site) (above : List Step) (last lower buffer : Step) (spare rest_spare : List Step) → IsWay shape site above last spare → spare ≡ rest_spare ++ buffer ∷ [] →
    IsStep shape site lower → level_of lower.block.items + 1 ≡ level_of last.block.items → IsWay shape site (above ++ last ∷ []) lower rest_spare
IsWay-down shape site above last lower buffer spare rest_spare way taken lower_holds next = record {
  hold = All-push (IsStep shape site) above last way.hold way.hold_last;
  hold_last = lower_holds;
  levels = λ i d low.
      let count = ap length taken in
      let one = length-append rest_spare (buffer ∷ []) in
      let joined = length-append above (last ∷ []) in
      let bound = levels_push above last (length above + 1 + length spare) way.levels (omega (arith, way.level_last)) i d low in
      omega (arith, bound, count, one, joined);
  level_last = omega (arith, ap length taken, length-append rest_spare (buffer ∷ []), way.level_last);
  buffers = (All-pop (IsLong site) spare rest_spare (Some buffer) taken way.buffers).0;
}

-- with another buffer in the place of the last
pub IsWay-back : {K : Type 0} (shape : Shape K) (site : Site) (above : List Step) (last buffer other : Step) (spare rest_spare : List Step) → IsWay shape site above last spare → spare ≡ rest_spare ++ buffer ∷ [] → IsLong site other → IsWay shape site above last (rest_spare ++ other ∷ [])
IsWay-back shape site above last buffer other spare rest_spare way taken long =
    let count = ap length taken in
    let one = length-append rest_spare (buffer ∷ []) in
    let again = length-append rest_spare (other ∷ []) in
    record {
      hold = way.hold;
      hold_last = way.hold_last;
      levels = λ i d low. omega (arith, way.levels i d low, count, one, again);
      level_last = omega (arith, way.level_last, count, one, again);
      buffers = All-push (IsLong site) rest_spare other (All-pop (IsLong site) spare rest_spare (Some buffer) taken way.buffers).0 long;
    }

-- one level up
pub IsWay-up : {K : Type 0} (shape : Shape K) (site : Site) (above lower_above : List Step) (last lower : Step) (spare spare_more : List Step) → IsWay shape site lower_above lower spare → lower_above ≡ above ++ last ∷ [] → spare_more ≡ spare ++ lower ∷ [] → IsWay shape site above last spare_more
IsWay-up shape site above lower_above last lower spare spare_more way taken more =
    let held = All-pop (IsStep shape site) lower_above above (Some last) taken way.hold in
    let count = ap length taken in
    let one = length-append above (last ∷ []) in
    let again = ap length more in
    let joined = length-append spare (lower ∷ []) in
    record {
      hold = held.0;
      hold_last = held.1;
      levels = λ i d low.
          let before : i < length lower_above = omega arith in
          let here = way.levels i d before in
          let same : get_or lower_above i d ≡ get_or above i d = ap (λ xs. get_or xs i d) taken ∙ get_or_append_left above (last ∷ []) d i low in
          let moved = ap (λ (s : Step). level_of s.block.items) same in
          omega (arith, here, moved, count, one, again, joined);
      level_last =
          let before : length above < length lower_above = omega arith in
          let here = way.levels (length above) last before in
          let same : get_or lower_above (length above) last ≡ last = ap (λ xs. get_or xs (length above) last) taken ∙ get_or_push above last last (length above) refl in
          let moved = ap (λ (s : Step). level_of s.block.items) same in
          omega (arith, here, moved, count, one, again, joined);
      buffers = subst (All (IsLong site)) (sym more) (All-push (IsLong site) spare lower way.buffers way.hold_last.long);
    }

bottom-push : (above : List Step) (last lower : Step) → bottom (above ++ last ∷ []) lower ≡ bottom above last
bottom-push [] last lower = refl
bottom-push (s ∷ ss) last lower = refl

bottom-moved : (above : List Step) (last : Step) (next : ℕ) → (bottom above last).block.items ≡ (bottom above (record last { next = next })).block.items
bottom-moved [] last next = refl
bottom-moved (s ∷ ss) last next = refl

bottom-stays : (above : List Step) (last : Step) (next : ℕ) → (bottom above (record last { next = next })).at ≡ (bottom above last).at
bottom-stays [] last next = refl
bottom-stays (s ∷ ss) last next = refl

-- one more link below
IsLinked-push : {K : Type 0} (tree : Tree K) (above : List Step) (last lower : Step) → IsLinked tree above last → IsUnder tree last lower → IsLinked tree (above ++ last ∷ []) lower
IsLinked-push tree [] last lower linked under = (under, tt)
IsLinked-push tree (s ∷ ss) last lower linked under = (subst (IsUnder tree s) (sym (bottom-push ss last lower)) linked.0, IsLinked-push tree ss last lower linked.1 under)

IsLinked-pop : {K : Type 0} (tree : Tree K) (above : List Step) (last lower : Step) → IsLinked tree (above ++ last ∷ []) lower → IsLinked tree above last
IsLinked-pop tree [] last lower linked = tt
IsLinked-pop tree (s ∷ ss) last lower linked = (subst (IsUnder tree s) (bottom-push ss last lower) linked.0, IsLinked-pop tree ss last lower linked.1)

IsUnder-moved : {K : Type 0} (tree : Tree K) (upper last : Step) (next : ℕ) → IsUnder tree upper last → IsUnder tree upper (record last { next = next })
IsUnder-moved tree upper last next under = record { index = under.index; next = under.next; low = under.low; high = under.high; place = under.place }

IsLinked-moved : {K : Type 0} (tree : Tree K) (above : List Step) (last : Step) (next : ℕ) → IsLinked tree above last → IsLinked tree above (record last { next = next })
IsLinked-moved tree [] last next linked = tt
IsLinked-moved tree (s ∷ []) last next linked = (IsUnder-moved tree s last next linked.0, tt)
IsLinked-moved tree (s ∷ (t ∷ ss)) last next linked = (linked.0, IsLinked-moved tree (t ∷ ss) last next linked.1)

pub IsIn-down : {K : Type 0} (tree : Tree K) (root : ℕ) (above : List Step) (last lower : Step) (level i : ℕ) → IsIn tree root above last → level_of last.block.items ≡ suc level → last.next ≡ i + 1 → i < count_of last.block.items → lower.at ≡ child_place level (pair_of tree.shape last.block.items i) →
    level_of lower.block.items ≡ level → tree.look (child_place level (pair_of tree.shape last.block.items i)) ≡ Ok lower.block.items → IsIn tree root (above ++ last ∷ []) lower
IsIn-down tree root above last lower level i within high next low place same node = record {
  hold = All-push (IsMetStep tree root) above last within.hold within.hold_last;
  hold_last = record {
    met = subst (IsMet tree root) (sym place) (after last.at last.block.items level i within.hold_last.met within.hold_last.node high low);
    node = ap tree.look place ∙ node;
  };
  base = within.base ∙ ap (λ (s : Step). Ok s.block.items) (sym (bottom-push above last lower));
  base_at = ap (λ (s : Step). s.at) (bottom-push above last lower) ∙ within.base_at;
  linked = IsLinked-push tree above last lower within.linked (record {
    index = i;
    next = next;
    low = low;
    high = high ∙ ap suc (sym same);
    place = place ∙ ap (λ l. child_place l (pair_of tree.shape last.block.items i)) (sym same);
  });
}

pub IsIn-up : {K : Type 0} (tree : Tree K) (root : ℕ) (above lower_above : List Step) (last lower : Step) → IsIn tree root lower_above lower → lower_above ≡ above ++ last ∷ [] → IsIn tree root above last
IsIn-up tree root above lower_above last lower within taken =
    let held = All-pop (IsMetStep tree root) lower_above above (Some last) taken within.hold in
    record {
      hold = held.0;
      hold_last = held.1;
      base = within.base ∙ ap (λ (s : Step). Ok s.block.items) (ap (λ ss. bottom ss lower) taken ∙ bottom-push above last lower);
      base_at = ap (λ (s : Step). s.at) (sym (ap (λ ss. bottom ss lower) taken ∙ bottom-push above last lower)) ∙ within.base_at;
      linked = IsLinked-pop tree above last lower (subst (λ ss. IsLinked tree ss lower) taken within.linked);
    }

-- a step's index doesn't count for what is above it
pub IsIn-moved : {K : Type 0} (tree : Tree K) (root : ℕ) (above : List Step) (last : Step) (next : ℕ) → IsIn tree root above last → IsIn tree root above (record last { next = next })
IsIn-moved tree root above last next within = record {
  hold = within.hold;
  hold_last = record { met = within.hold_last.met; node = within.hold_last.node };
  base = within.base ∙ ap (λ b. Ok b) (bottom-moved above last next);
  base_at = bottom-stays above last next ∙ within.base_at;
  linked = IsLinked-moved tree above last next within.linked;
}

-- a root alone
pub IsIn-start : {K : Type 0} (tree : Tree K) (root : ℕ) (above : List Step) (last : Step) → above ≡ [] → last.at ≡ root_place root → tree.look (root_place root) ≡ Ok last.block.items → IsIn tree root above last
IsIn-start tree root above last none at node = subst (λ ss. IsIn tree root ss last) (sym none) (record {
  hold = All-nil (IsMetStep tree root);
  hold_last = record { met = subst (IsMet tree root) (sym at) first; node = ap tree.look at ∙ node };
  base = node;
  base_at = at;
  linked = tt;
})

-- the last node's index lies in it
pub hold_inside : {K : Type 0} (shape : Shape K) (site : Site) (above : List Step) (last : Step) (spare : List Step) → IsWay shape site above last spare → last.next ≤ count_of last.block.items
hold_inside shape site above last spare way = way.hold_last.inside
