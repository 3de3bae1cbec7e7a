-- What one item more, and one leaf more, make of items that are packed.
use Rattle.std.proofs.Common.{◌≡◌, ℕ, ◌+◌, ◌-◌, ◌≤◌, ◌<◌, ◌^◌, min, [], ◌∷◌, ◌++◌, List, length, get_or, vec_len, inl, inr, refl, ap, sym, subst, ◌∙◌, append_assoc, arith}
use Rattle.std.specs.List.{All}
use Rattle.std.proofs.lemmas.Bool.{cases_lt}
use Rattle.std.proofs.lemmas.Grind.{flat_map-append}
use Rattle.std.proofs.lemmas.List.{get_or_append_left, get_or_push, length_push, map_push, append-nil}
use Rattle.std.proofs.lemmas.List.Elements.{All-push}
use Rattle.std.proofs.lemmas.List.Sums.{sum_by-append}
use Rattle.img_plan.specs.Nodes.{bytes_in_node}
use Rattle.img_plan.specs.declared.plan.Leaf.{Leaf}
use Rattle.img_plan.specs.declared.packing.Packing.{Packing}
use Rattle.img_plan.specs.Packing.{Pair, Closes, HasIds, IsPacked, IsPacking, IsRoomy, IsTight, bytes_of, id_at, items_of, sizes_of}

-- the bytes that one item takes
abbrev size_of : Pair → ℕ
size_of item = bytes_in_node (vec_len item.0) (vec_len item.1)

bytes_of-push : (items : List Pair) (item : Pair) → bytes_of (items ++ item ∷ []) ≡ bytes_of items + size_of item
bytes_of-push items item =
    let e : bytes_of (items ++ item ∷ []) ≡ bytes_of items + bytes_of (item ∷ []) = sum_by-append size_of items (item ∷ []) in
    omega (arith, e)

items_of-push : (leaves : List Leaf) (leaf : Leaf) → items_of (leaves ++ leaf ∷ []) ≡ items_of leaves ++ leaf.items.items
items_of-push leaves leaf =
    let f = λ (l : Leaf). l.items.items in
    flat_map-append f leaves (leaf ∷ []) ∙ ap (λ l. items_of leaves ++ l) (append-nil leaf.items.items)

-- the ids of leaves where one more has the id of its place
HasIds-push : (first : ℕ) (leaves : List Leaf) (leaf : Leaf) → HasIds first leaves → leaf.oid ≡ id_at first (length leaves) → HasIds first (leaves ++ leaf ∷ [])
HasIds-push first leaves leaf ids own = λ k none inside.
    elim (cases_lt k (length leaves)) [
      | inl h ↦ ap (λ (l : Leaf). l.oid) (get_or_append_left leaves (leaf ∷ []) none k h) ∙ ids k none h
      | inr h ↦
          let e : length leaves ≡ k = omega (arith, h, inside, length_push leaves leaf) in
          ap (λ (l : Leaf). l.oid) (get_or_push leaves leaf none k e) ∙ own ∙ ap (id_at first) e
    ]

-- a list of sizes stays tight where its last one grows
IsTight-grows : (sizes : List ℕ) (small large : ℕ) → small ≤ large → IsTight (sizes ++ small ∷ []) → IsTight (sizes ++ large ∷ [])
IsTight-grows sizes small large h tight = λ k inside.
    let before : k < length sizes = omega (arith, inside, length_push sizes large) in
    let was : 4000 < get_or (sizes ++ small ∷ []) k 0 + get_or (sizes ++ small ∷ []) (k + 1) 0 = tight k (omega (arith, before, length_push sizes small)) in
    let old_left : get_or (sizes ++ small ∷ []) k 0 ≡ get_or sizes k 0 = get_or_append_left sizes (small ∷ []) 0 k before in
    let new_left : get_or (sizes ++ large ∷ []) k 0 ≡ get_or sizes k 0 = get_or_append_left sizes (large ∷ []) 0 k before in
    elim (cases_lt (k + 1) (length sizes)) [
      | inl l ↦
          let old_right : get_or (sizes ++ small ∷ []) (k + 1) 0 ≡ get_or sizes (k + 1) 0 = get_or_append_left sizes (small ∷ []) 0 (k + 1) l in
          let new_right : get_or (sizes ++ large ∷ []) (k + 1) 0 ≡ get_or sizes (k + 1) 0 = get_or_append_left sizes (large ∷ []) 0 (k + 1) l in
          omega (arith, was, old_left, new_left, old_right, new_right)
      | inr l ↦
          let e : length sizes ≡ k + 1 = omega (arith, l, before) in
          let old_right : get_or (sizes ++ small ∷ []) (k + 1) 0 ≡ small = get_or_push sizes small 0 (k + 1) e in
          let new_right : get_or (sizes ++ large ∷ []) (k + 1) 0 ≡ large = get_or_push sizes large 0 (k + 1) e in
          omega (arith, was, old_left, new_left, old_right, new_right, h)
    ]

-- a list of sizes stays tight where one more follows that doesn't go with the last one
IsTight-push : (sizes : List ℕ) (last next : ℕ) → IsTight (sizes ++ last ∷ []) → 4000 < last + next → IsTight ((sizes ++ last ∷ []) ++ next ∷ [])
IsTight-push sizes last next tight apart = λ k inside.
    let all = sizes ++ last ∷ [] in
    let long : length all ≡ length sizes + 1 = length_push sizes last in
    let before : k < length all = omega (arith, inside, length_push all next) in
    let left : get_or (all ++ next ∷ []) k 0 ≡ get_or all k 0 = get_or_append_left all (next ∷ []) 0 k before in
    elim (cases_lt (k + 1) (length all)) [
      | inl l ↦
          let right : get_or (all ++ next ∷ []) (k + 1) 0 ≡ get_or all (k + 1) 0 = get_or_append_left all (next ∷ []) 0 (k + 1) l in
          let was : 4000 < get_or all k 0 + get_or all (k + 1) 0 = tight k l in
          omega (arith, was, left, right)
      | inr l ↦
          let e : length all ≡ k + 1 = omega (arith, l, before) in
          let right : get_or (all ++ next ∷ []) (k + 1) 0 ≡ next = get_or_push all next 0 (k + 1) e in
          let here : get_or all k 0 ≡ last = get_or_push sizes last 0 k (omega (arith, e, long)) in
          omega (arith, left, right, here, apart)
    ]

-- nothing ends in an item
push-not_nil : (items : List Pair) (item : Pair) (P : Type 0) → items ++ item ∷ [] ≡ [] → P
push-not_nil items item P e = absurd (omega (arith, length_push items item, ap length e))

-- one item more in the leaf that is filled
pub stays_in : (old new : Packing) (items : List Pair) (item : Pair) → IsPacking items old →
    min (old.bytes + min (size_of item) (2 ^ 64 - 1)) (2 ^ 64 - 1) ≤ 4000 →
    new.first ≡ old.first → new.leaves.items ≡ old.leaves.items → new.last.items ≡ old.last.items ++ item ∷ [] →
    new.bytes ≡ min (old.bytes + min (size_of item) (2 ^ 64 - 1)) (2 ^ 64 - 1) → IsPacking (items ++ item ∷ []) new
stays_in old new items item was room first leaves last bytes =
    let size : bytes_of new.last.items ≡ bytes_of old.last.items + size_of item = ap bytes_of last ∙ bytes_of-push old.last.items item in
    let counted = was.bytes in record {
      joined = ap (λ l. items_of l ++ new.last.items) leaves ∙ ap (λ l. items_of old.leaves.items ++ l) last ∙ sym (append_assoc (items_of old.leaves.items) old.last.items (item ∷ [])) ∙ ap (λ l. l ++ item ∷ []) was.joined;
      ids = subst (λ f. HasIds f new.leaves.items) (sym first) (subst (HasIds old.first) (sym leaves) was.ids);
      roomy = subst (All (λ (leaf : Leaf). IsRoomy leaf.items.items)) (sym leaves) was.roomy;
      last_roomy = λ above. absurd (omega (arith, above, size, counted, room));
      tight = subst (λ l. IsTight (sizes_of l ++ bytes_of new.last.items ∷ [])) (sym leaves) (IsTight-grows (sizes_of old.leaves.items) (bytes_of old.last.items) (bytes_of new.last.items) (omega (arith, size)) was.tight);
      bytes = omega (arith, size, counted, bytes);
      some_last = λ none. push-not_nil old.last.items item _ (sym last ∙ none);
    }

-- the leaves once what was gathered is one of them
closed_joined : (old new : Packing) (items : List Pair) → IsPacking items old → Closes old new → items_of new.leaves.items ≡ items
closed_joined old new items was close = ap items_of close.leaves ∙ items_of-push old.leaves.items (record { oid = id_at old.first (length old.leaves.items); items = old.last }) ∙ was.joined

closed_ids : (old new : Packing) (items : List Pair) → IsPacking items old → Closes old new → HasIds old.first new.leaves.items
closed_ids old new items was close =
    subst (HasIds old.first) (sym close.leaves) (HasIds-push old.first old.leaves.items (record { oid = id_at old.first (length old.leaves.items); items = old.last }) was.ids refl)

closed_roomy : (old new : Packing) (items : List Pair) → IsPacking items old → Closes old new → All (λ (leaf : Leaf). IsRoomy leaf.items.items) new.leaves.items
closed_roomy old new items was close =
    subst (All (λ (leaf : Leaf). IsRoomy leaf.items.items)) (sym close.leaves) (All-push (λ (leaf : Leaf). IsRoomy leaf.items.items) old.leaves.items (record { oid = id_at old.first (length old.leaves.items); items = old.last }) was.roomy was.last_roomy)

closed_sizes : (old new : Packing) → Closes old new → sizes_of new.leaves.items ≡ sizes_of old.leaves.items ++ bytes_of old.last.items ∷ []
closed_sizes old new close = ap sizes_of close.leaves ∙ map_push (λ (leaf : Leaf). bytes_of leaf.items.items) old.leaves.items (record { oid = id_at old.first (length old.leaves.items); items = old.last })

-- what was gathered has become the last leaf
pub closed : (old new : Packing) (items : List Pair) → IsPacking items old → Closes old new → IsPacked old.first items new.leaves.items
closed old new items was close = record {
  joined = closed_joined old new items was close;
  ids = closed_ids old new items was close;
  roomy = closed_roomy old new items was close;
  tight = subst IsTight (sym (closed_sizes old new close)) was.tight;
}

-- nothing was gathered, so there are no leaves
pub none_packed : (packing : Packing) (items : List Pair) → IsPacking items packing → packing.last.items ≡ [] → IsPacked packing.first items packing.leaves.items
none_packed packing items was none =
    let no_leaves : packing.leaves.items ≡ [] = was.some_last none in
    let no_items : items ≡ [] = sym was.joined ∙ ap (λ l. items_of l ++ packing.last.items) no_leaves ∙ none in record {
      joined = ap items_of no_leaves ∙ sym no_items;
      ids = was.ids;
      roomy = was.roomy;
      tight = λ k inside. absurd (omega (arith, inside, ap (λ l. length (sizes_of l)) no_leaves));
    }

-- one item more, in the next leaf
pub goes_next : (old mid new : Packing) (items : List Pair) (item : Pair) → IsPacking items old → Closes old mid →
    4000 < min (old.bytes + min (size_of item) (2 ^ 64 - 1)) (2 ^ 64 - 1) →
    new.first ≡ mid.first → new.leaves.items ≡ mid.leaves.items → new.last.items ≡ mid.last.items ++ item ∷ [] →
    new.bytes ≡ min (mid.bytes + min (size_of item) (2 ^ 64 - 1)) (2 ^ 64 - 1) → IsPacking (items ++ item ∷ []) new
goes_next old mid new items item was close full first leaves last bytes =
    let alone : new.last.items ≡ item ∷ [] = last ∙ ap (λ l. l ++ item ∷ []) close.last in
    let size : bytes_of new.last.items ≡ 0 + size_of item = ap bytes_of alone in
    let long : length new.last.items ≡ 1 = ap length alone in
    let apart : 4000 < bytes_of old.last.items + bytes_of new.last.items = omega (arith, full, size, was.bytes) in
    let emptied = close.bytes in record {
      joined = ap (λ l. items_of l ++ new.last.items) leaves ∙ ap (λ l. l ++ new.last.items) (closed_joined old mid items was close) ∙ ap (λ l. items ++ l) alone;
      ids = subst (λ f. HasIds f new.leaves.items) (sym (first ∙ close.first)) (subst (HasIds old.first) (sym leaves) (closed_ids old mid items was close));
      roomy = subst (All (λ (leaf : Leaf). IsRoomy leaf.items.items)) (sym leaves) (closed_roomy old mid items was close);
      last_roomy = λ above. omega (arith, long);
      tight = subst (λ l. IsTight (l ++ bytes_of new.last.items ∷ [])) (sym (ap sizes_of leaves ∙ closed_sizes old mid close)) (IsTight-push (sizes_of old.leaves.items) (bytes_of old.last.items) (bytes_of new.last.items) was.tight apart);
      bytes = omega (arith, size, emptied, bytes);
      some_last = λ none. push-not_nil [] item _ (sym alone ∙ none);
    }
