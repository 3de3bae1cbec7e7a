-- An item more, at the end of the text.
use Rattle.std.proofs.Common.{◌≡◌, ◌+◌, ◌∷◌, ◌++◌, [], ◌∙◌, true, ap, sym, length, List, ℕ, arith}
use Rattle.std.proofs.lemmas.Str.{is_utf8-from_IsUtf8}
use Rattle.std.proofs.lemmas.List.{length-append}
use Rattle.std.specs.Str.{is_utf8}
use Rattle.blk_folder.specs.Items.{Item}
use Rattle.blk_folder.specs.Memory.{MemoryFolder, empty_at, taken}
use Rattle.blk_folder.specs.Places.{items_in}
use Rattle.blk_folder.specs.declared.memory.Place.{Place}
use Rattle.blk_folder.proofs.Held.{ok-is, length_items, are-added, items-added, with-contents, taken-added, ends-added}
use Rattle.blk_folder.proofs.memory.MemFolder.add.Goals as goal

pub unwrap-requires-2 : goal.unwrap-requires-2
unwrap-requires-2 c =
    let inside = c.self.inside in
    let many : length (items_in inside.text.items inside.places.items) ≡ length c.args.self.now.contents = ap (λ (f : MemoryFolder). length f.contents) c.self.view_is in
    let most : inside.items ≡ c.args.self.now.items = ap (λ (f : MemoryFolder). f.items) c.self.view_is in
    let long : length (items_in inside.text.items inside.places.items) ≡ length inside.places.items = length_items inside.text.items inside.places.items in
    c.push.ensures.succeeds (omega (arith, many, most, long, inside.places.ok.0, c.requires.place, c.self.invariant.1))

-- the place that is added
place-of : goal.After-self-1 → Place
place-of c = record { start = c.len-start.result; path_end = c.len-path_end.result; is_file = c.args.is_file }

text-is : (c : goal.After-self-1) → c.extend_from_slice.new.self.items ≡ c.self.inside.text.items ++ c.args.path.now
text-is c =
    ok-is c.extend_from_slice.result c.unwrap.result _ _ _ c.unwrap.ensures c.extend_from_slice.ensures.items
    ∙ ap (λ (l : List ℕ). c.self.inside.text.items ++ l) c.as_bytes.ensures.value

places-are : (c : goal.After-self-1) → c.push.new.self.items ≡ c.self.inside.places.items ++ place-of c ∷ []
unfolding place-of
places-are c = ok-is c.push.result c.unwrap-2.result _ _ _ c.unwrap-2.ensures c.push.ensures.items

start-is : (c : goal.After-self-1) → (place-of c).start ≡ length c.self.inside.text.items
unfolding place-of
start-is c = c.len-start.ensures ∙ c.self.inside.text.ok.0

end-is : (c : goal.After-self-1) → (place-of c).path_end ≡ length c.extend_from_slice.new.self.items
unfolding place-of
end-is c = c.len-path_end.ensures ∙ c.extend_from_slice.new.self.ok.0

is-path : (c : goal.After-self-1) → is_utf8 c.args.path.now ≡ true
is-path c = ap is_utf8 (sym c.as_bytes.ensures.value) ∙ is_utf8-from_IsUtf8 c.as_bytes.result.now c.as_bytes.ensures.utf8

items-are : (c : goal.After-self-1) → items_in c.extend_from_slice.new.self.items c.push.new.self.items ≡ items_in c.self.inside.text.items c.self.inside.places.items ++ empty_at c.args.path.now c.args.is_file ∷ []
unfolding place-of
items-are c =
    items-added c.self.inside.text.items c.args.path.now c.extend_from_slice.new.self.items c.self.inside.places.items c.push.new.self.items (place-of c)
    (text-is c) (places-are c) (start-is c) (end-is c) c.self.invariant.4

pub invariant_of-self : goal.invariant_of-self
invariant_of-self c =
    let inside = c.self.inside in
    let was = c.self.invariant in
    let many : length (items_in inside.text.items inside.places.items) ≡ length c.args.self.now.contents = ap (λ (f : MemoryFolder). length f.contents) c.self.view_is in
    let most : inside.items ≡ c.args.self.now.items = ap (λ (f : MemoryFolder). f.items) c.self.view_is in
    let room : inside.room ≡ c.args.self.now.room = ap (λ (f : MemoryFolder). f.room) c.self.view_is in
    let used : taken (items_in inside.text.items inside.places.items) ≡ taken c.args.self.now.contents = ap (λ (f : MemoryFolder). taken f.contents) c.self.view_is in
    let long : length (items_in inside.text.items inside.places.items) ≡ length inside.places.items = length_items inside.text.items inside.places.items in
    let text_long : length c.extend_from_slice.new.self.items ≡ length inside.text.items + length c.args.path.now = ap length (text-is c) ∙ length-append inside.text.items c.args.path.now in
    let more : taken (items_in c.extend_from_slice.new.self.items c.push.new.self.items) ≡ taken (items_in inside.text.items inside.places.items) + length c.args.path.now =
    taken-added (items_in inside.text.items inside.places.items) (items_in c.extend_from_slice.new.self.items c.push.new.self.items) c.args.path.now c.args.is_file (items-are c) in (
      omega (arith, was.0, c.extend_from_slice.ensures.capacity),
      omega (arith, was.1, c.push.ensures.capacity),
      omega (arith, c.push.ensures.upper_bound, many, most, long, inside.places.ok.0, c.requires.place),
      omega (arith, c.extend_from_slice.new.self.ok.0, text_long, inside.text.ok.0, was.5, used, room, c.requires.room),
      are-added inside.text.items c.args.path.now c.extend_from_slice.new.self.items inside.places.items c.push.new.self.items (place-of c)
          (text-is c) (places-are c) (start-is c) (end-is c) (is-path c) was.4,
      omega (arith, more, was.5, inside.text.ok.0, text_long, c.extend_from_slice.new.self.ok.0),
      ends-added (items_in inside.text.items inside.places.items) (items_in c.extend_from_slice.new.self.items c.push.new.self.items) c.args.path.now c.args.is_file (items-are c),
    )

pub returns : goal.returns
returns c =
    let held : items_in c.self.inside.text.items c.self.inside.places.items ≡ c.args.self.now.contents = ap (λ (f : MemoryFolder). f.contents) c.self.view_is in
    let are : items_in c.extend_from_slice.new.self.items c.push.new.self.items ≡ c.args.self.now.contents ++ empty_at c.args.path.now c.args.is_file ∷ [] =
    items-are c ∙ ap (λ (l : List Item). l ++ empty_at c.args.path.now c.args.is_file ∷ []) held in
    with-contents c.args.self.now _ _ _ are _ _ _ _ _ _ _ c.self.view_is
