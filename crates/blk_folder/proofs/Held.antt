-- What stays, and what is added, in the text of a folder in memory.
use Rattle.std.proofs.Common.{◌≡◌, ℕ, zero, suc, ◌+◌, ◌-◌, ◌<◌, ◌≤◌, Bool, true, false, List, [], ◌∷◌, ◌++◌, Some, length, take, drop, get_or, slice_range, refl, sym, ap, subst, ◌∙◌, arith, add-one, Result, Ok, Err, is_ok, IsOk, MatchResult, if◌then◌else◌}
use Rattle.std.proofs.lemmas.List.{take-append-le, drop-append-le, take_all, append-nil, length-append, length-drop, drop_at}
use Rattle.std.proofs.lemmas.List.Sums.{sum_by-append}
use Rattle.std.specs.Prelude.{slice_get}
use Rattle.std.specs.Str.{is_utf8}
use Rattle.blk_folder.specs.Items.{Item, Held, Directory, File, held_more, with_more, byte_count}
use Rattle.blk_folder.specs.Memory.{MemoryFolder, taken, taken_by, empty_at}
use Rattle.blk_folder.specs.Places.{held_as, item_to, items_in, end_at, IsIn, AreIn, IsFile, EndsInFile}
use Rattle.blk_folder.specs.declared.memory.Place.{Place}

-- ---- ranges of a text that grows

pub range-longer : (text more : List ℕ) (a b : ℕ) → a ≤ b → b ≤ length text → slice_range (text ++ more) a b ≡ slice_range text a b
range-longer text more a b low high =
    let below : a ≤ length text = omega (arith, low, high) in
    let fits : b - a ≤ length (drop a text) = rw (length-drop a text) (omega (arith, low, high)) in
    ap (take (b - a)) (drop-append-le a text more below) ∙ take-append-le (b - a) (drop a text) more fits

-- the range up to the end
range-end : (text : List ℕ) (a : ℕ) → slice_range text a (length text) ≡ drop a text
range-end text a = take_all (length text - a) (drop a text) (rw (length-drop a text) (omega arith))

pub range-grown : (text piece : List ℕ) (a : ℕ) → a ≤ length text → slice_range (text ++ piece) a (length (text ++ piece)) ≡ slice_range text a (length text) ++ piece
range-grown text piece a low =
    range-end (text ++ piece) a ∙ drop-append-le a text piece low ∙ ap (λ (l : List ℕ). l ++ piece) (sym (range-end text a))

-- what is added is the range from the old end on
pub range-new : (text piece : List ℕ) → slice_range (text ++ piece) (length text) (length (text ++ piece)) ≡ piece
range-new text piece = range-end (text ++ piece) (length text) ∙ drop_at text piece (length text) refl

range-none : (text : List ℕ) (a : ℕ) → slice_range text a a ≡ []
range-none text a = let none : a - a ≡ 0 = omega arith in ap (λ (k : ℕ). take k (drop a text)) none

-- ---- items of a text that grows

same-item : (path path' : List ℕ) (held held' : Held) → path ≡ path' → held ≡ held' → let a : Item = record { path = path; held = held } in let b : Item = record { path = path'; held = held' } in a ≡ b
same-item path path' held held' p h = cc

pub item-longer : (text more : List ℕ) (place : Place) (end : ℕ) → IsIn text place end → item_to (text ++ more) place end ≡ item_to text place end
item-longer text more place end is =
    same-item _ _ _ _
    (range-longer text more place.start place.path_end is.path_first (omega (arith, is.then_bytes, is.inside)))
    (ap (held_as place.is_file) (range-longer text more place.path_end end is.then_bytes is.inside))

pub in-longer : (text more : List ℕ) (place : Place) (end : ℕ) → IsIn text place end → IsIn (text ++ more) place end
in-longer text more place end is = record {
  path_first = is.path_first;
  then_bytes = is.then_bytes;
  inside = rw (length-append text more) (omega (arith, is.inside));
  is_path = ap is_utf8 (range-longer text more place.start place.path_end is.path_first (omega (arith, is.then_bytes, is.inside))) ∙ is.is_path;
}

-- ---- an item more

pub pushed : (text path : List ℕ) (places : List Place) (place : Place) → place.start ≡ length text → AreIn text places →
    items_in (text ++ path) (places ++ place ∷ []) ≡ items_in text places ++ item_to (text ++ path) place (length (text ++ path)) ∷ []
pushed text path [] place at are = refl
pushed text path (only ∷ []) place at are =
    let last : Item = item_to (text ++ path) place (length (text ++ path)) in
    ap (λ (item : Item). item ∷ last ∷ []) (ap (item_to (text ++ path) only) at ∙ item-longer text path only (length text) are)
pushed text path (first ∷ next ∷ places) place at are =
    let rest : items_in (text ++ path) (next ∷ (places ++ place ∷ [])) ≡ items_in text (next ∷ places) ++ item_to (text ++ path) place (length (text ++ path)) ∷ [] = pushed text path (next ∷ places) place at are.1 in
    let same : item_to (text ++ path) first next.start ≡ item_to text first next.start = item-longer text path first next.start are.0 in
    cc

pub are-pushed : (text path : List ℕ) (places : List Place) (place : Place) → place.start ≡ length text → IsIn (text ++ path) place (length (text ++ path)) → AreIn text places →
    AreIn (text ++ path) (places ++ place ∷ [])
are-pushed text path [] place at is are = is
are-pushed text path (only ∷ []) place at is are = (rw at (in-longer text path only (length text) are), is)
are-pushed text path (first ∷ next ∷ places) place at is are = (in-longer text path first next.start are.0, are-pushed text path (next ∷ places) place at is are.1)

-- the item without bytes that is added
pub item-new : (text path : List ℕ) (place : Place) → place.start ≡ length text → place.path_end ≡ length (text ++ path) →
    item_to (text ++ path) place (length (text ++ path)) ≡ empty_at path place.is_file
item-new text path place at end =
    same-item _ _ _ _
    (ap (λ (k : ℕ). slice_range (text ++ path) k place.path_end) at ∙ ap (slice_range (text ++ path) (length text)) end ∙ range-new text path)
    (ap (held_as place.is_file) (ap (λ (k : ℕ). slice_range (text ++ path) k (length (text ++ path))) end ∙ range-none (text ++ path) (length (text ++ path))))

-- ---- a piece more

more-held : (is_file : Bool) (bytes piece : List ℕ) → held_as is_file (bytes ++ piece) ≡ held_more piece (held_as is_file bytes)
more-held true bytes piece = refl
more-held false bytes piece = refl

last-grown : (text piece : List ℕ) (place : Place) → IsIn text place (length text) → item_to (text ++ piece) place (length (text ++ piece)) ∷ [] ≡ with_more piece (item_to text place (length text) ∷ [])
last-grown text piece place is =
    ap (λ (item : Item). item ∷ [])
    (same-item _ _ _ _
    (range-longer text piece place.start place.path_end is.path_first (omega (arith, is.then_bytes, is.inside)))
    (ap (held_as place.is_file) (range-grown text piece place.path_end is.then_bytes) ∙ more-held place.is_file (slice_range text place.path_end (length text)) piece))

pub grown : (text piece : List ℕ) (places : List Place) → AreIn text places → items_in (text ++ piece) places ≡ with_more piece (items_in text places)
grown text piece [] are = refl
grown text piece (only ∷ []) are = last-grown text piece only are
grown text piece (first ∷ next ∷ []) are =
    let rest : item_to (text ++ piece) next (length (text ++ piece)) ∷ [] ≡ with_more piece (item_to text next (length text) ∷ []) = last-grown text piece next are.1 in
    let same : item_to (text ++ piece) first next.start ≡ item_to text first next.start = item-longer text piece first next.start are.0 in
    cc
grown text piece (first ∷ next ∷ third ∷ places) are =
    let rest : items_in (text ++ piece) (next ∷ third ∷ places) ≡ with_more piece (items_in text (next ∷ third ∷ places)) = grown text piece (next ∷ third ∷ places) are.1 in
    let same : item_to (text ++ piece) first next.start ≡ item_to text first next.start = item-longer text piece first next.start are.0 in
    cc

pub are-grown : (text piece : List ℕ) (places : List Place) → AreIn text places → AreIn (text ++ piece) places
are-grown text piece [] are = tt
are-grown text piece (only ∷ []) are =
    let longer : IsIn (text ++ piece) only (length text) = in-longer text piece only (length text) are in
    record {
      path_first = are.path_first;
      then_bytes = rw (length-append text piece) (omega (arith, are.then_bytes));
      inside = omega arith;
      is_path = longer.is_path;
    }
are-grown text piece (first ∷ next ∷ places) are = (in-longer text piece first next.start are.0, are-grown text piece (next ∷ places) are.1)

-- ---- what the items take

taken-cons : (item : Item) (items : List Item) → taken (item ∷ items) ≡ taken_by item + taken items
taken-cons item items = sum_by-append taken_by (item ∷ []) items ∙ ap (λ (k : ℕ). k + taken items) (omega arith)

pub taken-push : (items : List Item) (path : List ℕ) (is_file : Bool) → taken (items ++ empty_at path is_file ∷ []) ≡ taken items + length path
taken-push items path true = sum_by-append taken_by items (empty_at path true ∷ []) ∙ omega arith
taken-push items path false = sum_by-append taken_by items (empty_at path false ∷ []) ∙ omega arith

more-taken : (path : List ℕ) (held : Held) (piece : List ℕ) → IsFile held → length path + byte_count (held_more piece held) ≡ length path + byte_count held + length piece
more-taken path Directory piece is = absurd is
more-taken path (File bytes) piece is = rw (length-append bytes piece) (omega arith)

pub taken-more : (piece : List ℕ) (items : List Item) → EndsInFile items → taken (with_more piece items) ≡ taken items + length piece
taken-more piece [] ends = absurd ends
taken-more piece (item ∷ []) ends = let more : length item.path + byte_count (held_more piece item.held) ≡ length item.path + byte_count item.held + length piece = more-taken item.path item.held piece ends in omega (arith, more)
taken-more piece (item ∷ next ∷ items) ends =
    let rest : taken (with_more piece (next ∷ items)) ≡ taken (next ∷ items) + length piece = taken-more piece (next ∷ items) ends in
    taken-cons item (with_more piece (next ∷ items)) ∙ ap (λ (k : ℕ). taken_by item + k) rest ∙ omega arith ∙ ap (λ (k : ℕ). k + length piece) (sym (taken-cons item (next ∷ items)))

-- ---- the last item

pub ends-more : (piece : List ℕ) (items : List Item) → EndsInFile items → EndsInFile (with_more piece items)
ends-more piece [] ends = ends
ends-more piece (item ∷ []) ends = file-more piece item.held ends where
  file-more : (piece : List ℕ) (held : Held) → IsFile held → IsFile (held_more piece held)
  file-more piece Directory is = is
  file-more piece (File bytes) is = tt
ends-more piece (item ∷ next ∷ []) ends = ends-more piece (next ∷ []) ends
ends-more piece (item ∷ next ∷ third ∷ items) ends = ends-more piece (next ∷ third ∷ items) ends

pub ends-push : (items : List Item) (path : List ℕ) → EndsInFile (items ++ empty_at path true ∷ [])
ends-push [] path = tt
ends-push (item ∷ []) path = tt
ends-push (item ∷ next ∷ items) path = ends-push (next ∷ items) path

-- ---- the items of the places

pub item-at : (text : List ℕ) (places : List Place) (i : ℕ) (place : Place) → i < length places → place ≡ get_or places i place →
    slice_get (items_in text places) i ≡ Some (item_to text place (end_at places (length text) i))
item-at text [] i place low is = absurd (omega (arith, low))
item-at text (only ∷ []) zero place low is = ap (λ (p : Place). Some (item_to text p (length text))) (sym is)
item-at text (only ∷ []) (suc i) place low is = absurd (omega (arith, low))
item-at text (first ∷ next ∷ places) zero place low is = ap (λ (p : Place). Some (item_to text p next.start)) (sym is)
item-at text (first ∷ next ∷ places) (suc i) place low is = item-at text (next ∷ places) i place (omega (arith, low)) is

pub in-at : (text : List ℕ) (places : List Place) (i : ℕ) (place : Place) → AreIn text places → i < length places → place ≡ get_or places i place →
    IsIn text place (end_at places (length text) i)
in-at text [] i place are low is = absurd (omega (arith, low))
in-at text (only ∷ []) zero place are low is = let P : Place → Type 0 = λ p. IsIn text p (length text) in subst P (sym is) are
in-at text (only ∷ []) (suc i) place are low is = absurd (omega (arith, low))
in-at text (first ∷ next ∷ places) zero place are low is = let P : Place → Type 0 = λ p. IsIn text p next.start in subst P (sym is) are.0
in-at text (first ∷ next ∷ places) (suc i) place are low is = in-at text (next ∷ places) i place are.1 (omega (arith, low)) is

-- the end of a place is the start of the next
next-start : (places : List Place) (len i : ℕ) (next : Place) → suc i < length places → next ≡ get_or places (suc i) next → end_at places len i ≡ next.start
next-start [] len i next low is = absurd (omega (arith, low))
next-start (only ∷ []) len i next low is = absurd (omega (arith, low))
next-start (first ∷ second ∷ places) len zero next low is = ap (λ (p : Place). p.start) (sym is)
next-start (first ∷ second ∷ places) len (suc i) next low is = next-start (second ∷ places) len i next (omega (arith, low)) is

pub end-next : (places : List Place) (len i : ℕ) (next : Place) → i + 1 < length places → next ≡ get_or places (i + 1) next → end_at places len i ≡ next.start
end-next places len i next low is = next-start places len i next (omega (arith, low)) (rw add-one at is)

pub end-last : (places : List Place) (len i : ℕ) → length places ≤ i + 1 → end_at places len i ≡ len
end-last [] len i low = refl
end-last (only ∷ []) len i low = refl
end-last (first ∷ second ∷ places) len zero low = absurd (omega (arith, low))
end-last (first ∷ second ∷ places) len (suc i) low = end-last (second ∷ places) len i (omega (arith, low))

pub length_items : (text : List ℕ) (places : List Place) → length (items_in text places) ≡ length places
length_items text [] = refl
length_items text (only ∷ []) = refl
length_items text (first ∷ next ∷ places) = ap suc (length_items text (next ∷ places))

-- ---- what contracts see

abbrev pub held_in : List ℕ → List Place → List Item → Type 0
held_in text places items = items_in text places ≡ items

-- a place that an item has
pub place-low : (text : List ℕ) (places : List Place) (items : List Item) (len i : ℕ) → held_in text places items → len ≡ length places → i < length items → i < len
place-low text places items len i held is low = let long : length items ≡ length places = ap length (sym held) ∙ length_items text places in omega (arith, low, is, long)

-- the item of a place
pub held-at : (text : List ℕ) (places : List Place) (items : List Item) (i : ℕ) (place : Place) (item : Item) → held_in text places items → i < length places → place ≡ get_or places i place → slice_get items i ≡ Some item → item ≡ item_to text place (end_at places (length text) i)
held-at text places items i place item held low is at =
    let got : slice_get items i ≡ Some (item_to text place (end_at places (length text) i)) = ap (λ (l : List Item). slice_get l i) (sym held) ∙ item-at text places i place low is in
    Prim.cc

-- a growth that was not refused
pub ok-is : {A E X : Type 0} (r : Result A E) (a : A) (more same new : X) → r ≡ Ok a → new ≡ (if is_ok r then more else same) → new ≡ more
ok-is {A} {E} {X} r a more same new ok is = let P : Result A E → Type 0 = λ s. new ≡ (if is_ok s then more else same) in subst P ok is

-- the places after an item more
pub are-added : (text path new_text : List ℕ) (places new_places : List Place) (place : Place) → new_text ≡ text ++ path → new_places ≡ places ++ place ∷ [] →
    place.start ≡ length text → place.path_end ≡ length new_text → is_utf8 path ≡ true → AreIn text places → AreIn new_text new_places
are-added text path new_text places new_places place t p start end utf8 are =
    let long : length new_text ≡ length text + length path = ap length t ∙ length-append text path in
    let high : place.path_end ≡ length (text ++ path) = end ∙ ap length t in
    let here : slice_range (text ++ path) place.start place.path_end ≡ path =
    ap (λ (k : ℕ). slice_range (text ++ path) k place.path_end) start ∙ ap (slice_range (text ++ path) (length text)) high ∙ range-new text path in
    let is : IsIn (text ++ path) place (length (text ++ path)) = record {
      path_first = omega (arith, start, end, long);
      then_bytes = omega (arith, high);
      inside = omega arith;
      is_path = ap is_utf8 here ∙ utf8;
    } in
    let P : List ℕ → Type 0 = λ l. AreIn l new_places in
    let Q : List Place → Type 0 = λ l. AreIn (text ++ path) l in
    subst P (sym t) (subst Q (sym p) (are-pushed text path places place start is are))

pub items-added : (text path new_text : List ℕ) (places new_places : List Place) (place : Place) → new_text ≡ text ++ path → new_places ≡ places ++ place ∷ [] →
    place.start ≡ length text → place.path_end ≡ length new_text → AreIn text places → items_in new_text new_places ≡ items_in text places ++ empty_at path place.is_file ∷ []
items-added text path new_text places new_places place t p start end are =
    ap (λ (l : List ℕ). items_in l new_places) t
    ∙ ap (items_in (text ++ path)) p
    ∙ pushed text path places place start are
    ∙ ap (λ (item : Item). items_in text places ++ item ∷ []) (item-new text path place start (end ∙ ap length t))

-- the contents and whether it is writing are what changes of a folder
pub with-contents : (folder : MemoryFolder) (old new held : List Item) → new ≡ held → (items room : ℕ) (fails : List ℕ) (calls faults : ℕ) (was now : Bool) →
    (let seen : MemoryFolder = record { contents = old; items = items; room = room; fails = fails; calls = calls; faults = faults; writing = was } in seen ≡ folder) →
    let seen : MemoryFolder = record { contents = new; items = items; room = room; fails = fails; calls = calls; faults = faults; writing = now } in seen ≡ record folder { contents = held; writing = now }
with-contents folder old new held same items room fails calls faults was now is =
    let P : MemoryFolder → Type 0 = λ f. let seen : MemoryFolder = record { contents = new; items = items; room = room; fails = fails; calls = calls; faults = faults; writing = now } in seen ≡ record f { contents = held; writing = now } in
    subst P is (ap (λ (l : List Item). let seen : MemoryFolder = record { contents = l; items = items; room = room; fails = fails; calls = calls; faults = faults; writing = now } in seen) same)

-- the contents are all that changes of a folder
pub with-contents-alone : (folder : MemoryFolder) (old new held : List Item) → new ≡ held → (items room : ℕ) (fails : List ℕ) (calls faults : ℕ) (was : Bool) →
    (let seen : MemoryFolder = record { contents = old; items = items; room = room; fails = fails; calls = calls; faults = faults; writing = was } in seen ≡ folder) →
    let seen : MemoryFolder = record { contents = new; items = items; room = room; fails = fails; calls = calls; faults = faults; writing = was } in seen ≡ record folder { contents = held }
with-contents-alone folder old new held same items room fails calls faults was is =
    let P : MemoryFolder → Type 0 = λ f. let seen : MemoryFolder = record { contents = new; items = items; room = room; fails = fails; calls = calls; faults = faults; writing = was } in seen ≡ record f { contents = held } in
    subst P is (ap (λ (l : List Item). let seen : MemoryFolder = record { contents = l; items = items; room = room; fails = fails; calls = calls; faults = faults; writing = was } in seen) same)

-- the bytes that the items of an item more take, and that they end in a file
pub taken-added : (old new : List Item) (path : List ℕ) (is_file : Bool) → new ≡ old ++ empty_at path is_file ∷ [] → taken new ≡ taken old + length path
taken-added old new path is_file is = ap taken is ∙ taken-push old path is_file

pub ends-added : (old new : List Item) (path : List ℕ) (is_file : Bool) → new ≡ old ++ empty_at path is_file ∷ [] → is_file ≡ true → EndsInFile new
ends-added old new path is_file is file =
    let P : Bool → Type 0 = λ b. EndsInFile (old ++ empty_at path b ∷ []) in
    subst EndsInFile (sym is) (subst P (sym file) (ends-push old path))

-- nothing more is what there is
pub with_no_more : (items : List Item) → items ≡ with_more [] items
with_no_more [] = refl
with_no_more (item ∷ []) = ap (λ (held : Held). let more : Item = record { path = item.path; held = held } in more ∷ []) (none-more item.held) where
  none-more : (held : Held) → held ≡ held_more [] held
  none-more Directory = refl
  none-more (File bytes) = ap File (sym (append-nil bytes))
with_no_more (item ∷ next ∷ items) = ap (λ (l : List Item). item ∷ l) (with_no_more (next ∷ items))

-- a piece more of what is told is held
pub grown-held : (text piece new_text : List ℕ) (places : List Place) (items : List Item) → held_in text places items → new_text ≡ text ++ piece → AreIn text places → held_in new_text places (with_more piece items)
grown-held text piece new_text places items held t are = ap (λ (l : List ℕ). items_in l places) t ∙ grown text piece places are ∙ ap (with_more piece) held

-- ---- what is read of an item

-- the place of an item lies in the text
pub seen-in : (text : List ℕ) (places : List Place) (items : List Item) (i : ℕ) (place : Place) → held_in text places items → AreIn text places → i < length items → place ≡ get_or places i place → IsIn text place (end_at places (length text) i)
seen-in text places items i place held are low is = in-at text places i place are (place-low text places items (length places) i held refl low) is

-- what the item of a place is
pub seen-at : (text : List ℕ) (places : List Place) (items : List Item) (i : ℕ) (place : Place) (item : Item) → held_in text places items → i < length items → place ≡ get_or places i place → slice_get items i ≡ Some item → item ≡ item_to text place (end_at places (length text) i)
seen-at text places items i place item held low is at = held-at text places items i place item held (place-low text places items (length places) i held refl low) is at

pub held-file : (text bytes : List ℕ) (place : Place) (end : ℕ) (item : Item) → item ≡ item_to text place end → place.is_file ≡ true → bytes ≡ slice_range text place.path_end end → item.held ≡ File bytes
held-file text bytes place end item is file same =
    ap (λ (i : Item). i.held) is ∙ ap (λ (b : Bool). held_as b (slice_range text place.path_end end)) file ∙ ap File (sym same)

pub held-directory : (text : List ℕ) (place : Place) (end : ℕ) (item : Item) → item ≡ item_to text place end → place.is_file ≡ false → item.held ≡ Directory
held-directory text place end item is file = ap (λ (i : Item). i.held) is ∙ ap (λ (b : Bool). held_as b (slice_range text place.path_end end)) file

-- bytes that are UTF-8 are read as text
pub utf8-ok : {A E : Type 0} (r : Result A E) (P : A → Type 0) (Q : E → Type 0) (U : Type 0) → MatchResult r P (λ e. ¬ U × Q e) → U → IsOk r
utf8-ok (Ok a) P Q U is u = refl
utf8-ok (Err e) P Q U is u = absurd (is.0 u)
