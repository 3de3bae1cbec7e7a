-- What a folder has after some items.
use Rattle.std.proofs.Common.{◌≡◌, ◌⊎◌, inl, inr, ℕ, List, [], ◌∷◌, ◌++◌, Option, None, Some, refl, ap, sym, ◌∙◌, subst, append_assoc, append-nil}
use Rattle.std.specs.List.{cons_option}
use Rattle.std.proofs.lemmas.List.Elements.{filter_map-append, All-nil, All-cons, All-append}
use Rattle.view_rules.specs.Facts.{Facts}
use Rattle.blk_folder.specs.Items.{Item, file_at, held_more, with_more, IsBegun, EndsWith, IsFront}
use Rattle.blk_folder.specs.Put.{Added, MayHaveAdded, Appended, Filled}
use Rattle.tree_export.specs.Exported.{Wanted, put_for, put_all}
use Rattle.tree_export.specs.Filled.{FilledWhole, FilledFront}
use Rattle.tree_export.specs.Safe.{IsSafe, AreSafe}
use Rattle.tree_export.specs.Parts.{AppendedWhole, AppendedFront}

-- ---- what was added
pub none_filled : (a : Option (List Item)) → Filled a a []
none_filled a held told = told ∙ ap (λ (l : List Item). Some l) (sym (append-nil held))

filled-more : (a b c : Option (List Item)) (x y : List Item) → Filled a b x → Filled b c y → Filled a c (x ++ y)
filled-more a b c x y first second held told = second (held ++ x) (first held told) ∙ ap (λ (l : List Item). Some l) (append_assoc held x y)

-- the same record is the last one, with more bytes
last-more : (piece : List ℕ) (held : List Item) (item : Item) → with_more piece (held ++ item ∷ []) ≡ held ++ record { path = item.path; held = held_more piece item.held } ∷ []
last-more piece [] item = refl
last-more piece (first ∷ []) item = refl
last-more piece (first ∷ next ∷ held) item = ap (λ (l : List Item). first ∷ l) (last-more piece (next ∷ held) item)

-- a file was begun, and bytes were put
file-put : (a b c : Option (List Item)) (path part : List ℕ) → Added a b (file_at path []) → Appended b c part → Filled a c (file_at path part ∷ [])
file-put a b c path part begun put held told = put (held ++ file_at path [] ∷ []) (begun held told) ∙ ap (λ (l : List Item). Some l) (last-more part held (file_at path []))

-- what may have been added is an item, or nothing
pub may_filled : (a b : Option (List Item)) (item : Item) → MayHaveAdded a b item → (added : List Item) × Filled a b added × ((added ≡ []) ⊎ (added ≡ item ∷ []))
may_filled None b item part = ([], λ held told. Prim.cc, inl refl)
may_filled (Some before) b item part = elim (part before refl) as (λ _. (added : List Item) × Filled (Some before) b added × ((added ≡ []) ⊎ (added ≡ item ∷ []))) [
  | inl same ↦ ([], λ held told. let e : b ≡ Some (before ++ []) = same ∙ ap (λ (l : List Item). Some l) (sym (append-nil before)) in Prim.cc, inl refl)
  | inr more ↦ (item ∷ [], λ held told. let e : b ≡ Some (before ++ item ∷ []) = more in Prim.cc, inr refl)
]

-- ---- fronts
pub front_none : (items : List Item) → IsFront [] items
front_none items = record { whole = []; rest = items; split = refl; end = inl refl }

pub front_all : (items : List Item) → IsFront items items
front_all items = record { whole = items; rest = []; split = sym (append-nil items); end = inl refl }

pub front_file : (path bytes part left : List ℕ) → bytes ≡ part ++ left → IsFront (file_at path part ∷ []) (file_at path bytes ∷ [])
front_file path bytes part left split = record {
  whole = [];
  rest = file_at path bytes ∷ [];
  split = refl;
  end = inr (path, part, record { bytes = bytes; later = []; first = refl; left = left; split = split }, refl);
}

front-after : (xs front ys : List Item) → IsFront front ys → IsFront (xs ++ front) (xs ++ ys)
front-after xs front ys f = record {
  whole = xs ++ f.whole;
  rest = f.rest;
  split = ap (λ (l : List Item). xs ++ l) f.split ∙ sym (append_assoc xs f.whole f.rest);
  end = elim f.end as (λ _. EndsWith (xs ++ f.whole) f.rest (xs ++ front)) [
    | inl same ↦ inl (ap (λ (l : List Item). xs ++ l) same)
    | inr cut ↦ inr (cut.0, cut.1, cut.2, ap (λ (l : List Item). xs ++ l) cut.3 ∙ sym (append_assoc xs f.whole (file_at cut.0 cut.1 ∷ [])))
  ];
}

begun-more : (path front : List ℕ) (rest ys : List Item) → IsBegun path front rest → IsBegun path front (rest ++ ys)
begun-more path front rest ys b = record { bytes = b.bytes; later = b.later ++ ys; first = ap (λ (l : List Item). l ++ ys) b.first; left = b.left; split = b.split }

front-more : (front xs ys : List Item) → IsFront front xs → IsFront front (xs ++ ys)
front-more front xs ys f = record {
  whole = f.whole;
  rest = f.rest ++ ys;
  split = ap (λ (l : List Item). l ++ ys) f.split ∙ append_assoc f.whole f.rest ys;
  end = elim f.end as (λ _. EndsWith f.whole (f.rest ++ ys) front) [
    | inl same ↦ inl same
    | inr cut ↦ inr (cut.0, cut.1, begun-more cut.0 cut.1 f.rest ys cut.2, cut.3)
  ];
}

-- ---- paths that stay in the folder
none-safe : AreSafe []
none-safe = All-nil (λ (item : Item). IsSafe item.path)

one-safe : (item : Item) → IsSafe item.path → AreSafe (item ∷ [])
one-safe item safe = All-cons (λ (i : Item). IsSafe i.path) item [] safe none-safe

more-safe : (xs ys : List Item) → AreSafe xs → AreSafe ys → AreSafe (xs ++ ys)
more-safe xs ys first second = All-append (λ (item : Item). IsSafe item.path) xs ys first second

-- ---- what a call has filled
-- nothing, before anything is wanted
pub filled_none : (a : Option (List Item)) (told : Option (List ℕ)) (sound : List ℕ → Type 0) (wanted : List ℕ → List Item) → ((image : List ℕ) → [] ≡ wanted image) → FilledWhole a a told sound wanted
filled_none a told sound wanted empty = ([], none_filled a, (λ image known s. empty image), none-safe)

pub front_filled : (a : Option (List Item)) (told : Option (List ℕ)) (sound : List ℕ → Type 0) (wanted : List ℕ → List Item) → FilledFront a a told sound wanted
front_filled a told sound wanted = ([], none_filled a, (λ image known s. front_none (wanted image)), none-safe)

-- an item was added
pub filled_item : (a b : Option (List Item)) (told : Option (List ℕ)) (sound : List ℕ → Type 0) (wanted : List ℕ → List Item) (item : Item) → IsSafe item.path → Added a b item → ((image : List ℕ) → item ∷ [] ≡ wanted image) → FilledWhole a b told sound wanted
filled_item a b told sound wanted item safe added same = (item ∷ [], added, (λ image known s. same image), one-safe item safe)

-- it may have been added
pub front_item : (a b : Option (List Item)) (told : Option (List ℕ)) (sound : List ℕ → Type 0) (wanted : List ℕ → List Item) (item : Item) → IsSafe item.path → MayHaveAdded a b item → ((image : List ℕ) → IsFront (item ∷ []) (wanted image)) → FilledFront a b told sound wanted
front_item a b told sound wanted item safe part front =
    let m = may_filled a b item part in (
      m.0,
      m.1,
      (
          λ image known s. elim m.2 as (λ _. IsFront m.0 (wanted image)) [
            | inl none ↦ subst (λ (l : List Item). IsFront l (wanted image)) (sym none) (front_none (wanted image))
            | inr one ↦ subst (λ (l : List Item). IsFront l (wanted image)) (sym one) (front image)
          ]
          ),
      elim m.2 as (λ _. AreSafe m.0) [ inl none ↦ subst AreSafe (sym none) none-safe | inr one ↦ subst AreSafe (sym one) (one-safe item safe) ],
    )

-- a file was begun and has all its bytes
pub filled_file : (a b c : Option (List Item)) (told later : Option (List ℕ)) (sound : List ℕ → Type 0) (path : List ℕ) (bytes text : List ℕ → List ℕ) → later ≡ told → IsSafe path → Added a b (file_at path []) → AppendedWhole b c later text →
    ((image : List ℕ) → told ≡ Some image → sound image → bytes image ≡ text image) → FilledWhole a c told sound (λ (image : List ℕ). file_at path (bytes image) ∷ [])
filled_file a b c told later sound path bytes text kept safe begun put same =
    (file_at path put.0 ∷ [], file-put a b c path put.0 begun put.1, (λ image known s. ap (λ (l : List ℕ). file_at path l ∷ []) (put.2 image (kept ∙ known) ∙ sym (same image known s))), one-safe (file_at path put.0) safe)

-- or a front of its bytes
pub front_bytes : (a b c : Option (List Item)) (told later : Option (List ℕ)) (sound : List ℕ → Type 0) (path : List ℕ) (bytes text : List ℕ → List ℕ) → later ≡ told → IsSafe path → Added a b (file_at path []) → AppendedFront b c later text →
    ((image : List ℕ) → told ≡ Some image → sound image → bytes image ≡ text image) → FilledFront a c told sound (λ (image : List ℕ). file_at path (bytes image) ∷ [])
front_bytes a b c told later sound path bytes text kept safe begun put same =
    (file_at path put.0 ∷ [], file-put a b c path put.0 begun put.1, (λ image known s. let rest = put.2 image (kept ∙ known) in front_file path (bytes image) put.0 rest.0 (same image known s ∙ rest.1)), one-safe (file_at path put.0) safe)

-- items were added after others
pub filled_more : (a b c : Option (List Item)) (told later : Option (List ℕ)) (sound : List ℕ → Type 0) (x y z : List ℕ → List Item) → later ≡ told → ((image : List ℕ) → x image ++ y image ≡ z image) → FilledWhole a b told sound x → FilledWhole b c later sound y → FilledWhole a c told sound z
filled_more a b c told later sound x y z kept both first second = (
  first.0 ++ second.0,
  filled-more a b c first.0 second.0 first.1 second.1,
  (λ image known s. ap (λ (l : List Item). l ++ second.0) (first.2 image known s) ∙ (ap (λ (l : List Item). x image ++ l) (second.2 image (kept ∙ known) s) ∙ both image)),
  more-safe first.0 second.0 first.3 second.3,
)

-- a front of some was added after others, and more were wanted
pub filled_cut : (a b c : Option (List Item)) (told later : Option (List ℕ)) (sound : List ℕ → Type 0) (x y z rest : List ℕ → List Item) → later ≡ told → ((image : List ℕ) → (x image ++ y image) ++ rest image ≡ z image) → FilledWhole a b told sound x → FilledFront b c later sound y → FilledFront a c told sound z
filled_cut a b c told later sound x y z rest kept both first second = (
  first.0 ++ second.0,
  filled-more a b c first.0 second.0 first.1 second.1,
  (
      λ image known s.
      let here : IsFront (first.0 ++ second.0) (first.0 ++ y image) = front-after first.0 second.0 (y image) (second.2 image (kept ∙ known) s) in
      let there : IsFront (first.0 ++ second.0) (x image ++ y image) = subst (λ (l : List Item). IsFront (first.0 ++ second.0) (l ++ y image)) (first.2 image known s) here in
      subst (λ (l : List Item). IsFront (first.0 ++ second.0) l) (both image) (front-more (first.0 ++ second.0) (x image ++ y image) (rest image) there)
      ),
  more-safe first.0 second.0 first.3 second.3,
)

-- all of some are a front, where more were wanted
pub filled_front : (a b : Option (List Item)) (told : Option (List ℕ)) (sound : List ℕ → Type 0) (x z rest : List ℕ → List Item) → ((image : List ℕ) → x image ++ rest image ≡ z image) → FilledWhole a b told sound x → FilledFront a b told sound z
filled_front a b told sound x z rest both first = (
  first.0,
  first.1,
  (λ image known s. subst (λ (l : List Item). IsFront first.0 l) (both image) (front-more first.0 (x image) (rest image) (subst (λ (l : List Item). IsFront first.0 l) (first.2 image known s) (front_all first.0)))),
  first.3,
)

-- what is wanted may be said in other words, and of a source that has the same bytes
pub filled_as : (a b : Option (List Item)) (told later : Option (List ℕ)) (sound : List ℕ → Type 0) (x y : List ℕ → List Item) → later ≡ told → ((image : List ℕ) → told ≡ Some image → sound image → x image ≡ y image) → FilledWhole a b later sound x → FilledWhole a b told sound y
filled_as a b told later sound x y kept same first = (first.0, first.1, (λ image known s. first.2 image (kept ∙ known) s ∙ same image known s), first.3)

pub front_as : (a b : Option (List Item)) (told later : Option (List ℕ)) (sound : List ℕ → Type 0) (x y : List ℕ → List Item) → later ≡ told → ((image : List ℕ) → told ≡ Some image → sound image → x image ≡ y image) → FilledFront a b later sound x → FilledFront a b told sound y
front_as a b told later sound x y kept same first = (first.0, first.1, (λ image known s. subst (λ (l : List Item). IsFront first.0 l) (same image known s) (first.2 image (kept ∙ known) s)), first.3)

-- ---- what is put for some items
pub put_append : (block_size : ℕ) (image : List ℕ) (facts : Facts) (xs ys : List Wanted) → put_all block_size image facts (xs ++ ys) ≡ put_all block_size image facts xs ++ put_all block_size image facts ys
unfolding put_all
put_append block_size image facts xs ys = filter_map-append (put_for block_size image facts) xs ys

pub put_one : (block_size : ℕ) (image : List ℕ) (facts : Facts) (item : Wanted) → put_all block_size image facts (item ∷ []) ≡ cons_option (put_for block_size image facts item) []
unfolding put_all
put_one block_size image facts item = refl

pub put_nothing : (block_size : ℕ) (image : List ℕ) (facts : Facts) → [] ≡ put_all block_size image facts []
unfolding put_all
put_nothing block_size image facts = refl
