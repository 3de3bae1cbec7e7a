-- What the last item of a folder has after some pieces.
use Rattle.std.proofs.Common.{◌≡◌, ℕ, List, [], ◌∷◌, ◌++◌, Option, None, Some, Result, Ok, Err, refl, ap, sym, ◌∙◌, append_assoc, append-nil}
use Rattle.std.specs.Prelude.{MatchResult}
use Rattle.blk_folder.specs.Items.{Item, Held, Directory, File, held_more, with_more}
use Rattle.blk_folder.specs.Put.{Appended, AppendedPart}
use Rattle.tree_export.specs.Parts.{AppendedWhole, AppendedFront}

held-more : (x y : List ℕ) (held : Held) → held_more y (held_more x held) ≡ held_more (x ++ y) held
held-more x y Directory = refl
held-more x y (File bytes) = ap File (append_assoc bytes x y)

more-more : (x y : List ℕ) (items : List Item) → with_more y (with_more x items) ≡ with_more (x ++ y) items
more-more x y [] = refl
more-more x y (item ∷ []) = ap (λ (h : Held). record { path = item.path; held = h } ∷ []) (held-more x y item.held)
more-more x y (item ∷ next ∷ []) = ap (λ (l : List Item). item ∷ l) (more-more x y (next ∷ []))
more-more x y (item ∷ next ∷ third ∷ items) = ap (λ (l : List Item). item ∷ l) (more-more x y (next ∷ third ∷ items))

held-none : (held : Held) → held_more [] held ≡ held
held-none Directory = refl
held-none (File bytes) = ap File (append-nil bytes)

more-none : (items : List Item) → with_more [] items ≡ items
more-none [] = refl
more-none (item ∷ []) = ap (λ (h : Held). record { path = item.path; held = h } ∷ []) (held-none item.held)
more-none (item ∷ next ∷ items) = ap (λ (l : List Item). item ∷ l) (more-none (next ∷ items))

appended-more : (a b c : Option (List Item)) (x y : List ℕ) → Appended a b x → Appended b c y → Appended a c (x ++ y)
appended-more a b c x y first second held told = second (with_more x held) (first held told) ∙ ap (λ (l : List Item). Some l) (more-more x y held)

-- nothing was put
pub none_appended : (a : Option (List Item)) (told : Option (List ℕ)) (text : List ℕ → List ℕ) → AppendedFront a a told text
none_appended a told text = ([], λ held has. has ∙ ap (λ (l : List Item). Some l) (sym (more-none held)), λ image known. (text image, refl))

-- the same after an error of any kind
pub none_after : {T E : Type 0} (r : Result T E) (a : Option (List Item)) (told : Option (List ℕ)) (text : List ℕ → List ℕ) → MatchResult r (λ x. Unit {0}) (λ e. AppendedFront a a told text)
none_after (Ok x) a told text = tt
none_after (Err e) a told text = none_appended a told text

-- a piece was put that is the text
pub piece_put : (a b : Option (List Item)) (told : Option (List ℕ)) (text : List ℕ → List ℕ) (piece : List ℕ) → Appended a b piece → ((image : List ℕ) → told ≡ Some image → piece ≡ text image) → AppendedWhole a b told text
piece_put a b told text piece put same = (piece, put, same)

-- a front of a piece that is a front of the text was put
pub piece_cut : (a b : Option (List Item)) (told : Option (List ℕ)) (text : List ℕ → List ℕ) (piece : List ℕ) → AppendedPart a b piece → ((image : List ℕ) → told ≡ Some image → (rest : List ℕ) × (text image ≡ piece ++ rest)) → AppendedFront a b told text
piece_cut None b told text piece put same = ([], λ held has. Prim.cc, λ image known. (text image, refl))
piece_cut (Some before) b told text piece put same =
    let p = put before refl in (
      p.0,
      λ held has. let e : b ≡ Some (with_more p.0 before) = p.3 in Prim.cc,
      λ image known. let more = same image known in (p.1 ++ more.0, more.1 ∙ ap (λ (l : List ℕ). l ++ more.0) p.2 ∙ append_assoc p.0 p.1 more.0),
    )

-- a text was put after another
pub pieces_more : (a b c : Option (List Item)) (told later : Option (List ℕ)) (x y z : List ℕ → List ℕ) → later ≡ told → ((image : List ℕ) → x image ++ y image ≡ z image) → AppendedWhole a b told x → AppendedWhole b c later y → AppendedWhole a c told z
pieces_more a b c told later x y z kept both first second = (
  first.0 ++ second.0,
  appended-more a b c first.0 second.0 first.1 second.1,
  λ image known. ap (λ (l : List ℕ). l ++ second.0) (first.2 image known) ∙ ap (λ (l : List ℕ). x image ++ l) (second.2 image (kept ∙ known)) ∙ both image,
)

-- a front of a text was put after another text
pub pieces_cut : (a b c : Option (List Item)) (told later : Option (List ℕ)) (x y z : List ℕ → List ℕ) → later ≡ told → ((image : List ℕ) → x image ++ y image ≡ z image) → AppendedWhole a b told x → AppendedFront b c later y → AppendedFront a c told z
pieces_cut a b c told later x y z kept both first second = (
  first.0 ++ second.0,
  appended-more a b c first.0 second.0 first.1 second.1,
  λ image known.
      let more = second.2 image (kept ∙ known) in (
        more.0,
        sym (both image) ∙ ap (λ (l : List ℕ). l ++ y image) (sym (first.2 image known)) ∙ ap (λ (l : List ℕ). first.0 ++ l) more.1 ∙ sym (append_assoc first.0 second.0 more.0),
      ),
)

-- the start of a text
pub none_whole : (a : Option (List Item)) (told : Option (List ℕ)) (text : List ℕ → List ℕ) → ((image : List ℕ) → [] ≡ text image) → AppendedWhole a a told text
none_whole a told text empty = ([], λ held has. has ∙ ap (λ (l : List Item). Some l) (sym (more-none held)), λ image known. empty image)
