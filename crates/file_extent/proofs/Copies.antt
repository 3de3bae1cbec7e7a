-- What a sink has after some pieces.
use Rattle.std.proofs.Common.{◌≡◌, ℕ, List, [], ◌++◌, Option, None, Some, Result, Ok, Err, refl, ap, sym, subst, ◌∙◌, append_assoc, append-nil}
use Rattle.std.specs.Prelude.{MatchResult}
use Rattle.apfs_model.specs.Sink.{Wrote, WrotePart}
use Rattle.file_extent.specs.Copied.{CopiedWhole, CopiedFront}

wrote-more : (a b c : Option (List ℕ)) (x y : List ℕ) → Wrote a b x → Wrote b c y → Wrote a c (x ++ y)
wrote-more a b c x y first second held told = second (held ++ x) (first held told) ∙ ap (λ (l : List ℕ). Some l) (append_assoc held x y)

-- nothing was put
nothing-put : (a : Option (List ℕ)) (told : Option (List ℕ)) (text : List ℕ → List ℕ) → CopiedFront a a told text
nothing-put a told text = ([], λ held has. has ∙ ap (λ (l : List ℕ). Some l) (sym (append-nil held)), λ image known. (text image, refl))

-- the same after an error of any kind
pub none-after : {T E : Type 0} (r : Result T E) (a : Option (List ℕ)) (told : Option (List ℕ)) (text : List ℕ → List ℕ) → MatchResult r (λ x. Unit {0}) (λ e. CopiedFront a a told text)
none-after (Ok x) a told text = tt
none-after (Err e) a told text = nothing-put a told text

-- a piece was put that is the text
pub piece-put : (a b told : Option (List ℕ)) (text : List ℕ → List ℕ) (piece : List ℕ) → Wrote a b piece → ((image : List ℕ) → told ≡ Some image → piece ≡ text image) → CopiedWhole a b told text
piece-put a b told text piece put same = (piece, put, same)

-- a front of a piece that is a front of the text was put
pub piece-cut : (a b told : Option (List ℕ)) (text : List ℕ → List ℕ) (piece : List ℕ) → WrotePart a b piece → ((image : List ℕ) → told ≡ Some image → (rest : List ℕ) × (text image ≡ piece ++ rest)) → CopiedFront a b told text
piece-cut None b told text piece put same = ([], λ held has. Prim.cc, λ image known. (text image, refl))
piece-cut (Some before) b told text piece put same =
    let p = put before refl in (
      p.0,
      λ held has. let e : b ≡ Some (before ++ p.0) = p.3 in Prim.cc,
      λ image known. let more = same image known in (p.1 ++ more.0, more.1 ∙ ap (λ (l : List ℕ). l ++ more.0) p.2 ∙ append_assoc p.0 p.1 more.0),
    )

-- a text was put after another
pub copied-more : (a b c told later : Option (List ℕ)) (x y z : List ℕ → List ℕ) → later ≡ told → ((image : List ℕ) → x image ++ y image ≡ z image) → CopiedWhole a b told x → CopiedWhole b c later y → CopiedWhole a c told z
copied-more a b c told later x y z kept both first second = (
  first.0 ++ second.0,
  wrote-more a b c first.0 second.0 first.1 second.1,
  λ image known. ap (λ (l : List ℕ). l ++ second.0) (first.2 image known) ∙ ap (λ (l : List ℕ). x image ++ l) (second.2 image (kept ∙ known)) ∙ both image,
)

-- a front of a text was put after another text
pub copied-cut : (a b c told later : Option (List ℕ)) (x y z : List ℕ → List ℕ) → later ≡ told → ((image : List ℕ) → x image ++ y image ≡ z image) → CopiedWhole a b told x → CopiedFront b c later y → CopiedFront a c told z
copied-cut a b c told later x y z kept both first second = (
  first.0 ++ second.0,
  wrote-more a b c first.0 second.0 first.1 second.1,
  λ image known.
      let more = second.2 image (kept ∙ known) in (
        more.0,
        sym (both image) ∙ ap (λ (l : List ℕ). l ++ y image) (sym (first.2 image known)) ∙ ap (λ (l : List ℕ). first.0 ++ l) more.1 ∙ sym (append_assoc first.0 second.0 more.0),
      ),
)

-- what was copied is the whole text, in the words of a sink
pub whole-wrote : (a b told : Option (List ℕ)) (text : List ℕ → List ℕ) → CopiedWhole a b told text → (image : List ℕ) → told ≡ Some image → Wrote a b (text image)
whole-wrote a b told text copied image known = subst (λ (l : List ℕ). Wrote a b l) (copied.2 image known) copied.1

-- what was copied is a front of the text, in the words of a sink
pub front-wrote : (a b told : Option (List ℕ)) (text : List ℕ → List ℕ) → CopiedFront a b told text → (image : List ℕ) → told ≡ Some image → WrotePart a b (text image)
front-wrote a b told text copied image known held has = let more = copied.2 image known in (copied.0, more.0, more.1, copied.1 held has)
