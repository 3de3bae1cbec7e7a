-- The part that was put, by what was put.
use Rattle.std.proofs.Common.{◌≡◌, inl, inr, ℕ, List, [], ◌++◌, Option, Some, None, Result, Ok, Err, refl, ap, sym, ◌∙◌, append-nil}
use Rattle.apfs_model.specs.Sink.{Wrote, WrotePart}
use Rattle.file_extent.specs.Copied.{CopiedWhole, CopiedFront}
use Rattle.path_search.specs.declared.answer.Answer.{Answer}
use Rattle.path_read.specs.Written.{HasFront, HasWhole, HasPart}
use Rattle.path_read.specs.declared.stop.WriteStop.{WriteStop}

wrote_nothing : (old : Option (List ℕ)) → Wrote old old []
wrote_nothing old held has = has ∙ ap (λ (l : List ℕ). Some l) (sym (append-nil held))

-- a stop before anything was put
pub none_parted : (old told : Option (List ℕ)) (lawful : List ℕ → Type 0) (wanted : List ℕ → Result (List ℕ) Answer) (stop : WriteStop) → HasPart old old told lawful wanted (Err stop)
none_parted old told lawful wanted stop = ([], wrote_nothing old, inl refl)

-- nothing is wanted
pub empty_parted : (old told : Option (List ℕ)) (lawful : List ℕ → Type 0) (wanted : List ℕ → Result (List ℕ) Answer) → HasWhole told lawful wanted [] → HasPart old old told lawful wanted (Ok tt)
empty_parted old told lawful wanted given = ([], wrote_nothing old, given)

-- a stream that is wanted was copied
pub whole_parted : (old new told later : Option (List ℕ)) (lawful : List ℕ → Type 0) (wanted : List ℕ → Result (List ℕ) Answer) (text : List ℕ → List ℕ) → later ≡ told →
    ((image : List ℕ) → told ≡ Some image → lawful image → wanted image ≡ Ok (text image)) → CopiedWhole old new later text → HasPart old new told lawful wanted (Ok tt)
whole_parted old new told later lawful wanted text kept given copied =
    (copied.0, copied.1, λ image known ok. given image known ok ∙ ap (λ (l : List ℕ). Ok l) (sym (copied.2 image (kept ∙ known))))

-- a front of a stream that is wanted was copied
pub front_parted : (old new told later : Option (List ℕ)) (lawful : List ℕ → Type 0) (wanted : List ℕ → Result (List ℕ) Answer) (text : List ℕ → List ℕ) (stop : WriteStop) → later ≡ told →
    ((image : List ℕ) → told ≡ Some image → lawful image → wanted image ≡ Ok (text image)) → CopiedFront old new later text → HasPart old new told lawful wanted (Err stop)
front_parted old new told later lawful wanted text stop kept given copied =
    (copied.0, copied.1, inr (λ image known. let more = copied.2 image (kept ∙ known) in (text image, more.0, more.1, given image known)))

-- a piece that is wanted was put
pub piece_parted : (old new told : Option (List ℕ)) (lawful : List ℕ → Type 0) (wanted : List ℕ → Result (List ℕ) Answer) (piece : List ℕ) →
    ((image : List ℕ) → wanted image ≡ Ok piece) → Wrote old new piece → HasPart old new told lawful wanted (Ok tt)
piece_parted old new told lawful wanted piece given put = (piece, put, λ image known ok. given image)

-- a front of a piece that is wanted was put
pub cut_parted : (old new told : Option (List ℕ)) (lawful : List ℕ → Type 0) (wanted : List ℕ → Result (List ℕ) Answer) (piece : List ℕ) (stop : WriteStop) →
    ((image : List ℕ) → wanted image ≡ Ok piece) → WrotePart old new piece → HasPart old new told lawful wanted (Err stop)
cut_parted None new told lawful wanted piece stop given put = ([], λ held has. Prim.cc, inl refl)
cut_parted (Some before) new told lawful wanted piece stop given put =
    let p = put before refl in
    (p.0, λ held has. let e : new ≡ Some (before ++ p.0) = p.3 in Prim.cc, inr (λ image known. (piece, p.1, p.2, λ ok. given image)))

front_same : (told later : Option (List ℕ)) (lawful : List ℕ → Type 0) (wanted other : List ℕ → Result (List ℕ) Answer) (part : List ℕ) → later ≡ told →
    ((image : List ℕ) → told ≡ Some image → lawful image → other image ≡ wanted image) → HasFront later lawful wanted part → HasFront told lawful other part
front_same told later lawful wanted other part kept same (inl none) = inl none
front_same told later lawful wanted other part kept same (inr front) = inr (λ image known. let f = front image (kept ∙ known) in (f.0, f.1, f.2, λ ok. same image known ok ∙ f.3 ok))

-- what was put of something that is wanted was put of the same
pub parted_same : (old new told later : Option (List ℕ)) (lawful : List ℕ → Type 0) (wanted other : List ℕ → Result (List ℕ) Answer) (r : Result (Unit {0}) WriteStop) → later ≡ told →
    ((image : List ℕ) → told ≡ Some image → lawful image → other image ≡ wanted image) → HasPart old new later lawful wanted r → HasPart old new told lawful other r
parted_same old new told later lawful wanted other (Ok done) kept same put = (put.0, put.1, λ image known ok. same image known ok ∙ put.2 image (kept ∙ known) ok)
parted_same old new told later lawful wanted other (Err stop) kept same put = (put.0, put.1, front_same told later lawful wanted other put.0 kept same put.2)
