-- Buffers that are written over, lists that grow by an item, sources that are kept, and errors.
use Rattle.std.proofs.Common.{◌≡◌, ℕ, ◌+◌, ◌<◌, List, [], ◌∷◌, ◌++◌, length, map, take, drop, get_or, Ok, Err, Bool, cond, Option, ap, sym, ◌∙◌, ◌≤◌, arith, subst, Result}
use Rattle.std.proofs.Math.Seq.{take-append_seam}
use Rattle.std.specs.List.{filter}
use Rattle.std.proofs.lemmas.List.Elements.{filter_more}
use Rattle.std.specs.Result.{IfErr, IsErrAnd, IsErrOf}
use Rattle.std.proofs.lemmas.List.{map_more, append_assoc}
use Rattle.apfs_model.specs.Counts.{Rose}
use Rattle.apfs_model.specs.Kept.{IsKept}
use Rattle.obj_base.specs.Stops.{Tells, IsFree}
use Rattle.obj_base.specs.declared.stop.Feature.{Feature}
use Rattle.obj_base.specs.declared.stop.Stop.{Stop}
use Rattle.obj_base.specs.declared.stop.Stop.TheVariants.{Found, Unsupported, ReadFault, NoMemory}

-- a buffer that is written over whole has what was written
pub over : (items into : List ℕ) (len : ℕ) → length into ≡ len → take len (into ++ drop (length into) items) ≡ into
over items into len long = ap (λ n. take n (into ++ drop (length into) items)) (sym long) ∙ take-append_seam into (drop (length into) items)

-- what an item gives is added
pub pushed-more : {X Y : Type 0} (f : X → Y) (xs : List X) (i : ℕ) (d : X) (before old new : List Y) → i < length xs → old ≡ before ++ map f (take i xs) → new ≡ old ++ f (get_or xs i d) ∷ [] → new ≡ before ++ map f (take (i + 1) xs)
pushed-more {X} {Y} f xs i d before old new low had pushed =
    pushed
    ∙ (ap (λ (ys : List Y). ys ++ f (get_or xs i d) ∷ []) had
    ∙ (append_assoc before (map f (take i xs)) (f (get_or xs i d) ∷ []) ∙ ap (λ (ys : List Y). before ++ ys) (sym (map_more f xs i d low))))

-- a count that rose later rose
pub rose-later : (a b c : ℕ) → a ≤ b → Rose b c → Rose a c
rose-later a b c low rose = omega (arith, low, rose)

-- an answer is no error
pub no-err : {T E : Type 0} (x : T) (e : E) → IsErrOf {T = T} {E = E} (Ok x) e → ⊥
no-err x e is = let q : ⊥ = cc in q

-- an error is the same one in place of another answer
pub same-err : {T U E : Type 0} (a e : E) → IsErrOf {T = T} {E = E} (Err a) e → IsErrOf {T = U} {E = E} (Err a) e
same-err {T} {U} {E} a e is = let s : a ≡ e = cc in λ i. Err (s i)

-- an item that passes is added
pub filtered-more : {X : Type 0} (p : X → Bool) (xs : List X) (i : ℕ) (d : X) (before old new : List X) (b : Bool) → i < length xs → p (get_or xs i d) ≡ b → old ≡ before ++ filter p (take i xs) → new ≡ old ++ cond b (get_or xs i d ∷ []) [] → new ≡ before ++ filter p (take (i + 1) xs)
filtered-more {X} p xs i d before old new b low test had added =
    let last : List X = cond b (get_or xs i d ∷ []) [] in
    added
    ∙ (ap (λ (ys : List X). ys ++ last) had
    ∙ (append_assoc before (filter p (take i xs)) last
    ∙ ap (λ (ys : List X). before ++ ys) (ap (λ (t : Bool). filter p (take i xs) ++ cond t (get_or xs i d ∷ []) []) (sym test) ∙ sym (filter_more p xs i d low))))

-- a source that is kept twice is kept
pub kept-on : {S : Type 0} (bytes : S → Option (List ℕ)) (size faults : S → ℕ) (a b c : S) → IsKept bytes size faults a b → IsKept bytes size faults b c → IsKept bytes size faults a c
kept-on bytes size faults a b c one two = record {
  same_bytes = two.same_bytes ∙ one.same_bytes;
  same_size = two.same_size ∙ one.same_size;
  later = let x : faults a ≤ faults b = one.later in let y : faults b ≤ faults c = two.later in omega arith;
}

-- and one that isn't touched
pub kept-same : {S : Type 0} (bytes : S → Option (List ℕ)) (size faults : S → ℕ) (a : S) → IsKept bytes size faults a a
kept-same bytes size faults a = record { same_bytes = λ _. bytes a; same_size = λ _. size a; later = omega arith }

-- what stops a call that tells nothing of the image is told as anything
pub free-told : {T F : Type 0} (r : Result T (Stop F)) (fault : F → Type 0) (feature : Feature → ℕ → Type 0) (stop : Stop F) → IsErrAnd r (λ e. e ≡ stop) → IsFree stop → IfErr r (Tells fault feature)
free-told (Ok x) fault feature stop e free = tt
free-told {T} {F} (Err s) fault feature stop e free = subst (Tells fault feature) (sym e) (told stop free)
  where
    told : (s : Stop F) → IsFree s → Tells fault feature s
    told (Found f) free = absurd free
    told (Unsupported name block) free = absurd free
    told ReadFault free = tt
    told NoMemory free = tt

-- want of memory is no failed read
pub no-read : {T F : Type 0} (r : Result T (Stop F)) → IsErrAnd r (λ e. e ≡ NoMemory) → IsErrOf r ReadFault → ⊥
no-read (Ok x) e is = no-err x ReadFault is
no-read (Err s) e is = let q : ⊥ = cc in q
