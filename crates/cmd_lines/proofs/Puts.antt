-- What puts, one after the other, leave on a sink.
use Rattle.std.proofs.Common.{◌≡◌, ℕ, ◌+◌, ◌<◌, ◌≤◌, List, [], ◌∷◌, ◌++◌, Option, None, Some, Result, Ok, Err, length, get_or, take, drop, refl, sym, ap, ◌∙◌, append_assoc, take-append-drop, drop-cons, subst, arith}
use Rattle.std.proofs.lemmas.List.{append-nil, take_all, take_more}
use Rattle.std.proofs.lemmas.Grind.{flat_map-append}
use Rattle.std.specs.List.{flat_map}
use Rattle.apfs_model.specs.Counts.{Rose}
use Rattle.apfs_model.specs.Sink.{Wrote, WrotePart}
use Rattle.cmd_lines.specs.declared.stopped.Stopped.{Stopped}
use Rattle.cmd_lines.specs.declared.stopped.Stopped.TheVariants.{WriteFailed, OutOfMemory}
use Rattle.cmd_lines.specs.Texts.{IsPrefix}
use Rattle.cmd_lines.specs.Written.{Sunk}
use Rattle.cmd_lines.specs.Putting.{CutsText, IsPut, Passes}

pub wrote_nothing : (contents : Option (List ℕ)) → Wrote contents contents []
wrote_nothing contents held told = told ∙ ap (λ (l : List ℕ). Some l) (sym (append-nil held))

pub wrote_more : (a b c : Option (List ℕ)) (xs ys : List ℕ) → Wrote a b xs → Wrote b c ys → Wrote a c (xs ++ ys)
wrote_more a b c xs ys first second held told = second (held ++ xs) (first held told) ∙ ap (λ (l : List ℕ). Some l) (append_assoc held xs ys)

part_more : (a b c : Option (List ℕ)) (xs ys : List ℕ) → Wrote a b xs → WrotePart b c ys → WrotePart a c (xs ++ ys)
part_more a b c xs ys first second held told =
    let part = second (held ++ xs) (first held told) in
    (xs ++ part.0, part.1, ap (λ l. xs ++ l) part.2 ∙ sym (append_assoc xs part.0 part.1), part.3 ∙ ap (λ (l : List ℕ). Some l) (append_assoc held xs part.0))

part_longer : (a b : Option (List ℕ)) (xs ys : List ℕ) → WrotePart a b xs → WrotePart a b (xs ++ ys)
part_longer a b xs ys put held told =
    let part = put held told in
    (part.0, part.1 ++ ys, ap (λ l. l ++ ys) part.2 ∙ append_assoc part.0 part.1 ys, part.3)

-- a part of a text that was put is a prefix of it, whole
pub part_taken : (old new : Option (List ℕ)) (text : List ℕ) → WrotePart old new text → (part : List ℕ) × IsPrefix part text × Wrote old new part
part_taken None new text put = ([], (text, refl), λ held told. Prim.cc)
part_taken (Some before) new text put =
    let part = put before refl in
    (part.0, (part.1, part.2), λ held told. let e : new ≡ Some (before ++ part.0) = part.3 in Prim.cc)

-- a count that rises from a later one rises from an earlier one
pub rose_later : (a b c : ℕ) → a ≤ b → Rose b c → Rose a c
rose_later a b c le rose = omega (arith, le, rose)

-- what cuts a text short cuts a longer one short
cut_later : (stopped : Stopped) (old mid new : Option (List ℕ)) (a b c : ℕ) → a ≤ b →
    CutsText stopped (record { old = mid; new = new; old_faults = b; new_faults = c }) → CutsText stopped (record { old = old; new = new; old_faults = a; new_faults = c })
cut_later WriteFailed old mid new a b c le cut = rose_later a b c le cut
cut_later OutOfMemory old mid new a b c le cut = tt
cut_later stopped old mid new a b c le cut = absurd cut

-- a text is put after another
pub put_after : (first second : List ℕ) (result : Result Unit Stopped) (old mid new : Option (List ℕ)) (a b c : ℕ) →
    IsPut first (Ok tt) (record { old = old; new = mid; old_faults = a; new_faults = b }) →
    IsPut second result (record { old = mid; new = new; old_faults = b; new_faults = c }) →
    IsPut (first ++ second) result (record { old = old; new = new; old_faults = a; new_faults = c })
put_after first second (Ok done) old mid new a b c before put = (wrote_more old mid new first second before.0 put.0, omega (arith, before.1, put.1))
put_after first second (Err stopped) old mid new a b c before put =
    (cut_later stopped old mid new a b c before.1 put.0, part_more old mid new first second before.0 put.1)

-- a text is cut short, and another after it isn't begun
pub put_cut : (first second : List ℕ) (stopped : Stopped) (old new : Option (List ℕ)) (a b : ℕ) →
    IsPut first (Err stopped) (record { old = old; new = new; old_faults = a; new_faults = b }) →
    IsPut (first ++ second) (Err stopped) (record { old = old; new = new; old_faults = a; new_faults = b })
put_cut first second stopped old new a b put = (put.0, part_longer old new first second put.1)

-- the items from a place on
rest_at : {X : Type 0} (xs : List X) (i : ℕ) (x : X) → i < length xs → x ≡ get_or xs i x → xs ≡ take i xs ++ (x ∷ drop (i + 1) xs)
rest_at xs i x low at = grind (arith, take-append-drop, drop-cons)

-- the texts of the items before a place, that of the item there, and the others
texts_at : {X : Type 0} (f : X → List ℕ) (xs : List X) (i : ℕ) (x : X) → i < length xs → x ≡ get_or xs i x →
    flat_map f xs ≡ (flat_map f (take i xs) ++ f x) ++ flat_map f (drop (i + 1) xs)
texts_at f xs i x low at =
    ap (flat_map f) (rest_at xs i x low at) ∙ flat_map-append f (take i xs) (x ∷ drop (i + 1) xs)
    ∙ sym (append_assoc (flat_map f (take i xs)) (f x) (flat_map f (drop (i + 1) xs)))

-- the texts of the items up to a place, that of the item there among them
pub texts_to : {X : Type 0} (f : X → List ℕ) (xs : List X) (i : ℕ) (x : X) → i < length xs → x ≡ get_or xs i x →
    flat_map f (take (i + 1) xs) ≡ flat_map f (take i xs) ++ f x
texts_to f xs i x low at =
    ap (flat_map f) (take_more xs i x low)
    ∙ ap (λ y. flat_map f (take i xs ++ y ∷ [])) (sym at)
    ∙ flat_map-append f (take i xs) (x ∷ [])
    ∙ ap (λ l. flat_map f (take i xs) ++ l) (append-nil (f x))

-- so much of a text was put, and the rest waits
pub record Gathers (text waits : List ℕ) (sink : Sunk) : Type 0 where
  pub part : List ℕ
  pub split : text ≡ part ++ waits
  pub put : IsPut part (Ok tt) sink

-- one text more was passed on
pub gathers_more : {X : Type 0} (f : X → List ℕ) (xs : List X) (i : ℕ) (x : X) (waited waits : List ℕ) (old mid new : Option (List ℕ)) (a b c : ℕ) → i < length xs → x ≡ get_or xs i x →
    Gathers (flat_map f (take i xs)) waited (record { old = old; new = mid; old_faults = a; new_faults = b }) →
    Passes waited (f x) waits (Ok tt) (record { old = mid; new = new; old_faults = b; new_faults = c }) →
    Gathers (flat_map f (take (i + 1) xs)) waits (record { old = old; new = new; old_faults = a; new_faults = c })
gathers_more f xs i x waited waits old mid new a b c low at before passed = record {
  part = before.part ++ passed.0;
  split =
      texts_to f xs i x low at ∙ ap (λ l. l ++ f x) before.split ∙ append_assoc before.part waited (f x)
      ∙ ap (λ l. before.part ++ l) passed.1 ∙ sym (append_assoc before.part passed.0 waits);
  put = put_after before.part passed.0 (Ok tt) old mid new a b c before.put passed.2;
}

-- what waits and the next text are cut short
pub gathers_cut : {X : Type 0} (f : X → List ℕ) (xs : List X) (i : ℕ) (x : X) (stopped : Stopped) (waited : List ℕ) (old mid new : Option (List ℕ)) (a b c : ℕ) → i < length xs → x ≡ get_or xs i x →
    Gathers (flat_map f (take i xs)) waited (record { old = old; new = mid; old_faults = a; new_faults = b }) →
    IsPut (waited ++ f x) (Err stopped) (record { old = mid; new = new; old_faults = b; new_faults = c }) →
    IsPut (flat_map f xs) (Err stopped) (record { old = old; new = new; old_faults = a; new_faults = c })
gathers_cut {X} f xs i x stopped waited old mid new a b c low at before put =
    let both = put_after before.part (waited ++ f x) (Err stopped) old mid new a b c before.put put in
    let same : flat_map f xs ≡ (before.part ++ (waited ++ f x)) ++ flat_map f (drop (i + 1) xs) =
    texts_at f xs i x low at ∙ ap (λ l. (l ++ f x) ++ flat_map f (drop (i + 1) xs)) before.split
    ∙ ap (λ l. l ++ flat_map f (drop (i + 1) xs)) (append_assoc before.part waited (f x)) in
    let P : List ℕ → Type 0 = λ text. WrotePart old new text in
    (both.0, subst P (sym same) (part_longer old new (before.part ++ (waited ++ f x)) (flat_map f (drop (i + 1) xs)) both.1))

-- all texts were passed on, and what waits was put
pub gathers_all : {X : Type 0} (f : X → List ℕ) (xs : List X) (n : ℕ) (waits : List ℕ) (result : Result Unit Stopped) (old mid new : Option (List ℕ)) (a b c : ℕ) → length xs ≤ n →
    Gathers (flat_map f (take n xs)) waits (record { old = old; new = mid; old_faults = a; new_faults = b }) →
    IsPut waits result (record { old = mid; new = new; old_faults = b; new_faults = c }) →
    IsPut (flat_map f xs) result (record { old = old; new = new; old_faults = a; new_faults = c })
gathers_all f xs n waits result old mid new a b c whole before put =
    let same : flat_map f xs ≡ before.part ++ waits = ap (flat_map f) (sym (take_all n xs whole)) ∙ before.split in
    let P : List ℕ → Type 0 = λ text. IsPut text result (record { old = old; new = new; old_faults = a; new_faults = c }) in
    subst P (sym same) (put_after before.part waits result old mid new a b c before.put put)
