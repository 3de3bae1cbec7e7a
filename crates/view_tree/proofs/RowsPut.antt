-- What puts of the lines of rows, one after the other, leave on a sink.
use Rattle.std.proofs.Common.{◌≡◌, ℕ, ◌+◌, ◌<◌, ◌≤◌, List, [], ◌∷◌, ◌++◌, Option, Some, Result, Ok, Err, length, get_or, take, drop, refl, sym, ap, ◌∙◌, append_assoc, append-nil, take-append-drop, drop-cons, subst, arith}
use Rattle.std.specs.Prelude.{OnOk}
use Rattle.std.specs.List.{flat_map}
use Rattle.std.proofs.lemmas.List.{take_all, take_more}
use Rattle.std.proofs.lemmas.Grind.{flat_map-append}
use Rattle.apfs_model.specs.Counts.{Rose}
use Rattle.apfs_model.specs.Sink.{Wrote, WrotePart}
use Rattle.path_search.specs.Paths.{slash}
use Rattle.path_search.specs.declared.target.Target.{Target}
use Rattle.view_tree.specs.Kept.{path_after, told_rows, last_path}
use Rattle.view_tree.specs.Puts.{CutsText, IsPut, Passes}
use Rattle.view_tree.specs.Texts.{row_text, tree_text}
use Rattle.view_tree.specs.declared.kept.Row.{Row}
use Rattle.view_tree.specs.declared.kept.PutStop.{PutStop}
use Rattle.view_tree.specs.declared.kept.PutStop.TheVariants.{WriteFault, NoMemory}
use Rattle.view_tree.proofs.RowsKept.{told_more, told_joined, path_more}

-- ---- texts on a sink
wrote-nothing : (contents : Option (List ℕ)) → Wrote contents contents []
wrote-nothing contents held told = told ∙ ap (λ (l : List ℕ). Some l) (sym (append-nil held))

wrote-more : (a b c : Option (List ℕ)) (xs ys : List ℕ) → Wrote a b xs → Wrote b c ys → Wrote a c (xs ++ ys)
wrote-more a b c xs ys first second held told = second (held ++ xs) (first held told) ∙ ap (λ (l : List ℕ). Some l) (append_assoc held xs ys)

part-more : (a b c : Option (List ℕ)) (xs ys : List ℕ) → Wrote a b xs → WrotePart b c ys → WrotePart a c (xs ++ ys)
part-more a b c xs ys first second held told =
    let part = second (held ++ xs) (first held told) in
    (xs ++ part.0, part.1, ap (λ (l : List ℕ). xs ++ l) part.2 ∙ sym (append_assoc xs part.0 part.1), part.3 ∙ ap (λ (l : List ℕ). Some l) (append_assoc held xs part.0))

part-longer : (a b : Option (List ℕ)) (xs ys : List ℕ) → WrotePart a b xs → WrotePart a b (xs ++ ys)
part-longer a b xs ys put held told =
    let part = put held told in
    (part.0, part.1 ++ ys, ap (λ (l : List ℕ). l ++ ys) part.2 ∙ append_assoc part.0 part.1 ys, part.3)

cut-later : (stop : PutStop) (a b c : ℕ) → a ≤ b → CutsText stop b c → CutsText stop a c
cut-later WriteFault a b c le rose = let r : Rose b c = rose in omega (arith, le, r)
cut-later NoMemory a b c le cut = tt

put-after : (first second : List ℕ) (result : Result Unit PutStop) (old mid new : Option (List ℕ)) (a b c : ℕ) → IsPut first (Ok tt) old mid a b → IsPut second result mid new b c → IsPut (first ++ second) result old new a c
put-after first second (Ok done) old mid new a b c before put = (wrote-more old mid new first second before.0 put.0, omega (arith, before.1, put.1))
put-after first second (Err stop) old mid new a b c before put =
    (part-more old mid new first second before.0 put.0, (cut-later stop a b c before.1 put.1.0, omega (arith, before.1, put.1.1)))

-- nothing was put
pub put_none : (contents : Option (List ℕ)) (a : ℕ) (text : List ℕ) → text ≡ [] → IsPut text (Ok tt) contents contents a a
put_none contents a text e = subst (λ (t : List ℕ). IsPut t (Ok tt) contents contents a a) (sym e) (wrote-nothing contents, omega arith)

-- memory ran out before anything was put
pub none_cut : (contents : Option (List ℕ)) (a : ℕ) (text : List ℕ) → IsPut text (Err NoMemory) contents contents a a
none_cut contents a text = ((λ held told. ([], text, refl, told ∙ ap (λ (l : List ℕ). Some l) (sym (append-nil held)))), (tt, omega arith))

-- ---- one line
-- a line waits
pub passes_waits : (waited text waits : List ℕ) (contents : Option (List ℕ)) (a : ℕ) → waits ≡ waited ++ text → Passes waited text waits (Ok tt) contents contents a a
passes_waits waited text waits contents a e = ([], sym e, (wrote-nothing contents, omega arith))

-- what waited was put with it
pub passes_put : (waited text all waits : List ℕ) (old new : Option (List ℕ)) (a b : ℕ) → all ≡ waited ++ text → waits ≡ [] → IsPut all (Ok tt) old new a b → Passes waited text waits (Ok tt) old new a b
passes_put waited text all waits old new a b e none put = (all, sym e ∙ (sym (append-nil all) ∙ ap (λ (l : List ℕ). all ++ l) (sym none)), put)

pub passes_cut : (waited text all waits : List ℕ) (stop : PutStop) (old new : Option (List ℕ)) (a b : ℕ) → all ≡ waited ++ text → IsPut all (Err stop) old new a b → Passes waited text waits (Err stop) old new a b
passes_cut waited text all waits stop old new a b e put = subst (λ (t : List ℕ). IsPut t (Err stop) old new a b) e put

-- a line alone
pub put_alone : (row : List ℕ × Target) (line : List ℕ) (result : Result Unit PutStop) (old new : Option (List ℕ)) (a b : ℕ) → line ≡ row_text row → IsPut line result old new a b → IsPut (tree_text (row ∷ [])) result old new a b
put_alone row line result old new a b e put = subst (λ (t : List ℕ). IsPut t result old new a b) (e ∙ sym (append-nil (row_text row))) put

-- ---- what a put says
pub put_whole : (text : List ℕ) (result : Result Unit PutStop) (old new : Option (List ℕ)) (a b : ℕ) → IsPut text result old new a b → OnOk result (Wrote old new text)
put_whole text (Ok done) old new a b put = put.0
put_whole text (Err stop) old new a b put = tt

pub put_part : (text : List ℕ) (result : Result Unit PutStop) (old new : Option (List ℕ)) (a b : ℕ) → IsPut text result old new a b → WrotePart old new text
put_part text (Ok done) old new a b put = λ held told. (text, [], sym (append-nil text), put.0 held told)
put_part text (Err stop) old new a b put = put.0

pub put_cause : (text : List ℕ) (result : Result Unit PutStop) (old new : Option (List ℕ)) (a b : ℕ) → IsPut text result old new a b → result ≡ Err WriteFault → Rose a b
put_cause text (Ok done) old new a b put e = absurd cc
put_cause text (Err stop) old new a b put e = let same : stop ≡ WriteFault = cc in subst (λ (s : PutStop). CutsText s a b) same put.1.0

pub put_later : (text : List ℕ) (result : Result Unit PutStop) (old new : Option (List ℕ)) (a b : ℕ) → IsPut text result old new a b → a ≤ b
put_later text (Ok done) old new a b put = put.1
put_later text (Err stop) old new a b put = put.1.1

-- ---- lines that wait
-- so much of a text was put, and the rest waits
pub record Gathers (text waits : List ℕ) (old new : Option (List ℕ)) (a b : ℕ) : Type 0 where
  pub part : List ℕ
  pub split : text ≡ part ++ waits
  pub put : IsPut part (Ok tt) old new a b

pub gathers_none : (contents : Option (List ℕ)) (a : ℕ) (waits : List ℕ) → waits ≡ [] → Gathers [] waits contents contents a a
gathers_none contents a waits e = record { part = []; split = sym e; put = (wrote-nothing contents, omega arith) }

-- the texts of the rows before a place, that of the row there, and the others
text-at : (rows : List Row) (i : ℕ) (row : Row) → i < length rows → row ≡ get_or rows i row →
    tree_text (told_rows [] rows) ≡ (tree_text (told_rows [] (take i rows)) ++ row_text (path_after (last_path [] (take i rows)) row, row.target)) ++ tree_text (told_rows (path_after (last_path [] (take i rows)) row ++ slash ∷ []) (drop (i + 1) rows))
text-at rows i row low at =
    let split : rows ≡ take i rows ++ (row ∷ drop (i + 1) rows) = grind (arith, take-append-drop, drop-cons) in
    let before : List ℕ = last_path [] (take i rows) in
    ap (λ (l : List Row). tree_text (told_rows [] l)) split
    ∙ (ap (flat_map row_text) (told_joined [] (take i rows) (row ∷ drop (i + 1) rows))
    ∙ (flat_map-append row_text (told_rows [] (take i rows)) (told_rows before (row ∷ drop (i + 1) rows))
    ∙ sym (append_assoc (tree_text (told_rows [] (take i rows))) (row_text (path_after before row, row.target)) (tree_text (told_rows (path_after before row ++ slash ∷ []) (drop (i + 1) rows))))))

-- those of the rows up to a place
text-to : (rows : List Row) (i : ℕ) (row : Row) → i < length rows → row ≡ get_or rows i row →
    tree_text (told_rows [] (take (i + 1) rows)) ≡ tree_text (told_rows [] (take i rows)) ++ row_text (path_after (last_path [] (take i rows)) row, row.target)
text-to rows i row low at =
    let before : List ℕ = last_path [] (take i rows) in
    ap (λ (l : List Row). tree_text (told_rows [] l)) (take_more rows i row low ∙ ap (λ (r : Row). take i rows ++ r ∷ []) (sym at))
    ∙ (ap (flat_map row_text) (told_more [] (take i rows) row)
    ∙ (flat_map-append row_text (told_rows [] (take i rows)) ((path_after before row, row.target) ∷ [])
    ∙ ap (λ (l : List ℕ). tree_text (told_rows [] (take i rows)) ++ l) (append-nil (row_text (path_after before row, row.target)))))

-- the path of the rows up to a place, with a slash
pub path_to : (rows : List Row) (i : ℕ) (row : Row) (path next : List ℕ) → i < length rows → row ≡ get_or rows i row → path ≡ last_path [] (take i rows) → next ≡ path_after path row ++ slash ∷ [] → next ≡ last_path [] (take (i + 1) rows)
path_to rows i row path next low at is more =
    more
    ∙ (ap (λ (p : List ℕ). path_after p row ++ slash ∷ []) is
    ∙ (sym (path_more [] (take i rows) row)
    ∙ sym (ap (last_path []) (take_more rows i row low ∙ ap (λ (r : Row). take i rows ++ r ∷ []) (sym at)))))

-- one row more was passed on
pub gathers_more : (rows : List Row) (i : ℕ) (row : Row) (path waited waits : List ℕ) (old mid new : Option (List ℕ)) (a b c : ℕ) → i < length rows → row ≡ get_or rows i row → path ≡ last_path [] (take i rows) →
    Gathers (tree_text (told_rows [] (take i rows))) waited old mid a b → Passes waited (row_text (path_after path row, row.target)) waits (Ok tt) mid new b c →
    Gathers (tree_text (told_rows [] (take (i + 1) rows))) waits old new a c
gathers_more rows i row path waited waits old mid new a b c low at is before passed =
    let line : List ℕ = row_text (path_after path row, row.target) in
    record {
      part = before.part ++ passed.0;
      split =
          text-to rows i row low at
          ∙ (ap (λ (p : List ℕ). tree_text (told_rows [] (take i rows)) ++ row_text (path_after p row, row.target)) (sym is)
          ∙ (ap (λ (l : List ℕ). l ++ line) before.split
          ∙ (append_assoc before.part waited line
          ∙ (ap (λ (l : List ℕ). before.part ++ l) passed.1
          ∙ sym (append_assoc before.part passed.0 waits)))));
      put = put-after before.part passed.0 (Ok tt) old mid new a b c before.put passed.2;
    }

-- what waits and the next line are cut short
pub gathers_cut : (rows : List Row) (i : ℕ) (row : Row) (path : List ℕ) (stop : PutStop) (waited : List ℕ) (old mid new : Option (List ℕ)) (a b c : ℕ) → i < length rows → row ≡ get_or rows i row → path ≡ last_path [] (take i rows) →
    Gathers (tree_text (told_rows [] (take i rows))) waited old mid a b → IsPut (waited ++ row_text (path_after path row, row.target)) (Err stop) mid new b c → IsPut (tree_text (told_rows [] rows)) (Err stop) old new a c
gathers_cut rows i row path stop waited old mid new a b c low at is before put =
    let line : List ℕ = row_text (path_after path row, row.target) in
    let rest : List ℕ = tree_text (told_rows (path_after (last_path [] (take i rows)) row ++ slash ∷ []) (drop (i + 1) rows)) in
    let both = put-after before.part (waited ++ line) (Err stop) old mid new a b c before.put put in
    let same : tree_text (told_rows [] rows) ≡ (before.part ++ (waited ++ line)) ++ rest =
    text-at rows i row low at
    ∙ (ap (λ (p : List ℕ). (tree_text (told_rows [] (take i rows)) ++ row_text (path_after p row, row.target)) ++ rest) (sym is)
    ∙ (ap (λ (l : List ℕ). (l ++ line) ++ rest) before.split
    ∙ ap (λ (l : List ℕ). l ++ rest) (append_assoc before.part waited line))) in
    let P : List ℕ → Type 0 = λ text. WrotePart old new text in
    (subst P (sym same) (part-longer old new (before.part ++ (waited ++ line)) rest both.0), both.1)

-- all rows were passed on, and what waits was put
pub gathers_all : (rows : List Row) (n : ℕ) (waits : List ℕ) (result : Result Unit PutStop) (old mid new : Option (List ℕ)) (a b c : ℕ) → length rows ≤ n →
    Gathers (tree_text (told_rows [] (take n rows))) waits old mid a b → IsPut waits result mid new b c → IsPut (tree_text (told_rows [] rows)) result old new a c
gathers_all rows n waits result old mid new a b c whole before put =
    let same : tree_text (told_rows [] rows) ≡ before.part ++ waits = ap (λ (l : List Row). tree_text (told_rows [] l)) (sym (take_all n rows whole)) ∙ before.split in
    let P : List ℕ → Type 0 = λ text. IsPut text result old new a c in
    subst P (sym same) (put-after before.part waits result old mid new a b c before.put put)
