use Rattle.std.proofs.Common.{◌≡◌, ◌∙◌, ◌++◌, ◌-◌, ◌<◌, ◌≤◌, ℕ, List, [], ◌∷◌, length, map, take, reverse, inl, refl, ap, sym, subst, arith}
use Rattle.path_search.specs.Paths.{slash}
use Rattle.path_search.specs.Places.{target_of}
use Rattle.path_search.specs.Listing.{children}
use Rattle.path_search.specs.declared.target.Target.{Target}
use Rattle.view_tree.specs.Met.{own}
use Rattle.view_tree.specs.Kept.{path_after, told_rows, last_path}
use Rattle.view_tree.specs.Parts.{told_after, told_of, told_under, told_from, row_at, kept_under, left_told, Fits, RowsEntered}
use Rattle.path_search.specs.declared.order.Numbered.{Numbered}
use Rattle.view_tree.specs.declared.kept.Row.{Row}
use Rattle.view_tree.proofs.Entered.{first_entered, next_entered, popped, told_start, told_step, told_end, told_full, none_left}
use Rattle.view_tree.proofs.RowsKept.{told_more, path_more, told_length, first_left, first_fits, next_left, next_fits}
use Rattle.view_tree.proofs.Staying.{stays_on, in_stays, rows_more, rows_none}
use Rattle.view_tree.proofs.under.rows_below.Goals as goal

pub returns-in-Err-clause-stops : goal.returns-in-Err-clause-stops
returns-in-Err-clause-stops c facts path way memo = c.in-Err.ensures.stops facts path c.args.id way own memo

pub rows-init : goal.rows-init
rows-init c =
    let put : reverse c.put_on.new.left.items ≡ map (row_at 0) (map (λ (t : Numbered). t.target) c.in-Ok.targets.items) ++ reverse c.new-left.result.items = c.in-Ok-put_on.ensures.put in
    let none : reverse c.new-left.result.items ≡ [] = ap (λ (l : List Row). reverse l) c.new-left.ensures.items in
    let begins : c.new-path.result.items ≡ [] = c.new-path.ensures.items in
    let empty : told_rows [] c.new-rows.result.items ≡ [] = ap (told_rows []) c.new-rows.ensures.items in
    record {
      walk = λ facts path way memo.
          let k = c.in-Ok.ensures.all facts path c.args.id way own memo in
          let these : (map (λ (t : Numbered). t.target) c.in-Ok.targets.items) ≡ map target_of (children facts c.args.id) = c.in-Ok.ensures.gives facts path c.args.id way own memo in
          let left : left_told c.new-path.result.items (reverse c.put_on.new.left.items) ≡ told_of facts [] c.args.id =
          ap (λ (p : List ℕ). left_told p (reverse c.put_on.new.left.items)) begins ∙ (first_left (map (λ (t : Numbered). t.target) c.in-Ok.targets.items) (reverse c.put_on.new.left.items) (reverse c.new-left.result.items) put none ∙ ap (map (told_after [])) these) in (
            told_start facts (length facts.entries) (told_rows [] c.new-rows.result.items) (left_told c.new-path.result.items (reverse c.put_on.new.left.items)) (told_of facts [] c.args.id) empty left,
            (
              first_entered facts c.args.id (left_told c.new-path.result.items (reverse c.put_on.new.left.items)) left,
              (c.in-Ok.ensures.kept facts path c.args.id way own memo, (k.0, (k.1, rows_none facts c.enter.new.memo (told_rows [] c.new-rows.result.items) empty))),
            ),
          );
      path = begins ∙ sym (ap (last_path []) c.new-rows.ensures.items);
      fits = λ facts path way memo. subst (λ (p : List ℕ). Fits p (reverse c.put_on.new.left.items)) (sym begins) (first_fits (map (λ (t : Numbered). t.target) c.in-Ok.targets.items) (reverse c.put_on.new.left.items) (reverse c.new-left.result.items) put none);
    }

pub returns-in_default-clause-gives : goal.returns-in_default-clause-gives
returns-in_default-clause-gives c facts path way memo =
    let h = c.rows.invariant.walk facts path way memo in
    let empty : length c.rows.left.items ≡ 0 = omega (arith, c.in_default.ensures.cases.0) in
    told_end facts (length facts.entries) (told_rows [] c.rows.rows.items) (left_told c.rows.path.items (reverse c.rows.left.items)) (told_from facts (length facts.entries) (told_of facts [] c.args.id)) (ap (left_told c.rows.path.items) (none_left c.rows.left.items empty)) h.0

pub returns-in-Err-go_under-clause-stops : goal.returns-in-Err-go_under-clause-stops
returns-in-Err-go_under-clause-stops c facts path way memo =
    let h = c.rows.invariant.walk facts path way memo in
    let row : Row = c.in-Some.row in
    let here : left_told c.rows.path.items (reverse c.rows.left.items) ≡ (path_after c.rows.path.items row, row.target) ∷ left_told (take row.shared c.rows.path.items) (reverse c.pop.new.self.items) =
    ap (left_told c.rows.path.items) (popped c.rows.left.items c.pop.new.self.items row c.in-Some.ensures.items) in
    let rows : RowsEntered facts c.args.id ((path_after c.rows.path.items row, row.target) ∷ left_told (take row.shared c.rows.path.items) (reverse c.pop.new.self.items)) = subst (λ (l : List (List ℕ × Target)). RowsEntered facts c.args.id l) here h.1.0 in
    c.in-Err-go_under.ensures.stops facts path c.args.id way (rows (path_after c.rows.path.items row, row.target) (inl refl)) h.1.1.0

pub rows-preserved : goal.rows-preserved
rows-preserved c =
    let row : Row = c.in-Some.row in
    let before : List ℕ = c.rows.path.items in
    let after : List ℕ = c.push.new.self.items in
    let left : List Row = reverse c.rows.left.items in
    let rest : List Row = reverse c.pop.new.self.items in
    let next : List Row = reverse c.go_under.new.left.items in
    let told : List ℕ × Target = (path_after before row, row.target) in
    let taken : left ≡ row ∷ rest = popped c.rows.left.items c.pop.new.self.items row c.in-Some.ensures.items in
    let led : after ≡ path_after before row ++ slash ∷ [] = c.in_ok-push.ensures.items ∙ ap (λ (p : List ℕ). p ++ slash ∷ []) c.in_ok-lead.ensures in
    let long : c.len-shared.result ≡ length after = omega (arith, c.len-shared.ensures) in
    let more : told_rows [] c.push-in-rows.new.self.items ≡ told_rows [] c.rows.rows.items ++ told ∷ [] =
    ap (told_rows []) c.in_ok-push-2.ensures.items
    ∙ (told_more [] c.rows.rows.items row
    ∙ ap (λ (p : List ℕ). told_rows [] c.rows.rows.items ++ (path_after p row, row.target) ∷ []) (sym c.rows.invariant.path)) in
    let here : left_told before left ≡ told ∷ left_told (take row.shared before) rest = ap (left_told before) taken in
    record {
      walk = λ facts path way memo.
          let h = c.rows.invariant.walk facts path way memo in
          let rows : RowsEntered facts c.args.id (told ∷ left_told (take row.shared before) rest) = subst (λ (l : List (List ℕ × Target)). RowsEntered facts c.args.id l) here h.1.0 in
          let fits : Fits before (row ∷ rest) = subst (λ (l : List Row). Fits before l) taken (c.rows.invariant.fits facts path way memo) in
          let put : next ≡ kept_under facts c.len-shared.result row.target ++ rest = c.in-Ok-go_under.ensures.gives facts path c.args.id way (rows told (inl refl)) h.1.1.0 in
          let goes : left_told after next ≡ told_under facts told ++ left_told (take row.shared before) rest = next_left facts row before after c.len-shared.result rest next fits led long put in
          let same : length c.args.files.now.entries.items ≡ length facts.entries = ap length way.tells.all_entries in
          let many : length (told_rows [] c.rows.rows.items) ≡ length c.rows.rows.items = told_length [] c.rows.rows.items in
          let low : length (told_rows [] c.rows.rows.items) < length facts.entries = omega arith in
          let k = c.in-Ok-go_under.ensures.all facts path c.args.id way (rows told (inl refl)) h.1.1.0 in (
            ap (λ (l : List (List ℕ × Target)). l ++ told_from facts (length facts.entries - length l) (left_told after next)) more
                ∙ told_step facts (length facts.entries) (told_rows [] c.rows.rows.items) told (left_told before left) (left_told (take row.shared before) rest) (left_told after next) (told_from facts (length facts.entries) (told_of facts [] c.args.id)) low here goes h.0,
            (
              next_entered facts c.args.id told (left_told (take row.shared before) rest) (left_told after next) rows goes,
              (
                c.in-Ok-go_under.ensures.kept facts path c.args.id way (rows told (inl refl)) h.1.1.0,
                (
                  stays_on c.args.memo.now c.rows.memo c.go_under.new.memo h.1.1.1.0 k.0,
                  (
                    in_stays facts c.rows.memo c.go_under.new.memo c.args.id k.0 h.1.1.1.1.0,
                    rows_more facts c.rows.memo c.go_under.new.memo (told_rows [] c.rows.rows.items) (told_rows [] c.push-in-rows.new.self.items) told k.0 more h.1.1.1.1.1 k.1,
                  ),
                ),
              ),
            ),
          );
      path = led ∙ (ap (λ (p : List ℕ). path_after p row ++ slash ∷ []) c.rows.invariant.path ∙ (sym (path_more [] c.rows.rows.items row) ∙ sym (ap (last_path []) c.in_ok-push-2.ensures.items)));
      fits = λ facts path way memo.
          let h = c.rows.invariant.walk facts path way memo in
          let rows : RowsEntered facts c.args.id (told ∷ left_told (take row.shared before) rest) = subst (λ (l : List (List ℕ × Target)). RowsEntered facts c.args.id l) here h.1.0 in
          let fits : Fits before (row ∷ rest) = subst (λ (l : List Row). Fits before l) taken (c.rows.invariant.fits facts path way memo) in
          let put : next ≡ kept_under facts c.len-shared.result row.target ++ rest = c.in-Ok-go_under.ensures.gives facts path c.args.id way (rows told (inl refl)) h.1.1.0 in
          next_fits facts row before after c.len-shared.result rest next fits led long put;
    }

pub returns-clause-gives : goal.returns-clause-gives
returns-clause-gives c facts path way memo =
    let h = c.rows.invariant.walk facts path way memo in
    let same : length c.args.files.now.entries.items ≡ length facts.entries = ap length way.tells.all_entries in
    let many : length (told_rows [] c.rows.rows.items) ≡ length c.rows.rows.items = told_length [] c.rows.rows.items in
    let full : length facts.entries ≤ length (told_rows [] c.rows.rows.items) = omega arith in
    told_full facts (length facts.entries) (told_rows [] c.rows.rows.items) (left_told c.rows.path.items (reverse c.rows.left.items)) (told_from facts (length facts.entries) (told_of facts [] c.args.id)) full h.0

pub returns-in_default-clause-all : goal.returns-in_default-clause-all
returns-in_default-clause-all c facts path way memo = (c.rows.invariant.walk facts path way memo).1.1.1

pub returns-clause-all : goal.returns-clause-all
returns-clause-all c facts path way memo = (c.rows.invariant.walk facts path way memo).1.1.1
