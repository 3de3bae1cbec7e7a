use Rattle.std.proofs.Common.{◌≢◌, ℕ, List, [], ◌∷◌, All, ◌∙◌, sym}
use Rattle.std.proofs.lemmas.List.Elements.{All-from_recursion}
use Rattle.img_make.proofs.checkpoints.ring_of_four.Goals as goal

pub returns-clause-same : goal.returns-clause-same
returns-clause-same c = λ k n.
    let edits : List (ℕ × ℕ × ℕ) = (0, 16, 9) ∷ (2, 16, 9) ∷ (4, 16, 6) ∷ (4, 136, 2) ∷ (6, 16, 7) ∷ (6, 136, 4) ∷ (8, 16, 8) ∷ (8, 136, 6) ∷ [] in
    let edited : All (λ (edit : ℕ × ℕ × ℕ). edit.0 ≢ k) edits = All-from_recursion (λ (edit : ℕ × ℕ × ℕ). edit.0 ≢ k) edits (n.no_copy, (n.no_first, (n.no_second, (n.no_second, (n.no_third, (n.no_third, (n.no_fourth, (n.no_fourth, tt)))))))) in
    let copies : List (ℕ × ℕ) = (2, 4) ∷ (2, 6) ∷ (2, 8) ∷ [] in
    let copied : All (λ (copy : ℕ × ℕ). copy.1 ≢ k) copies = All-from_recursion (λ (copy : ℕ × ℕ). copy.1 ≢ k) copies (n.no_second, (n.no_third, (n.no_fourth, tt))) in
    c.clear_sum.ensures k (λ e. n.no_second (sym e)) ∙ c.edit_all.ensures k edited ∙ c.copy_all.ensures k copied
