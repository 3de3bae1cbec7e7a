use Rattle.std.proofs.Common.{◌≢◌, ℕ, List, [], ◌∷◌, All, ◌∙◌, sym}
use Rattle.std.proofs.lemmas.List.Elements.{All-from_recursion}
use Rattle.img_make.proofs.checkpoints.skipped_checkpoint.Goals as goal

pub returns-clause-same : goal.returns-clause-same
returns-clause-same c = λ k n.
    let edits : List (ℕ × ℕ × ℕ) = (3, 16, 2) ∷ (3, 8, 3) ∷ (3, 72, 13) ∷ (3, 112, 14) ∷ (3, 152, 15) ∷ (3, 192, 16) ∷ (4, 16, 2) ∷ (4, 96, 3) ∷ (4, 136, 2) ∷ (4, 128, 4) ∷ (4, 144, 4) ∷ (4, 132, 8) ∷ (13, 16, 2) ∷ (14, 16, 2) ∷ (15, 16, 2) ∷ (16, 16, 2) ∷ [] in
    let edited : All (λ (edit : ℕ × ℕ × ℕ). edit.0 ≢ k) edits = All-from_recursion (λ (edit : ℕ × ℕ × ℕ). edit.0 ≢ k) edits (n.no_map, (n.no_map, (n.no_map, (n.no_map, (n.no_map, (n.no_map, (n.no_superblock, (n.no_superblock, (n.no_superblock, (n.no_superblock, (n.no_superblock, (n.no_superblock, (n.no_space_manager, (n.no_reaper, (n.no_pool_queue, (n.no_main_queue, tt)))))))))))))))) in
    let copies : List (ℕ × ℕ) = (1, 3) ∷ (2, 4) ∷ (9, 13) ∷ (10, 14) ∷ (11, 15) ∷ (12, 16) ∷ [] in
    let copied : All (λ (copy : ℕ × ℕ). copy.1 ≢ k) copies = All-from_recursion (λ (copy : ℕ × ℕ). copy.1 ≢ k) copies (n.no_map, (n.no_superblock, (n.no_space_manager, (n.no_reaper, (n.no_pool_queue, (n.no_main_queue, tt)))))) in
    c.clear_sum.ensures k (λ e. n.no_space_manager (sym e)) ∙ c.edit_all.ensures k edited ∙ c.copy_all.ensures k copied
