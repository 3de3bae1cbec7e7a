-- The sum of an object doesn't depend on the stored sum.
use Rattle.std.proofs.Common.{◌≡◌, ℕ, zero, suc, ◌+◌, ◌*◌, ◌-◌, ◌/◌, List, [], ◌∷◌, length, map, sum, drop, get_or, refl, ap, sym, ◌∙◌, arith}
use Rattle.std.proofs.lemmas.List.{get_or-drop}
use Rattle.std.specs.List.{range_with_len}
use Rattle.apfs_model.specs.Bytes.{number_at, u32_at}
use Rattle.apfs_model.specs.Sum.{sum_of, stored_sum, weighted, first_words, words}

-- a number behind the first m bytes is the same in two lists that agree behind them
pub number_past : (n : ℕ) (a b : List ℕ) (m i j : ℕ) → m + i ≡ j → drop m a ≡ drop m b → number_at n a j ≡ number_at n b j
number_past zero a b m i j at same = refl
number_past (suc n) a b m i j at same =
    let left : get_or (drop m a) i 0 ≡ get_or a j 0 = get_or-drop m a i 0 ∙ ap (λ k. get_or a k 0) at in
    let right : get_or (drop m b) i 0 ≡ get_or b j 0 = get_or-drop m b i 0 ∙ ap (λ k. get_or b k 0) at in
    let first : get_or a j 0 ≡ get_or b j 0 = sym left ∙ ap (λ l. get_or l i 0) same ∙ right in
    let rest : number_at n a (suc j) ≡ number_at n b (suc j) = number_past n a b m (suc i) (suc j) (omega arith) same in
    cc

-- two functions of the same values give the same list
pub map_same : (f g : ℕ → ℕ) → ((i : ℕ) → f i ≡ g i) → (xs : List ℕ) → map f xs ≡ map g xs
map_same f g same [] = refl
map_same f g same (x ∷ xs) =
    let first : f x ≡ g x = same x in
    let rest : map f xs ≡ map g xs = map_same f g same xs in
    cc

-- each word that is summed lies behind the stored sum
pub word_past : (a b : List ℕ) → drop 8 a ≡ drop 8 b → (i : ℕ) → u32_at a (8 + 4 * i) ≡ u32_at b (8 + 4 * i)
unfolding u32_at
word_past a b same i = number_past 4 a b 8 (4 * i) (8 + 4 * i) refl same

pub words_past : (a b : List ℕ) → drop 8 a ≡ drop 8 b → (n : ℕ) → first_words a n ≡ first_words b n
words_past a b same n = map_same (λ i. u32_at a (8 + 4 * i)) (λ i. u32_at b (8 + 4 * i)) (word_past a b same) (range_with_len 0 n)

-- the sum of an object is that of any other of its length whose bytes from the eighth on are the same
pub sum_past : (a b : List ℕ) → drop 8 a ≡ drop 8 b → length a ≡ length b → sum_of a ≡ sum_of b
unfolding sum_of
sum_past a b same long =
    let all : words a ≡ words b = words_past a b same ((length a - 8) / 4) ∙ ap (λ n. first_words b ((n - 8) / 4)) long in
    ap (λ l. stored_sum (sum l) (weighted l)) all
