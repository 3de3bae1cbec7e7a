-- The views of the volumes, one after the other.
use Rattle.std.proofs.Common.{◌≡◌, ℕ, suc, ◌+◌, ◌<◌, List, [], ◌∷◌, ◌++◌, length, take, get_or, ap, sym, ◌∙◌, arith}
use Rattle.std.proofs.lemmas.List.{take_more, append-nil, append_assoc, length-take-le}
use Rattle.nx_ring.specs.Checkpoint.{Seen}
use Rattle.vol_view.specs.Volumes.{Loaded}
use Rattle.vol_view.specs.declared.volume.Snapshot.{Snapshot}
use Rattle.view_sweep.specs.declared.wanted.Head.{Head}
use Rattle.reach_sweep.specs.Views.{past_head, past_heads, volume_heads, heads_from, swept_heads}

-- one more snapshot
pasts-more : (i : ℕ) (volume : Loaded) (k : ℕ) (xs : List Snapshot) (x : Snapshot) → past_heads i volume k (xs ++ x ∷ []) ≡ past_heads i volume k xs ++ past_head i volume (k + length xs) x ∷ []
pasts-more i volume k [] x = ap (λ j. past_head i volume j x ∷ []) (let e : k ≡ k + 0 = omega arith in e)
pasts-more i volume k (y ∷ ys) x =
    ap (λ hs. past_head i volume k y ∷ hs) (pasts-more i volume (suc k) ys x
    ∙ ap (λ j. past_heads i volume (suc k) ys ++ past_head i volume j x ∷ []) (let e : suc k + length ys ≡ k + suc (length ys) = omega arith in e))

-- the snapshots before a place, and the one at it
pub pasts-next : (i : ℕ) (volume : Loaded) (xs : List Snapshot) (k : ℕ) (x : Snapshot) → k < length xs → get_or xs k x ≡ x → past_heads i volume 0 (take (k + 1) xs) ≡ past_heads i volume 0 (take k xs) ++ past_head i volume k x ∷ []
pasts-next i volume xs k x low is =
    let more : take (k + 1) xs ≡ take k xs ++ x ∷ [] = take_more xs k x low ∙ ap (λ y. take k xs ++ y ∷ []) is in
    let long : length (take k xs) ≡ k = length-take-le k xs (omega arith) in
    ap (past_heads i volume 0) more
    ∙ (pasts-more i volume 0 (take k xs) x
    ∙ ap (λ j. past_heads i volume 0 (take k xs) ++ past_head i volume j x ∷ []) (let place : 0 + length (take k xs) ≡ k = omega (arith, long) in place))

-- so after what was there
pub pasts-push : (i : ℕ) (volume : Loaded) (xs : List Snapshot) (k : ℕ) (x : Snapshot) (old out : List Head) → k < length xs → get_or xs k x ≡ x → out ≡ old ++ past_heads i volume 0 (take k xs) → out ++ past_head i volume k x ∷ [] ≡ old ++ past_heads i volume 0 (take (k + 1) xs)
pasts-push i volume xs k x old out low is before =
    ap (λ hs. hs ++ past_head i volume k x ∷ []) before
    ∙ (append_assoc old (past_heads i volume 0 (take k xs)) (past_head i volume k x ∷ [])
    ∙ ap (λ hs. old ++ hs) (sym (pasts-next i volume xs k x low is)))

-- one more volume
heads-more : (seen : Seen) (i : ℕ) (vs : List Loaded) (v : Loaded) → heads_from seen i (vs ++ v ∷ []) ≡ heads_from seen i vs ++ volume_heads seen (i + length vs) v
heads-more seen i [] v = append-nil (volume_heads seen i v) ∙ ap (λ j. volume_heads seen j v) (let e : i ≡ i + 0 = omega arith in e)
heads-more seen i (w ∷ ws) v =
    ap (λ hs. volume_heads seen i w ++ hs) (heads-more seen (suc i) ws v)
    ∙ (sym (append_assoc (volume_heads seen i w) (heads_from seen (suc i) ws) (volume_heads seen (suc i + length ws) v))
    ∙ ap (λ j. (volume_heads seen i w ++ heads_from seen (suc i) ws) ++ volume_heads seen j v) (let e : suc i + length ws ≡ i + suc (length ws) = omega arith in e))

-- the volumes before a place, and the one at it
pub heads-next : (seen : Seen) (vs : List Loaded) (i : ℕ) (v : Loaded) (out : List Head) → i < length vs → get_or vs i v ≡ v → out ≡ swept_heads seen (take i vs) → out ++ volume_heads seen i v ≡ swept_heads seen (take (i + 1) vs)
heads-next seen vs i v out low is before =
    let more : take (i + 1) vs ≡ take i vs ++ v ∷ [] = take_more vs i v low ∙ ap (λ y. take i vs ++ y ∷ []) is in
    let long : length (take i vs) ≡ i = length-take-le i vs (omega arith) in
    ap (λ hs. hs ++ volume_heads seen i v) before
    ∙ sym (ap (swept_heads seen) more
    ∙ (heads-more seen 0 (take i vs) v
    ∙ ap (λ j. swept_heads seen (take i vs) ++ volume_heads seen j v) (let place : 0 + length (take i vs) ≡ i = omega (arith, long) in place)))
