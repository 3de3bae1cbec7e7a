-- The views of a volume's snapshots, one after the other.
use Rattle.std.proofs.Common.{◌≡◌, ℕ, zero, suc, ◌+◌, ◌≤◌, List, [], ◌∷◌, ◌++◌, length, take, Option, None, Some, ap, sym, ◌∙◌, subst, arith}
use Rattle.std.specs.Prelude.{option_map, slice_get}
use Rattle.std.proofs.lemmas.List.{take_all}
use Rattle.nx_ring.specs.Checkpoint.{Seen}
use Rattle.vol_view.specs.Volumes.{Loaded}
use Rattle.vol_view.specs.declared.volume.Snapshot.{Snapshot}
use Rattle.use_report.specs.Views.{live_kept, past_kept, pasts_kept, views_kept}
use Rattle.use_report.specs.declared.kept.KeptView.{KeptView}

pasts-next : (volume : Loaded) (a i : ℕ) (snaps : List Snapshot) (kept : KeptView) → option_map (past_kept volume (a + i)) (slice_get snaps i) ≡ Some kept → pasts_kept volume a (take (suc i) snaps) ≡ pasts_kept volume a (take i snaps) ++ kept ∷ []
pasts-next volume a i [] kept e = absurd (let z : ◌≡◌ {A = Option KeptView} None (Some kept) = e in let q : ⊥ = cc in q)
pasts-next volume a zero (x ∷ xs) kept e =
    let here : a + 0 ≡ a = omega arith in
    let z : ◌≡◌ {A = Option KeptView} (Some (past_kept volume (a + 0) x)) (Some kept) = e in
    let same : past_kept volume (a + 0) x ≡ kept = cc in
    ap (λ (k : KeptView). k ∷ []) (sym (ap (λ j. past_kept volume j x) here) ∙ same)
pasts-next volume a (suc i) (x ∷ xs) kept e =
    let more : a + suc i ≡ suc a + i = omega arith in
    ap (λ (ks : List KeptView). past_kept volume a x ∷ ks) (pasts-next volume (suc a) i xs kept (subst (λ j. option_map (past_kept volume j) (slice_get xs i) ≡ Some kept) more e))

-- one more view
pub kept-more : (volume : Loaded) (seen : Seen) (i : ℕ) (views later : List KeptView) (kept : KeptView) → views ≡ live_kept volume seen ∷ pasts_kept volume 0 (take i volume.snaps) → later ≡ views ++ kept ∷ [] → option_map (past_kept volume i) (slice_get volume.snaps i) ≡ Some kept
    → later ≡ live_kept volume seen ∷ pasts_kept volume 0 (take (i + 1) volume.snaps)
kept-more volume seen i views later kept had more one =
    let here : i ≡ 0 + i = omega arith in
    let next : suc i ≡ i + 1 = omega arith in
    let e = pasts-next volume 0 i volume.snaps kept (subst (λ j. option_map (past_kept volume j) (slice_get volume.snaps i) ≡ Some kept) here one) in
    more ∙ (ap (λ (ks : List KeptView). ks ++ kept ∷ []) had ∙ ap (λ (ks : List KeptView). live_kept volume seen ∷ ks) (sym e ∙ ap (λ j. pasts_kept volume 0 (take j volume.snaps)) next))

-- all views
pub kept-all : (volume : Loaded) (seen : Seen) (i : ℕ) (views : List KeptView) → length volume.snaps ≤ i → views ≡ live_kept volume seen ∷ pasts_kept volume 0 (take i volume.snaps) → views ≡ views_kept volume seen
kept-all volume seen i views end had = had ∙ ap (λ (snaps : List Snapshot). live_kept volume seen ∷ pasts_kept volume 0 snaps) (take_all i volume.snaps end)
