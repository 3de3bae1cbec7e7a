-- Views that are told by their places.
use Rattle.std.proofs.Common.{◌≡◌, ℕ, true, ◌<◌, ◌%◌, List, ◌∷◌, [], ◌++◌, inl, inr, ap, sym, ◌∙◌, subst}
use Rattle.apfs_model.specs.Lists.{In}
use Rattle.apfs_model.proofs.Searches.{in-append}
use Rattle.view_sweep.specs.declared.wanted.SweptView.{SweptView}
use Rattle.view_sweep.specs.declared.wanted.Head.{Head}
use Rattle.view_sweep.specs.Wanted.{AreToldHeads, AreBelowHeads}

-- each is the view of its place
abbrev pub ArePlacedBy : (ℕ → SweptView) → List Head → Type 0
ArePlacedBy f heads = (h : Head) → In h heads → h.view ≡ f h.view.place

pub placed-none : (f : ℕ → SweptView) (heads : List Head) → heads ≡ [] → ArePlacedBy f heads
placed-none f heads e = λ h i. absurd (subst (λ hs. In h hs) e i)

pub placed-more : (f : ℕ → SweptView) (heads more : List Head) (head : Head) → more ≡ heads ++ head ∷ [] → head.view ≡ f head.view.place → ArePlacedBy f heads → ArePlacedBy f more
placed-more f heads more head e v all = λ h i. elim (in-append h heads (head ∷ []) (subst (λ hs. In h hs) e i)) as (λ _. h.view ≡ f h.view.place) [
  | inl a ↦ all h a
  | inr b ↦ elim b as (λ _. h.view ≡ f h.view.place) [ inl c ↦ subst (λ (x : Head). x.view ≡ f x.view.place) (sym c) v | inr d ↦ absurd d ]
]

pub told-placed : (f : ℕ → SweptView) (heads : List Head) → ArePlacedBy f heads → AreToldHeads heads
told-placed f heads all = λ a b i j s p. all a i ∙ (ap f p ∙ sym (all b j))

pub below-placed : (f : ℕ → SweptView) (n : ℕ) (heads : List Head) → ((place : ℕ) → (f place).volume < n) → ArePlacedBy f heads → AreBelowHeads n heads
below-placed f n heads low all = λ h i. subst (λ (v : SweptView). v.volume < n) (sym (all h i)) (low h.view.place)

-- the view of a snapshot, of so many volumes in turn
abbrev pub view_among : ℕ → ℕ → SweptView
view_among volumes place = record { slot = place % volumes; place = place; xid = place; map = 52; hashed = true; volume = place % volumes }
