-- The first level: what the superblocks of views want, of the set of each view.
use Rattle.std.proofs.Common.{◌≡◌, ℕ, ◌<◌, List, map, ◌⊎◌, inl, inr, sym, subst}
use Rattle.std.specs.List.{flat_map}
use Rattle.apfs_model.specs.Lists.{In}
use Rattle.apfs_model.proofs.Searches.{from-map, in-flat_map, from-flat_map}
use Rattle.view_sweep.specs.declared.wanted.SweptView.{SweptView}
use Rattle.view_sweep.specs.declared.wanted.Head.{Head}
use Rattle.view_sweep.specs.declared.wanted.Wanted.{Wanted}
use Rattle.view_sweep.specs.declared.used.Used.{Used}
use Rattle.view_sweep.specs.Wanted.{AreBelowHeads}
use Rattle.view_sweep.specs.Found.{World, next_of}
use Rattle.view_sweep.specs.Hits.{AreBelowViews}
use Rattle.view_sweep.specs.Sets.{view_of, HaveSame}
use Rattle.view_sweep.specs.Swept.{IsStep}
use Rattle.view_sweep.proofs.Losts.{nobody}
use Rattle.view_sweep.proofs.Ranked.{place-in}

-- the volumes of views are those of their heads
pub views-below : (n : ℕ) (heads : List Head) (views : List SweptView) → views ≡ map (λ (h : Head). h.view) heads → AreBelowHeads n heads → AreBelowViews n views
views-below n heads views e low = λ p inside.
    let t = from-map (λ (h : Head). h.view) heads (view_of views p) (subst (λ (vs : List SweptView). In (view_of views p) vs) e (place-in views p nobody.view inside)) in
    subst (λ (v : SweptView). v.volume < n) (sym t.1.1) (low t.0 t.1.0)

next-same : (k : World) (xs ys : List Wanted) → ((w : Wanted) → In w xs → In w ys) → (w : Wanted) → In w (flat_map (next_of k) xs) → In w (flat_map (next_of k) ys)
next-same k xs ys f w h = let t = from-flat_map (next_of k) w xs h in in-flat_map (next_of k) t.0 w ys (f t.0 t.1.0) t.1.1

-- a level of the same items was taken
pub step-same : (k : World) (xs ys before after : List Wanted) (read : List Used) → HaveSame xs ys → IsStep k xs before after read → IsStep k ys before after read
step-same k xs ys before after read same s = record {
  below = λ w h. elim (s.below w h) as (λ _. In w before ⊎ In w (flat_map (next_of k) ys)) [ inl a ↦ inl a | inr b ↦ inr (next-same k xs ys same.to w b) ];
  all = λ w h. s.all w (elim h as (λ _. In w before ⊎ In w (flat_map (next_of k) xs)) [ inl a ↦ inl a | inr b ↦ inr (next-same k ys xs same.from w b) ]);
  clear = λ w h. s.clear w (same.from w h);
  once = λ a b h i. s.once a b (same.from a h) (same.from b i);
  apart = s.apart;
  each = λ w r h. s.each w r (same.from w h);
  only = λ u h. let t = s.only u h in record { one = t.one; wanted = same.to t.one t.wanted; by = t.by; found = t.found; same = t.same };
}
