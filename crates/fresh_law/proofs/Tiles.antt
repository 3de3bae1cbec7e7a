-- Ranges that follow one another.
use Rattle.std.proofs.Common.{arith, ◌≡◌, ℕ, ◌+◌, ◌<◌, ◌≤◌, true, List, [], ◌∷◌, inl, inr, refl, ap, sym, ◌∙◌}
use Rattle.std.proofs.lemmas.Grind.{common_steps}
use Rattle.std.proofs.lemmas.Bool.{cases_lt}
use Rattle.apfs_model.specs.Lists.{In}
use Rattle.reach_rules.specs.declared.owner.Owner.{Owner}
use Rattle.reach_rules.specs.Owners.{covers}

-- from a place to an end, each owner begins where the one before it ends
abbrev pub Tiles : ℕ → ℕ → List Owner → Type 0
Tiles at end [] = at ≡ end
Tiles at end (a ∷ rest) = (a.first ≡ at) × Tiles (at + a.blocks) end rest

pub covers-low : (a : Owner) (block : ℕ) → covers a block ≡ true → a.first ≤ block
covers-low a block e = Prim.grind (arith, common_steps, e)

pub covers-high : (a : Owner) (block : ℕ) → covers a block ≡ true → block < a.first + a.blocks
covers-high a block e = Prim.grind (arith, common_steps, e)

pub covering : (a : Owner) (block : ℕ) → a.first ≤ block → block < a.first + a.blocks → covers a block ≡ true
covering a block l h = Prim.grind (arith, common_steps, l, h)

tile-order : (os : List Owner) (at end : ℕ) → Tiles at end os → at ≤ end
tile-order [] at end t = omega arith
tile-order (a ∷ os) at end t = let l = tile-order os (at + a.blocks) end t.1 in omega arith

-- each lies between
record Lies (at end : ℕ) (a : Owner) : Type 0 where
  low : at ≤ a.first
  high : a.first + a.blocks ≤ end

tile-lies : (os : List Owner) (at end : ℕ) → Tiles at end os → (a : Owner) → In a os → Lies at end a
tile-lies [] at end t a h = absurd h
tile-lies (o ∷ os) at end t a (inl e) =
    let l = tile-order os (at + o.blocks) end t.1 in
    let f : a.first ≡ at = ap (λ (x : Owner). x.first) e ∙ t.0 in
    let b : a.blocks ≡ o.blocks = ap (λ (x : Owner). x.blocks) e in
    record { low = omega (arith, f); high = omega (arith, f, b, l) }
tile-lies (o ∷ os) at end t a (inr h) =
    let l = tile-lies os (at + o.blocks) end t.1 a h in
    record { low = omega (arith, l.low); high = l.high }

pub tile-ends : (os : List Owner) (at end : ℕ) → Tiles at end os → (a : Owner) → In a os → a.first + a.blocks ≤ end
tile-ends os at end t a h = (tile-lies os at end t a h).high

pub tile-begins : (os : List Owner) (at end : ℕ) → Tiles at end os → (a : Owner) → In a os → at ≤ a.first
tile-begins os at end t a h = (tile-lies os at end t a h).low

-- no block is in two
pub tile-apart : (os : List Owner) (at end : ℕ) → Tiles at end os → (block : ℕ) (a b : Owner) → In a os → In b os → covers a block ≡ true → covers b block ≡ true → a ≡ b
tile-apart [] at end t block a b h k c d = absurd h
tile-apart (o ∷ os) at end t block a b (inl e) (inl f) c d = e ∙ sym f
tile-apart (o ∷ os) at end t block a b (inl e) (inr k) c d =
    let l = tile-begins os (at + o.blocks) end t.1 b k in
    let f : a.first ≡ at = ap (λ (x : Owner). x.first) e ∙ t.0 in
    let n : a.blocks ≡ o.blocks = ap (λ (x : Owner). x.blocks) e in
    absurd (omega (arith, l, f, n, covers-high a block c, covers-low b block d))
tile-apart (o ∷ os) at end t block a b (inr h) (inl e) c d =
    let l = tile-begins os (at + o.blocks) end t.1 a h in
    let f : b.first ≡ at = ap (λ (x : Owner). x.first) e ∙ t.0 in
    let n : b.blocks ≡ o.blocks = ap (λ (x : Owner). x.blocks) e in
    absurd (omega (arith, l, f, n, covers-high b block d, covers-low a block c))
tile-apart (o ∷ os) at end t block a b (inr h) (inr k) c d = tile-apart os (at + o.blocks) end t.1 block a b h k c d

-- each block is in one
pub tile-owner : (os : List Owner) (at end : ℕ) → Tiles at end os → (block : ℕ) → at ≤ block → block < end → (a : Owner) × (In a os × (covers a block ≡ true))
tile-owner [] at end t block l h = absurd (omega (arith, t, l, h))
tile-owner (o ∷ os) at end t block l h = elim (cases_lt block (at + o.blocks)) as (λ _. (a : Owner) × (In a (o ∷ os) × (covers a block ≡ true))) [
  | inl low ↦ (o, (inl refl, covering o block (omega (arith, t.0)) (omega (arith, t.0))))
  | inr high ↦ let r = tile-owner os (at + o.blocks) end t.1 block (omega (arith, high)) h in (r.0, (inr r.1.0, r.1.1))
]
