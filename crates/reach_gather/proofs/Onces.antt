-- No id is named twice where neighbours in the order of ids are compared.
use Rattle.std.proofs.Common.{◌≡◌, ℕ, zero, suc, ◌+◌, ◌-◌, ◌<◌, ◌≤◌, true, List, [], ◌∷◌, length, get_or, inl, inr, refl, ap, sym, ◌∙◌, subst, arith, below_more}
use Rattle.std.specs.List.Sorted.{IsPermutation, IsNonDecreasingBy}
use Rattle.std.proofs.lemmas.List.Sorted.{Contains-permutation, IsPermutation-sym}
use Rattle.std.proofs.lemmas.Bool.{cases_lt}
use Rattle.apfs_model.specs.Lists.{In}
use Rattle.id_lists.proofs.Repeats.{contained, listed}
use Rattle.nx_ring.specs.Checkpoint.{Seen}
use Rattle.obj_base.specs.declared.stop.Within.{Within}
use Rattle.reach_rules.specs.declared.naming.LookUp.{LookUp}
use Rattle.reach_rules.specs.declared.naming.LookUp.TheVariants.{ByBlock}
use Rattle.reach_rules.specs.declared.naming.Object.TheVariants.{Newest}
use Rattle.reach_rules.specs.declared.naming.Namer.TheVariants.{Whole}
use Rattle.reach_rules.specs.declared.naming.Expected.TheVariants.{SpaceManager}
use Rattle.reach_rules.specs.declared.naming.Naming.{Naming}
use Rattle.reach_rules.specs.Naming.{naming}
use Rattle.reach_rules.specs.Live.{IsLive}
use Rattle.reach_rules.specs.Faults.{within_of, xid_of, is_once, IsNamedTwice}
use Rattle.reach_gather.specs.ViewParts.{AreOnceAs}
use Rattle.reach_gather.specs.Finished.{id_of, AreOnceHere}
use Rattle.reach_gather.proofs.Finishes.{those_of, in-those}

-- a naming, where there is none
abbrev pub nobody : Naming
nobody = naming (Whole Newest) 0 SpaceManager ByBlock 0

-- ---- places
in-place : (ns : List Naming) (n : Naming) → In n ns → (j : ℕ) × ((j < length ns) × (n ≡ get_or ns j nobody))
in-place [] n h = absurd h
in-place (m ∷ ms) n (inl e) = (0, (omega arith, e))
in-place (m ∷ ms) n (inr h) = let t = in-place ms n h in let low : t.0 < length ms = t.1.0 in (suc t.0, (omega arith, t.1.1))

pub place-in : (ns : List Naming) (j : ℕ) → j < length ns → In (get_or ns j nobody) ns
place-in [] j low = absurd (omega arith)
place-in (m ∷ ms) zero low = inl refl
place-in (m ∷ ms) (suc j) low = inr (place-in ms j (omega arith))

-- a naming is one with each before it that names its id
abbrev pub IsOneAt : List Naming → ℕ → Type 0
IsOneAt ns k = (j : ℕ) → j < k → (get_or ns j nobody).oid ≡ (get_or ns k nobody).oid → get_or ns j nobody ≡ get_or ns k nobody

here-one : (ns : List Naming) → IsNonDecreasingBy id_of ns → (i : ℕ) → i < length ns → ((k : ℕ) → k < i → IsOneAt ns k) → (0 < i → (get_or ns (i - 1) nobody).oid ≡ (get_or ns i nobody).oid → get_or ns (i - 1) nobody ≡ get_or ns i nobody) → IsOneAt ns i
here-one ns sorted i low before beside j less e =
    let a : (get_or ns j nobody).oid ≤ (get_or ns (i - 1) nobody).oid = sorted j (i - 1) nobody (omega arith) (omega arith) in
    let b : (get_or ns (i - 1) nobody).oid ≤ (get_or ns i nobody).oid = sorted (i - 1) i nobody (omega arith) low in
    let near : (get_or ns (i - 1) nobody).oid ≡ (get_or ns i nobody).oid = omega (arith, a, b, e) in
    let last : get_or ns (i - 1) nobody ≡ get_or ns i nobody = beside (omega arith) near in
    elim (cases_lt j (i - 1)) as (λ _. get_or ns j nobody ≡ get_or ns i nobody) [
      | inl far ↦ before (i - 1) (omega arith) j far (e ∙ sym near) ∙ last
      | inr next ↦ let same : j ≡ i - 1 = omega arith in ap (λ k. get_or ns k nobody) same ∙ last
    ]

pub one-more : (ns : List Naming) → IsNonDecreasingBy id_of ns → (i : ℕ) → i < length ns → ((k : ℕ) → k < i → IsOneAt ns k) → (0 < i → (get_or ns (i - 1) nobody).oid ≡ (get_or ns i nobody).oid → get_or ns (i - 1) nobody ≡ get_or ns i nobody) → (k : ℕ) → k < i + 1 → IsOneAt ns k
one-more ns sorted i low before beside = below_more (IsOneAt ns) i before (here-one ns sorted i low before beside)

pub one-all : (ns : List Naming) (i : ℕ) → length ns ≤ i → ((k : ℕ) → k < i → IsOneAt ns k) → AreOnceHere ns
one-all ns i high before m n hm hn e =
    let s = in-place ns m hm in
    let t = in-place ns n hn in
    let low : s.0 < length ns = s.1.0 in
    let end : t.0 < length ns = t.1.0 in
    let ids : (get_or ns s.0 nobody).oid ≡ (get_or ns t.0 nobody).oid = sym (ap id_of s.1.1) ∙ (e ∙ ap id_of t.1.1) in
    elim (cases_lt s.0 t.0) as (λ _. m ≡ n) [
      | inl less ↦ s.1.1 ∙ (before t.0 (omega arith) s.0 less ids ∙ sym t.1.1)
      | inr upto ↦ elim (cases_lt t.0 s.0) as (λ _. m ≡ n) [
        | inl more ↦ s.1.1 ∙ (sym (before s.0 (omega arith) t.0 more (sym ids)) ∙ sym t.1.1)
        | inr also ↦ let same : s.0 ≡ t.0 = omega arith in s.1.1 ∙ (ap (λ k. get_or ns k nobody) same ∙ sym t.1.1)
      ]
    ]

-- ---- two neighbours of one id
pub twice-there : (image : List ℕ) (seen : Seen) (ns : List Naming) (how : LookUp) → ((n : Naming) → In n ns → n.how ≡ how) → is_once how ≡ true → ((n : Naming) → In n ns → IsLive image seen n) → (i j : ℕ) → i < length ns → j < length ns →
    ((get_or ns i nobody).oid ≡ (get_or ns j nobody).oid) × (get_or ns i nobody ≡ get_or ns j nobody → ⊥) → (within : Within) (xid : ℕ) → within ≡ within_of how → xid ≡ xid_of seen how → IsNamedTwice image seen within (get_or ns j nobody).oid xid
twice-there image seen ns how alike once live i j low high clash within xid w x =
    let a : Naming = get_or ns i nobody in
    let b : Naming = get_or ns j nobody in
    let ha : a.how ≡ how = alike a (place-in ns i low) in
    let hb : b.how ≡ how = alike b (place-in ns j high) in
    record {
      one = a;
      other = b;
      one_live = live a (place-in ns i low);
      other_live = live b (place-in ns j high);
      once = ap is_once ha ∙ once;
      same_view = ha ∙ sym hb;
      same_oid = clash.0;
      apart = clash.1;
      shown = record { within_is = w ∙ ap within_of (sym ha); oid_is = sym clash.0; xid_is = x ∙ ap (xid_of seen) (sym ha) };
    }

-- ---- lists in another order
pub moved-in : (old new : List Naming) → IsPermutation old new → (n : Naming) → In n new → In n old
moved-in old new moved n h = listed old n (Contains-permutation new old n (IsPermutation-sym old new moved) (contained new n h))

pub in-moved : (old new : List Naming) → IsPermutation old new → (n : Naming) → In n old → In n new
in-moved old new moved n h = listed new n (Contains-permutation old new n moved (contained old n h))

-- ---- all that are looked up so, in another order
pub sorted-in : (ns found sorted lent : List Naming) (how : LookUp) → found ≡ those_of ns how → IsPermutation found sorted → lent ≡ sorted → (n : Naming) → In n lent → In n (those_of ns how)
sorted-in ns found sorted lent how e moved l n h = subst (λ ms. In n ms) e (moved-in found sorted moved n (subst (λ ms. In n ms) l h))

pub in-sorted : (ns found sorted lent : List Naming) (how : LookUp) → found ≡ those_of ns how → IsPermutation found sorted → lent ≡ sorted → (n : Naming) → In n ns → n.how ≡ how → In n lent
in-sorted ns found sorted lent how e moved l n h looked = subst (λ ms. In n ms) (sym l) (in-moved found sorted moved n (subst (λ ms. In n ms) (sym e) (in-those ns how n h looked)))

pub once-as : (ns sorted : List Naming) (how : LookUp) → ((n : Naming) → In n ns → n.how ≡ how → In n sorted) → AreOnceHere sorted → AreOnceAs how ns
once-as ns sorted how into once m n hm hn pm pn e = once m n (into m hm pm) (into n hn pn) e
