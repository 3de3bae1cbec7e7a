-- Whether two of some volumes have one slot.
use Rattle.std.proofs.Common.{◌≡◌, ℕ, zero, suc, ◌+◌, ◌<◌, ◌≤◌, true, not, List, [], ◌∷◌, ◌++◌, length, get_or, take, drop, ap, sym, ◌∙◌, subst, arith}
use Rattle.std.proofs.lemmas.List.{at_drop_all}
use Rattle.apfs_model.specs.Apart.{Apart}
use Rattle.apfs_model.specs.Lists.{In, has, is_distinct}
use Rattle.apfs_model.proofs.BoolTests.{clash, left-true, right-true, not-true}
use Rattle.apfs_model.proofs.Searches.{in-has, has-in, in-map, from-map}
use Rattle.vol_view.specs.Volumes.{Loaded}
use Rattle.reach_sweep.specs.Views.{slot_of, slots_of, HasSlotTwice}

-- numbers of which none stands twice are apart
distinct-apart : (ns : List ℕ) → is_distinct ns ≡ true → Apart ns
distinct-apart [] e = tt
distinct-apart (n ∷ ns) e = (
  (λ h. clash (has ns n) (in-has n ns h) (not-true (has ns n) (left-true (not (has ns n)) (is_distinct ns) e))),
  distinct-apart ns (right-true (not (has ns n)) (is_distinct ns) e),
)

-- past the last volume
apart-none : (volumes : List Loaded) (i : ℕ) → length volumes ≤ i → is_distinct (slots_of (drop i volumes)) ≡ true
apart-none volumes i high = at_drop_all (λ vs. is_distinct (slots_of vs)) volumes i high

-- a list about a place
split-at : (volumes : List Loaded) (i : ℕ) (volume : Loaded) → i < length volumes → volume ≡ get_or volumes i volume → volumes ≡ take i volumes ++ volume ∷ drop (suc i) volumes
split-at [] i volume low e = absurd (omega arith)
split-at (v ∷ vs) zero volume low e = ap (λ w. w ∷ vs) (sym e)
split-at (v ∷ vs) (suc i) volume low e = ap (λ ws. v ∷ ws) (split-at vs i volume (omega arith) e)

-- two of one slot
pub twice-found : (volumes : List Loaded) (i : ℕ) (volume : Loaded) (oid : ℕ) → i < length volumes → volume ≡ get_or volumes i volume → oid ≡ volume.head.oid → has (slots_of (drop (i + 1) volumes)) volume.head.slot ≡ true → HasSlotTwice volumes oid
twice-found volumes i volume oid low e id h =
    let more : List Loaded = drop (i + 1) volumes in
    let t = from-map slot_of more volume.head.slot (has-in volume.head.slot (slots_of more) h) in
    let next : suc i ≡ i + 1 = omega arith in
    record {
      before = take i volumes;
      one = volume;
      after = more;
      other = t.0;
      split = split-at volumes i volume low e ∙ ap (λ n. take i volumes ++ volume ∷ drop n volumes) next;
      follows = t.1.0;
      same_slot = sym t.1.1;
      id = id;
    }

-- such volumes aren't apart
twice-beside : (before : List Loaded) (one : Loaded) (after : List Loaded) (other : Loaded) → In other after → other.head.slot ≡ one.head.slot → Apart (slots_of (before ++ one ∷ after)) → ⊥
twice-beside [] one after other h e a = a.0 (subst (λ n. In n (slots_of after)) e (in-map slot_of after other h))
twice-beside (v ∷ vs) one after other h e a = twice-beside vs one after other h e a.1

pub twice-apart : (volumes : List Loaded) (oid : ℕ) → HasSlotTwice volumes oid → Apart (slots_of volumes) → ⊥
twice-apart volumes oid t a = twice-beside t.before t.one t.after t.other t.follows t.same_slot (subst (λ (vs : List Loaded). Apart (slots_of vs)) t.split a)

-- no two are
pub none-found : (volumes : List Loaded) (i : ℕ) → length volumes ≤ i → is_distinct (slots_of volumes) ≡ is_distinct (slots_of (drop i volumes)) → Apart (slots_of volumes)
none-found volumes i high same = distinct-apart (slots_of volumes) (same ∙ apart-none volumes i high)
