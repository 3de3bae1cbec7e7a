-- Owners and ids that are left once each.
use Rattle.std.proofs.Common.{◌≡◌, ℕ, ◌+◌, List, [], ◌∷◌, ◌++◌, map, length, inl, inr, refl, ap, sym, ◌∙◌, subst, arith}
use Rattle.std.specs.Prelude.{◌↔◌}
use Rattle.std.specs.List.{filter}
use Rattle.std.proofs.lemmas.List.{length-append, length-map}
use Rattle.apfs_model.specs.Apart.{Apart}
use Rattle.apfs_model.specs.Counts.{given}
use Rattle.apfs_model.specs.Lists.{In, Lists}
use Rattle.apfs_model.proofs.Searches.{in-left, in-right, in-append, in-map, from-map, in-filter, from-filter, filter-test}
use Rattle.omap_map.specs.declared.records.OmapRecord.{OmapRecord}
use Rattle.reach_rules.specs.declared.naming.LookUp.{LookUp}
use Rattle.reach_rules.specs.declared.naming.LookUp.TheVariants.{ByBlock, ByMapping}
use Rattle.reach_rules.specs.declared.naming.Object.{Object}
use Rattle.reach_rules.specs.declared.naming.Object.TheVariants.{Newest, InBlock, OfId, OfRecord}
use Rattle.reach_rules.specs.declared.naming.Naming.{Naming}
use Rattle.reach_rules.specs.declared.owner.Owner.{Owner}
use Rattle.reach_rules.specs.Reached.{range_of}
use Rattle.reach_rules.specs.Tally.{IsNumberOf}
use Rattle.reach_gather.specs.Finished.{AreRangesOnce, is_look, id_of, IsIdOf, IsObjectOf}
use Rattle.reach_gather.proofs.Ties.{look-same, look-itself}

-- ---- ranges
pub ranges-once : (owners each : List Owner) → ((x : Owner) → In x owners ↔ In x each) → Apart each → (ranges : List (ℕ × ℕ)) → ranges ≡ map range_of each → AreRangesOnce owners ranges
ranges-once owners each same apart ranges e = record { each = each; lists = ((λ a h. (same a).1 h), (λ a h. (same a).0 h)); apart = apart; same = e }

-- ---- ids
abbrev pub those_of : List Naming → LookUp → List Naming
those_of ns how = filter (λ (n : Naming). is_look n.how how) ns

pub those-look : (ns : List Naming) (how : LookUp) (n : Naming) → In n (those_of ns how) → n.how ≡ how
those-look ns how n h = look-same n.how how (filter-test (λ (n : Naming). is_look n.how how) n ns h)

pub those-in : (ns : List Naming) (how : LookUp) (n : Naming) → In n (those_of ns how) → In n ns
those-in ns how n h = from-filter (λ (n : Naming). is_look n.how how) n ns h

pub in-those : (ns : List Naming) (how : LookUp) (n : Naming) → In n ns → n.how ≡ how → In n (those_of ns how)
in-those ns how n h e = in-filter (λ (n : Naming). is_look n.how how) n ns h (ap (λ x. is_look x how) e ∙ look-itself how)

pub ids-list : (ns : List Naming) (how : LookUp) (old new : List ℕ) → old ≡ map id_of (those_of ns how) → ((x : ℕ) → In x old ↔ In x new) → Lists new (IsIdOf how ns)
ids-list ns how old new e same = (
  (λ x h.
      let t = from-map id_of (those_of ns how) x (subst (λ xs. In x xs) e ((same x).1 h)) in
      record { naming = t.0; one = those-in ns how t.0 t.1.0; how_is = those-look ns how t.0 t.1.0; oid_is = t.1.1 }),
  (λ x i. (same x).0 (subst (λ xs. In x xs) (sym e) (subst (λ y. In y (map id_of (those_of ns how))) (sym i.oid_is) (in-map id_of (those_of ns how) i.naming (in-those ns how i.naming i.one i.how_is))))),
)

-- ---- objects
pub apart-append : {X : Type 0} (xs ys : List X) → Apart xs → Apart ys → ((x : X) → In x xs → In x ys → ⊥) → Apart (xs ++ ys)
apart-append [] ys p q none = q
apart-append (x ∷ xs) ys p q none = (λ h. elim (in-append x xs ys h) as (λ _. ⊥) [ inl k ↦ p.0 k | inr k ↦ none x (inl refl) k ], apart-append xs ys p.1 q (λ y h k. none y (inr h) k))

pub apart_map : {X Y : Type 0} (f : X → Y) → ((a b : X) → f a ≡ f b → a ≡ b) → (xs : List X) → Apart xs → Apart (map f xs)
apart_map f one [] h = tt
apart_map f one (x ∷ xs) h = ((λ k. let t = from-map f xs (f x) k in h.0 (subst (λ y. In y xs) (sym (one x t.0 t.1.1)) t.1.0)), apart_map f one xs h.1)

-- a record, with the block of its map, as an object
abbrev object_as : ℕ × OmapRecord → Object
object_as m = OfRecord m.0 m.1

abbrev record_back : ℕ × OmapRecord → Object → ℕ × OmapRecord
record_back other Newest = other
record_back other (InBlock block) = other
record_back other (OfId oid) = other
record_back other (OfRecord map r) = (map, r)

record_one : (a b : ℕ × OmapRecord) → object_as a ≡ object_as b → a ≡ b
record_one a b e = ap (record_back a) e

abbrev objects_of : List ℕ → List ℕ → List (ℕ × OmapRecord) → List Object
objects_of ids blocks records = Newest ∷ (map OfId ids ++ (map InBlock blocks ++ map object_as records))

-- an object is of one kind
of-id : (ids : List ℕ) (x : Object) → In x (map OfId ids) → (oid : ℕ) × (In oid ids × (x ≡ OfId oid))
of-id ids x h = from-map OfId ids x h

of-block : (blocks : List ℕ) (x : Object) → In x (map InBlock blocks) → (block : ℕ) × (In block blocks × (x ≡ InBlock block))
of-block blocks x h = from-map InBlock blocks x h

of-record : (records : List (ℕ × OmapRecord)) (x : Object) → In x (map object_as records) → (m : ℕ × OmapRecord) × (In m records × (x ≡ object_as m))
of-record records x h = from-map object_as records x h

objects-apart : (ids blocks : List ℕ) (records : List (ℕ × OmapRecord)) → Apart ids → Apart blocks → Apart records → Apart (objects_of ids blocks records)
objects-apart ids blocks records p q r = (
  (λ h. elim (in-append Newest (map OfId ids) (map InBlock blocks ++ map object_as records) h) as (λ _. ⊥) [
    | inl k ↦ let t = of-id ids Newest k in let e : Newest ≡ OfId t.0 = t.1.1 in absurd (cc)
    | inr k ↦ elim (in-append Newest (map InBlock blocks) (map object_as records) k) as (λ _. ⊥) [
      | inl l ↦ let t = of-block blocks Newest l in let e : Newest ≡ InBlock t.0 = t.1.1 in absurd (cc)
      | inr l ↦ let t = of-record records Newest l in let e : Newest ≡ object_as t.0 = t.1.1 in absurd (cc)
    ]
  ]),
  apart-append (map OfId ids) (map InBlock blocks ++ map object_as records) (apart_map OfId (λ a b e. cc) ids p)
      (apart-append (map InBlock blocks) (map object_as records) (apart_map InBlock (λ a b e. cc) blocks q) (apart_map object_as record_one records r)
      (λ x h k. let s = of-block blocks x h in let t = of-record records x k in let d : InBlock s.0 ≡ object_as t.0 = sym s.1.1 ∙ t.1.1 in absurd (cc)))
      (λ x h k. let s = of-id ids x h in elim (in-append x (map InBlock blocks) (map object_as records) k) as (λ _. ⊥) [
        | inl l ↦ let t = of-block blocks x l in let d : OfId s.0 ≡ InBlock t.0 = sym s.1.1 ∙ t.1.1 in absurd (cc)
        | inr l ↦ let t = of-record records x l in let d : OfId s.0 ≡ object_as t.0 = sym s.1.1 ∙ t.1.1 in absurd (cc)
      ]),
)

object-of : (namings : List Naming) (ids blocks : List ℕ) (old new : List (ℕ × OmapRecord)) → Lists ids (IsIdOf ByMapping namings) → Lists blocks (IsIdOf ByBlock namings) → ((m : ℕ × OmapRecord) → In m old ↔ In m new) →
    (x : Object) → In x (objects_of ids blocks new) → IsObjectOf namings old x
object-of namings ids blocks old new p q same x (inl e) = subst (IsObjectOf namings old) (sym e) tt
object-of namings ids blocks old new p q same x (inr h) = elim (in-append x (map OfId ids) (map InBlock blocks ++ map object_as new) h) as (λ _. IsObjectOf namings old x) [
  | inl k ↦ let t = of-id ids x k in subst (IsObjectOf namings old) (sym t.1.1) (p.0 t.0 t.1.0)
  | inr k ↦ elim (in-append x (map InBlock blocks) (map object_as new) k) as (λ _. IsObjectOf namings old x) [
    | inl l ↦ let t = of-block blocks x l in subst (IsObjectOf namings old) (sym t.1.1) (q.0 t.0 t.1.0)
    | inr l ↦ let t = of-record new x l in subst (IsObjectOf namings old) (sym t.1.1) ((same t.0).1 t.1.0)
  ]
]

of-object : (namings : List Naming) (ids blocks : List ℕ) (old new : List (ℕ × OmapRecord)) → Lists ids (IsIdOf ByMapping namings) → Lists blocks (IsIdOf ByBlock namings) → ((m : ℕ × OmapRecord) → In m old ↔ In m new) →
    (x : Object) → IsObjectOf namings old x → In x (objects_of ids blocks new)
of-object namings ids blocks old new p q same Newest h = inl refl
of-object namings ids blocks old new p q same (InBlock block) h =
    inr (in-right (InBlock block) (map OfId ids) (map InBlock blocks ++ map object_as new) (in-left (InBlock block) (map InBlock blocks) (map object_as new) (in-map InBlock blocks block (q.1 block h))))
of-object namings ids blocks old new p q same (OfId oid) h =
    inr (in-left (OfId oid) (map OfId ids) (map InBlock blocks ++ map object_as new) (in-map OfId ids oid (p.1 oid h)))
of-object namings ids blocks old new p q same (OfRecord mapped r) h =
    inr (in-right (OfRecord mapped r) (map OfId ids) (map InBlock blocks ++ map object_as new) (in-right (OfRecord mapped r) (map InBlock blocks) (map object_as new) (in-map object_as new (mapped, r) ((same (mapped, r)).0 h))))

objects-length : (ids blocks : List ℕ) (records : List (ℕ × OmapRecord)) → length (objects_of ids blocks records) ≡ 1 + length ids + length blocks + length records
objects-length ids blocks records =
    let a = length-append (map OfId ids) (map InBlock blocks ++ map object_as records) in
    let b = length-append (map InBlock blocks) (map object_as records) in
    let c = length-map ids OfId in
    let d = length-map blocks InBlock in
    let e = length-map records object_as in
    omega (arith, a, b, c, d, e)

pub objects-number : (namings : List Naming) (ids blocks : List ℕ) (old new : List (ℕ × OmapRecord)) → Lists ids (IsIdOf ByMapping namings) → Apart ids → Lists blocks (IsIdOf ByBlock namings) → Apart blocks → ((m : ℕ × OmapRecord) → In m old ↔ In m new) → Apart new →
    (a b c number : ℕ) → a ≡ length ids → b ≡ length blocks → c ≡ length new → number ≡ given (1 + a + b + c) → IsNumberOf (IsObjectOf namings old) number
objects-number namings ids blocks old new p ap_ids q ap_blocks same ap_new a b c number ea eb ec e = record {
  all = objects_of ids blocks new;
  lists = (object-of namings ids blocks old new p q same, of-object namings ids blocks old new p q same);
  apart = objects-apart ids blocks new ap_ids ap_blocks ap_new;
  same = e ∙ ap given (let k : 1 + a + b + c ≡ length (objects_of ids blocks new) = omega (arith, objects-length ids blocks new) in k);
}
