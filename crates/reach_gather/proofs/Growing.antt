-- How what is gathered grows, part by part.
use Rattle.std.proofs.Common.{◌≡◌, ◌+◌, ◌≤◌, ℕ, false, List, [], ◌∷◌, ◌++◌, length, ◌⊎◌, inl, inr, refl, ap, sym, ◌∙◌, subst, arith, length-append}
use Rattle.std.specs.Prelude.{not, ◌==◌}
use Rattle.apfs_model.specs.Lists.{In}
use Rattle.apfs_model.proofs.BoolTests.{not-true, false-not}
use Rattle.apfs_model.proofs.Searches.{in-left, in-right, in-append, in-filter, from-filter, filter-test}
use Rattle.nx_ring.specs.Checkpoint.{Seen}
use Rattle.reach_rules.specs.declared.naming.TreeKind.{TreeKind}
use Rattle.reach_rules.specs.declared.naming.Expected.TheVariants.{TreeRoot}
use Rattle.reach_rules.specs.declared.naming.Naming.{Naming}
use Rattle.reach_rules.specs.Trees.{IsRightTree}
use Rattle.reach_rules.specs.Next.{next}
use Rattle.reach_rules.specs.declared.owner.Owner.{Owner}
use Rattle.reach_rules.specs.Owners.{owners_through}
use Rattle.reach_rules.specs.PoolOwners.{pool_owners_through}
use Rattle.reach_gather.specs.Namings.{IsPlainNaming}
use Rattle.reach_gather.specs.Account.{AreRightTrees}
use Rattle.reach_gather.specs.ViewParts.{is_in_view, AreOutside}
use Rattle.reach_gather.proofs.Joined.{part-none, part-left, part-join, part-step}
use Rattle.reach_gather.specs.Held.{Held, Grew, IsOwnerThrough, GrewBy, some_owners}
use Rattle.reach_gather.specs.Adds.{Adds}

-- ---- lists
pub grew-none : {X : Type 0} (xs : List X) (P : X → Type 0) → ((x : X) → P x → ⊥) → Grew xs xs P
grew-none xs P none = record { from = λ x h. inl h; kept = λ x h. h; grown = λ x p. absurd (none x p) }

pub grew-join : {X : Type 0} (a b c : List X) (P Q R : X → Type 0) → ((x : X) → R x → P x ⊎ Q x) → ((x : X) → P x → R x) → ((x : X) → Q x → R x) → Grew a b P → Grew b c Q → Grew a c R
grew-join a b c P Q R split left right g h = record {
  from = λ x k. elim (h.from x k) as (λ _. In x a ⊎ R x) [
    | inl m ↦ elim (g.from x m) as (λ _. In x a ⊎ R x) [ inl o ↦ inl o | inr p ↦ inr (left x p) ]
    | inr q ↦ inr (right x q)
  ];
  kept = λ x k. h.kept x (g.kept x k);
  grown = λ x r. elim (split x r) as (λ _. In x c) [ inl p ↦ h.kept x (g.grown x p) | inr q ↦ h.grown x q ];
}

pub grew-put : {X : Type 0} (old new xs : List X) (P : X → Type 0) → new ≡ old ++ xs → ((x : X) → In x xs → P x) → ((x : X) → P x → In x xs) → Grew old new P
grew-put old new xs P e to back = record {
  from = λ x k. elim (in-append x old xs (subst (λ ys. In x ys) e k)) as (λ _. In x old ⊎ P x) [ inl m ↦ inl m | inr m ↦ inr (to x m) ];
  kept = λ x k. subst (λ ys. In x ys) (sym e) (in-left x old xs k);
  grown = λ x p. subst (λ ys. In x ys) (sym e) (in-right x old xs (back x p));
}

-- ---- how long they are
pub noted-more : {X : Type 0} (old new xs : List X) → new ≡ old ++ xs → length new ≡ length old + length xs
noted-more old new xs e = ap length e ∙ length-append old xs

pub fits-more : {X : Type 0} (old new xs : List X) → new ≡ old ++ xs → length new ≤ length old + length xs
fits-more old new xs e = let l = noted-more old new xs e in omega (arith, l)

-- ---- owners
through-split : (t : Naming → List Owner) (xs ys : List Naming) (o : Owner) → IsOwnerThrough t (xs ++ ys) o → IsOwnerThrough t xs o ⊎ IsOwnerThrough t ys o
through-split t xs ys o w = elim (in-append w.naming xs ys w.one) as (λ _. IsOwnerThrough t xs o ⊎ IsOwnerThrough t ys o) [
  | inl h ↦ inl (record { naming = w.naming; one = h; owner = w.owner; some = w.some })
  | inr h ↦ inr (record { naming = w.naming; one = h; owner = w.owner; some = w.some })
]

through-left : (t : Naming → List Owner) (xs ys : List Naming) (o : Owner) → IsOwnerThrough t xs o → IsOwnerThrough t (xs ++ ys) o
through-left t xs ys o w = record { naming = w.naming; one = in-left w.naming xs ys w.one; owner = w.owner; some = w.some }

through-right : (t : Naming → List Owner) (xs ys : List Naming) (o : Owner) → IsOwnerThrough t ys o → IsOwnerThrough t (xs ++ ys) o
through-right t xs ys o w = record { naming = w.naming; one = in-right w.naming xs ys w.one; owner = w.owner; some = w.some }

-- ---- namings with their owners
pub grewby-none : (image : List ℕ) (seen : Seen) (a : Held) → GrewBy image seen [] a a
grewby-none image seen a = record {
  namings = grew-none a.namings (λ n. In n []) (λ n h. h);
  fits = omega arith;
  owners = grew-none a.owners (IsOwnerThrough (owners_through image seen) []) (λ o w. w.one);
  pool_owners = grew-none a.pool_owners (IsOwnerThrough (pool_owners_through image seen) []) (λ o w. w.one);
}

pub grewby-join : (image : List ℕ) (seen : Seen) (xs ys : List Naming) (a b c : Held) → GrewBy image seen xs a b → GrewBy image seen ys b c → GrewBy image seen (xs ++ ys) a c
grewby-join image seen xs ys a b c g h =
    let t = owners_through image seen in
    let p = pool_owners_through image seen in
    record {
      namings = grew-join a.namings b.namings c.namings (λ n. In n xs) (λ n. In n ys) (λ n. In n (xs ++ ys)) (λ n k. in-append n xs ys k) (λ n k. in-left n xs ys k) (λ n k. in-right n xs ys k) g.namings h.namings;
      fits = let k : length b.namings ≤ length a.namings + length xs = g.fits in
          let l : length c.namings ≤ length b.namings + length ys = h.fits in
          let e : length (xs ++ ys) ≡ length xs + length ys = length-append xs ys in
          omega (arith, e);
      owners = grew-join a.owners b.owners c.owners (IsOwnerThrough t xs) (IsOwnerThrough t ys) (IsOwnerThrough t (xs ++ ys)) (through-split t xs ys) (through-left t xs ys) (through-right t xs ys) g.owners h.owners;
      pool_owners = grew-join a.pool_owners b.pool_owners c.pool_owners (IsOwnerThrough p xs) (IsOwnerThrough p ys) (IsOwnerThrough p (xs ++ ys)) (through-split p xs ys) (through-left p xs ys) (through-right p xs ys) g.pool_owners h.pool_owners;
    }

-- the owners of one naming
one-through : (t : Naming → List Owner) (n : Naming) (o : Owner) → In o (some_owners (t n)) → IsOwnerThrough t (n ∷ []) o
one-through t n o h = record {
  naming = n;
  one = inl refl;
  owner = from-filter (λ (x : Owner). not (x.blocks == 0)) o (t n) h;
  some = not-true (o.blocks == 0) (filter-test (λ (x : Owner). not (x.blocks == 0)) o (t n) h);
}

through-one : (t : Naming → List Owner) (n : Naming) (o : Owner) → IsOwnerThrough t (n ∷ []) o → In o (some_owners (t n))
through-one t n o w = elim w.one as (λ _. In o (some_owners (t n))) [
  | inl e ↦ in-filter (λ (x : Owner). not (x.blocks == 0)) o (t n) (subst (λ m. In o (t m)) e w.owner) (false-not (o.blocks == 0) w.some)
  | inr h ↦ absurd h
]

one-naming : (n m : Naming) → In m (n ∷ []) → In m (n ∷ [])
one-naming n m h = h

pub grewby-one : (image : List ℕ) (seen : Seen) (n : Naming) (a b : Held) → b.namings ≡ a.namings ++ n ∷ [] → b.owners ≡ a.owners ++ some_owners (owners_through image seen n) → b.pool_owners ≡ a.pool_owners ++ some_owners (pool_owners_through image seen n) → GrewBy image seen (n ∷ []) a b
grewby-one image seen n a b p q r = record {
  namings = grew-put a.namings b.namings (n ∷ []) (λ m. In m (n ∷ [])) p (one-naming n) (one-naming n);
  fits = fits-more a.namings b.namings (n ∷ []) p;
  owners = grew-put a.owners b.owners (some_owners (owners_through image seen n)) (IsOwnerThrough (owners_through image seen) (n ∷ [])) q (one-through (owners_through image seen) n) (through-one (owners_through image seen) n);
  pool_owners = grew-put a.pool_owners b.pool_owners (some_owners (pool_owners_through image seen n)) (IsOwnerThrough (pool_owners_through image seen) (n ∷ [])) r (one-through (pool_owners_through image seen) n) (through-one (pool_owners_through image seen) n);
}

-- ---- parts
pub outside-both : (ns ms : List Naming) → AreOutside ns → AreOutside ms → AreOutside (ns ++ ms)
outside-both ns ms p q = λ n h. elim (in-append n ns ms h) as (λ _. is_in_view n.how ≡ false) [ inl k ↦ p n k | inr k ↦ q n k ]

pub trees-both : (image : List ℕ) (seen : Seen) (ns ms : List Naming) → AreRightTrees image seen ns → AreRightTrees image seen ms → AreRightTrees image seen (ns ++ ms)
trees-both image seen ns ms p q = λ n kind h is. elim (in-append n ns ms h) as (λ _. IsRightTree image seen kind n.oid) [ inl k ↦ p n kind k is | inr k ↦ q n kind k is ]

-- where a naming names the root of a tree, the tree is right
abbrev pub IsRightRoot : List ℕ → Seen → Naming → Type 0
IsRightRoot image seen n = (kind : TreeKind) → n.expected ≡ TreeRoot kind → IsRightTree image seen kind n.oid

pub adds-none : (image : List ℕ) (seen : Seen) (a : Held) → Adds image seen [] [] a a
adds-none image seen a = record { these = []; part = part-none image seen; outside = λ n h. absurd h; trees = λ n kind h e. absurd h; grew = grewby-none image seen a }

-- all is left to the rest
pub adds-left : (image : List ℕ) (seen : Seen) (ns : List Naming) (a : Held) → Adds image seen ns ns a a
adds-left image seen ns a = record { these = []; part = part-left image seen ns; outside = λ n h. absurd h; trees = λ n kind h e. absurd h; grew = grewby-none image seen a }

-- one part, and then another
pub adds-join : (image : List ℕ) (seen : Seen) (ns ms rs ss : List Naming) (a b c : Held) → Adds image seen ns rs a b → Adds image seen ms ss b c → Adds image seen (ns ++ ms) (rs ++ ss) a c
adds-join image seen ns ms rs ss a b c g h = record {
  these = g.these ++ h.these;
  part = part-join image seen ns ms g.these h.these rs ss g.part h.part;
  outside = outside-both g.these h.these g.outside h.outside;
  trees = trees-both image seen g.these h.these g.trees h.trees;
  grew = grewby-join image seen g.these h.these a b c g.grew h.grew;
}

-- a naming, and then what it leads to
pub adds-step : (image : List ℕ) (seen : Seen) (n : Naming) (rs : List Naming) (a b c : Held) → IsPlainNaming image seen n → is_in_view n.how ≡ false → IsRightRoot image seen n → GrewBy image seen (n ∷ []) a b → Adds image seen (next image seen n) rs b c → Adds image seen (n ∷ []) rs a c
adds-step image seen n rs a b c plain out right g h = record {
  these = n ∷ h.these;
  part = part-step image seen n h.these rs plain h.part;
  outside = outside-both (n ∷ []) h.these (λ m k. elim k as (λ _. is_in_view m.how ≡ false) [ inl e ↦ subst (λ (x : Naming). is_in_view x.how ≡ false) (sym e) out | inr k ↦ absurd k ]) h.outside;
  trees = trees-both image seen (n ∷ []) h.these (λ m kind k is. elim k as (λ _. IsRightTree image seen kind m.oid) [ inl e ↦ subst (λ (x : Naming). IsRightTree image seen kind x.oid) (sym e) (right kind (ap (λ (x : Naming). x.expected) (sym e) ∙ is)) | inr k ↦ absurd k ]) h.trees;
  grew = grewby-join image seen (n ∷ []) h.these a b c g h.grew;
}

-- the namings that are first, told otherwise
pub adds-as : (image : List ℕ) (seen : Seen) (ns ms rs : List Naming) (a b : Held) → ms ≡ ns → Adds image seen ns rs a b → Adds image seen ms rs a b
adds-as image seen ns ms rs a b e g = subst (λ xs. Adds image seen xs rs a b) (sym e) g
