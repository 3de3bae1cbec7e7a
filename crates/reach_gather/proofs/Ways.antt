-- The chain of the reaper, as far as it was walked.
use Rattle.std.proofs.Common.{◌≡◌, ℕ, ◌+◌, ◌-◌, ◌<◌, ◌≤◌, Bool, true, false, ◌==◌, List, [], ◌∷◌, ◌++◌, length, ◌⊎◌, inl, inr, refl, ap, sym, ◌∙◌, subst, arith, length-append, if◌then◌else◌}
use Rattle.std.proofs.lemmas.Grind.{common_steps}
use Rattle.std.proofs.lemmas.List.{length-map}
use Rattle.apfs_model.specs.Apart.{Apart}
use Rattle.apfs_model.specs.Lists.{In, has, last_or}
use Rattle.apfs_model.proofs.BoolTests.{clash}
use Rattle.apfs_model.proofs.Finite.{apart-length}
use Rattle.apfs_model.proofs.Searches.{in-left, in-right, in-append, in-has}
use Rattle.obj_base.specs.declared.stop.Within.TheVariants.{Ephemeral}
use Rattle.nx_block.specs.Super.{reaper_oid_of}
use Rattle.nx_ring.specs.Objects.{Place}
use Rattle.nx_ring.specs.Checkpoint.{Seen}
use Rattle.nx_ring.specs.Reading.{eph_ids}
use Rattle.reach_rules.specs.declared.naming.LookUp.{LookUp}
use Rattle.reach_rules.specs.declared.naming.LookUp.TheVariants.{ByMapping}
use Rattle.reach_rules.specs.declared.naming.Object.TheVariants.{Newest, OfId}
use Rattle.reach_rules.specs.declared.naming.Namer.{Namer}
use Rattle.reach_rules.specs.declared.naming.Namer.TheVariants.{Whole}
use Rattle.reach_rules.specs.declared.naming.Expected.{Expected}
use Rattle.reach_rules.specs.declared.naming.Expected.TheVariants.{ReaperObject, ReapList}
use Rattle.reach_rules.specs.declared.naming.Naming.{Naming}
use Rattle.reach_rules.specs.Naming.{naming}
use Rattle.reach_rules.specs.Next.{roots, next, unless_zero}
use Rattle.reach_rules.specs.Live.{rooted, led, IsLive}
use Rattle.reach_rules.specs.Faults.{is_once, within_of, xid_of, IsNamedTwice}
use Rattle.reach_rules.proofs.Nexts.{in-unless}
use Rattle.reach_gather.specs.Namings.{IsPlainNaming}
use Rattle.reach_gather.specs.Reaped.{list_namings, reaper_namings, reaper_root, IsReaperLive, IsReaped, IsRightReaper, expected_at, next_at, IsLink}
use Rattle.reach_gather.proofs.Finishes.{apart-append}

-- no id was met yet
abbrev pub none : List ℕ → Bool
none [] = true
none (i ∷ ids) = false

-- where the last of some lists names the next one, the first being named at a position
abbrev pub place_last : ℕ → List ℕ → ℕ
place_last at [] = at
place_last at (i ∷ ids) = 32

-- who names the id after these, and where
abbrev pub namer_after : List ℕ → Namer
namer_after [] = Whole Newest
namer_after (i ∷ ids) = Whole (OfId (last_or i ids))

abbrev pub at_after : List ℕ → ℕ
at_after [] = 168
at_after (i ∷ ids) = place_last 48 ids

-- the naming of the id after these
abbrev pub naming_after : List ℕ → ℕ → Naming
naming_after ids oid = naming (namer_after ids) (at_after ids) (expected_at (none ids)) ByMapping oid

-- which is none where the id is 0
abbrev pub pending : List ℕ → ℕ → List Naming
pending ids oid = unless_zero (namer_after ids) (at_after ids) (expected_at (none ids)) ByMapping oid

-- ---- one more id
place-same : (ids : List ℕ) → place_last 32 ids ≡ 32
place-same [] = refl
place-same (i ∷ ids) = refl

lists-more : (namer at : ℕ) (ids : List ℕ) (oid : ℕ) → list_namings namer at (ids ++ oid ∷ []) ≡ list_namings namer at ids ++ naming (Whole (OfId (last_or namer ids))) (place_last at ids) ReapList ByMapping oid ∷ []
lists-more namer at [] oid = refl
lists-more namer at (i ∷ ids) oid =
    ap (λ xs. naming (Whole (OfId namer)) at ReapList ByMapping i ∷ xs)
    (lists-more i 32 ids oid ∙ ap (λ k. list_namings i 32 ids ++ naming (Whole (OfId (last_or i ids))) k ReapList ByMapping oid ∷ []) (place-same ids))

namings-more : (ids : List ℕ) (oid : ℕ) → reaper_namings (ids ++ oid ∷ []) ≡ reaper_namings ids ++ naming_after ids oid ∷ []
namings-more [] oid = refl
namings-more (r ∷ ids) oid = ap (λ xs. naming (Whole Newest) 168 ReaperObject ByMapping r ∷ xs) (lists-more r 48 ids oid)

last-more : (i : ℕ) (ids : List ℕ) (oid : ℕ) → last_or i (ids ++ oid ∷ []) ≡ oid
last-more i [] oid = refl
last-more i (j ∷ ids) oid = last-more j ids oid

place-more : (at : ℕ) (ids : List ℕ) (oid : ℕ) → place_last at (ids ++ oid ∷ []) ≡ 32
place-more at [] oid = refl
place-more at (i ∷ ids) oid = refl

pending-more : (ids : List ℕ) (oid x : ℕ) → pending (ids ++ oid ∷ []) x ≡ unless_zero (Whole (OfId oid)) (next_at (none ids)) ReapList ByMapping x
pending-more [] oid x = refl
pending-more (r ∷ ids) oid x =
    ap (λ k. unless_zero (Whole (OfId k)) (place_last 48 (ids ++ oid ∷ [])) ReapList ByMapping x) (last-more r ids oid)
    ∙ ap (λ p. unless_zero (Whole (OfId oid)) p ReapList ByMapping x) (place-more 48 ids oid)

-- a field names what it gives
pub from-unless : (namer : Namer) (at : ℕ) (e : Expected) (how : LookUp) (oid : ℕ) (m : Naming) → In m (unless_zero namer at e how oid) → m ≡ naming namer at e how oid
from-unless namer at e how oid m h =
    let go : (b : Bool) → In m (if b then [] else naming namer at e how oid ∷ []) → m ≡ naming namer at e how oid = λ b. elim b as (λ b. In m (if b then [] else naming namer at e how oid ∷ []) → m ≡ naming namer at e how oid) [
      | true ↦ λ k. absurd k
      | false ↦ λ k. elim k as (λ _. m ≡ naming namer at e how oid) [ inl s ↦ s | inr x ↦ absurd x ]
    ] in
    go (oid == 0) h

-- ---- the namings of ids
-- a naming of the list has this id
pub record NamesId (ns : List Naming) (oid : ℕ) : Type 0 where
  pub one : Naming
  pub listed : In one ns
  pub oid_is : one.oid ≡ oid
  pub how_is : one.how ≡ ByMapping

lists-named : (namer at : ℕ) (ids : List ℕ) (oid : ℕ) → In oid ids → NamesId (list_namings namer at ids) oid
lists-named namer at [] oid h = absurd h
lists-named namer at (i ∷ ids) oid (inl e) = record { one = naming (Whole (OfId namer)) at ReapList ByMapping i; listed = inl refl; oid_is = sym e; how_is = refl }
lists-named namer at (i ∷ ids) oid (inr h) =
    let t = lists-named i 32 ids oid h in
    record { one = t.one; listed = inr t.listed; oid_is = t.oid_is; how_is = t.how_is }

ids-named : (ids : List ℕ) (oid : ℕ) → In oid ids → NamesId (reaper_namings ids) oid
ids-named [] oid h = absurd h
ids-named (r ∷ ids) oid (inl e) = record { one = naming (Whole Newest) 168 ReaperObject ByMapping r; listed = inl refl; oid_is = sym e; how_is = refl }
ids-named (r ∷ ids) oid (inr h) =
    let t = lists-named r 48 ids oid h in
    record { one = t.one; listed = inr t.listed; oid_is = t.oid_is; how_is = t.how_is }

-- ---- the next naming is none of those before
last-in : (i : ℕ) (ids : List ℕ) → In (last_or i ids) (i ∷ ids)
last-in i [] = inl refl
last-in i (j ∷ ids) = inr (last-in j ids)

lists-fresh : (namer at : ℕ) (ids : List ℕ) (n : Naming) → Apart (namer ∷ ids) → In n (list_namings namer at ids) → n.namer ≡ Whole (OfId (last_or namer ids)) → ⊥
lists-fresh namer at [] n apart h e = h
lists-fresh namer at (i ∷ ids) n apart (inl s) e =
    let z : Whole (OfId namer) ≡ Whole (OfId (last_or i ids)) = sym (ap (λ (x : Naming). x.namer) s) ∙ e in
    let same : namer ≡ last_or i ids = cc in
    apart.0 (subst (λ k. In k (i ∷ ids)) (sym same) (last-in i ids))
lists-fresh namer at (i ∷ ids) n apart (inr h) e = lists-fresh i 32 ids n apart.1 h e

fresh : (ids : List ℕ) (oid : ℕ) (n : Naming) → Apart ids → In n (reaper_namings ids) → n ≡ naming_after ids oid → ⊥
fresh [] oid n apart h e = h
fresh (r ∷ ids) oid n apart (inl s) e = let z : Whole Newest ≡ Whole (OfId (last_or r ids)) = ap (λ (x : Naming). x.namer) (sym s ∙ e) in absurd (let q : ⊥ = cc in q)
fresh (r ∷ ids) oid n apart (inr h) e = lists-fresh r 48 ids n apart h (ap (λ (x : Naming). x.namer) e)

-- ---- what was walked: the namings of these ids are live and plain, and nothing but the next one is missing
pub record IsWay (image : List ℕ) (seen : Seen) (ids : List ℕ) (oid : ℕ) : Type 0 where
  pub live : (n : Naming) → In n (reaper_namings ids) → IsReaperLive image seen n
  pub plain : (n : Naming) → In n (reaper_namings ids) → IsPlainNaming image seen n
  pub on : (n m : Naming) → In n (reaper_namings ids) → In m (next image seen n) → In m (reaper_namings ids) ⊎ In m (pending ids oid)
  pub first : (m : Naming) → In m (reaper_root seen.nx) → In m (reaper_namings ids) ⊎ In m (pending ids oid)
  pub coming : (m : Naming) → In m (pending ids oid) → IsReaperLive image seen m

pub way-start : (image : List ℕ) (seen : Seen) → IsWay image seen [] (reaper_oid_of seen.nx)
way-start image seen = record {
  live = λ n h. absurd h;
  plain = λ n h. absurd h;
  on = λ n m h g. absurd h;
  first = λ m h. inr h;
  coming = λ m h. rooted m h;
}

-- one naming more
split : (ids : List ℕ) (oid : ℕ) (n : Naming) → In n (reaper_namings (ids ++ oid ∷ [])) → In n (reaper_namings ids) ⊎ (n ≡ naming_after ids oid)
split ids oid n h = elim (in-append n (reaper_namings ids) (naming_after ids oid ∷ []) (subst (λ xs. In n xs) (namings-more ids oid) h)) as (λ _. In n (reaper_namings ids) ⊎ (n ≡ naming_after ids oid)) [
  | inl a ↦ inl a
  | inr b ↦ elim b as (λ _. In n (reaper_namings ids) ⊎ (n ≡ naming_after ids oid)) [ inl e ↦ inr e | inr x ↦ absurd x ]
]

widen : (ids : List ℕ) (oid : ℕ) (n : Naming) → In n (reaper_namings ids) ⊎ In n (pending ids oid) → In n (reaper_namings (ids ++ oid ∷ []))
widen ids oid n h = subst (λ xs. In n xs) (sym (namings-more ids oid)) (elim h as (λ _. In n (reaper_namings ids ++ naming_after ids oid ∷ [])) [
  | inl a ↦ in-left n (reaper_namings ids) (naming_after ids oid ∷ []) a
  | inr b ↦ in-right n (reaper_namings ids) (naming_after ids oid ∷ []) (inl (from-unless (namer_after ids) (at_after ids) (expected_at (none ids)) ByMapping oid n b))
])

pub way-here : (image : List ℕ) (seen : Seen) (ids : List ℕ) (oid : ℕ) → (oid == 0) ≡ false → IsWay image seen ids oid → IsReaperLive image seen (naming_after ids oid)
way-here image seen ids oid some w = w.coming (naming_after ids oid) (in-unless (namer_after ids) (at_after ids) (expected_at (none ids)) ByMapping oid some)

pub way-more : (image : List ℕ) (seen : Seen) (ids : List ℕ) (oid further : ℕ) → (oid == 0) ≡ false → IsWay image seen ids oid → IsLink image seen (naming_after ids oid) (next_at (none ids)) further → IsWay image seen (ids ++ oid ∷ []) further
way-more image seen ids oid further some w link =
    let here : Naming = naming_after ids oid in
    let live : IsReaperLive image seen here = way-here image seen ids oid some w in
    let leads : next image seen here ≡ pending (ids ++ oid ∷ []) further = link.leads ∙ sym (pending-more ids oid further) in
    record {
      live = λ n h. elim (split ids oid n h) as (λ _. IsReaperLive image seen n) [ inl a ↦ w.live n a | inr e ↦ subst (λ x. IsReaperLive image seen x) (sym e) live ];
      plain = λ n h. elim (split ids oid n h) as (λ _. IsPlainNaming image seen n) [ inl a ↦ w.plain n a | inr e ↦ subst (λ x. IsPlainNaming image seen x) (sym e) link.plain ];
      on = λ n m h g. elim (split ids oid n h) as (λ _. In m (reaper_namings (ids ++ oid ∷ [])) ⊎ In m (pending (ids ++ oid ∷ []) further)) [
        | inl a ↦ inl (widen ids oid m (w.on n m a g))
        | inr e ↦ inr (subst (λ xs. In m xs) (ap (next image seen) e ∙ leads) g)
      ];
      first = λ m h. inl (widen ids oid m (w.first m h));
      coming = λ m h. led here m live (subst (λ xs. In m xs) (sym leads) h);
    }

-- the end of the chain
whole : (image : List ℕ) (seen : Seen) (ids : List ℕ) → IsWay image seen ids 0 → (n : Naming) → IsReaperLive image seen n → In n (reaper_namings ids)
whole image seen ids w n (rooted _ h) = elim (w.first n h) as (λ _. In n (reaper_namings ids)) [ inl a ↦ a | inr b ↦ absurd b ]
whole image seen ids w n (led m _ live h) = elim (w.on m n (whole image seen ids w m live) h) as (λ _. In n (reaper_namings ids)) [ inl a ↦ a | inr b ↦ absurd b ]

pub way-end : (image : List ℕ) (seen : Seen) (ids : List ℕ) → Apart ids → IsWay image seen ids 0 → IsReaped image seen ids
way-end image seen ids apart w = record { live = (w.live, whole image seen ids w); plain = w.plain; apart = apart }

-- ---- an id that was met before
once-mapped : (how : LookUp) → how ≡ ByMapping → is_once how ≡ true
once-mapped how e = ap is_once e

within-mapped : (how : LookUp) → how ≡ ByMapping → Ephemeral ≡ within_of how
within-mapped how e = sym (ap within_of e)

xid-mapped : (seen : Seen) (how : LookUp) → how ≡ ByMapping → seen.line.xid ≡ xid_of seen how
xid-mapped seen how e = sym (ap (xid_of seen) e)

pub root-live : (image : List ℕ) (seen : Seen) (n : Naming) → IsReaperLive image seen n → IsLive image seen n
unfolding roots
root-live image seen n (rooted _ h) = rooted n (inr (inr (in-left n (reaper_root seen.nx) _ h)))
root-live image seen n (led m _ live h) = led m n (root-live image seen m live) h

pub met-twice : (image : List ℕ) (seen : Seen) (ids : List ℕ) (oid : ℕ) → (oid == 0) ≡ false → Apart ids → In oid ids → IsWay image seen ids oid → IsNamedTwice image seen Ephemeral oid seen.line.xid
met-twice image seen ids oid some apart h w =
    let t = ids-named ids oid h in
    record {
      one = t.one;
      other = naming_after ids oid;
      one_live = root-live image seen t.one (w.live t.one t.listed);
      other_live = root-live image seen (naming_after ids oid) (way-here image seen ids oid some w);
      once = once-mapped t.one.how t.how_is;
      same_view = t.how_is;
      same_oid = t.oid_is;
      apart = fresh ids oid t.one apart t.listed;
      shown = record { within_is = within-mapped t.one.how t.how_is; oid_is = sym t.oid_is; xid_is = xid-mapped seen t.one.how t.how_is };
    }

pub met-clash : (image : List ℕ) (seen : Seen) (ids : List ℕ) (oid : ℕ) → (oid == 0) ≡ false → Apart ids → In oid ids → IsWay image seen ids oid → IsRightReaper image seen → ⊥
met-clash image seen ids oid some apart h w right =
    let t = ids-named ids oid h in
    fresh ids oid t.one apart t.listed (right.once t.one (naming_after ids oid) (w.live t.one t.listed) (way-here image seen ids oid some w) t.oid_is)

-- ---- ids without repeats
pub apart-push : (ids : List ℕ) (oid : ℕ) → Apart ids → (In oid ids → ⊥) → Apart (ids ++ oid ∷ [])
apart-push ids oid a out = apart-append ids (oid ∷ []) a (λ h. h, tt) (λ i h k. elim k as (λ _. ⊥) [ inl e ↦ out (subst (λ x. In x ids) e h) | inr x ↦ x ])

pub known-push : (ids all : List ℕ) (oid : ℕ) → ((k : ℕ) → In k ids → In k all) → In oid all → (k : ℕ) → In k (ids ++ oid ∷ []) → In k all
known-push ids all oid f h k g = elim (in-append k ids (oid ∷ []) g) as (λ _. In k all) [ inl a ↦ f k a | inr b ↦ elim b as (λ _. In k all) [ inl e ↦ subst (λ x. In x all) (sym e) h | inr x ↦ absurd x ] ]

-- so there are no more of them than mappings
pub few-ids : (seen : Seen) (ids : List ℕ) → Apart ids → ((k : ℕ) → In k ids → In k (eph_ids seen)) → length ids ≤ length seen.mapped
unfolding eph_ids
few-ids seen ids apart known = subst (λ n. length ids ≤ n) (length-map seen.mapped (λ (p : Place). p.oid)) (apart-length ids (eph_ids seen) apart known)

-- ---- the loop's steps
pub way-init : (image : List ℕ) (seen : Seen) (ids nx : List ℕ) (oid : ℕ) → ids ≡ [] → nx ≡ seen.nx → oid ≡ reaper_oid_of nx → IsWay image seen ids oid
way-init image seen ids nx oid a b c =
    subst (λ ns. IsWay image seen ns oid) (sym a) (subst (λ o. IsWay image seen [] o) (sym (c ∙ ap reaper_oid_of b)) (way-start image seen))

pub none-is : (ids : List ℕ) → (length ids == 0) ≡ none ids
none-is [] = refl
none-is (i ∷ ids) = grind (arith, common_steps)

pub out-of : (ids : List ℕ) (oid : ℕ) → has ids oid ≡ false → In oid ids → ⊥
out-of ids oid e h = clash (has ids oid) (in-has oid ids h) e

pub fewer : (m : ℕ) (ids more : List ℕ) (oid : ℕ) → more ≡ ids ++ oid ∷ [] → length more ≤ m → m - length more < m - length ids
fewer m ids more oid e few =
    let l : length more ≡ length ids + 1 = ap length e ∙ length-append ids (oid ∷ []) in
    omega arith
