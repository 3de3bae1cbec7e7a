-- What is told of a naming's object is there.
use Rattle.std.proofs.Common.{◌≡◌, ℕ, true, false, List, [], ◌++◌, Option, Some, None, Result, Ok, Err, is_ok, inl, refl, ap, sym, ◌∙◌, subst}
use Rattle.std.specs.Prelude.{option_and_then}
use Rattle.apfs_model.specs.Lists.{In, through}
use Rattle.apfs_model.proofs.Searches.{in-right}
use Rattle.obj_base.specs.Sound.{sound_of, expecting}
use Rattle.obj_base.specs.Stops.{Tells, IsFree, in_block, raised}
use Rattle.obj_base.specs.declared.header.Header.{Header}
use Rattle.obj_base.specs.declared.header.HeadFault.{HeadFault}
use Rattle.obj_base.specs.declared.stop.Bad.{Bad}
use Rattle.obj_base.specs.declared.stop.Bad.TheVariants.{Found as Fails, Unsupported}
use Rattle.obj_base.specs.declared.stop.Feature.{Feature}
use Rattle.obj_base.specs.declared.stop.Stop.{Stop}
use Rattle.obj_base.specs.declared.stop.Stop.TheVariants as stops
use Rattle.obj_base.specs.declared.stop.Within.TheVariants.{Ephemeral}
use Rattle.nx_ring.specs.Objects.{Place}
use Rattle.nx_ring.specs.Checkpoint.{Seen, eph, site_of}
use Rattle.nx_ring.specs.Reading.{eph_ids}
use Rattle.nx_ring.proofs.Laws.{eph_in}
use Rattle.reach_rules.specs.declared.fault.ReachFault.{ReachFault}
use Rattle.reach_rules.specs.declared.fault.ReachFault.TheVariants.{Unsound, Unnamed}
use Rattle.reach_rules.specs.declared.naming.LookUp.TheVariants.{ByMapping}
use Rattle.reach_rules.specs.declared.naming.Namer.TheVariants.{Whole}
use Rattle.reach_rules.specs.declared.naming.Naming.{Naming}
use Rattle.reach_rules.specs.Resolved.{Found, resolved, mapped}
use Rattle.reach_rules.specs.Tested.{Answer, of_header, head_tested, tested}
use Rattle.reach_rules.specs.Next.{names, next}
use Rattle.reach_rules.specs.Live.{IsLive, IsSoundFor}
use Rattle.reach_rules.specs.Features.{field_features, tested_features, used_features, features_through, HasFeature, of}
use Rattle.reach_rules.specs.Faults.{within_of, xid_of}
use Rattle.reach_rules.specs.Reached.{IsReachedFault}
use Rattle.reach_rules.proofs.SpaceDecided.{ok-features}
use Rattle.reach_gather.specs.Namings.{IsPlainNaming}
use Rattle.reach_gather.specs.Told.{judged, told, unsound, told_through, found_mapped, told_mapped}
use Rattle.reach_gather.proofs.Parts.{sound-next}

-- ---- a fault
judged-fault : (image : List ℕ) (seen : Seen) (n : Naming) (f : Found) (fault : ReachFault) → IsLive image seen n → resolved image seen n ≡ Some f → (a : Answer) → tested (site_of seen) n.expected n.oid f.bytes ≡ a → judged f a ≡ Err (stops.Found fault) → IsReachedFault image seen fault
judged-fault image seen n f fault live found (Ok b) t e = absurd cc
judged-fault image seen n f fault live found (Err (Fails why)) t e =
    let same : Unsound f.block why ≡ fault = cc in
    subst (IsReachedFault image seen) same (record { naming = n; object = f; names = record { live = live; found = found }; at = refl; fails = t })
judged-fault image seen n f fault live found (Err (Unsupported feature)) t e = absurd cc

pub told-fault : (image : List ℕ) (seen : Seen) (n : Naming) (fault : ReachFault) → IsLive image seen n → told_through image seen n ≡ Err (stops.Found fault) → IsReachedFault image seen fault
unfolding told_through
told-fault image seen n fault live e =
    let go : (o : Option Found) → resolved image seen n ≡ o → told seen n.how n.oid (tested (site_of seen) n.expected n.oid) o ≡ Err (stops.Found fault) → IsReachedFault image seen fault =
    λ o. elim o as (λ o. resolved image seen n ≡ o → told seen n.how n.oid (tested (site_of seen) n.expected n.oid) o ≡ Err (stops.Found fault) → IsReachedFault image seen fault) [
      | None ↦ λ r s.
          let same : Unnamed (within_of n.how) n.oid (xid_of seen n.how) ≡ fault = cc in
          subst (IsReachedFault image seen) same (record { naming = n; live = live; lost = r; shown = record { within_is = refl; oid_is = refl; xid_is = refl } })
      | Some f ↦ λ r s. judged-fault image seen n f fault live r (tested (site_of seen) n.expected n.oid f.bytes) refl s
    ] in
    go (resolved image seen n) refl e

-- ---- a feature
-- the features through a naming that resolves
through-found : (image : List ℕ) (seen : Seen) (n : Naming) (f : Found) → resolved image seen n ≡ Some f → features_through image seen n ≡ used_features (site_of seen) f.object ++ tested_features image seen n.expected f (tested (site_of seen) n.expected n.oid f.bytes)
unfolding features_through
through-found image seen n f r = ap (λ o. through o (λ (g : Found). used_features (site_of seen) g.object ++ tested_features image seen n.expected g (tested (site_of seen) n.expected n.oid g.bytes))) r

judged-feature : (image : List ℕ) (seen : Seen) (n : Naming) (f : Found) (feature : Feature) (block : ℕ) → IsLive image seen n → resolved image seen n ≡ Some f → (a : Answer) → tested (site_of seen) n.expected n.oid f.bytes ≡ a → judged f a ≡ Err (stops.Unsupported feature block) → HasFeature image seen feature block
judged-feature image seen n f feature block live found (Ok b) t e = absurd cc
judged-feature image seen n f feature block live found (Err (Fails why)) t e = absurd cc
judged-feature image seen n f feature block live found (Err (Unsupported other)) t e =
    let one : other ≡ feature = cc in
    let at : f.block ≡ block = cc in
    let here : In (other, f.block) (used_features (site_of seen) f.object ++ tested_features image seen n.expected f (Err (Unsupported other))) = in-right (other, f.block) (used_features (site_of seen) f.object) (tested_features image seen n.expected f (Err (Unsupported other))) (inl refl) in
    let all : features_through image seen n ≡ used_features (site_of seen) f.object ++ tested_features image seen n.expected f (Err (Unsupported other)) =
    through-found image seen n f found ∙ ap (λ a. used_features (site_of seen) f.object ++ tested_features image seen n.expected f a) t in
    subst (λ b. HasFeature image seen feature b) at (subst (λ x. HasFeature image seen x f.block) one (of n live (subst (λ xs. In (other, f.block) xs) (sym all) here)))

pub told-feature : (image : List ℕ) (seen : Seen) (n : Naming) (feature : Feature) (block : ℕ) → IsLive image seen n → told_through image seen n ≡ Err (stops.Unsupported feature block) → HasFeature image seen feature block
unfolding told_through
told-feature image seen n feature block live e =
    let go : (o : Option Found) → resolved image seen n ≡ o → told seen n.how n.oid (tested (site_of seen) n.expected n.oid) o ≡ Err (stops.Unsupported feature block) → HasFeature image seen feature block =
    λ o. elim o as (λ o. resolved image seen n ≡ o → told seen n.how n.oid (tested (site_of seen) n.expected n.oid) o ≡ Err (stops.Unsupported feature block) → HasFeature image seen feature block) [
      | None ↦ λ r s. absurd (let q : ⊥ = cc in q)
      | Some f ↦ λ r s. judged-feature image seen n f feature block live r (tested (site_of seen) n.expected n.oid f.bytes) refl s
    ] in
    go (resolved image seen n) refl e

-- what stops a call that looks a live naming up is there
pub told-present : (image : List ℕ) (seen : Seen) (n : Naming) (stop : Stop ReachFault) → IsLive image seen n → Tells (λ f. told_through image seen n ≡ Err (stops.Found f)) (λ name at. told_through image seen n ≡ Err (stops.Unsupported name at)) stop → Tells (IsReachedFault image seen) (HasFeature image seen) stop
told-present image seen n (stops.Found fault) live e = told-fault image seen n fault live e
told-present image seen n (stops.Unsupported feature block) live e = told-feature image seen n feature block live e
told-present image seen n stops.ReadFault live e = tt
told-present image seen n stops.NoMemory live e = tt

-- ---- an object
pub judged-ok : (f g : Found) (a : Answer) → judged f a ≡ Ok g → (f ≡ g) × (is_ok a ≡ true)
judged-ok f g (Ok b) e = (cc, refl)
judged-ok f g (Err (Fails why)) e = absurd cc
judged-ok f g (Err (Unsupported feature)) e = absurd cc

-- the object of a naming is found, and sound as it is expected
pub record IsTold (image : List ℕ) (seen : Seen) (n : Naming) (f : Found) : Type 0 where
  pub found : resolved image seen n ≡ Some f
  pub sound : IsSoundFor seen n f

pub told-ok : (image : List ℕ) (seen : Seen) (n : Naming) (f : Found) → told_through image seen n ≡ Ok f → IsTold image seen n f
unfolding told_through
told-ok image seen n f e =
    let go : (o : Option Found) → resolved image seen n ≡ o → told seen n.how n.oid (tested (site_of seen) n.expected n.oid) o ≡ Ok f → IsTold image seen n f =
    λ o. elim o as (λ o. resolved image seen n ≡ o → told seen n.how n.oid (tested (site_of seen) n.expected n.oid) o ≡ Ok f → IsTold image seen n f) [
      | None ↦ λ r s. absurd (let q : ⊥ = cc in q)
      | Some g ↦ λ r s.
          let t = judged-ok g f (tested (site_of seen) n.expected n.oid g.bytes) s in
          record { found = r ∙ ap Some t.0; sound = subst (λ (x : Found). is_ok (tested (site_of seen) n.expected n.oid x.bytes) ≡ true) t.0 t.1 }
    ] in
    go (resolved image seen n) refl e

ok-judged : (f : Found) (a : Answer) → is_ok a ≡ true → judged f a ≡ Ok f
ok-judged f (Ok b) e = refl
ok-judged f (Err bad) e = absurd (let z : false ≡ true = e in let q : ⊥ = cc in q)

-- where a naming is plain nothing is told but its object
pub plain-told : (image : List ℕ) (seen : Seen) (n : Naming) (p : IsPlainNaming image seen n) → told_through image seen n ≡ Ok p.object
unfolding told_through
plain-told image seen n p =
    ap (λ o. told seen n.how n.oid (tested (site_of seen) n.expected n.oid) o) p.found
    ∙ ok-judged p.object (tested (site_of seen) n.expected n.oid p.object.bytes) p.sound

pub told-free : (image : List ℕ) (seen : Seen) (n : Naming) (stop : Stop ReachFault) → IsPlainNaming image seen n → Tells (λ f. told_through image seen n ≡ Err (stops.Found f)) (λ name at. told_through image seen n ≡ Err (stops.Unsupported name at)) stop → IsFree stop
told-free image seen n (stops.Found fault) p e = let s = plain-told image seen n p in cc
told-free image seen n (stops.Unsupported feature block) p e = let s = plain-told image seen n p in cc
told-free image seen n stops.ReadFault p e = tt
told-free image seen n stops.NoMemory p e = tt

-- ---- the features of its fields
pub told-features : (image : List ℕ) (seen : Seen) (n : Naming) (f : Found) → told_through image seen n ≡ Ok f → features_through image seen n ≡ used_features (site_of seen) f.object ++ field_features image seen n.expected f.block f.bytes
told-features image seen n f e =
    let t = told-ok image seen n f e in
    through-found image seen n f t.found ∙ ap (λ xs. used_features (site_of seen) f.object ++ xs) (ok-features image seen n.expected f (tested (site_of seen) n.expected n.oid f.bytes) t.sound)

-- an object without features is that of a plain naming
pub told-plain : (image : List ℕ) (seen : Seen) (n : Naming) (f : Found) → told_through image seen n ≡ Ok f → used_features (site_of seen) f.object ++ field_features image seen n.expected f.block f.bytes ≡ [] → IsPlainNaming image seen n
told-plain image seen n f e none =
    let t = told-ok image seen n f e in
    record { object = f; found = t.found; sound = t.sound; plain = told-features image seen n f e ∙ none }

-- and one with a feature has it
pub told-has : (image : List ℕ) (seen : Seen) (n : Naming) (f : Found) (feature : Feature) → IsLive image seen n → told_through image seen n ≡ Ok f → In (feature, f.block) (used_features (site_of seen) f.object ++ field_features image seen n.expected f.block f.bytes) → HasFeature image seen feature f.block
told-has image seen n f feature live e h = of n live (subst (λ xs. In (feature, f.block) xs) (sym (told-features image seen n f e)) h)

-- so its naming isn't plain
pub has-unplain : (image : List ℕ) (seen : Seen) (n : Naming) (f : Found) (feature : Feature) → IsPlainNaming image seen n → told_through image seen n ≡ Ok f → In (feature, f.block) (used_features (site_of seen) f.object ++ field_features image seen n.expected f.block f.bytes) → ⊥
has-unplain image seen n f feature p e h = subst (λ xs. In (feature, f.block) xs) (sym (told-features image seen n f e) ∙ p.plain) h

-- ---- what it names
pub told-next : (image : List ℕ) (seen : Seen) (n : Naming) (f : Found) → told_through image seen n ≡ Ok f → next image seen n ≡ names image seen n.how n.expected (Whole f.object) f.bytes
told-next image seen n f e = let t = told-ok image seen n f e in sound-next image seen n f t.found t.sound

-- ---- mapped objects
-- a mapped object that is found is one of the mappings
pub mapped-known : (seen : Seen) (oid : ℕ) (f : Found) → found_mapped seen oid ≡ Some f → In oid (eph_ids seen)
mapped-known seen oid f h =
    let go : (o : Option Place) → eph seen oid ≡ o → option_and_then (mapped (site_of seen) oid) o ≡ Some f → In oid (eph_ids seen) = λ o. elim o as (λ o. eph seen oid ≡ o → option_and_then (mapped (site_of seen) oid) o ≡ Some f → In oid (eph_ids seen)) [
      | None ↦ λ e s. absurd (let q : ⊥ = cc in q)
      | Some place ↦ λ e s. eph_in seen oid place e
    ] in
    go (eph seen oid) refl h

-- what is told of a mapped object
pub mapped-lost : (seen : Seen) (kind oid : ℕ) → None ≡ found_mapped seen oid → told_mapped seen kind oid ≡ Err (stops.Found (Unnamed Ephemeral oid seen.line.xid))
unfolding told_mapped
mapped-lost seen kind oid e = ap (told seen ByMapping oid (head_tested (site_of seen) kind (Some oid))) (sym e)

pub mapped-judged : (seen : Seen) (kind oid xid : ℕ) (f : Found) (r : Result Header (Bad HeadFault)) → xid ≡ seen.line.xid → Some f ≡ found_mapped seen oid → r ≡ sound_of f.bytes (expecting kind (Some oid) xid) → told_mapped seen kind oid ≡ judged f (of_header f.bytes r)
unfolding told_mapped site_of
mapped-judged seen kind oid xid f r x e s =
    let t : sound_of f.bytes (expecting kind (Some oid) seen.line.xid) ≡ r = ap (λ y. sound_of f.bytes (expecting kind (Some oid) y)) (sym x) ∙ sym s in
    ap (told seen ByMapping oid (head_tested (site_of seen) kind (Some oid))) (sym e) ∙ ap (λ q. judged f (of_header f.bytes q)) t

-- a header that fails a test, in the words of a named object
pub header-tells : (f : Found) (answer : Result Found (Stop ReachFault)) (bad : Bad HeadFault) → answer ≡ judged f (of_header f.bytes (Err bad)) → Tells (λ fault. answer ≡ Err (stops.Found fault)) (λ name at. answer ≡ Err (stops.Unsupported name at)) (raised unsound (in_block f.block bad))
header-tells f answer (Fails why) e = e
header-tells f answer (Unsupported feature) e = e
