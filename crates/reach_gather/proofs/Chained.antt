-- The objects of the reaper's chain, as they are told.
use Rattle.std.proofs.Common.{◌≡◌, ℕ, true, false, not, ◌==◌, List, [], Option, Some, None, Result, Ok, Err, inl, refl, ap, sym, ◌∙◌, subst, Bool}
use Rattle.std.specs.Prelude.{bit_and}
use Rattle.apfs_model.specs.Lists.{In}
use Rattle.apfs_model.proofs.BoolTests.{never-true, false-not, from-equal, equal-from}
use Rattle.apfs_model.specs.Object.{reaper_kind, reap_list_kind}
use Rattle.obj_base.specs.Features.{with_feature}
use Rattle.obj_base.specs.declared.stop.Feature.TheVariants.{Reaper}
use Rattle.obj_base.specs.Stops.{Tells, IsFree}
use Rattle.obj_base.specs.declared.stop.Stop.{Stop}
use Rattle.obj_base.specs.declared.stop.Stop.TheVariants as stops
use Rattle.nx_block.specs.Reaper.{reaper_head_of, reaper_flags_of, reap_count_of, reap_next_of, is_reaping, has_reaped}
use Rattle.nx_ring.specs.Checkpoint.{Seen, site_of}
use Rattle.reach_rules.specs.declared.fault.ReachFault.{ReachFault}
use Rattle.reach_rules.specs.declared.naming.LookUp.TheVariants.{ByMapping}
use Rattle.reach_rules.specs.declared.naming.Object.TheVariants.{OfId}
use Rattle.reach_rules.specs.declared.naming.Namer.{Namer}
use Rattle.reach_rules.specs.declared.naming.Namer.TheVariants.{Whole}
use Rattle.reach_rules.specs.declared.naming.Expected.TheVariants.{ReaperObject, ReapList}
use Rattle.reach_rules.specs.declared.naming.Naming.{Naming}
use Rattle.reach_rules.specs.declared.naming.Expected.{Expected}
use Rattle.reach_rules.specs.Naming.{naming}
use Rattle.reach_rules.specs.Resolved.{Found, resolved}
use Rattle.reach_rules.specs.Tested.{head_tested, tested}
use Rattle.reach_rules.specs.Live.{IsLive}
use Rattle.reach_rules.specs.Features.{HasFeature, placed_in, field_features}
use Rattle.reach_rules.specs.Reached.{IsReachedFault}
use Rattle.reach_rules.specs.Next.{names, unless_zero}
use Rattle.reach_gather.specs.Namings.{IsPlainNaming}
use Rattle.reach_gather.specs.Told.{told, told_through, told_mapped, found_mapped}
use Rattle.reach_gather.specs.Reaped.{IsLink}
use Rattle.reach_gather.proofs.Tolds.{told-present, told-free, told-plain, told-has, has-unplain, told-next, mapped-known, judged-ok}

-- a mapped object by its first block and its bytes
abbrev pub object_in : ℕ → ℕ → List ℕ → Found
object_in oid block bytes = record { object = OfId oid; block = block; bytes = bytes }

-- a kind of object of the chain: told as a mapped one of a kind, with the feature where it is marked, and naming the next list at a position
pub record IsChained (kind : ℕ) (e : Expected) (is_marked : List ℕ → Bool) (place : ℕ) (further : List ℕ → ℕ) : Type 0 where
  pub same : (image : List ℕ) (seen : Seen) (namer : Namer) (at oid : ℕ) → told_through image seen (naming namer at e ByMapping oid) ≡ told_mapped seen kind oid
  pub features : (image : List ℕ) (seen : Seen) (block : ℕ) (bytes : List ℕ) → field_features image seen e block bytes ≡ placed_in block (with_feature (is_marked bytes) Reaper [])
  pub leads : (image : List ℕ) (seen : Seen) (namer : Namer) (bytes : List ℕ) → names image seen ByMapping e namer bytes ≡ unless_zero namer place ReapList ByMapping (further bytes)

-- so are the reaper and a list
pub of-reaper : IsChained reaper_kind ReaperObject is_reaping 48 reaper_head_of
unfolding told_through told_mapped resolved tested
of-reaper = record { same = λ image seen namer at oid. refl; features = λ image seen block bytes. refl; leads = λ image seen namer bytes. refl }

pub of-list : IsChained reap_list_kind ReapList has_reaped 32 reap_next_of
unfolding told_through told_mapped resolved tested
of-list = record { same = λ image seen namer at oid. refl; features = λ image seen block bytes. refl; leads = λ image seen namer bytes. refl }

told-known : (seen : Seen) (kind oid : ℕ) (f : Found) → told_mapped seen kind oid ≡ Ok f → found_mapped seen oid ≡ Some f
unfolding told_mapped
told-known seen kind oid f h =
    let go : (o : Option Found) → told seen ByMapping oid (head_tested (site_of seen) kind (Some oid)) o ≡ Ok f → o ≡ Some f = λ o. elim o as (λ o. told seen ByMapping oid (head_tested (site_of seen) kind (Some oid)) o ≡ Ok f → o ≡ Some f) [
      | None ↦ λ s. absurd (let q : ⊥ = cc in q)
      | Some g ↦ λ s. ap Some (judged-ok g f (head_tested (site_of seen) kind (Some oid) g.bytes) s).0
    ] in
    go (found_mapped seen oid) h

-- what stops a look-up is told by its result
abbrev pub IsToldBy : Result Found (Stop ReachFault) → Stop ReachFault → Type 0
IsToldBy r stop = Tells (λ f. r ≡ Err (stops.Found f)) (λ name b. r ≡ Err (stops.Unsupported name b)) stop

module _ {kind : ℕ} {e : Expected} {is_marked : List ℕ → Bool} {place : ℕ} {further : List ℕ → ℕ} (c : IsChained kind e is_marked place further) (image : List ℕ) (seen : Seen) (namer : Namer) (at oid : ℕ) where
  abbrev here : Naming
  here = naming namer at e ByMapping oid

  -- an object that is told
  here-told : (block : ℕ) (bytes : List ℕ) → told_mapped seen kind oid ≡ Ok (object_in oid block bytes) → told_through image seen here ≡ Ok (object_in oid block bytes)
  here-told block bytes found = c.same image seen namer at oid ∙ found

  pub chain-link : (block : ℕ) (bytes : List ℕ) → told_mapped seen kind oid ≡ Ok (object_in oid block bytes) → is_marked bytes ≡ false → IsLink image seen here place (further bytes)
  chain-link block bytes found idle = record {
    mapped = mapped-known seen oid (object_in oid block bytes) (told-known seen kind oid (object_in oid block bytes) found);
    plain = told-plain image seen here (object_in oid block bytes) (here-told block bytes found) (c.features image seen block bytes ∙ ap (λ (b : Bool). placed_in block (with_feature b Reaper [])) idle);
    leads = told-next image seen here (object_in oid block bytes) (here-told block bytes found) ∙ c.leads image seen (Whole (OfId oid)) bytes;
  }

  -- one that is marked
  marked-in : (block : ℕ) (bytes : List ℕ) → is_marked bytes ≡ true → In (Reaper, block) (field_features image seen e block bytes)
  marked-in block bytes busy = subst (In (Reaper, block)) (sym (c.features image seen block bytes ∙ ap (λ (b : Bool). placed_in block (with_feature b Reaper [])) busy)) (inl refl)

  pub chain-busy : (block : ℕ) (bytes : List ℕ) → told_mapped seen kind oid ≡ Ok (object_in oid block bytes) → is_marked bytes ≡ true → IsLive image seen here → HasFeature image seen Reaper block
  chain-busy block bytes found busy live = told-has image seen here (object_in oid block bytes) Reaper live (here-told block bytes found) (marked-in block bytes busy)

  pub chain-unplain : (block : ℕ) (bytes : List ℕ) → told_mapped seen kind oid ≡ Ok (object_in oid block bytes) → is_marked bytes ≡ true → IsPlainNaming image seen here → ⊥
  chain-unplain block bytes found busy plain = has-unplain image seen here (object_in oid block bytes) Reaper plain (here-told block bytes found) (marked-in block bytes busy)

  -- what stops
  here-stop : (stop : Stop ReachFault) → IsToldBy (told_mapped seen kind oid) stop → IsToldBy (told_through image seen here) stop
  here-stop stop by = subst (λ (r : Result Found (Stop ReachFault)). IsToldBy r stop) (sym (c.same image seen namer at oid)) by

  pub chain-present : (stop : Stop ReachFault) → IsLive image seen here → IsToldBy (told_mapped seen kind oid) stop → Tells (IsReachedFault image seen) (HasFeature image seen) stop
  chain-present stop live by = told-present image seen here stop live (here-stop stop by)

  pub chain-free : (stop : Stop ReachFault) → IsPlainNaming image seen here → IsToldBy (told_mapped seen kind oid) stop → IsFree stop
  chain-free stop plain by = told-free image seen here stop plain (here-stop stop by)

-- ---- the tests of their fields
pub flag-busy : (bytes reaper : List ℕ) (flags : ℕ) → reaper ≡ bytes → flags ≡ reaper_flags_of reaper → bit_and flags 2 ≡ 2 → is_reaping bytes ≡ true
flag-busy bytes reaper flags r f e = from-equal (bit_and (reaper_flags_of bytes) 2) 2 (ap (λ n. bit_and n 2) (ap reaper_flags_of (sym r) ∙ sym f) ∙ e)

pub flag-idle : (bytes reaper : List ℕ) (flags : ℕ) → reaper ≡ bytes → flags ≡ reaper_flags_of reaper → (bit_and flags 2 ≡ 2 → ⊥) → is_reaping bytes ≡ false
flag-idle bytes reaper flags r f e = never-true (is_reaping bytes) (λ t. e (ap (λ n. bit_and n 2) (f ∙ ap reaper_flags_of r) ∙ equal-from (bit_and (reaper_flags_of bytes) 2) 2 t))

pub count-some : (bytes list : List ℕ) (count : ℕ) → list ≡ bytes → count ≡ reap_count_of list → (count ≡ 0 → ⊥) → has_reaped bytes ≡ true
count-some bytes list count l c e = false-not (reap_count_of bytes == 0) (never-true (reap_count_of bytes == 0) (λ t. e (c ∙ (ap reap_count_of l ∙ equal-from (reap_count_of bytes) 0 t))))

pub count-none : (bytes list : List ℕ) (count : ℕ) → list ≡ bytes → count ≡ reap_count_of list → count ≡ 0 → has_reaped bytes ≡ false
count-none bytes list count l c e = ap not (from-equal (reap_count_of bytes) 0 (ap reap_count_of (sym l) ∙ (sym c ∙ e)))
