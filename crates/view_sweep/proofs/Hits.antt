-- One more hit is taken.
use Rattle.std.proofs.Common.{◌≡◌, ℕ, zero, suc, ◌+◌, ◌<◌, List, [], ◌∷◌, ◌++◌, length, get_or, take, true, inl, inr, ap, sym, ◌∙◌, subst, append_assoc, append-nil, Option, Some, IfSome}
use Rattle.std.specs.List.{flat_map}
use Rattle.std.proofs.lemmas.List.{take_more}
use Rattle.std.proofs.lemmas.Grind.{flat_map-append}
use Rattle.apfs_model.specs.Lists.{In}
use Rattle.obj_base.specs.declared.site.Site.{Site}
use Rattle.obj_base.specs.declared.stop.Stop.{Stop}
use Rattle.obj_base.specs.declared.stop.Stop.TheVariants.{Found, Unsupported, ReadFault, NoMemory}
use Rattle.obj_base.specs.Stops.{Tells}
use Rattle.omap_map.specs.declared.records.OmapRecord.{OmapRecord}
use Rattle.reach_rules.specs.declared.fault.ReachFault.{ReachFault}
use Rattle.view_sweep.specs.declared.wanted.SweptView.{SweptView}
use Rattle.view_sweep.specs.declared.wanted.Want.{Want}
use Rattle.view_sweep.specs.declared.wanted.Want.TheVariants.{Root, Metadata, Node}
use Rattle.view_sweep.specs.declared.wanted.Wanted.{Wanted}
use Rattle.view_sweep.specs.declared.used.Used.{Used}
use Rattle.view_sweep.specs.declared.used.Hit.{Hit}
use Rattle.view_sweep.specs.Found.{tested_as, is_sound, kids_from, kids_by, wants_by}
use Rattle.view_sweep.specs.Here.{IsBadHit, IsRefusedHit}
use Rattle.view_sweep.specs.Swept.{AreSound}
use Rattle.view_sweep.specs.Tests.{IsFaultOf, IsFeatureOf}
use Rattle.view_sweep.proofs.Losts.{nobody}
use Rattle.view_sweep.proofs.Ranked.{every-push}

-- a record and a hit that aren't there, where a list has no item
abbrev pub norecord : OmapRecord
norecord = record { oid = 0; xid = 0; flags = 0; size = 0; paddr = 0 }

abbrev pub nohit : Hit
nohit = record { wanted = nobody; mapping = norecord; set = 0 }

pub flat-more : {X Y : Type 0} (f : X → List Y) (hits : List X) (i : ℕ) (d : X) (front out new : List Y) → i < length hits → out ≡ front ++ flat_map f (take i hits) → new ≡ out ++ f (get_or hits i d) → new ≡ front ++ flat_map f (take (i + 1) hits)
flat-more f hits i d front out new low done step =
    step ∙ (ap (λ xs. xs ++ f (get_or hits i d)) done
    ∙ (append_assoc front (flat_map f (take i hits)) (f (get_or hits i d))
    ∙ ap (λ xs. front ++ xs) (sym (ap (flat_map f) (take_more hits i d low) ∙ (flat_map-append f (take i hits) (get_or hits i d ∷ []) ∙ ap (λ xs. flat_map f (take i hits) ++ xs) (append-nil (f (get_or hits i d))))))))

-- what an object wants in turn is wanted of its view
kids-from-view : (v : SweptView) (r : OmapRecord) (level i : ℕ) (oids : List ℕ) (w : Wanted) → In w (kids_from v r level i oids) → w.view ≡ v
kids-from-view v r level i [] w h = absurd h
kids-from-view v r level i (o ∷ os) w (inl e) = ap (λ (x : Wanted). x.view) e
kids-from-view v r level i (o ∷ os) w (inr h) = kids-from-view v r level (suc i) os w h

kids-view : (v : SweptView) (r : OmapRecord) (level : ℕ) (oids : List ℕ) (w : Wanted) → In w (kids_by v r level oids) → w.view ≡ v
kids-view v r zero oids w h = absurd h
kids-view v r (suc level) oids w h = kids-from-view v r level 0 oids w h

pub wants-view : (v : SweptView) (want : Want) (r : OmapRecord) (bytes : List ℕ) (w : Wanted) → In w (wants_by v want r bytes) → w.view ≡ v
wants-view v Root r bytes w h = kids-view v r _ _ w h
wants-view v Metadata r bytes w h = absurd h
wants-view v (Node level namer entry) r bytes w h = kids-view v r _ _ w h

pub sound-more : (site : Site) (bytes : OmapRecord → List ℕ) (hits : List Hit) (i : ℕ) (d : Hit) → i < length hits → AreSound site bytes (take i hits) → is_sound site (get_or hits i d).wanted (bytes (get_or hits i d).mapping) ≡ true → AreSound site bytes (take (i + 1) hits)
sound-more site bytes hits i d low done one = every-push (λ (h : Hit). is_sound site h.wanted (bytes h.mapping) ≡ true) (take i hits) (take (i + 1) hits) (get_or hits i d) (take_more hits i d low) done one

-- what stops the test of a hit is told of some hit
pub bad-hit : (site : Site) (bytes : OmapRecord → List ℕ) (hits : List Hit) (h : Hit) (block : List ℕ) → In h hits → block ≡ bytes h.mapping → (stop : Stop ReachFault) → Tells (IsFaultOf h.mapping.paddr (tested_as site h.wanted block)) (IsFeatureOf h.mapping.paddr (tested_as site h.wanted block)) stop → Tells (IsBadHit site bytes hits) (IsRefusedHit site bytes hits) stop
bad-hit site bytes hits h block one e (Found fault) k = (h, (one, subst (λ (b : List ℕ). IsFaultOf h.mapping.paddr (tested_as site h.wanted b) fault) e k))
bad-hit site bytes hits h block one e (Unsupported feature at) k = (h, (one, subst (λ (b : List ℕ). IsFeatureOf h.mapping.paddr (tested_as site h.wanted b) feature at) e k))
bad-hit site bytes hits h block one e ReadFault k = tt
bad-hit site bytes hits h block one e NoMemory k = tt

pub held-block : (bytes : OmapRecord → List ℕ) (block : List ℕ) (u : Used) (o : Option Used) → o ≡ Some u → block ≡ bytes u.mapping → IfSome o (λ x. block ≡ bytes x.mapping)
held-block bytes block u o e f = subst (λ (p : Option Used). IfSome p (λ x. block ≡ bytes x.mapping)) (sym e) f
