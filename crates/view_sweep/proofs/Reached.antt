-- What is live of views is live as namings; what a sweep tells of it, said of namings.
use Rattle.std.proofs.Common.{◌≡◌, ℕ, true, false, List, [], ◌∷◌, ◌++◌, map, Option, Some, None, Ok, Err, is_ok, inl, inr, refl, ap, sym, ◌∙◌, subst, arith}
use Rattle.std.specs.Prelude.{option_map}
use Rattle.apfs_model.specs.Lists.{In, through}
use Rattle.apfs_model.proofs.BoolTests.{clash}
use Rattle.apfs_model.proofs.Searches.{in-left, in-right, in-map, from-map}
use Rattle.obj_base.specs.declared.site.Site.{Site}
use Rattle.obj_base.specs.declared.stop.Bad.TheVariants as bads
use Rattle.obj_base.specs.declared.stop.Feature.{Feature}
use Rattle.obj_base.specs.declared.stop.Stop.{Stop}
use Rattle.obj_base.specs.declared.stop.Stop.TheVariants as stops
use Rattle.obj_base.specs.Stops.{Tells, IsFree}
use Rattle.nx_ring.specs.Checkpoint.{Seen, site_of}
use Rattle.omap_map.specs.Features.{mapping_features}
use Rattle.omap_map.specs.declared.records.OmapRecord.{OmapRecord}
use Rattle.vol_view.specs.Volumes.{Loaded}
use Rattle.reach_rules.specs.declared.fault.Why.{Why}
use Rattle.reach_rules.specs.declared.fault.ReachFault.{ReachFault}
use Rattle.reach_rules.specs.declared.fault.ReachFault.TheVariants.{Unsound, Unnamed, NamedTwice}
use Rattle.reach_rules.specs.declared.naming.ViewAt.{ViewAt}
use Rattle.reach_rules.specs.declared.naming.LookUp.{LookUp}
use Rattle.reach_rules.specs.declared.naming.LookUp.TheVariants.{InView}
use Rattle.reach_rules.specs.declared.naming.Object.TheVariants.{OfRecord}
use Rattle.reach_rules.specs.declared.naming.Namer.{Namer}
use Rattle.reach_rules.specs.declared.naming.Namer.TheVariants.{Whole}
use Rattle.reach_rules.specs.declared.naming.TreeKind.TheVariants.{Files}
use Rattle.reach_rules.specs.declared.naming.Expected.{Expected}
use Rattle.reach_rules.specs.declared.naming.Expected.TheVariants.{ExtendedMetadata, TreeRoot, TreeNode}
use Rattle.reach_rules.specs.declared.naming.Naming.{Naming}
use Rattle.reach_rules.specs.Resolved.{Found, resolved}
use Rattle.reach_rules.specs.Tested.{Answer, tested}
use Rattle.reach_rules.specs.Next.{next}
use Rattle.reach_rules.specs.Live.{Live, rooted, led, IsLive as IsNamingLive}
use Rattle.reach_rules.specs.Features.{Placed, placed_in, used_features, field_features, tested_features, features_through, HasFeature, of}
use Rattle.reach_rules.specs.Reached.{IsReachedFault}
use Rattle.view_sweep.specs.declared.wanted.SweptView.{SweptView}
use Rattle.view_sweep.specs.declared.wanted.Head.{Head}
use Rattle.view_sweep.specs.declared.wanted.Want.{Want}
use Rattle.view_sweep.specs.declared.wanted.Want.TheVariants.{Root, Metadata, Node}
use Rattle.view_sweep.specs.declared.wanted.Wanted.{Wanted}
use Rattle.view_sweep.specs.declared.used.Used.{Used}
use Rattle.view_sweep.specs.Wanted.{view_at, wanted, heads_want, expected_by, expected_of, naming_of, AreToldHeads}
use Rattle.view_sweep.specs.Found.{World, world, looked, used_by, bytes_at, tested_as, wants_if, next_by, next_of}
use Rattle.view_sweep.specs.Here.{IsHere, TellsHere, IsBad}
use Rattle.view_sweep.specs.Swept.{IsClear, IsLive, IsSwept}
use Rattle.view_sweep.specs.Named.{head_namings, AreOfImage, AreLive, IsPlainNaming, ArePlainFrom, AreOnceFrom, HasRecord, IsReachedBy, AreReached}
use Rattle.view_sweep.proofs.Hits.{wants-view}
use Rattle.view_sweep.proofs.Orders.{wanted-is}
use Rattle.view_sweep.proofs.Wholes.{heads-views, told-of}
use Rattle.view_sweep.proofs.Named.{object_at, IsMapped, resolves-as, next-as}
use Rattle.view_sweep.proofs.Ends.{live-ends}

-- ---- what is live is of the views of the heads
answer-view : (w m : Wanted) (r : OmapRecord) (bytes : List ℕ) (a : Answer) → In w (wants_if m r bytes a) → w.view ≡ m.view
answer-view w m r bytes (Ok b) h = wants-view m.view m.want r bytes w h
answer-view w m r bytes (Err bad) h = absurd h

by-view : (k : World) (w m : Wanted) (o : Option OmapRecord) → In w (next_by k m o) → w.view ≡ m.view
by-view k w m None h = absurd h
by-view k w m (Some r) h = answer-view w m r (k.bytes r) (tested_as k.site m (k.bytes r)) h

next-view : (k : World) (w m : Wanted) → In w (next_of k m) → w.view ≡ m.view
unfolding next_of
next-view k w m h = by-view k w m (k.look m) h

pub live-view : (k : World) (heads : List Head) (w : Wanted) → IsLive k heads w → (h : Head) × (In h heads × (w.view ≡ h.view))
live-view k heads w (rooted _ h) = heads-views heads w h
live-view k heads w (led m _ live h) = let t = live-view k heads m live in (t.0, (t.1.0, next-view k w m h ∙ t.1.1))

-- ---- a sound object that is wanted has no feature of its own
fields-plain : (image : List ℕ) (seen : Seen) (v : SweptView) (want : Want) (block : ℕ) (bytes : List ℕ) → field_features image seen (expected_by v want) block bytes ≡ []
fields-plain image seen v Root block bytes = refl
fields-plain image seen v Metadata block bytes = refl
fields-plain image seen v (Node level namer entry) block bytes = refl

sound-plain : (image : List ℕ) (seen : Seen) (v : SweptView) (want : Want) (f : Found) (a : Answer) → is_ok a ≡ true → tested_features image seen (expected_by v want) f a ≡ []
sound-plain image seen v want f (Ok b) e = fields-plain image seen v want f.block f.bytes
sound-plain image seen v want f (Err (bads.Found why)) e = refl
sound-plain image seen v want f (Err (bads.Unsupported feature)) e = absurd (let z : false ≡ true = e in let q : ⊥ = cc in q)

placed-same : (feature : Feature) (a b : ℕ) → a ≡ b → ◌≡◌ {A = Placed} (feature, a) (feature, b)
placed-same feature a b e = subst (λ (x : ℕ). ◌≡◌ {A = Placed} (feature, a) (feature, x)) e refl

-- ---- what is wanted of a view under an id is told by its naming
want-is : (supers : SweptView → Namer) (u v : SweptView) (a b : Want) (o p : ℕ) → naming_of supers (wanted u o a) ≡ naming_of supers (wanted v p b) → a ≡ b
want-is supers u v Root Root o p e = refl
want-is supers u v Root Metadata o p e = let z : ◌≡◌ {A = ℕ} 136 1000 = ap (λ (n : Naming). n.at) e in absurd (omega arith)
want-is supers u v Root (Node level namer entry) o p e = let z : ◌≡◌ {A = Expected} (TreeRoot (Files u.hashed)) (TreeNode (Files v.hashed) level) = ap (λ (n : Naming). n.expected) e in absurd (let q : ⊥ = cc in q)
want-is supers u v Metadata Root o p e = let z : ◌≡◌ {A = ℕ} 1000 136 = ap (λ (n : Naming). n.at) e in absurd (omega arith)
want-is supers u v Metadata Metadata o p e = refl
want-is supers u v Metadata (Node level namer entry) o p e = let z : ◌≡◌ {A = Expected} ExtendedMetadata (TreeNode (Files v.hashed) level) = ap (λ (n : Naming). n.expected) e in absurd (let q : ⊥ = cc in q)
want-is supers u v (Node level namer entry) Root o p e = let z : ◌≡◌ {A = Expected} (TreeNode (Files u.hashed) level) (TreeRoot (Files v.hashed)) = ap (λ (n : Naming). n.expected) e in absurd (let q : ⊥ = cc in q)
want-is supers u v (Node level namer entry) Metadata o p e = let z : ◌≡◌ {A = Expected} (TreeNode (Files u.hashed) level) ExtendedMetadata = ap (λ (n : Naming). n.expected) e in absurd (let q : ⊥ = cc in q)
want-is supers u v (Node level namer entry) (Node low other number) o p e =
    let x : ◌≡◌ {A = Expected} (TreeNode (Files u.hashed) level) (TreeNode (Files v.hashed) low) = ap (λ (n : Naming). n.expected) e in
    let y : ◌≡◌ {A = Namer} (Whole (OfRecord u.map namer)) (Whole (OfRecord v.map other)) = ap (λ (n : Naming). n.namer) e in
    let z : entry ≡ number = ap (λ (n : Naming). n.at) e in
    let k : Node level namer entry ≡ Node low other number = cc in
    k

module _ (image : List ℕ) (seen : Seen) (volumes : List Loaded) (heads : List Head) (supers : SweptView → Namer)
    (mapped : (h : Head) → In h heads → IsMapped image seen volumes h.view) where
  -- what is live is looked up as it is named
  view-mapped : (w : Wanted) → IsLive (world volumes (site_of seen) image) heads w → IsMapped image seen volumes w.view
  view-mapped w live =
      let t = live-view (world volumes (site_of seen) image) heads w live in
      subst (IsMapped image seen volumes) (sym t.1.1) (mapped t.0 t.1.0)

  -- to which object it resolves, where its record is known
  pub found-as : (w : Wanted) (r : OmapRecord) → IsLive (world volumes (site_of seen) image) heads w → looked volumes (site_of seen) w ≡ Some r → resolved image seen (naming_of supers w) ≡ Some (object_at image (site_of seen) w.view r)
  found-as w r live e = resolves-as image seen volumes supers w (view-mapped w live) ∙ ap (option_map (object_at image (site_of seen) w.view)) e

  lost-as : (w : Wanted) → IsLive (world volumes (site_of seen) image) heads w → looked volumes (site_of seen) w ≡ None → resolved image seen (naming_of supers w) ≡ None
  lost-as w live e = resolves-as image seen volumes supers w (view-mapped w live) ∙ ap (option_map (object_at image (site_of seen) w.view)) e

  -- ---- what is live, in both words
  pub live-naming : (w : Wanted) → IsLive (world volumes (site_of seen) image) heads w → Live (head_namings supers heads) (next image seen) (naming_of supers w)
  live-naming w (rooted _ h) = rooted (naming_of supers w) (in-map (naming_of supers) (heads_want heads) w h)
  live-naming w (led m _ live h) =
      led (naming_of supers m) (naming_of supers w) (live-naming m live)
      (subst (In (naming_of supers w)) (next-as image seen volumes supers m (view-mapped m live)) (in-map (naming_of supers) (next_of (world volumes (site_of seen) image) m) w h))

  pub naming-live : (n : Naming) → Live (head_namings supers heads) (next image seen) n → (w : Wanted) × (IsLive (world volumes (site_of seen) image) heads w × (n ≡ naming_of supers w))
  naming-live n (rooted _ h) = let t = from-map (naming_of supers) (heads_want heads) n h in (t.0, (rooted t.0 t.1.0, t.1.1))
  naming-live n (led m _ live h) =
      let a = naming-live m live in
      let i : In n (next image seen (naming_of supers a.0)) = subst (λ (x : Naming). In n (next image seen x)) a.1.1 h in
      let t = from-map (naming_of supers) (next_of (world volumes (site_of seen) image) a.0) n (subst (In n) (sym (next-as image seen volumes supers a.0 (view-mapped a.0 a.1.0))) i) in
      (t.0, (led a.0 t.0 a.1.0 t.1.0, t.1.1))

  -- ---- the features through it
  through-as : (w : Wanted) (r : OmapRecord) → IsLive (world volumes (site_of seen) image) heads w → looked volumes (site_of seen) w ≡ Some r →
      features_through image seen (naming_of supers w)
      ≡ used_features (site_of seen) (OfRecord w.view.map r) ++ tested_features image seen (expected_of w) (object_at image (site_of seen) w.view r) (tested_as (site_of seen) w (bytes_at image (site_of seen) r))
  unfolding features_through
  through-as w r live e =
      ap (λ o. through o (λ (f : Found). used_features (site_of seen) f.object ++ tested_features image seen (expected_of w) f (tested (site_of seen) (expected_of w) w.oid f.bytes))) (found-as w r live e)

  plain-as : (w : Wanted) → IsLive (world volumes (site_of seen) image) heads w → IsClear (world volumes (site_of seen) image) w → IsPlainNaming image seen (naming_of supers w)
  plain-as w live c = record {
    object = object_at image (site_of seen) w.view c.by;
    found = found-as w c.by live c.found;
    sound = c.sound;
    plain = through-as w c.by live c.found
        ∙ (ap (λ (fs : List Feature). placed_in c.by.paddr fs ++ tested_features image seen (expected_of w) (object_at image (site_of seen) w.view c.by) (tested_as (site_of seen) w (bytes_at image (site_of seen) c.by))) c.plain
        ∙ sound-plain image seen w.view w.want (object_at image (site_of seen) w.view c.by) (tested_as (site_of seen) w (bytes_at image (site_of seen) c.by)) c.sound);
  }

  mapped-feature : (w : Wanted) (r : OmapRecord) (feature : Feature) (block : ℕ) → IsLive (world volumes (site_of seen) image) heads w → looked volumes (site_of seen) w ≡ Some r → block ≡ r.paddr → In feature (mapping_features (site_of seen).block_size r.flags r.size) → In (feature, block) (features_through image seen (naming_of supers w))
  mapped-feature w r feature block live e at has =
      subst (λ (fs : List Placed). In (feature, block) fs) (sym (through-as w r live e))
      (in-left {X = Placed} (feature, block) (placed_in r.paddr (mapping_features (site_of seen).block_size r.flags r.size)) (tested_features image seen (expected_of w) (object_at image (site_of seen) w.view r) (tested_as (site_of seen) w (bytes_at image (site_of seen) r)))
      (subst (λ (b : ℕ). In (feature, b) (placed_in r.paddr (mapping_features (site_of seen).block_size r.flags r.size))) (sym at)
      (in-map {Y = Placed} (λ (f : Feature). (f, r.paddr)) (mapping_features (site_of seen).block_size r.flags r.size) feature has)))

  refused-feature : (w : Wanted) (r : OmapRecord) (feature : Feature) (block : ℕ) → IsLive (world volumes (site_of seen) image) heads w → looked volumes (site_of seen) w ≡ Some r → block ≡ r.paddr → tested_as (site_of seen) w (bytes_at image (site_of seen) r) ≡ Err (bads.Unsupported feature) → In (feature, block) (features_through image seen (naming_of supers w))
  refused-feature w r feature block live e at fails =
      subst (λ (fs : List Placed). In (feature, block) fs) (sym (through-as w r live e))
      (in-right {X = Placed} (feature, block) (used_features (site_of seen) (OfRecord w.view.map r)) (tested_features image seen (expected_of w) (object_at image (site_of seen) w.view r) (tested_as (site_of seen) w (bytes_at image (site_of seen) r)))
      (subst (λ (a : Answer). In (feature, block) (tested_features image seen (expected_of w) (object_at image (site_of seen) w.view r) a)) (sym fails)
      (inl (placed-same feature block r.paddr at))))

  -- ---- what is told of it
  fault-as : (to : (n : Naming) → Live (head_namings supers heads) (next image seen) n → IsNamingLive image seen n) (fault : ReachFault) → IsHere (world volumes (site_of seen) image) (IsLive (world volumes (site_of seen) image) heads) fault → IsReachedFault image seen fault
  fault-as to (Unsound block why) h = record {
    naming = naming_of supers h.one;
    object = object_at image (site_of seen) h.one.view h.by;
    names = record { live = to (naming_of supers h.one) (live-naming h.one h.wanted); found = found-as h.one h.by h.wanted h.found };
    at = h.at;
    fails = h.fails;
  }
  fault-as to (Unnamed within oid xid) h = record {
    naming = naming_of supers h.one;
    live = to (naming_of supers h.one) (live-naming h.one h.wanted);
    lost = lost-as h.one h.wanted h.lost;
    shown = record { within_is = h.shown.within_is; oid_is = h.shown.oid_is; xid_is = h.shown.xid_is };
  }
  fault-as to (NamedTwice within oid xid) h = record {
    one = naming_of supers h.one;
    other = naming_of supers h.other;
    one_live = to (naming_of supers h.one) (live-naming h.one h.one_wanted);
    other_live = to (naming_of supers h.other) (live-naming h.other h.other_wanted);
    once = refl;
    same_view = ap (λ (v : SweptView). InView (view_at v)) h.same_view;
    same_oid = h.same_oid;
    apart = λ e. h.apart (wanted-is h.one h.other h.same_view h.same_oid (want-is supers h.one.view h.other.view h.one.want h.other.want h.one.oid h.other.oid e));
    shown = record { within_is = h.shown.within_is; oid_is = h.shown.oid_is; xid_is = h.shown.xid_is };
  }
  fault-as to fault h = absurd h

  pub tells-as : (to : (n : Naming) → Live (head_namings supers heads) (next image seen) n → IsNamingLive image seen n) (stop : Stop ReachFault) → TellsHere (world volumes (site_of seen) image) (IsLive (world volumes (site_of seen) image) heads) stop → Tells (IsReachedFault image seen) (HasFeature image seen) stop
  tells-as to (stops.Found fault) h = fault-as to fault h
  tells-as to (stops.Unsupported feature block) (inl h) = of (naming_of supers h.one) (to (naming_of supers h.one) (live-naming h.one h.wanted)) (mapped-feature h.one h.by feature block h.wanted h.found h.at h.has)
  tells-as to (stops.Unsupported feature block) (inr h) = of (naming_of supers h.one) (to (naming_of supers h.one) (live-naming h.one h.wanted)) (refused-feature h.one h.by feature block h.wanted h.found h.at h.fails)
  tells-as to stops.ReadFault h = tt
  tells-as to stops.NoMemory h = tt

  -- ---- where all is plain and named once nothing is told
  unsound-refuted : ArePlainFrom image seen (head_namings supers heads) → (block : ℕ) (why : Why) → IsBad (world volumes (site_of seen) image) (IsLive (world volumes (site_of seen) image) heads) block why → ⊥
  unsound-refuted plain block why h =
      let p = plain (naming_of supers h.one) (live-naming h.one h.wanted) in
      let e : ◌≡◌ {A = Option Found} (Some p.object) (Some (object_at image (site_of seen) h.one.view h.by)) = sym p.found ∙ found-as h.one h.by h.wanted h.found in
      let same : p.object ≡ object_at image (site_of seen) h.one.view h.by = cc in
      let s : is_ok (tested_as (site_of seen) h.one (bytes_at image (site_of seen) h.by)) ≡ true = subst (λ (f : Found). is_ok (tested (site_of seen) (expected_of h.one) h.one.oid f.bytes) ≡ true) same p.sound in
      clash _ s (ap (λ (a : Answer). is_ok a) h.fails)

  lost-refuted : ArePlainFrom image seen (head_namings supers heads) → (w : Wanted) → IsLive (world volumes (site_of seen) image) heads w → looked volumes (site_of seen) w ≡ None → ⊥
  lost-refuted plain w live lost =
      let p = plain (naming_of supers w) (live-naming w live) in
      let e : ◌≡◌ {A = Option Found} None (Some p.object) = sym (lost-as w live lost) ∙ p.found in
      cc

  feature-refuted : ArePlainFrom image seen (head_namings supers heads) → (w : Wanted) (feature : Feature) (block : ℕ) → IsLive (world volumes (site_of seen) image) heads w → In (feature, block) (features_through image seen (naming_of supers w)) → ⊥
  feature-refuted plain w feature block live h = subst (λ (fs : List Placed). In (feature, block) fs) (plain (naming_of supers w) (live-naming w live)).plain h

  fault-refuted : ArePlainFrom image seen (head_namings supers heads) → AreOnceFrom image seen (head_namings supers heads) → (fault : ReachFault) → IsHere (world volumes (site_of seen) image) (IsLive (world volumes (site_of seen) image) heads) fault → ⊥
  fault-refuted plain once (Unsound block why) h = unsound-refuted plain block why h
  fault-refuted plain once (Unnamed within oid xid) h = lost-refuted plain h.one h.wanted h.lost
  fault-refuted plain once (NamedTwice within oid xid) h =
      h.apart (wanted-is h.one h.other h.same_view h.same_oid (want-is supers h.one.view h.other.view h.one.want h.other.want h.one.oid h.other.oid
      (once (naming_of supers h.one) (naming_of supers h.other) (live-naming h.one h.one_wanted) (live-naming h.other h.other_wanted) (ap (λ (v : SweptView). InView (view_at v)) h.same_view) h.same_oid)))
  fault-refuted plain once fault h = absurd h

  pub free-as : ArePlainFrom image seen (head_namings supers heads) → AreOnceFrom image seen (head_namings supers heads) → (stop : Stop ReachFault) → TellsHere (world volumes (site_of seen) image) (IsLive (world volumes (site_of seen) image) heads) stop → IsFree stop
  free-as plain once (stops.Found fault) h = fault-refuted plain once fault h
  free-as plain once (stops.Unsupported feature block) (inl h) = feature-refuted plain h.one feature block h.wanted (mapped-feature h.one h.by feature block h.wanted h.found h.at h.has)
  free-as plain once (stops.Unsupported feature block) (inr h) = feature-refuted plain h.one feature block h.wanted (refused-feature h.one h.by feature block h.wanted h.found h.at h.fails)
  free-as plain once stops.ReadFault h = tt
  free-as plain once stops.NoMemory h = tt

  -- ---- what a whole sweep says of namings
  same-view : AreToldHeads heads → (a b : Wanted) → IsLive (world volumes (site_of seen) image) heads a → IsLive (world volumes (site_of seen) image) heads b → a.view.slot ≡ b.view.slot → a.view.place ≡ b.view.place → a.view ≡ b.view
  same-view told a b la lb s p = told-of heads (a ∷ b ∷ []) told (λ w h. elim h as (λ _. (x : Head) × (In x heads × (w.view ≡ x.view))) [
    | inl e ↦ subst (λ (y : Wanted). (x : Head) × (In x heads × (y.view ≡ x.view))) (sym e) (live-view (world volumes (site_of seen) image) heads a la)
    | inr k ↦ elim k as (λ _. (x : Head) × (In x heads × (w.view ≡ x.view))) [
      | inl e ↦ subst (λ (y : Wanted). (x : Head) × (In x heads × (y.view ≡ x.view))) (sym e) (live-view (world volumes (site_of seen) image) heads b lb)
      | inr z ↦ absurd z
    ]
  ]) a b (inl refl) (inr (inl refl)) s p

  once-as : AreToldHeads heads → (used : List Used) → IsSwept (world volumes (site_of seen) image) heads 0 used → AreOnceFrom image seen (head_namings supers heads)
  once-as told used s = λ m n lm ln how oid.
      let a = naming-live m lm in
      let b = naming-live n ln in
      let h : ◌≡◌ {A = LookUp} (InView (view_at a.0.view)) (InView (view_at b.0.view)) = sym (ap (λ (x : Naming). x.how) a.1.1) ∙ (how ∙ ap (λ (x : Naming). x.how) b.1.1) in
      let v : view_at a.0.view ≡ view_at b.0.view = cc in
      let o : a.0.oid ≡ b.0.oid = sym (ap (λ (x : Naming). x.oid) a.1.1) ∙ (oid ∙ ap (λ (x : Naming). x.oid) b.1.1) in
      let e : a.0 ≡ b.0 = s.once a.0 b.0 a.1.0 b.1.0 (omega arith) (omega arith) (same-view told a.0 b.0 a.1.0 b.1.0 (ap (λ (x : ViewAt). x.slot) v) (ap (λ (x : ViewAt). x.place) v)) o in
      a.1.1 ∙ (ap (naming_of supers) e ∙ sym b.1.1)

  record-as : (used : List Used) → IsSwept (world volumes (site_of seen) image) heads 0 used → (w : Wanted) → IsLive (world volumes (site_of seen) image) heads w → HasRecord image seen used (naming_of supers w)
  record-as used s w live =
      let c = s.clear w live (omega arith) in
      record {
        by = used_by w.view c.by;
        one = s.each w c.by live (omega arith) c.found;
        is = record { object = object_at image (site_of seen) w.view c.by; found = found-as w c.by live c.found; record_is = refl };
      }

  reached-by : (used : List Used) → IsSwept (world volumes (site_of seen) image) heads 0 used → (u : Used) → In u used → IsReachedBy image seen (head_namings supers heads) u
  reached-by used s u h =
      let t = s.only u h in
      record {
        naming = naming_of supers t.one;
        live = live-naming t.one t.wanted.0;
        is = record {
          object = object_at image (site_of seen) t.one.view t.by;
          found = found-as t.one t.by t.wanted.0 t.found;
          record_is = ap (λ (x : Used). OfRecord x.map x.mapping) (sym t.same);
        };
      }

  pub reached-as : AreToldHeads heads → (used : List Used) → IsSwept (world volumes (site_of seen) image) heads 0 used → AreReached image seen (head_namings supers heads) used
  reached-as told used s =
      let k : World = world volumes (site_of seen) image in
      let all = live-ends k heads in
      record {
        namings = map (naming_of supers) all.0;
        live = (
          (λ n h. let t = from-map (naming_of supers) all.0 n h in subst (Live (head_namings supers heads) (next image seen)) (sym t.1.1) (live-naming t.0 (all.1.0 t.0 t.1.0))),
          (λ n l. let t = naming-live n l in subst (λ (x : Naming). In x (map (naming_of supers) all.0)) (sym t.1.1) (in-map (naming_of supers) all.0 t.0 (all.1.1 t.0 t.1.0))),
        );
        plain = λ n l. let t = naming-live n l in subst (IsPlainNaming image seen) (sym t.1.1) (plain-as t.0 t.1.0 (s.clear t.0 t.1.0 (omega arith)));
        once = once-as told used s;
        each = λ n l. let t = naming-live n l in subst (HasRecord image seen used) (sym t.1.1) (record-as used s t.0 t.1.0);
        only = reached-by used s;
        apart = s.apart;
      }

-- what is live from namings that are live is live
pub live-from : (image : List ℕ) (seen : Seen) (first : List Naming) → AreLive image seen first → (n : Naming) → Live first (next image seen) n → IsNamingLive image seen n
live-from image seen first all n (rooted _ h) = all n h
live-from image seen first all n (led m _ live h) = led m n (live-from image seen first all m live) h

-- the views' volumes, at the site of the checkpoint
pub mapped-of : (image : List ℕ) (seen : Seen) (site : Site) (volumes : List Loaded) (heads : List Head) → AreOfImage image seen site volumes heads → (h : Head) → In h heads → IsMapped image seen volumes h.view
mapped-of image seen site volumes heads those h i = record { same = those.mapped h i }
