-- Through which views records are used, said of namings.
use Rattle.std.proofs.Common.{◌≡◌, ℕ, ◌<◌, true, List, length, Option, Some, refl, ap, sym, ◌∙◌, subst, arith}
use Rattle.std.specs.Prelude.{◌↔◌}
use Rattle.apfs_model.specs.Lists.{In}
use Rattle.apfs_model.proofs.Searches.{from-map}
use Rattle.obj_base.specs.declared.site.Site.{Site}
use Rattle.nx_ring.specs.Checkpoint.{Seen, site_of}
use Rattle.omap_map.specs.Resolve.{resolved as resolves}
use Rattle.omap_map.specs.declared.records.OmapRecord.{OmapRecord}
use Rattle.omap_map.proofs.Laws.{resolved-means}
use Rattle.vol_view.specs.Volumes.{Loaded}
use Rattle.reach_rules.specs.declared.naming.ViewAt.{ViewAt}
use Rattle.reach_rules.specs.declared.naming.LookUp.{LookUp}
use Rattle.reach_rules.specs.declared.naming.LookUp.TheVariants.{InView}
use Rattle.reach_rules.specs.declared.naming.Object.TheVariants.{OfRecord}
use Rattle.reach_rules.specs.declared.naming.Namer.{Namer}
use Rattle.reach_rules.specs.declared.naming.Naming.{Naming}
use Rattle.reach_rules.specs.Resolved.{Found, standing, resolved}
use Rattle.reach_rules.specs.Next.{next}
use Rattle.reach_rules.specs.Live.{Live}
use Rattle.view_sweep.specs.declared.sets.ViewSet.{ViewSet}
use Rattle.view_sweep.specs.declared.wanted.SweptView.{SweptView}
use Rattle.view_sweep.specs.declared.wanted.Head.{Head}
use Rattle.view_sweep.specs.declared.wanted.Wanted.{Wanted}
use Rattle.view_sweep.specs.declared.used.Share.{Share}
use Rattle.view_sweep.specs.Wanted.{view_at, naming_of, AreToldHeads}
use Rattle.view_sweep.specs.Found.{world, looked, records_at}
use Rattle.view_sweep.specs.Named.{head_namings}
use Rattle.view_sweep.specs.Sets.{view_of, IsFirst}
use Rattle.view_sweep.specs.Swept.{IsLive}
use Rattle.view_sweep.specs.Shared.{head_views, is_shared, IsUse, AreSharedBy, AreInside, IsUseOf, AreShares, IsAbove}
use Rattle.view_sweep.proofs.Losts.{nobody}
use Rattle.view_sweep.proofs.Named.{IsMapped}
use Rattle.view_sweep.proofs.Ranked.{place-in}
use Rattle.view_sweep.proofs.Reached.{found-as, live-naming, naming-live, live-view}
use Rattle.view_sweep.proofs.Since.{looked-is}

looked-oid : (volumes : List Loaded) (site : Site) (w : Wanted) (r : OmapRecord) → looked volumes site w ≡ Some r → r.oid ≡ w.oid
unfolding looked
looked-oid volumes site w r e =
    let records : List OmapRecord = records_at volumes w.view.volume in
    (resolved-means records w.oid w.view.xid r (looked-is site (resolves records w.oid w.view.xid) r e)).same

-- the view at a place is one of the heads'
head-at : (heads : List Head) (p : ℕ) → p < length (head_views heads) → (h : Head) × (In h heads × (view_of (head_views heads) p ≡ h.view))
head-at heads p low = from-map (λ (h : Head). h.view) heads (view_of (head_views heads) p) (place-in (head_views heads) p nobody.view low)

module _ (image : List ℕ) (seen : Seen) (volumes : List Loaded) (heads : List Head) (supers : SweptView → Namer)
    (mapped : (h : Head) → In h heads → IsMapped image seen volumes h.view) where
  use-as : (w : Wanted) (s : Share) → IsLive (world volumes (site_of seen) image) heads w → IsUseOf (looked volumes (site_of seen)) w s → IsUse image seen w.view s (naming_of supers w)
  use-as w s live is = record {
    in_view = refl;
    expected_is = is.expected_is;
    oid_is = sym (looked-oid volumes (site_of seen) w s.used.mapping is.found);
    found = found-as image seen volumes heads supers mapped w s.used.mapping live is.found ∙ ap (λ (map : ℕ). Some (standing image (site_of seen) (OfRecord map s.used.mapping) s.used.mapping.paddr)) is.map_is;
  }

  -- a view is told by its slot and its place
  one-view : AreToldHeads heads → (w : Wanted) (p : ℕ) → IsLive (world volumes (site_of seen) image) heads w → p < length (head_views heads) → ◌≡◌ {A = LookUp} (InView (view_at w.view)) (InView (view_at (view_of (head_views heads) p))) → w.view ≡ view_of (head_views heads) p
  one-view told w p live low e =
      let a = live-view (world volumes (site_of seen) image) heads w live in
      let b = head-at heads p low in
      let v : view_at w.view ≡ view_at (view_of (head_views heads) p) = cc in
      let slot : a.0.view.slot ≡ b.0.view.slot = sym (ap (λ (x : SweptView). x.slot) a.1.1) ∙ (ap (λ (x : ViewAt). x.slot) v ∙ ap (λ (x : SweptView). x.slot) b.1.1) in
      let place : a.0.view.place ≡ b.0.view.place = sym (ap (λ (x : SweptView). x.place) a.1.1) ∙ (ap (λ (x : ViewAt). x.place) v ∙ ap (λ (x : SweptView). x.place) b.1.1) in
      a.1.1 ∙ (told a.0 b.0 a.1.0 b.1.0 slot place ∙ sym b.1.1)

  pub shared-as : AreToldHeads heads → (blocks : ℕ) (sets : List ViewSet) (shares : List Share) → AreInside blocks (head_views heads) sets shares → AreShares (looked volumes (site_of seen)) (head_views heads) (IsAbove (world volumes (site_of seen) image) heads 0) sets shares
      → AreSharedBy image seen (head_views heads) (head_namings supers heads) sets shares
  shared-as told blocks sets shares inside a = record {
    each = λ n p live first how.
        let t = naming-live image seen volumes heads supers mapped n live in
        let w : Wanted = t.0 in
        let same : w.view ≡ view_of (head_views heads) p = one-view told w p t.1.0 first.below (sym (ap (λ (x : Naming). x.how) t.1.1) ∙ how) in
        let u = a.each w p (t.1.0, omega arith) (subst (λ (v : SweptView). IsFirst (head_views heads) v p) (sym same) first) in
        record {
          by = u.by;
          one = u.one;
          has = u.has;
          is = subst (IsUse image seen (view_of (head_views heads) p) u.by) (sym t.1.1) (subst (λ (v : SweptView). IsUse image seen v u.by (naming_of supers w)) same (use-as w u.by t.1.0 u.is));
        };
    only = λ s p i e.
        let t = a.only s p i e in
        record {
          below = ((inside.sets_are s.set (inside.number s i)).first p e).below;
          naming = naming_of supers t.one;
          live = live-naming image seen volumes heads supers mapped t.one t.wanted.0;
          is = subst (λ (v : SweptView). IsUse image seen v s (naming_of supers t.one)) t.view_is (use-as t.one s t.wanted.0 t.is);
        };
  }

-- ---- what a caller asks of a view
-- a naming that is live from some, and looked up in a view, resolves to an object in a block
pub record IsMetIn (image : List ℕ) (seen : Seen) (first : List Naming) (v : SweptView) (block : ℕ) : Type 0 where
  pub naming : Naming
  pub object : Found
  pub live : Live first (next image seen) naming
  pub in_view : naming.how ≡ InView (view_at v)
  pub found : resolved image seen naming ≡ Some object
  pub block_is : object.block ≡ block

-- one of some records gives a block, and its set has the view at a place
pub record IsSharedIn (sets : List ViewSet) (shares : List Share) (p block : ℕ) : Type 0 where
  pub by : Share
  pub one : In by shares
  pub has : is_shared sets by p ≡ true
  pub block_is : by.used.mapping.paddr ≡ block

one-object : (a b : Found) → ◌≡◌ {A = Option Found} (Some a) (Some b) → a ≡ b
one-object a b e = cc

-- the blocks in which a view's live namings stand are those of the records in whose sets it is
pub shared-block : (image : List ℕ) (seen : Seen) (views : List SweptView) (first : List Naming) (sets : List ViewSet) (shares : List Share) → AreSharedBy image seen views first sets shares → (p : ℕ) → IsFirst views (view_of views p) p → (block : ℕ) →
    IsMetIn image seen first (view_of views p) block ↔ IsSharedIn sets shares p block
shared-block image seen views first sets shares a p at block = (
  (λ m.
      let t = a.each m.naming p m.live at m.in_view in
      let r : OmapRecord = t.by.used.mapping in
      let same = one-object m.object (standing image (site_of seen) (OfRecord t.by.used.map r) r.paddr) (sym m.found ∙ t.is.found) in
      record { by = t.by; one = t.one; has = t.has; block_is = sym (ap (λ (f : Found). f.block) same) ∙ m.block_is }),
  (λ s.
      let t = a.only s.by p s.one s.has in
      record {
        naming = t.naming;
        object = standing image (site_of seen) (OfRecord s.by.used.map s.by.used.mapping) s.by.used.mapping.paddr;
        live = t.live;
        in_view = t.is.in_view;
        found = t.is.found;
        block_is = s.block_is;
      }),
)
