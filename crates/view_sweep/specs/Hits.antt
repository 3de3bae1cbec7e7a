-- What is found of what is sought in sets of views.
use Rattle.std.specs.Prelude.{◌≡◌, ◌⊎◌, ℕ, ◌<◌, true, List, [], length, Option, Some}
use Rattle.apfs_model.specs.Blocks.{in_container}
use Rattle.apfs_model.specs.Lists.{In}
use Rattle.obj_base.specs.declared.site.Site.{Site}
use Rattle.omap_map.specs.Features.{mapping_features}
use Rattle.omap_map.specs.declared.records.OmapRecord.{OmapRecord}
use Rattle.view_sweep.specs.declared.runs.Run.{Run}
use Rattle.view_sweep.specs.declared.sets.ViewSet.{ViewSet}
use Rattle.view_sweep.specs.declared.joining.Sought.{Sought}
use Rattle.view_sweep.specs.declared.wanted.SweptView.{SweptView}
use Rattle.view_sweep.specs.declared.wanted.Wanted.{Wanted}
use Rattle.view_sweep.specs.declared.used.Hit.{Hit}
use Rattle.view_sweep.specs.Runs.{has_place}
use Rattle.view_sweep.specs.Sets.{set_at, view_of, of_view}
use Rattle.view_sweep.specs.Next.{AreAsOne}

-- the volume of each view is one of so many
abbrev pub AreBelowViews : ℕ → List SweptView → Type 0
AreBelowViews volumes views = (p : ℕ) → p < length views → (view_of views p).volume < volumes

-- each view of a set finds an object by a record, as one view does
abbrev pub AreFoundBy : (Wanted → Option OmapRecord) → List SweptView → List Run → Wanted → OmapRecord → Type 0
AreFoundBy look views set w r = (p : ℕ) → has_place set p ≡ true → AreAsOne w.view (view_of views p) × (look (of_view w (view_of views p)) ≡ Some r)

-- a hit of an object that is sought in a set of views: its own views are of the set and find the object by one record, which gives a block and has no feature
pub record IsHitOf (look : Wanted → Option OmapRecord) (site : Site) (views : List SweptView) (sets : List ViewSet) (w : Wanted) (set : List Run) (h : Hit) : Type 0 where
  pub oid : h.wanted.oid ≡ w.oid
  pub want : h.wanted.want ≡ w.want
  pub number : h.set < length sets
  pub place : ℕ
  pub below : place < length views
  pub view : h.wanted.view ≡ view_of views place
  pub own : has_place (set_at sets h.set) place ≡ true
  pub only : (p : ℕ) → has_place (set_at sets h.set) p ≡ true → has_place set p ≡ true
  pub found : AreFoundBy look views (set_at sets h.set) h.wanted h.mapping
  pub inside : in_container site.blocks h.mapping.paddr ≡ Some h.mapping.paddr
  pub plain : mapping_features site.block_size h.mapping.flags h.mapping.size ≡ []

-- a hit of it has the view at a place
pub record HasHit (look : Wanted → Option OmapRecord) (site : Site) (views : List SweptView) (sets : List ViewSet) (w : Wanted) (set : List Run) (hits : List Hit) (p : ℕ) : Type 0 where
  pub one : Hit
  pub listed : In one hits
  pub is : IsHitOf look site views sets w set one
  pub has : has_place (set_at sets one.set) p ≡ true

-- hits were added: each view of the set before a place has one, and nothing else was added
pub record AreSplit (look : Wanted → Option OmapRecord) (site : Site) (views : List SweptView) (sets : List ViewSet) (w : Wanted) (set : List Run) (end : ℕ) (old new : List Hit) : Type 0 where
  pub each : (p : ℕ) → p < end → has_place set p ≡ true → HasHit look site views sets w set new p
  pub only : (h : Hit) → In h new → In h old ⊎ IsHitOf look site views sets w set h
  pub kept : (h : Hit) → In h old → In h new

-- of all that is sought each view has a hit, and nothing else is found
pub record AreHitsOf (look : Wanted → Option OmapRecord) (site : Site) (views : List SweptView) (sets : List ViewSet) (all : List Sought) (hits : List Hit) : Type 0 where
  pub each : (s : Sought) (p : ℕ) → In s all → p < length views → has_place s.set.items p ≡ true → HasHit look site views sets s.wanted s.set.items hits p
  pub only : (h : Hit) → In h hits → (s : Sought) × (In s all × IsHitOf look site views sets s.wanted s.set.items h)
