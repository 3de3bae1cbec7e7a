-- The pieces of the blocks that the views of a volume hold, and their numbers.
use Rattle.std.specs.Prelude.{◌≡◌, ℕ, ◌-◌, ◌^◌, ◌<◌, ◌≤◌, false, List, length, Some, slice_get}
use Rattle.apfs_model.specs.Lists.{In}
use Rattle.obj_base.specs.declared.stop.Feature.{Feature}
use Rattle.obj_base.specs.declared.site.Site.{Site}
use Rattle.vol_view.specs.Volumes.{Loaded}
use Rattle.piece_count.specs.Covered.{is_covered, nth_count, IsCount}
use Rattle.piece_count.specs.declared.piece.Holdings.{Holdings}
use Rattle.piece_count.specs.declared.tally.Counts.{Counts}
use Rattle.piece_count.specs.declared.tally.ViewCount.{ViewCount}
use Rattle.use_report.specs.Faults.{IsUseFaultIn}
use Rattle.use_report.specs.Stops.{IsUseFeatureIn}
use Rattle.use_report.specs.Holding.{IsWalkedSet, IsRightView}
use Rattle.use_report.specs.declared.kept.KeptView.{KeptView}
use Rattle.use_report.specs.declared.numbers.ViewUse.{ViewUse}
use Rattle.use_report.specs.declared.stop.UseFault.{UseFault}

-- pieces have what each of the first so many views has, and nothing of a later one
pub record AreHoldings (image : List ℕ) (site : Site) (volume : Loaded) (views : List KeptView) (many : ℕ) (pieces : Holdings) : Type 0 where
  pub each : (i : ℕ) (view : KeptView) → i < many → slice_get views i ≡ Some view → IsWalkedSet image site volume view (is_covered pieces i)
  pub none : (i block : ℕ) → many ≤ i → block < 2 ^ 64 - 1 → is_covered pieces i block ≡ false

-- what each of some views has can be gone through
abbrev pub AreRightViews : List ℕ → Site → Loaded → List KeptView → Type 0
AreRightViews image site volume views = (view : KeptView) → In view views → IsRightView image site volume view

-- a fault is there in one of some views
abbrev pub AreFaultsOf : List ℕ → Site → Loaded → List KeptView → UseFault → Type 0
AreFaultsOf image site volume views fault = (view : KeptView) × In view views × IsUseFaultIn image site volume view fault

-- a feature is there in one of some views
abbrev pub AreFeaturesOf : List ℕ → Site → Loaded → List KeptView → Feature → ℕ → Type 0
AreFeaturesOf image site volume views feature block = (view : KeptView) × In view views × IsUseFeatureIn image site volume view feature block

-- the numbers of the view of a transaction, which stands in a place
pub record IsUseOf (counts : List ViewCount) (i xid : ℕ) (numbers : ViewUse) : Type 0 where
  pub xid_is : numbers.xid ≡ xid
  pub held : numbers.held ≡ (nth_count counts i).held
  pub only : numbers.only ≡ (nth_count counts i).only

-- the numbers of some views
pub record AreUsesOf (views : List KeptView) (counts : List ViewCount) (told : List ViewUse) : Type 0 where
  pub many : length told ≡ length views
  pub each : (i : ℕ) (view : KeptView) → slice_get views i ≡ Some view → (numbers : ViewUse) × (slice_get told i ≡ Some numbers) × IsUseOf counts i view.view.xid numbers

-- the numbers of some views by pieces, and how many blocks some view has
pub record AreNumbersOf (blocks : ℕ) (views : List KeptView) (pieces : Holdings) (told : List ViewUse) (number : ℕ) : Type 0 where
  pub counts : Counts
  pub counted : IsCount blocks (length views) pieces counts
  pub number_is : number ≡ counts.all
  pub uses : AreUsesOf views counts.views.items told
