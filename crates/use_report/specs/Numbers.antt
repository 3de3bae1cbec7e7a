-- How many blocks the views of a volume hold.
use Rattle.std.specs.Prelude.{◌≡◌, ℕ, List}
use Rattle.std.specs.List.{AllZip}
use Rattle.nx_ring.specs.Checkpoint.{Seen}
use Rattle.vol_view.specs.Volumes.{Loaded}
use Rattle.reach_rules.specs.Tally.{IsNumberOf}
use Rattle.use_report.specs.Views.{views_kept}
use Rattle.use_report.specs.Held.{IsHeld, IsOnlyHeld, IsHeldByAny}
use Rattle.use_report.specs.declared.kept.KeptView.{KeptView}
use Rattle.use_report.specs.declared.numbers.Usage.{Usage}
use Rattle.use_report.specs.declared.numbers.ViewUse.{ViewUse}

-- this is what is told of a view
pub record IsUse (image : List ℕ) (seen : Seen) (volume : Loaded) (kept : KeptView) (numbers : ViewUse) : Type 0 where
  pub xid_is : numbers.xid ≡ kept.view.xid
  pub held : IsNumberOf (IsHeld image seen volume kept) numbers.held
  pub only : IsNumberOf (IsOnlyHeld image seen volume kept) numbers.only

-- what is told of a volume: of its views in their order, and how many blocks some view holds
pub record Told : Type 0 where
  pub views : List ViewUse
  pub all : ℕ

-- what a call has told
abbrev pub told_of : Usage → Told
told_of usage = record { views = usage.views.items; all = usage.all }

-- this is what is told of a volume
pub record IsUsage (image : List ℕ) (seen : Seen) (volume : Loaded) (told : Told) : Type 0 where
  pub views : AllZip (IsUse image seen volume) (views_kept volume seen) told.views
  pub all : IsNumberOf (IsHeldByAny image seen volume) told.all
