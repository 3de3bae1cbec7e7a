-- The command `usage`: how many blocks each view of the volume that is meant keeps from being freed.
use Rattle.std.specs.Prelude.{◌≡◌, ℕ, List, [], ◌∷◌, Option, codes}
use Rattle.std.specs.Fmt.{decimal}
use Rattle.std.specs.List.{flat_map, zip}
use Rattle.fs_name.specs.Shown.{shown_name}
use Rattle.nx_ring.specs.Checkpoint.{Seen}
use Rattle.vol_view.specs.Volumes.{Loaded}
use Rattle.vol_view.specs.declared.volume.Snapshot.{Snapshot}
use Rattle.use_report.specs.Faults.{IsUseFault}
use Rattle.use_report.specs.Numbers.{Told, IsUsage}
use Rattle.use_report.specs.declared.numbers.ViewUse.{ViewUse}
use Rattle.use_report.specs.declared.stop.UseFault.{UseFault}
use Rattle.use_report.specs.declared.stop.UseFault.TheVariants.{Walk, Value, Outside}
use Rattle.path_search.specs.declared.answer.Answer.{Answer}
use Rattle.path_search.specs.declared.answer.Answer.TheVariants.{NoVolume}
use Rattle.cmd_texts.specs.Meant.{IsMeantVolume, HasNoVolume}
use Rattle.cmd_lines.specs.Texts.{◌▹◌}

-- how many blocks a view holds, and how many of them no other view does
abbrev pub numbers_text : ViewUse → List ℕ
numbers_text numbers = codes " held " ▹ decimal numbers.held ▹ codes " only " ▹ decimal numbers.only ▹ codes "\n"

-- the line of the live view
abbrev pub live_text : ViewUse → List ℕ
live_text numbers = codes "live" ▹ numbers_text numbers

-- the line of a snapshot: its transaction and its name, then its numbers
abbrev pub past_text : Snapshot × ViewUse → List ℕ
past_text past = (decimal past.0.xid ▹ codes " ") ▹ shown_name past.0.name ▹ numbers_text past.1

-- a line for the live view, then one for each snapshot, by transaction
abbrev pub views_text : List Snapshot → List ViewUse → List ℕ
views_text snapshots [] = []
views_text snapshots (live ∷ pasts) = live_text live ▹ flat_map past_text (zip snapshots pasts)

-- how many blocks some view holds
abbrev pub all_text : ℕ → List ℕ
all_text number = codes "all " ▹ decimal number ▹ codes "\n"

-- all lines
abbrev pub usage_text : List Snapshot → Told → List ℕ
usage_text snapshots told = views_text snapshots told.views ▹ all_text told.all

-- the numbers of the views of the volume that is meant
pub record IsTold (named : Option ℕ) (image text : List ℕ) : Type 0 where
  pub seen : Seen
  pub volume : Loaded
  pub meant : IsMeantVolume image named seen volume.head volume
  pub told : Told
  pub numbers : IsUsage image seen volume told
  pub same : text ≡ usage_text volume.snaps told

-- the text
abbrev pub IsText : Option ℕ → List ℕ → List ℕ → Type 0
IsText named image text = IsTold named image text

-- the answer: the slot that is meant holds no volume
abbrev pub IsAnswer : Option ℕ → List ℕ → Answer → Type 0
IsAnswer named image answer = (answer ≡ NoVolume) × HasNoVolume image named

-- the transaction of the view in which something is wrong
abbrev pub xid_of : UseFault → ℕ
xid_of (Walk xid why) = xid
xid_of (Value xid item) = xid
xid_of (Outside xid) = xid

-- something is wrong with a view of the volume that is meant, so that its blocks can't be counted
pub record IsViewFault (named : Option ℕ) (image : List ℕ) (slot xid : ℕ) : Type 0 where
  pub seen : Seen
  pub volume : Loaded
  pub meant : IsMeantVolume image named seen volume.head volume
  pub why : UseFault
  pub there : IsUseFault image seen volume why
  pub slot_is : slot ≡ volume.head.slot
  pub xid_is : xid ≡ xid_of why
