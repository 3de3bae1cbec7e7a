-- What a command on a view writes, answers and names, by what is wanted of the view.
use Rattle.std.specs.Prelude.{◌≡◌, ◌⊎◌, ℕ, List, Result, Ok, Err}
use Rattle.view_rules.specs.declared.fault.TreeFault.{TreeFault}
use Rattle.cmd_words.specs.Asked.{AskedTarget}
use Rattle.obj_base.specs.declared.stop.Feature.{Feature}
use Rattle.nx_ring.specs.Checkpoint.{Seen, site_of}
use Rattle.vol_view.specs.Volumes.{Loaded}
use Rattle.vol_view.specs.Views.{IsViewFeature}
use Rattle.vol_view.specs.declared.volume.View.{View}
use Rattle.view_rules.specs.Facts.{Facts}
use Rattle.view_rules.specs.Rules.{view_facts}
use Rattle.apfs_check.specs.declared.fault.Fault.{Fault}
use Rattle.apfs_check.specs.Raised.{of_view}
use Rattle.path_search.specs.Stops.{IsLawful, IsPathFault}
use Rattle.path_search.specs.declared.answer.Answer.{Answer}
use Rattle.path_search.specs.declared.answer.Answer.TheVariants.{NotFound, NotDirectory, NotFile, Compressed, Dataless, NoAttribute, NoVolume, NoSnapshot}
use Rattle.cmd_texts.specs.Meant.{HasNoVolume, IsMeantFault, IsMeantFeature}
use Rattle.cmd_texts.specs.MeantView.{IsMeantView, HasNoSnapshot}

-- a fact by what is answered: that the slot holds no volume, that no snapshot has the name, or that what a path leads to isn't what was asked for
abbrev pub ByAnswer : Answer → Type 0 → Type 0 → Type 0 → Type 0
ByAnswer NotFound volume snapshot path = path
ByAnswer NotDirectory volume snapshot path = path
ByAnswer NotFile volume snapshot path = path
ByAnswer Compressed volume snapshot path = path
ByAnswer Dataless volume snapshot path = path
ByAnswer NoAttribute volume snapshot path = path
ByAnswer NoVolume volume snapshot path = volume
ByAnswer NoSnapshot volume snapshot path = snapshot

-- what is wanted of a view, by its blocks' size in bytes, its image and its facts: a text or an answer
abbrev pub Wanted : Type 0
Wanted = ℕ → List ℕ → Facts → Result (List ℕ) Answer

-- what is wanted of the view that is meant, which meets its rules
pub record IsWantedOf (wanted : Wanted) (target : AskedTarget) (image : List ℕ) (result : Result (List ℕ) Answer) : Type 0 where
  pub seen : Seen
  pub volume : Loaded
  pub view : View
  pub is : IsMeantView image target seen volume view
  pub lawful : IsLawful image (site_of seen) volume view
  pub same : wanted (site_of seen).block_size image (view_facts image (site_of seen) volume view) ≡ result

-- the text: that of a view that meets its rules
abbrev pub IsTextOn : Wanted → AskedTarget → List ℕ → List ℕ → Type 0
IsTextOn wanted target image text = IsWantedOf wanted target image (Ok text)

-- the answer: NoVolume and NoSnapshot by their causes, the others of a view that meets its rules
abbrev pub IsAnswerOn : Wanted → AskedTarget → List ℕ → Answer → Type 0
IsAnswerOn wanted target image answer = ByAnswer answer (HasNoVolume image target.volume) (HasNoSnapshot image target) (IsWantedOf wanted target image (Err answer))

-- a fault of the view that is meant, whatever the profile and the new ranges, of which a fact is told
pub record IsViewFault (told : Facts → TreeFault → Type 0) (target : AskedTarget) (image : List ℕ) (fault : Fault) : Type 0 where
  pub seen : Seen
  pub volume : Loaded
  pub view : View
  pub why : TreeFault
  pub is : IsMeantView image target seen volume view
  pub there : IsPathFault image (site_of seen) volume view why
  pub told_is : told (view_facts image (site_of seen) volume view) why
  pub same : fault ≡ of_view why

-- a feature of a node of the view that is meant
pub record IsNodeFeature (target : AskedTarget) (image : List ℕ) (feature : Feature) (block : ℕ) : Type 0 where
  pub seen : Seen
  pub volume : Loaded
  pub view : View
  pub is : IsMeantView image target seen volume view
  pub there : IsViewFeature image (site_of seen) volume view feature block

-- a fault on the way to the view, or of it
abbrev pub IsFaultOn : (Facts → TreeFault → Type 0) → AskedTarget → List ℕ → Fault → Type 0
IsFaultOn told target image fault = IsMeantFault image target.volume fault ⊎ IsViewFault told target image fault

-- a feature on the way to the view, or of it
abbrev pub IsFeatureOn : AskedTarget → List ℕ → Feature → ℕ → Type 0
IsFeatureOn target image feature block = IsMeantFeature image target.volume feature block ⊎ IsNodeFeature target image feature block
