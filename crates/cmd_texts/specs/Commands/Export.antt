-- The command `export`: the directories and files of the view that is meant, put into a folder.
use Rattle.std.specs.Prelude.{◌≡◌, ℕ, List, Result, Ok}
use Rattle.cmd_words.specs.Asked.{AskedTarget}
use Rattle.nx_ring.specs.Checkpoint.{Seen, site_of}
use Rattle.vol_view.specs.Volumes.{Loaded}
use Rattle.vol_view.specs.declared.volume.View.{View}
use Rattle.view_rules.specs.Facts.{Facts}
use Rattle.view_rules.specs.Rules.{view_facts}
use Rattle.path_search.specs.Stops.{IsLawful}
use Rattle.path_search.specs.declared.answer.Answer.{Answer}
use Rattle.blk_folder.specs.Items.{Item}
use Rattle.tree_export.specs.Exported.{exported, skipped}
use Rattle.tree_export.specs.Faults.{IsExportFault, fault_id}
use Rattle.tree_export.specs.Texts.{export_text}
use Rattle.tree_export.specs.declared.stop.ExportFault.{ExportFault}
use Rattle.cmd_texts.specs.MeantView.{IsMeantView}
use Rattle.cmd_texts.specs.OnView.{IsTextOn, IsAnswerOn}

-- the text of a view, which always has one: of its items those for which nothing is put, and how much was
abbrev pub wanted : ℕ → List ℕ → Facts → Result (List ℕ) Answer
wanted block_size image facts = Ok (export_text (exported block_size image facts) (skipped facts))

-- the text
abbrev pub IsText : AskedTarget → List ℕ → List ℕ → Type 0
IsText target image text = IsTextOn wanted target image text

-- the answer: NoVolume or NoSnapshot
abbrev pub IsAnswer : AskedTarget → List ℕ → Answer → Type 0
IsAnswer target image answer = IsAnswerOn wanted target image answer

-- the items that the folder gets: those of the view that is meant, which meets its rules
pub record AreItems (target : AskedTarget) (image : List ℕ) (items : List Item) : Type 0 where
  pub seen : Seen
  pub volume : Loaded
  pub view : View
  pub is : IsMeantView image target seen volume view
  pub lawful : IsLawful image (site_of seen) volume view
  pub same : items ≡ exported (site_of seen).block_size image (view_facts image (site_of seen) volume view)

-- something is wrong in the view that is meant with what has an id, so that it can't be put
pub record IsViewFault (target : AskedTarget) (image : List ℕ) (slot xid id : ℕ) : Type 0 where
  pub seen : Seen
  pub volume : Loaded
  pub view : View
  pub is : IsMeantView image target seen volume view
  pub why : ExportFault
  pub there : IsExportFault image (site_of seen) volume view why
  pub slot_is : slot ≡ view.slot
  pub xid_is : xid ≡ view.xid
  pub id_is : id ≡ fault_id why
