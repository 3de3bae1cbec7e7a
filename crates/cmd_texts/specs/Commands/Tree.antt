-- The command `tree`: what is under a path in the view that is meant.
use Rattle.std.specs.Prelude.{ℕ, List, Result, Ok}
use Rattle.view_rules.specs.declared.fault.TreeFault.{TreeFault}
use Rattle.cmd_words.specs.Asked.{AskedTarget}
use Rattle.apfs_model.specs.Lists.{and_then}
use Rattle.obj_base.specs.declared.stop.Feature.{Feature}
use Rattle.view_rules.specs.Facts.{Facts}
use Rattle.apfs_check.specs.declared.fault.Fault.{Fault}
use Rattle.view_tree.specs.Told.{IsTold}
use Rattle.view_tree.specs.Texts.{tree_text}
use Rattle.view_tree.specs.Tree.{tree}
use Rattle.path_search.specs.declared.answer.Answer.{Answer}
use Rattle.cmd_texts.specs.OnView.{IsTextOn, IsAnswerOn, IsFaultOn, IsFeatureOn}

-- a line for each row of the tree, or the answer
abbrev pub wanted : List ℕ → ℕ → List ℕ → Facts → Result (List ℕ) Answer
wanted path block_size image facts = and_then (tree facts path) (λ rows. Ok (tree_text rows))

-- DirNames is told of two entries that the tree met
abbrev pub told : List ℕ → Facts → TreeFault → Type 0
told path facts fault = IsTold facts path fault

-- the text
abbrev pub IsText : AskedTarget → List ℕ → List ℕ → Type 0
IsText target image text = IsTextOn (wanted target.path) target image text

-- the answer
abbrev pub IsAnswer : AskedTarget → List ℕ → Answer → Type 0
IsAnswer target image answer = IsAnswerOn (wanted target.path) target image answer

-- the fault that is named
abbrev pub IsFault : AskedTarget → List ℕ → Fault → Type 0
IsFault target image fault = IsFaultOn (told target.path) target image fault

-- the feature that is refused
abbrev pub IsFeature : AskedTarget → List ℕ → Feature → ℕ → Type 0
IsFeature target image feature block = IsFeatureOn target image feature block
