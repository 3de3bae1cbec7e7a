-- The command `xattr`: the attributes of what a path leads to in the view that is meant, or what the one of a name holds.
use Rattle.std.specs.Prelude.{ℕ, List, Option, None, Some, Result, Ok}
use Rattle.view_rules.specs.declared.fault.TreeFault.{TreeFault}
use Rattle.cmd_words.specs.Asked.{AskedTarget}
use Rattle.apfs_model.specs.Lists.{and_then}
use Rattle.obj_base.specs.declared.stop.Feature.{Feature}
use Rattle.view_rules.specs.Facts.{Facts}
use Rattle.apfs_check.specs.declared.fault.Fault.{Fault}
use Rattle.path_read.specs.Attributes.{attributes, attribute}
use Rattle.path_read.specs.Texts.{xattr_text}
use Rattle.path_search.specs.declared.answer.Answer.{Answer}
use Rattle.cmd_texts.specs.OnView.{IsTextOn, IsAnswerOn, IsFaultOn, IsFeatureOn}

-- without a name a line for each attribute, with one the bytes that the attribute of the name holds, or the answer
abbrev pub wanted : List ℕ → Option (List ℕ) → ℕ → List ℕ → Facts → Result (List ℕ) Answer
wanted path None block_size image facts = and_then (attributes facts path) (λ found. Ok (xattr_text found))
wanted path (Some name) block_size image facts = attribute block_size image facts path name

-- nothing more is told of a fault of the view
abbrev pub told : List ℕ → Facts → TreeFault → Type 0
told path facts fault = Unit {0}

-- the text
abbrev pub IsText : AskedTarget → Option (List ℕ) → List ℕ → List ℕ → Type 0
IsText target name image text = IsTextOn (wanted target.path name) target image text

-- the answer
abbrev pub IsAnswer : AskedTarget → Option (List ℕ) → List ℕ → Answer → Type 0
IsAnswer target name image answer = IsAnswerOn (wanted target.path name) target image answer

-- the fault that is named
abbrev pub IsFault : AskedTarget → List ℕ → Fault → Type 0
IsFault target image fault = IsFaultOn (told target.path) target image fault

-- the feature that is refused
abbrev pub IsFeature : AskedTarget → List ℕ → Feature → ℕ → Type 0
IsFeature target image feature block = IsFeatureOn target image feature block
