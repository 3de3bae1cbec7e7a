-- What the lines of the code ask for, whose texts lie in the words.
use Rattle.std.specs.Prelude.{option_map}
use Rattle.cmd_words.specs.declared.lines.Flags.{Flags}
use Rattle.cmd_words.specs.declared.lines.Target.{Target}
use Rattle.cmd_words.specs.declared.lines.Line.{Line}
use Rattle.cmd_words.specs.declared.lines.Line.TheVariants as lines
use Rattle.cmd_words.specs.Asked.{AskedTarget, AskedFlags, Asked, Ring, Info, Volumes, Space, Check, Snapshots, Usage, Ls, Tree, Cat, Xattr, Export}

-- a target without where its words lie
abbrev pub target_asked : Target → AskedTarget
target_asked target = record {
  path = target.path.now;
  volume = target.volume;
  snapshot = option_map (λ text. text.now) target.snapshot;
}

-- flags, as the definitions have them
abbrev pub flags_asked : Flags → AskedFlags
flags_asked flags = record { quick = flags.quick; strict = flags.strict }

-- flags with a target, without where its words lie
abbrev pub browse_asked : Flags × Target → AskedFlags × AskedTarget
browse_asked browse = (flags_asked browse.0, target_asked browse.1)

-- a line without where its words lie
abbrev pub asked_by : Line → Asked
asked_by lines.Ring = Ring
asked_by lines.Info = Info
asked_by lines.Volumes = Volumes
asked_by lines.Space = Space
asked_by (lines.Check strict) = Check strict
asked_by (lines.Snapshots volume) = Snapshots volume
asked_by (lines.Usage volume) = Usage volume
asked_by (lines.Ls flags target) = Ls (flags_asked flags) (target_asked target)
asked_by (lines.Tree flags target) = Tree (flags_asked flags) (target_asked target)
asked_by (lines.Cat flags target) = Cat (flags_asked flags) (target_asked target)
asked_by (lines.Xattr flags target name) = Xattr (flags_asked flags) (target_asked target) (option_map (λ text. text.now) name)
asked_by (lines.Export target) = Export (target_asked target)
