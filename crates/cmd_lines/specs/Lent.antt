-- What the orders of the code ask for, whose texts lie in the words.
use Rattle.std.specs.Prelude.{true, option_map}
use Rattle.cmd_words.specs.Lent.{target_asked}
use Rattle.img_format.specs.declared.spec.Spec.{Spec}
use Rattle.cmd_lines.specs.declared.words.Command.{Command}
use Rattle.cmd_lines.specs.declared.words.Command.TheVariants as commands
use Rattle.cmd_lines.specs.declared.words.NewContainer.{NewContainer}
use Rattle.cmd_lines.specs.declared.words.Order.{Order}
use Rattle.cmd_lines.specs.declared.words.Order.TheVariants as orders
use Rattle.cmd_lines.specs.Words.{Asked, Line, line_in, plain_line, Ring, Info, Volumes, Space, Check, Snapshots, Usage, Ls, Tree, Cat, Xattr, Export, Gen, Format}

abbrev pub partition_line : Asked → Line
partition_line command = line_in true command

-- a command that takes no folder, without where its words lie
abbrev pub said : Command → Asked
said commands.Ring = Ring
said commands.Info = Info
said commands.Volumes = Volumes
said commands.Space = Space
said (commands.Check profile) = Check profile
said (commands.Snapshots volume) = Snapshots volume
said (commands.Usage volume) = Usage volume
said (commands.Ls checks target) = Ls checks (target_asked target)
said (commands.Tree checks target) = Tree checks (target_asked target)
said (commands.Cat checks target) = Cat checks (target_asked target)
said (commands.Xattr checks target name) = Xattr checks (target_asked target) (option_map (λ text. text.now) name)

-- a new container without where the word of its name lies
abbrev pub spec_of : NewContainer → Spec
spec_of wanted = record { blocks = wanted.blocks; name = wanted.name.now; container = wanted.container; volume = wanted.volume }

-- a line without where its words lie
abbrev pub line_said : Order → Line
line_said (orders.On in_partition command) = line_in in_partition (said command)
line_said (orders.Export in_partition target) = line_in in_partition (Export (target_asked target))
line_said (orders.Gen files) = plain_line (Gen files)
line_said (orders.Format wanted) = plain_line (Format (spec_of wanted))
