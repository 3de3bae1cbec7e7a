-- What a command's text is made of, whatever the image: that is said over sources that tell nothing, too.
use Rattle.std.specs.Prelude.{◌≡◌, ◌++◌, ℕ, List, Option, None, Some}
use Rattle.std.specs.List.{flat_map}
use Rattle.nx_ring.specs.Checkpoint.{Seen}
use Rattle.nx_ring.specs.declared.line.RingLine.{RingLine}
use Rattle.vol_view.specs.declared.head.VolHead.{VolHead}
use Rattle.vol_view.specs.declared.volume.Snapshot.{Snapshot}
use Rattle.space_map.specs.Stops.{Known}
use Rattle.space_pool.specs.declared.entry.QueueEntry.{QueueEntry}
use Rattle.apfs_check.specs.Report.{Told}
use Rattle.use_report.specs.Numbers as uses
use Rattle.path_search.specs.Texts.{ls_text}
use Rattle.view_tree.specs.Texts.{tree_text}
use Rattle.path_search.specs.declared.target.Target.{Target}
use Rattle.path_read.specs.Texts.{xattr_text}
use Rattle.tree_export.specs.Exported.{Wanted}
use Rattle.tree_export.specs.Texts.{skipped_text, done_text}
use Rattle.cmd_lines.specs.ReportText.{report_text}
use Rattle.cmd_texts.specs.Commands.Ring.{ring_text}
use Rattle.cmd_texts.specs.Commands.Info.{info_text}
use Rattle.cmd_texts.specs.Commands.Volumes.{volumes_text}
use Rattle.cmd_texts.specs.Commands.Space.{space_text}
use Rattle.cmd_texts.specs.Commands.Snapshots.{snapshots_text}
use Rattle.cmd_texts.specs.Commands.Usage.{usage_text}
use Rattle.cmd_texts.specs.Commands.Gen as gen
use Rattle.cmd_texts.specs.Commands.Format as format
use Rattle.cmd_lines.specs.Words.{Asked, Ring, Info, Volumes, Space, Check, Snapshots, Usage, Ls, Tree, Cat, Xattr, Export, Gen, Format}

-- without a name a line for each attribute; the contents of one are any bytes
abbrev pub IsXattrForm : Option (List ℕ) → List ℕ → Type 0
IsXattrForm None text = (found : List (List ℕ × ℕ)) × (text ≡ xattr_text found)
IsXattrForm (Some name) text = Unit {0}

-- a line for each of some items, and some numbers
abbrev pub IsExportForm : List ℕ → Type 0
IsExportForm text = (skipped : List Wanted) × (directories : ℕ) × (files : ℕ) × (bytes : ℕ) × (text ≡ flat_map skipped_text skipped ++ done_text directories files bytes)

-- a text is made as those of a command are: of some candidates, some volumes, some numbers ..; the contents of a file are any bytes
abbrev pub IsFormed : Asked → List ℕ → Type 0
IsFormed Ring text = (lines : List RingLine) × (text ≡ ring_text lines)
IsFormed Info text = (seen : Seen) × (text ≡ info_text seen)
IsFormed Volumes text = (heads : List VolHead) × (text ≡ volumes_text heads)
IsFormed Space text = (space : Known) × (bits : List ℕ) × (pool : List QueueEntry) × (main : List QueueEntry) × (text ≡ space_text space bits pool main)
IsFormed (Check profile) text = (told : Told) × (text ≡ report_text told)
IsFormed (Snapshots volume) text = (snapshots : List Snapshot) × (text ≡ snapshots_text snapshots)
IsFormed (Usage volume) text = (snapshots : List Snapshot) × (told : uses.Told) × (text ≡ usage_text snapshots told)
IsFormed (Ls checks target) text = (targets : List Target) × (text ≡ ls_text targets)
IsFormed (Tree checks target) text = (rows : List (List ℕ × Target)) × (text ≡ tree_text rows)
IsFormed (Cat checks target) text = Unit {0}
IsFormed (Xattr checks target name) text = IsXattrForm name text
IsFormed (Export target) text = IsExportForm text
IsFormed (Gen n) text = (told : Told) × (text ≡ gen.lead n ++ report_text told)
IsFormed (Format spec) text = format.IsText spec text
