-- The command `gen`: an image is made, and what is told of its container.
use Rattle.std.specs.Prelude.{◌≡◌, ◌++◌, ℕ, List, codes}
use Rattle.std.specs.Fmt.{decimal}
use Rattle.view_rules.specs.declared.profile.Profile.TheVariants.{Plain}
use Rattle.apfs_check.specs.Report.{Told, IsChecked}
use Rattle.cmd_lines.specs.ReportText.{report_text}
use Rattle.cmd_lines.specs.Texts.{◌▹◌}

-- the line that is written before the image is looked at
abbrev pub lead : ℕ → List ℕ
lead n = codes "generated " ▹ decimal n ▹ codes "\n"

-- the text: that line, and the report of an image that is well-formed
abbrev pub IsText : ℕ → List ℕ → List ℕ → Type 0
IsText n image text = (told : Told) × IsChecked Plain image told × (text ≡ lead n ++ report_text told)
