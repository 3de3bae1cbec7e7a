-- What `check` writes of what `format` wrote.
use Rattle.std.specs.Prelude.{◌≡◌, ◌⊎◌, ℕ, List, [], Option, Some}
use Rattle.img_format.specs.declared.spec.Spec.{Spec}
use Rattle.view_rules.specs.declared.profile.Profile.{Profile}
use Rattle.apfs_check.specs.Report.{Told}
use Rattle.fresh_law.specs.Report.{fresh_report}
use Rattle.cmd_lines.specs.Words.{Check, Format, plain_line, asked_of}
use Rattle.cmd_texts.specs.Handed.{Looked, Stored}
use Rattle.cmd_lines.specs.Outcome.{Written}
use Rattle.cmd_lines.specs.ReportText.{report_text}
use Rattle.apfs_cli.specs.Rows.{BothWrote}
use Rattle.cmd_texts.specs.Says.{CameTo}
use Rattle.cmd_lines.specs.Written.{Sunk}

-- the image that a run of `format` wrote: it ended with 0, and all that the first sink has was written by it
pub record IsFormatted (spec : Spec) (image : List ℕ) : Type 0 where
  pub words : List (List ℕ)
  pub asked : asked_of words ≡ Some (plain_line (Format spec))
  pub handed : Option Looked
  pub folder : Option Stored
  pub out : Sunk
  pub err : Sunk
  pub ran : CameTo (asked_of words) handed folder 0 out err
  pub empty : out.old ≡ Some []
  pub written : out.new ≡ Some image

-- a run of `check` under a profile on an image
pub record IsCheckOf (profile : Profile) (image : List ℕ) (result : ℕ) (out err : Sunk) : Type 0 where
  pub words : List (List ℕ)
  pub asked : asked_of words ≡ Some (plain_line (Check profile))
  pub source : Looked
  pub told : source.bytes ≡ Some image
  pub folder : Option Stored
  pub ran : CameTo (asked_of words) (Some source) folder result out err

-- the status is 0, and a report was written, and no line; or a read or a put failed, or memory ran out
abbrev pub IsReportOrFree : Told → ℕ → Sunk → Sunk → Type 0
IsReportOrFree told result out err = ((result ≡ 0) × BothWrote out err (Written (report_text told))) ⊎ ((result ≡ 3) ⊎ ((result ≡ 4) ⊎ (result ≡ 5)))

-- each check of what was formatted, under either profile, writes the report of a new container
abbrev pub FormattedIsClean : Type 0
FormattedIsClean =
    (spec : Spec) (image : List ℕ) → IsFormatted spec image → (profile : Profile) (result : ℕ) (out err : Sunk) → IsCheckOf profile image result out err → IsReportOrFree (fresh_report spec.blocks) result out err
