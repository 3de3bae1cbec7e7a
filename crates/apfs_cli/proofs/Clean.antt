-- A check of a new container has one text, its report.
use Rattle.std.specs.Prelude.{◌≡◌, ℕ, List, [], Option, Some, refl}
use Rattle.std.proofs.Common.{arith, inl, inr, sym, ◌∙◌, ap, subst}
use Rattle.img_format.specs.declared.spec.Spec.{Spec}
use Rattle.img_format.specs.Fresh.{fresh}
use Rattle.img_format.specs.Valid.{IsValid}
use Rattle.view_rules.specs.declared.profile.Profile.{Profile}
use Rattle.view_rules.specs.declared.profile.Profile.TheVariants.{Plain, Strict}
use Rattle.apfs_check.specs.Report.{Told, IsReport, IsChecked}
use Rattle.apfs_check.specs.WellFormed.{IsWellFormed}
use Rattle.apfs_check.proofs.Numbers.{one_report}
use Rattle.fresh_law.specs.Report.{fresh_report}
use Rattle.fresh_law.proofs.Law.{fresh-holds}
use Rattle.fresh_law.proofs.Report.{fresh-reported}
use Rattle.cmd_texts.specs.Commands.Check as check
use Rattle.cmd_texts.specs.Handed.{Looked}
use Rattle.cmd_lines.specs.Outcome.{Written}
use Rattle.cmd_lines.specs.ReportText.{report_text}
use Rattle.apfs_cli.specs.Rows.{BothWrote, HasText, IsAsked}
use Rattle.cmd_texts.specs.Says.{IsSource, IsWhole, Ran}
use Rattle.cmd_lines.specs.Words.{Line, Check, plain_line, asked_of}
use Rattle.cmd_lines.specs.Written.{Sunk}
use Rattle.apfs_cli.proofs.NewRow.{new_row}
use Rattle.cmd_lines.proofs.Orders.{format_valid}
use Rattle.apfs_cli.proofs.Statuses.{one_line, text_row, whole_row}
use Rattle.apfs_cli.specs.Formatted.{IsFormatted, IsCheckOf, IsReportOrFree, FormattedIsClean}

-- ---- what was formatted
image-is : (spec : Spec) (image : List ℕ) → IsFormatted spec image → image ≡ fresh spec
image-is spec image f = elim (new_row (asked_of f.words) f.handed f.folder 0 f.out f.err f.ran spec f.asked) as (λ _. image ≡ fresh spec) [
  | inl whole ↦
      let put : f.out.new ≡ Some (fresh spec) = whole.1 [] f.empty in
      let same : Some image ≡ Some (fresh spec) = sym f.written ∙ put in
      Prim.cc
  | inr cut ↦ absurd (elim cut.0 as (λ _. ⊥) [ inl e ↦ omega (arith, e) | inr e ↦ omega (arith, e) ])
]

sound : (profile : Profile) (spec : Spec) → IsValid spec → IsWellFormed profile (fresh spec)
sound Plain spec v = (fresh-holds spec v).plain
sound Strict spec v = (fresh-holds spec v).strict

checked : (profile : Profile) (spec : Spec) (image : List ℕ) → IsFormatted spec image → IsChecked profile image (fresh_report spec.blocks)
checked profile spec image f =
    let v = format_valid f.words spec (sym f.asked) in
    let P : List ℕ → Type 0 = λ bytes. IsChecked profile bytes (fresh_report spec.blocks) in
    subst P (sym (image-is spec image f)) (record { right = sound profile spec v; report = fresh-reported spec v profile })

-- ---- the check
asked-of : (profile : Profile) (image : List ℕ) (result : ℕ) (out err : Sunk) (c : IsCheckOf profile image result out err) → IsAsked (asked_of c.words) (Some c.source) c.folder (Check profile) image
asked-of profile image result out err c = record {
  line = plain_line (Check profile);
  words = c.asked;
  same = refl;
  all = record { image_there = λ lacks. lacks; folder_there = λ lacks. lacks };
  given = c.told;
}

-- the text is that of the report
same-text : (profile : Profile) (image text : List ℕ) (told : Told) → IsReport profile image told → check.IsText profile image text → text ≡ report_text told
same-text profile image text told report (other, is, e) = e ∙ ap report_text (one_report profile image other told is.report report)

ran-text : (profile : Profile) (image text : List ℕ) (result : ℕ) (out err : Sunk) (c : IsCheckOf profile image result out err) → Ran (asked_of c.words) (Some c.source) c.folder out (Written text) → check.IsText profile image text
ran-text profile image text result out err c has =
    let one : has.line ≡ plain_line (Check profile) = one_line (asked_of c.words) has.line (plain_line (Check profile)) has.words c.asked in
    let P : Line → Type 0 = λ l. IsSource l (Some c.source) has.source in
    let given : ◌≡◌ {A = Option Looked} (Some c.source) (Some has.source) = subst P one has.source_is in
    let same : c.source ≡ has.source = Prim.cc in
    let Q : Line → Type 0 = λ l. IsWhole l.command has.source text in
    let whole : IsWhole (Check profile) has.source text = subst Q one has.says in
    whole.is image (ap (λ (s : Looked). s.bytes) (sym same) ∙ c.told) tt

wrote-text : (profile : Profile) (image : List ℕ) (told : Told) (result : ℕ) (out err : Sunk) (c : IsCheckOf profile image result out err) → IsReport profile image told →
    HasText (asked_of c.words) (Some c.source) c.folder out err → BothWrote out err (Written (report_text told))
wrote-text profile image told result out err c report (text, has, wrote) =
    let P : List ℕ → Type 0 = λ t. BothWrote out err (Written t) in
    subst P (same-text profile image text told report (ran-text profile image text result out err c has)) wrote

clean : (profile : Profile) (image : List ℕ) (told : Told) (result : ℕ) (out err : Sunk) → IsChecked profile image told → IsCheckOf profile image result out err → IsReportOrFree told result out err
clean profile image told result out err is c =
    elim (whole_row (asked_of c.words) (Some c.source) c.folder result out err c.ran
    (record { command = Check profile; bytes = image; text = report_text told; is = asked-of profile image result out err c; defined = (told, is, refl) })) as (λ _. IsReportOrFree told result out err) [
      | inl e ↦ inl (e, wrote-text profile image told result out err c is.report (text_row (asked_of c.words) (Some c.source) c.folder result out err c.ran e))
      | inr free ↦ inr free
    ]

pub formatted-is-clean : FormattedIsClean
formatted-is-clean spec image f profile result out err c = clean profile image (fresh_report spec.blocks) result out err (checked profile spec image f) c
