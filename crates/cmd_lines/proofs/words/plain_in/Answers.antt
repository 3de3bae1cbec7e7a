-- The words ask for an image that is made, or for something else.
use Rattle.std.proofs.Common.{◌≡◌, ◌∙◌, sym, map}
use Rattle.std.specs.Prelude.{Some, None}
use Rattle.std.specs.String.{string_bytes}
use Rattle.std.proofs.lemmas.Result.{IfOk-weaker}
use Rattle.cmd_lines.specs.Words.{gen_files}
use Rattle.cmd_lines.proofs.Orders.{plain_with, plain_without}
use Rattle.cmd_lines.proofs.words.plain_in.Goals as goal

pub returns-in-Some : goal.returns-in-Some
returns-in-Some c =
    let same : Some c.in-Some.files ≡ gen_files (map string_bytes c.args.words.now) = sym c.in-Some.is ∙ c.files_in.ensures in
    plain_with (map string_bytes c.args.words.now) c.in-Some.files same

pub returns-in-None : goal.returns-in-None
returns-in-None c =
    let same : None ≡ gen_files (map string_bytes c.args.words.now) = sym c.in-None.is ∙ c.files_in.ensures in
    IfOk-weaker c.new_or_command_in.result _ _ (λ r h. h ∙ plain_without (map string_bytes c.args.words.now) same) c.new_or_command_in.ensures
