-- The words begin with `--gpt`, or they don't.
use Rattle.std.proofs.Common.{◌≡◌, ◌∙◌, ap, sym, map}
use Rattle.std.specs.Prelude.{Some, None, option_map}
use Rattle.std.specs.String.{string_bytes}
use Rattle.std.proofs.lemmas.Result.{IfOk-weaker}
use Rattle.cmd_lines.specs.Words.{after_gpt}
use Rattle.cmd_lines.proofs.Orders.{asked_with, asked_without}
use Rattle.cmd_lines.proofs.words.asked.Goals as goal

pub returns-in-Some : goal.returns-in-Some
returns-in-Some c =
    let same : Some (map string_bytes c.in-Some.rest.now) ≡ after_gpt (map string_bytes c.args.words.now) = sym (ap (λ found. option_map (λ rest. map string_bytes rest.now) found) c.in-Some.is) ∙ c.after_gpt.ensures in
    IfOk-weaker c.order_in.result _ _ (λ r h. h ∙ asked_with (map string_bytes c.args.words.now) (map string_bytes c.in-Some.rest.now) same) c.order_in.ensures

pub returns-in-None : goal.returns-in-None
returns-in-None c =
    let same : None ≡ after_gpt (map string_bytes c.args.words.now) = sym (ap (λ found. option_map (λ rest. map string_bytes rest.now) found) c.in-None.is) ∙ c.after_gpt.ensures in
    IfOk-weaker c.plain_in.result _ _ (λ r h. h ∙ asked_without (map string_bytes c.args.words.now) same) c.plain_in.ensures
