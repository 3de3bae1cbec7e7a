-- The words ask for a new container, or for a command on an image.
use Rattle.std.proofs.Common.{◌≡◌, ◌∙◌, ap, sym, map}
use Rattle.std.specs.Prelude.{Some, None, option_map}
use Rattle.std.specs.String.{string_bytes}
use Rattle.std.proofs.lemmas.Result.{IfOk-weaker}
use Rattle.cmd_lines.specs.Words.{new_spec}
use Rattle.cmd_lines.specs.Lent.{spec_of}
use Rattle.cmd_lines.proofs.Orders.{new_with, new_without}
use Rattle.cmd_lines.proofs.words.new_or_command_in.Goals as goal

pub returns-in-Some : goal.returns-in-Some
returns-in-Some c =
    let same : Some (spec_of c.in-Some.wanted) ≡ new_spec (map string_bytes c.args.words.now) = sym (ap (λ wanted. option_map spec_of wanted) c.in-Some.is) ∙ c.new_in.ensures in
    new_with (map string_bytes c.args.words.now) (spec_of c.in-Some.wanted) same

pub returns-in-None : goal.returns-in-None
returns-in-None c =
    let same : None ≡ new_spec (map string_bytes c.args.words.now) = sym (ap (λ wanted. option_map spec_of wanted) c.in-None.is) ∙ c.new_in.ensures in
    IfOk-weaker c.order_in.result _ _ (λ r h. h ∙ new_without (map string_bytes c.args.words.now) same) c.order_in.ensures
