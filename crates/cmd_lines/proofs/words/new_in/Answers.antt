-- Five words ask for a new container, others don't.
use Rattle.std.proofs.Common.{arith, ◌∙◌, ap, map}
use Rattle.std.proofs.lemmas.Grind.{common_steps}
use Rattle.std.specs.Prelude.{option_map}
use Rattle.std.specs.String.{string_bytes}
use Rattle.cmd_lines.specs.Words.{spec_named, new_spec}
use Rattle.cmd_lines.specs.Lent.{spec_of}
use Rattle.cmd_lines.proofs.Orders.{list_five, said_same, new_few, new_many}
use Rattle.cmd_lines.proofs.words.new_in.Goals as goal
use Rattle.cmd_lines.proofs.words.new_in.Goals.{in_default-via-then-words-lt5, in_default-via-else-words-lt5+else-words-lt6}

pub returns-in-len5 : goal.returns-in-len5
returns-in-len5 c =
    let words = list_five c.args.words.now c.command-item.result c.blocks-item.result c.name-item.result c.container-item.result c.volume-item.result c.in-len5.len_at_least c.in-len5.len_below
    c.command-item.is c.blocks-item.is c.name-item.is c.container-item.is c.volume-item.is in
    let said = said_same _ _ _ _ _ _ _ _ c.as_str-in-len5.ensures.value c.as_str-in-len5-2.ensures.value c.as_str-in-len5-3.ensures.value c.as_str-in-len5-4.ensures.value in
    c.new_named.ensures
    ∙ ap (λ command. spec_named command (option_map spec_of c.new_by.result)) c.as_str.ensures.value
    ∙ ap (λ spec. spec_named (string_bytes c.command-item.result) spec) (c.new_by.ensures ∙ said)
    ∙ ap (λ words. new_spec (map string_bytes words)) words

pub returns-in_default : goal.returns-in_default
returns-in_default c = elim c.in_default.branch [
  | in_default-via-then-words-lt5 w ↦ new_few string_bytes c.args.words.now (Prim.grind (arith, common_steps))
  | in_default-via-else-words-lt5+else-words-lt6 w ↦ new_many string_bytes c.args.words.now (Prim.grind (arith, common_steps))
]
