use Rattle.std.proofs.Common.{◌∙◌, map}
use Rattle.std.proofs.lemmas.Result.{IfOk-weaker}
use Rattle.std.specs.String.{string_bytes}
use Rattle.cmd_words.proofs.WholeLines.{line-same, texts_open}
use Rattle.cmd_words.proofs.reading.line_in.Goals as goal

pub returns : goal.returns
returns c = IfOk-weaker c.line_by_clap.result _ _ (λ r h. h ∙ line-same (map string_bytes c.args.words.now) (texts_open c.args.words.now)) c.line_by_clap.ensures
