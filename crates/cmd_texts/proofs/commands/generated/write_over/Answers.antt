-- What the check came to after the line, or what cut the line short.
use Rattle.cmd_lines.specs.Written.{sunk}
use Rattle.cmd_texts.proofs.Led.{led_ended, lead_cut}
use Rattle.cmd_texts.proofs.commands.generated.write_over.Goals as goal

pub returns-in-Ok-clause-answer : goal.returns-in-Ok-clause-answer
returns-in-Ok-clause-answer g c =
    led_ended c.args.files c.args.src.now.bytes c.write.result
    (g.W.Sink.contents c.args.out.now) (g.W.Sink.contents c.put_lead.new.out) (g.W.Sink.contents c.write.new.out)
    (g.W.Sink.faults c.args.out.now) (g.W.Sink.faults c.put_lead.new.out) (g.W.Sink.faults c.write.new.out)
    c.in-Ok.ensures c.write.ensures.answer

pub returns-in-Err-clause-answer : goal.returns-in-Err-clause-answer
returns-in-Err-clause-answer g c =
    lead_cut c.args.files c.args.src.now.bytes c.in-Err.stopped (sunk g.W.Sink.contents g.W.Sink.faults c.args.out.now c.put_lead.new.out) c.in-Err.ensures
