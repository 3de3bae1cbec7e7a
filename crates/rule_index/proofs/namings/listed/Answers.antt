use Rattle.std.proofs.Common.{List, subst}
use Rattle.std.proofs.lemmas.List.{take_all}
use Rattle.fs_record.specs.Entries.{Entry}
use Rattle.fs_record.specs.Facts.{Fact}
use Rattle.rule_index.specs.Namings.{is_counted, is_system_one, AreListed}
use Rattle.rule_index.proofs.namings.listed.Goals as goal

pub returns : goal.returns
returns c = record {
  counted = subst (λ (es : List (Fact Entry)). AreListed (is_counted c.args.marks.now) es c.loop-e.counted.items) (take_all c.loop-e.e-index c.args.entries.now c.loop-e-test.false) c.loop-e.invariant.counted;
  system = subst (λ (es : List (Fact Entry)). AreListed (is_system_one c.args.marks.now) es c.loop-e.system.items) (take_all c.loop-e.e-index c.args.entries.now c.loop-e-test.false) c.loop-e.invariant.system;
}
