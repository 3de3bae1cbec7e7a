use Rattle.std.proofs.Common.{◌∙◌, sym, arith}
use Rattle.std.specs.List.{length_refill}
use Rattle.bt_cursor.proofs.node.load.Goals as goal

pub test-requires-clause-long : goal.test-requires-clause-long
test-requires-clause-long g c =
    let old = c.args.into.now.block in
    sym (length_refill old.len old.items c.read_block.new.into old.ok.0) ∙ (old.ok.0 ∙ c.requires.long)

pub returns-in_err-read_block-clause-long : goal.returns-in_err-read_block-clause-long
returns-in_err-read_block-clause-long g c =
    let old = c.args.into.now.block in
    sym (length_refill old.len old.items c.read_block.new.into old.ok.0) ∙ (old.ok.0 ∙ c.requires.long)

pub returns-in_err-test-clause-long : goal.returns-in_err-test-clause-long
returns-in_err-test-clause-long g c =
    let old = c.args.into.now.block in
    sym (length_refill old.len old.items c.read_block.new.into old.ok.0) ∙ (old.ok.0 ∙ c.requires.long)

pub returns-clause-long : goal.returns-clause-long
returns-clause-long g c =
    let old = c.args.into.now.block in
    sym (length_refill old.len old.items c.read_block.new.into old.ok.0) ∙ (old.ok.0 ∙ c.requires.long)

pub returns-clause-step : goal.returns-clause-step
returns-clause-step g c = record {
  accepted = c.requires.site.accepted;
  long = returns-clause-long g c;
  node = c.in_ok-test.ensures.node;
  inside = omega arith;
}
