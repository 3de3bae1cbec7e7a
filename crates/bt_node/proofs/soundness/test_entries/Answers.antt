use Rattle.std.proofs.Common.{◌∙◌, ◌<◌, ◌≡◌, false, arith}
use Rattle.std.proofs.lemmas.Grind.{common_steps}
use Rattle.apfs_model.proofs.Ranges.{all_more, all_fails}
use Rattle.bt_node.specs.Node.{count_of}
use Rattle.bt_node.specs.Soundness.{is_entry_inside, has_value, has_key}
use Rattle.bt_node.proofs.soundness.test_entries.Goals as goal

pub returns-then-not-is_inside : goal.returns-then-not-is_inside
returns-then-not-is_inside g c =
    let test = is_entry_inside g.K.TreeKey.shape c.args.bytes.now in
    let low : c.loop-i.i < count_of c.args.bytes.now = grind (arith, common_steps) in
    let one : test c.loop-i.i ≡ false = grind (arith, common_steps) in
    grind (arith, common_steps, all_fails test (count_of c.args.bytes.now) c.loop-i.i low one)

pub loop-i-preserved : goal.loop-i-preserved
loop-i-preserved g c =
    let inside = is_entry_inside g.K.TreeKey.shape c.args.bytes.now in
    let valued = has_value g.K.TreeKey.shape c.args.bytes.now in
    let keyed = has_key g.K.TreeKey.shape c.args.bytes.now in
    record {
      inside = all_more inside c.loop-i.i ∙ grind (arith, common_steps);
      valued = grind (arith, common_steps, all_more valued c.loop-i.i);
      keyed = grind (arith, common_steps, all_more keyed c.loop-i.i);
    }
