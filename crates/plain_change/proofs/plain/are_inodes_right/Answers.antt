use Rattle.std.proofs.Common.{sym, ◌∙◌}
use Rattle.plain_change.specs.Parts.{IsLetGo, HasWay}
use Rattle.plain_change.proofs.Looks.{each-in}
use Rattle.plain_change.proofs.plain.are_inodes_right.Goals as goal

pub returns-then-do_stripped_keep : goal.returns-then-do_stripped_keep
returns-then-do_stripped_keep c holds =
    let after = c.args.after.now.index.now.facts.now in
    let gone = c.args.gone.now in
    let come = c.args.come.now in
    record {
      root = sym c.has_root.ensures ∙ c.if-not-has_root.false;
      root_name = sym c.is_root_named.ensures ∙ c.if-is_root_named.false;
      let_go = each-in (IsLetGo after come) gone.inodes (c.are_let_go.ensures c.if-not-are_let_go.false);
      names = c.do_renamed_keep.ensures c.if-not-do_renamed_keep.false;
      links = c.do_renamed_keep-2.ensures c.if-not-do_renamed_keep-2.false;
      children = c.do_refilled_keep.ensures c.if-not-do_refilled_keep.false;
      targets = c.do_stripped_keep.ensures c.if-do_stripped_keep.true;
      ways = each-in (HasWay after gone) come.inodes (c.have_ways.ensures holds);
    }
