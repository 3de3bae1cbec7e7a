use Rattle.plain_change.specs.Parts.{IsAlone, IsAttributeRight}
use Rattle.plain_change.proofs.Looks.{each-in}
use Rattle.plain_change.proofs.plain.are_names_right.Goals as goal

pub returns : goal.returns
returns c holds =
    let after = c.args.after.now.index.now.facts.now in
    let come = c.args.come.now in
    record {
      fellows = c.are_fellows_right.ensures c.if-not-are_fellows_right.false;
      entries = each-in (IsAlone after) come.entries (c.are_entries_alone.ensures c.if-not-are_entries_alone.false);
      attributes = λ a listed. (each-in (IsAttributeRight after) come.attributes (c.are_attributes_right.ensures holds) a listed).1;
      owners = λ a listed. (each-in (IsAttributeRight after) come.attributes (c.are_attributes_right.ensures holds) a listed).0;
    }
