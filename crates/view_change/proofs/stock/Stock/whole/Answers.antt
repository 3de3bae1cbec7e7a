use Rattle.std.proofs.Common.{◌&&◌}
use Rattle.apfs_model.proofs.BoolTests.{left-true, right-true}
use Rattle.view_change.proofs.stock.Stock.whole.Goals as goal

pub returns-clause-order : goal.returns-clause-order
returns-clause-order c t =
    let inodes = c.in_ok-inodes.inodes in
    let entries = c.in_ok-entries.entries in
    let attributes = c.in_ok-attributes.attributes in
    let links = c.in_ok-links.links in
    let siblings = c.in_ok-siblings.siblings in
    let extents = c.in_ok-extents.extents in
    let five = left-true ((((inodes && entries) && attributes) && links) && siblings) extents t in
    let four = left-true (((inodes && entries) && attributes) && links) siblings five in
    let three = left-true ((inodes && entries) && attributes) links four in
    let two = left-true (inodes && entries) attributes three in
    record {
      inodes = c.in_ok-inodes.ensures.order (left-true inodes entries two);
      entries = c.in_ok-entries.ensures.order (right-true inodes entries two);
      attributes = c.in_ok-attributes.ensures.order (right-true (inodes && entries) attributes three);
      links = c.in_ok-links.ensures.order (right-true ((inodes && entries) && attributes) links four);
      siblings = c.in_ok-siblings.ensures.order (right-true (((inodes && entries) && attributes) && links) siblings five);
      extents = c.in_ok-extents.ensures.order (right-true ((((inodes && entries) && attributes) && links) && siblings) extents t);
    }
