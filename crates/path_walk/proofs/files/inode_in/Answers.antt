use Rattle.std.proofs.Common.{◌∙◌, ◌<◌, length, sym, ap, arith}
use Rattle.std.proofs.lemmas.List.{get_or_read}
use Rattle.fs_record.specs.Inodes.{Inode}
use Rattle.fs_record.specs.Facts.{Fact, first_for}
use Rattle.path_walk.proofs.Rising.{inode_is, no_inode}
use Rattle.path_walk.proofs.files.inode_in.Goals as goal

pub returns-then-from-inodes : goal.returns-then-from-inodes
returns-then-from-inodes c facts same rise =
    no_inode c.args.id c.inodes_below-from.result c.args.inodes.now c.inodes_below-from.ensures.bound rise (c.inodes_below-from.ensures.split rise) (λ less d e. omega arith)
    ∙ ap (first_for c.args.id) same

pub returns-then-id : goal.returns-then-id
returns-then-id c facts same rise =
    let le = c.inodes_below-from.ensures.bound in
    let low : c.inodes_below-from.result < length c.args.inodes.now = omega arith in
    inode_is c.args.id c.inodes_below-from.result c.args.inodes.now c.index-inodes-from.result low c.index-inodes-from.is (c.inodes_below-from.ensures.split rise) (sym c.id.ensures ∙ c.if-id.true)
    ∙ ap (first_for c.args.id) same

pub returns-else-id : goal.returns-else-id
returns-else-id c facts same rise =
    no_inode c.args.id c.inodes_below-from.result c.args.inodes.now c.inodes_below-from.ensures.bound rise (c.inodes_below-from.ensures.split rise)
    (λ less d e. c.if-id.false (c.id.ensures ∙ (ap (λ (f : Fact Inode). f.id) (get_or_read c.args.inodes.now c.inodes_below-from.result c.index-inodes-from.result less c.index-inodes-from.is d) ∙ e)))
    ∙ ap (first_for c.args.id) same
