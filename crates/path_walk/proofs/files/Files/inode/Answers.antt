use Rattle.std.proofs.Common.{List, sym, subst, ◌∙◌}
use Rattle.fs_record.specs.Inodes.{Inode}
use Rattle.fs_record.specs.Facts.{Fact}
use Rattle.path_search.specs.Parts.{Rises}
use Rattle.path_walk.proofs.files.Files.inode.Goals as goal

pub returns : goal.returns
returns c facts r = c.inode_in.ensures facts (c.deref.ensures.value ∙ r.all_inodes) (subst (λ (l : List (Fact Inode)). Rises l) (sym c.deref.ensures.value) r.inodes_rise)
