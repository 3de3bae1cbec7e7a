use Rattle.std.proofs.Common.{ℕ, List, get_or, ap, sym, ◌∙◌}
use Rattle.std.specs.Prelude.{◌==◌}
use Rattle.fs_record.specs.Inodes.{Inode, inode_kind}
use Rattle.fs_record.specs.Facts.{Fact}
use Rattle.rule_index.specs.declared.kin.Kin.{Kin}
use Rattle.rule_index.specs.Kins.{kin_place, has_kind}
use Rattle.rule_index.proofs.KinLooks.{kind-at}
use Rattle.rule_index.proofs.kin.Kins.has_kind_at.Goals as goal

pub returns : goal.returns
returns c =
    let f : Fact Inode = c.index-as_slice-at.result in
    λ id is.
    ap (λ (k : ℕ). k == c.args.kind) (c.kind.ensures ∙ ap (λ (g : Fact Inode). inode_kind g.what) (c.index-as_slice-at.is ∙ ap (λ (fs : List (Fact Inode)). get_or fs c.args.at f) c.as_slice.ensures))
    ∙ (kind-at c.self.inside.inodes id c.args.at c.args.kind f (is ∙ ap (λ (kins : List (ℕ × Kin)). kin_place kins id) (sym c.self.view_is)) ∙ ap (λ (kins : List (ℕ × Kin)). has_kind kins id c.args.kind) c.self.view_is)
