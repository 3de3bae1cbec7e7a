use Rattle.std.proofs.Common.{ℕ, List, Some, get_or, ◌≡◌, ap, sym, ◌∙◌}
use Rattle.fs_record.specs.Inodes.{Inode}
use Rattle.fs_record.specs.Facts.{Fact}
use Rattle.rule_index.specs.declared.kin.Kin.{Kin}
use Rattle.rule_index.specs.Kins.{kin_of, kin_in}
use Rattle.rule_index.proofs.KinLooks.{kin-there, kin-nowhere}
use Rattle.rule_index.proofs.kin.Kins.get.Goals as goal

pub returns-in_default : goal.returns-in_default
returns-in_default c = sym (kin-nowhere c.self.inside.inodes c.args.id c.in_default.ensures) ∙ ap (λ (kins : List (ℕ × Kin)). kin_in kins c.args.id) c.self.view_is

pub returns : goal.returns
returns c =
    let f : Fact Inode = c.index-as_slice-at.result in
    let there : f ≡ get_or c.self.inside.inodes c.in-Some.at f = c.index-as_slice-at.is ∙ ap (λ (fs : List (Fact Inode)). get_or fs c.in-Some.at f) c.as_slice.ensures in
    (λ i. Some (record { kind = c.kind.ensures i; parent = c.parent.ensures i }))
    ∙ (ap (λ (g : Fact Inode). Some (kin_of g.what)) there
    ∙ (sym (kin-there c.self.inside.inodes c.args.id c.in-Some.at f c.in-Some.ensures) ∙ ap (λ (kins : List (ℕ × Kin)). kin_in kins c.args.id) c.self.view_is))
