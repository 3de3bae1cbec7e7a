use Rattle.std.proofs.Common.{codes, refl, ap, subst, arith}
use Rattle.std.specs.BTreeMap.{is_at}
use Rattle.std.specs.Map.{lookup}
use Rattle.std.specs.Ordering.{nat_cmp}
use Rattle.img_plan.specs.declared.files.FileTree.{FileTree}
use Rattle.img_plan.specs.Records.{directory_of}
use Rattle.img_plan.specs.Files.{AddsNamed}
use Rattle.img_plan.proofs.FilesSteps.{no_files}
use Rattle.img_plan.proofs.files.FileTree.new.Goals as goal

pub returns : goal.returns
returns c =
    let none : FileTree = record { names = c.args.names; inodes = c.new.result; items = c.new-2.result } in
    let first : AddsNamed (directory_of 2 1) (codes "root") none c.add.new.self = subst (λ p. AddsNamed p (codes "root") none c.add.new.self) c.directory.ensures (c.in_ok-add.ensures.adds (omega arith)) in
    let second : AddsNamed (directory_of 3 1) (codes "private-dir") c.add.new.self c.add-2.new.self = subst (λ p. AddsNamed p (codes "private-dir") c.add.new.self c.add-2.new.self) c.directory-private.ensures (c.in_ok-add-2.ensures.adds (omega arith)) in
    no_files c.args.names none c.add.new.self c.add-2.new.self refl (λ id. ap (λ es. lookup (is_at (nat_cmp id)) es) c.new.ensures.empty) c.new-2.ensures.items first second
