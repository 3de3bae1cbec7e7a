use Rattle.std.proofs.lemmas.Result.{on_ok_weaker}
use Rattle.img_plan.proofs.FilesSteps.{named}
use Rattle.img_plan.proofs.files.FileTree.add.Goals as goal

pub returns-clause-adds : goal.returns-clause-adds
returns-clause-adds c = λ short.
    on_ok_weaker c.name.result (λ added. named c.args.plan c.args.name.now c.args.self.now c.inode.new.self c.name.new.self c.in_ok-inode.ensures.adds added) (c.name.ensures.adds short)
