use Rattle.std.proofs.Common.{◌∷◌, ◌++◌, [], map, sym, subst, rules}
use Rattle.std.specs.List.{AllZip}
use Rattle.std.proofs.lemmas.List.Sorted.{answers_always}
use Rattle.std.proofs.lemmas.List.{map_push}
use Rattle.img_plan.specs.Records.{rank_of}
use Rattle.img_plan.specs.Files.{IsInode}
use Rattle.img_plan.proofs.FilesSteps.{pushed, zip_push}
use Rattle.img_plan.proofs.files.FileTree.items.Goals as goal

pub inodes-preserved : goal.inodes-preserved
inodes-preserved c =
    let was = c.inodes.invariant in
    let item = c.in_ok-inode.field-0 in
    let is_inode : IsInode c.in-Some.plan.now item = record { key = c.in_ok-inode.ensures.key; value = c.in_ok-inode.ensures.value } in
    let more = zip_push IsInode (map (λ plan. plan.now) c.inodes.yielded) was.0 c.in-Some.plan.now item was.1 is_inode in (
      was.0 ++ item ∷ [],
      subst (λ l. AllZip IsInode l (was.0 ++ item ∷ [])) (sym (map_push (λ plan. plan.now) c.inodes.yielded c.in-Some.plan)) more,
      pushed c.args.self.items.items was.0 c.inodes.items.items c.push.new.self.items item c.in_ok-push.ensures.items was.2,
    )

pub returns-clause-ordered : goal.returns-clause-ordered
returns-clause-ordered c = c.in_ok-sort_by_key.ensures.sorted (λ item. rank_of item.0.items) (answers_always _ _ _ (λ f a r q k. search rules))
