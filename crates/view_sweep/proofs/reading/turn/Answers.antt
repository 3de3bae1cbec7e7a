use Rattle.std.proofs.Common.{length, ap, ◌∙◌, inr, ◌≡◌, IfSome, Option, refl, subst}
use Rattle.apfs_model.specs.Blocks.{block_of}
use Rattle.view_sweep.specs.declared.used.Used.{Used}
use Rattle.view_sweep.specs.Found.{bytes_at}
use Rattle.view_sweep.proofs.Buffers.{over, no-err}
use Rattle.view_sweep.proofs.reading.turn.Goals as goal

pub returns-then-is_held-clause-found : goal.returns-then-is_held-clause-found
returns-then-is_held-clause-found g c = λ image told.
    subst (λ (o : Option Used). IfSome o (λ u. c.args.block.now.items ≡ bytes_at image c.args.site.now u.mapping)) (c.if-is_held.ensures.held refl) (c.requires.held image told)

pub returns-clause-long : goal.returns-clause-long
returns-clause-long g c =
    ap length (over c.args.block.now.items c.read_block.new.into c.args.block.now.len (c.read_block.ensures.long ∙ c.deref_mut.ensures.len))
    ∙ (c.read_block.ensures.long ∙ (ap length c.deref_mut.ensures.value ∙ c.requires.long))

pub returns-in_err-read_block-clause-long : goal.returns-in_err-read_block-clause-long
returns-in_err-read_block-clause-long g c =
    ap length (over c.args.block.now.items c.read_block.new.into c.args.block.now.len (c.read_block.ensures.long ∙ c.deref_mut.ensures.len))
    ∙ (c.read_block.ensures.long ∙ (ap length c.deref_mut.ensures.value ∙ c.requires.long))

pub returns-in_err-push-clause-long : goal.returns-in_err-push-clause-long
returns-in_err-push-clause-long g c =
    ap length (over c.args.block.now.items c.read_block.new.into c.args.block.now.len (c.read_block.ensures.long ∙ c.deref_mut.ensures.len))
    ∙ (c.read_block.ensures.long ∙ (ap length c.deref_mut.ensures.value ∙ c.requires.long))

pub returns-clause-found : goal.returns-clause-found
returns-clause-found g c = λ image told.
    over c.args.block.now.items c.read_block.new.into c.args.block.now.len (c.read_block.ensures.long ∙ c.deref_mut.ensures.len)
    ∙ (c.in_ok-read_block.ensures.found image told ∙ ap (λ n. block_of n image c.args.used.mapping.paddr) (ap length c.deref_mut.ensures.value ∙ c.requires.long))

pub returns-clause-cause : goal.returns-clause-cause
returns-clause-cause g c = λ e. absurd (no-err _ _ e)

pub returns-clause-turned : goal.returns-clause-turned
returns-clause-turned g c = inr (c.if-is_held.ensures.other refl, c.in_ok-push.ensures.items)
