use Rattle.std.proofs.Common.{◌≡◌, ◌∙◌, ℕ, ap}
use Rattle.nx_block.specs.Super.{desc_base_of, desc_blocks_of, data_base_of, data_blocks_of, locker_of, media_locker_of}
use Rattle.reach_rules.specs.declared.owner.Who.TheVariants.{Descriptors, Checkpoints, KeyLocker, MediaLocker}
use Rattle.reach_sweep.proofs.Gathers.{told-as, first-told}
use Rattle.reach_sweep.proofs.gathering.tell_first.Goals as goal

pub returns-clause-owners : goal.returns-clause-owners
returns-clause-owners c =
    let nx = c.args.cp.now.nx in
    let keys : c.locker-key_locker.result ≡ locker_of nx = c.locker-key_locker.ensures ∙ ap locker_of c.nx-nx.ensures in
    let media : c.media_locker-media_locker.result ≡ media_locker_of nx = c.media_locker-media_locker.ensures ∙ ap media_locker_of c.nx-nx.ensures in
    first-told nx c.args.out.now.owners c.tell.new.self.owners c.tell-2.new.self.owners c.tell-3.new.self.owners c.tell-4.new.self.owners c.tell-5.new.self.owners
    c.in_ok-tell.ensures.owners
    (told-as Descriptors (desc_base_of nx) (desc_blocks_of nx) _ _ c.tell.new.self.owners c.tell-2.new.self.owners (c.desc_base.ensures ∙ ap desc_base_of c.nx-nx.ensures) (c.from.ensures ∙ (c.desc_blocks.ensures ∙ ap desc_blocks_of c.nx-nx.ensures)) c.in_ok-tell-2.ensures.owners)
    (told-as Checkpoints (data_base_of nx) (data_blocks_of nx) _ _ c.tell-2.new.self.owners c.tell-3.new.self.owners (c.data_base.ensures ∙ ap data_base_of c.nx-nx.ensures) (c.from-2.ensures ∙ (c.data_blocks.ensures ∙ ap data_blocks_of c.nx-nx.ensures)) c.in_ok-tell-3.ensures.owners)
    (told-as KeyLocker (locker_of nx).0 (locker_of nx).1 _ _ c.tell-3.new.self.owners c.tell-4.new.self.owners (ap (λ (r : ℕ × ℕ). r.0) keys) (ap (λ (r : ℕ × ℕ). r.1) keys) c.in_ok-tell-4.ensures.owners)
    (told-as MediaLocker (media_locker_of nx).0 (media_locker_of nx).1 _ _ c.tell-4.new.self.owners c.tell-5.new.self.owners (ap (λ (r : ℕ × ℕ). r.0) media) (ap (λ (r : ℕ × ℕ). r.1) media) c.in_ok-tell-5.ensures.owners)
