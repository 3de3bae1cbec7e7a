use Rattle.std.proofs.Common.{◌≡◌, ◌∙◌, ◌++◌, ◌∷◌, [], ℕ, ap, sym, ◌+◌, ◌≤◌, length, arith}
use Rattle.nx_block.specs.Super.{jumpstart_of}
use Rattle.nx_ring.specs.Checkpoint.{Seen}
use Rattle.reach_rules.specs.declared.naming.LookUp.TheVariants.{ByBlock}
use Rattle.reach_rules.specs.declared.naming.Object.TheVariants.{Newest}
use Rattle.reach_rules.specs.declared.naming.Namer.TheVariants.{Whole}
use Rattle.reach_rules.specs.declared.naming.Expected.TheVariants.{Jumpstart}
use Rattle.reach_rules.specs.Owners.{told_from}
use Rattle.reach_gather.specs.Held.{some_owners}
use Rattle.reach_gather.specs.Steps.{block_owner}
use Rattle.reach_gather.proofs.Fields.{adds-zero}
use Rattle.reach_gather.proofs.Started.{jump_by, jump-adds}
use Rattle.reach_gather.specs.Jumped.{jump_root}
use Rattle.reach_gather.proofs.Noted.{noted-one, jump-none, jump-one, no-err}
use Rattle.reach_gather.proofs.jumping.add_jumpstart.Goals as goal

pub returns-then-block-eq0 : goal.returns-then-block-eq0
returns-then-block-eq0 g c = record {
  clear = (λ image told.
      let seen : Seen = c.args.cp.now in
      let by : c.jumpstart-block.result ≡ jumpstart_of seen.nx = c.jumpstart-block.ensures ∙ ap jumpstart_of c.nx.ensures in
      adds-zero image seen (Whole Newest) 1272 Jumpstart ByBlock (jumpstart_of seen.nx) c.args.out.now (sym by ∙ c.if-block-eq0.true));
  present = λ image told. tt;
  reads = (λ image told.
      let seen : Seen = c.args.cp.now in
      let by : c.jumpstart-block.result ≡ jumpstart_of seen.nx = c.jumpstart-block.ensures ∙ ap jumpstart_of c.nx.ensures in
      let few : g.S.BlockSource.reads c.jumpstart.new.src ≤ g.S.BlockSource.reads c.args.src.now + length (jump_root seen.nx) = c.in-Ok.ensures.reads in
      let none : length (jump_root seen.nx) ≡ 0 = jump-none seen.nx (sym by ∙ c.if-block-eq0.true) in
      omega (arith, few, none));
  cause = λ e. absurd (no-err _ _ e);
  kept = c.jumpstart.ensures.kept;
}

pub returns : goal.returns
returns g c = record {
  clear = (λ image told.
      let seen : Seen = c.args.cp.now in
      let by : c.jumpstart-block.result ≡ jumpstart_of seen.nx = c.jumpstart-block.ensures ∙ ap jumpstart_of c.nx.ensures in
      jump-adds image seen c.in-Ok.extents.items c.args.out.now c.note_block.new.self c.tell_those.new.self (c.in-Ok.ensures.clear image told) (λ z. c.if-block-eq0.false (by ∙ z))
      (c.in_ok-note_block.ensures.namings ∙ ap (λ (b : ℕ). c.args.out.now.namings ++ jump_by b ∷ []) by)
      (c.in_ok-note_block.ensures.owners ∙ ap (λ (b : ℕ). c.args.out.now.owners ++ block_owner (jump_by b) ∷ []) by)
      c.note_block.ensures.pool_owners
      c.tell_those.ensures.namings
      (c.in_ok-tell_those.ensures.owners ∙ ap (λ (b : ℕ). c.note_block.new.self.owners ++ some_owners (told_from (jump_by b) 0 c.in-Ok.extents.items)) by)
      c.tell_those.ensures.pool_owners);
  present = λ image told. tt;
  reads = (λ image told.
      let seen : Seen = c.args.cp.now in
      let few : g.S.BlockSource.reads c.jumpstart.new.src ≤ g.S.BlockSource.reads c.args.src.now + length (jump_root seen.nx) = c.in-Ok.ensures.reads in
      let most : length (jump_root seen.nx) ≤ 1 = jump-one seen.nx in
      let one : length c.note_block.new.self.namings ≡ length c.args.out.now.namings + 1 = noted-one c.args.out.now.namings c.note_block.new.self.namings (jump_by c.jumpstart-block.result) c.in_ok-note_block.ensures.namings in
      let same : length c.tell_those.new.self.namings ≡ length c.note_block.new.self.namings = ap length c.tell_those.ensures.namings in
      omega (arith, few, most, one, same));
  cause = λ e. absurd (no-err _ _ e);
  kept = c.jumpstart.ensures.kept;
}
