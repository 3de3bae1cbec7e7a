use Rattle.std.proofs.Common.{ℕ, ◌≤◌, List, length, sym, subst}
use Rattle.nx_ring.proofs.Fitting.{read_long}
use Rattle.nx_ring.proofs.view.Checkpoint.of.Goals as goal

pub nx_read-requires-clause-long : goal.nx_read-requires-clause-long
nx_read-requires-clause-long c =
    let P : List ℕ → Type 0 = λ bytes. 4096 ≤ length bytes in
    subst P (sym c.deref.ensures.value) (read_long c.args.superblock.items c.requires.read).1
