-- A container is accounted, or a fault or a feature is present; and never both.
use Rattle.std.proofs.Common.{ℕ, List, ◌⊎◌, inl, inr}
use Rattle.nx_ring.specs.Checkpoint.{Seen}
use Rattle.reach_rules.specs.Accounted.{IsAccounted}
use Rattle.reach_rules.specs.Laws.{Flawed}
use Rattle.reach_rules.proofs.Alive.{live_or}
use Rattle.reach_rules.proofs.NamesDecided.{named_or, once_or, plain_or, trees_or, then_or}
use Rattle.reach_rules.proofs.SpaceDecided.{managed_or, shaped_or}
use Rattle.reach_rules.proofs.SettledDecided.{used_or, owners_list, owners-lists, pool_owners_list, pool-owners-lists, settled_or, pool_settled_or}
use Rattle.reach_rules.proofs.Refutes.{refutes, refutes-feature}

pub decided : (image : List ℕ) (seen : Seen) → IsAccounted image seen ⊎ Flawed image seen
decided image seen =
    then_or (live_or image seen) (λ live.
    then_or (named_or image seen live.0 live.1) (λ sound.
    then_or (once_or image seen live.0 live.1) (λ once.
    then_or (plain_or image seen live.0 live.1) (λ plain.
    then_or (trees_or image seen live.0 live.1 sound) (λ trees.
    then_or (used_or image seen live.0 live.1 sound) (λ used.
    then_or (managed_or image seen sound) (λ d.
    then_or (shaped_or image seen sound plain d) (λ shaped.
    then_or (settled_or image seen (owners_list image seen live.0) (owners-lists image seen live.0 live.1) sound d shaped) (λ settled.
    then_or (pool_settled_or image seen (pool_owners_list image seen live.0) (pool-owners-lists image seen live.0 live.1) d shaped) (λ pool.
    inl (record {
      names = record { named = sound; once = once; used = used };
      trees = trees;
      plain = plain;
      manager = d.object.bytes;
      block = d.object.block;
      managed = d.there;
      shaped = shaped;
      settled = settled;
      pool = pool;
    })))))))))))

-- what is present is so in no accounted container
pub flawed_refutes : (image : List ℕ) (seen : Seen) → Flawed image seen → IsAccounted image seen → ⊥
flawed_refutes image seen (inl t) w = refutes image seen t.0 t.1 w
flawed_refutes image seen (inr t) w = refutes-feature image seen t.0 t.1.0 t.1.1 w
