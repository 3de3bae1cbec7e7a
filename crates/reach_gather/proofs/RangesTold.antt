-- How many objects are named, by the parts of a container and its views.
use Rattle.std.specs.Prelude.{ℕ, List, refl}
use Rattle.nx_ring.specs.Checkpoint.{Seen}
use Rattle.reach_gather.specs.Ranges.{RangesTold}
use Rattle.reach_gather.proofs.ViewParts.{joined-tells}

pub ranges-told : (image : List ℕ) (seen : Seen) → RangesTold image seen
ranges-told image seen = record {
  objects = λ all views records objects j a into back.
      let l = (joined-tells image seen all views records j).objects in
      record { all = objects; lists = ((λ x h. l.0 x (into x h)), (λ x n. back x (l.1 x n))); apart = a; same = refl };
}
