-- What a source keeps from call to call, and how long what it tells is.
use Rattle.std.specs.Prelude.{◌≡◌, ℕ, ◌≤◌, List, Option, Some, length}

-- a source after some calls: its bytes and its size are those that it had, and it has failed no less often
pub record IsKept {S : Type 0} (bytes : S → Option (List ℕ)) (size faults : S → ℕ) (old new : S) : Type 0 where
  pub same_bytes : bytes new ≡ bytes old
  pub same_size : size new ≡ size old
  pub later : faults old ≤ faults new

-- what a source tells is a list as long as the one that it holds
pub told_length : (held image : List ℕ) → Some held ≡ Some image → length image ≡ length held
told_length held image e = Prim.cc
