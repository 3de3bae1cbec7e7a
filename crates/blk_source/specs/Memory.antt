-- Sources and a sink in memory, as contracts see them: without where their bytes lie.
use Rattle.std.specs.Prelude.{ℕ, List}

-- a source that fails at the reads of these numbers, counted from 1
pub record Memory : Type 0 where
  pub bytes : List ℕ
  pub fails : List ℕ
  pub reads : ℕ
  pub faults : ℕ

-- a source that never fails
pub record Sure : Type 0 where
  pub bytes : List ℕ
  pub reads : ℕ

-- a sink that fails at the puts of these numbers, counted from 1, and where its room is too small
pub record MemorySink : Type 0 where
  pub contents : List ℕ
  pub room : ℕ
  pub fails : List ℕ
  pub puts : ℕ
  pub faults : ℕ
