-- What a line asks for, with its texts as bytes.
use Rattle.std.specs.Prelude.{ℕ, Bool, Option}
use Rattle.cmd_words.specs.Said.{Text}

-- a path, and the view in which it is looked up
pub record AskedTarget : Type 0 where
  pub path : Text
  pub volume : Option ℕ
  pub snapshot : Option Text

-- which flags were said
pub record AskedFlags : Type 0 where
  -- the container isn't checked first
  pub quick : Bool
  -- what is a note otherwise is a fault
  pub strict : Bool

-- what a line asks for, with its words beside the image
pub data Asked : Type 0 where
  -- the candidates of the descriptor ring
  Ring : Asked
  -- the newest checkpoint
  Info : Asked
  -- the volumes
  Volumes : Asked
  -- the space that is in use and free
  Space : Asked
  -- whether the container is well-formed, strictly where the flag is true
  Check : Bool → Asked
  -- the snapshots of a volume
  Snapshots : Option ℕ → Asked
  -- how many blocks each view of a volume keeps from being freed
  Usage : Option ℕ → Asked
  -- what a directory has
  Ls : AskedFlags → AskedTarget → Asked
  -- what is under a directory
  Tree : AskedFlags → AskedTarget → Asked
  -- the bytes of a file
  Cat : AskedFlags → AskedTarget → Asked
  -- the extended attributes, or the bytes of the one that is named
  Xattr : AskedFlags → AskedTarget → Option Text → Asked
  -- what a view has, put into a directory
  Export : AskedTarget → Asked
