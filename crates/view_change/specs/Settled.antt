-- What two runs of facts have more and less than one another.
use Rattle.std.specs.Prelude.{◌≡◌, List, ◌++◌}
use Rattle.rule_changes.specs.Changes.{Weaves}
use Rattle.view_rules.specs.Facts.{Facts}

-- some of the items that were passed and of those that were read are the same; the others that were passed are gone too, and the others that were read have come too
pub record IsSettled {X : Type 0} (passed read gone more_gone come more_come : List X) : Type 0 where
  pub same : List X
  pub lost : List X
  pub made : List X
  pub left : Weaves passed same lost
  pub right : Weaves read same made
  pub gone_too : more_gone ≡ gone ++ lost
  pub come_too : more_come ≡ come ++ made

-- so it is of the facts of each kind
pub record AreSettled (passed read gone more_gone come more_come : Facts) : Type 0 where
  pub inodes : IsSettled passed.inodes read.inodes gone.inodes more_gone.inodes come.inodes more_come.inodes
  pub entries : IsSettled passed.entries read.entries gone.entries more_gone.entries come.entries more_come.entries
  pub attributes : IsSettled passed.attributes read.attributes gone.attributes more_gone.attributes come.attributes more_come.attributes
  pub links : IsSettled passed.links read.links gone.links more_gone.links come.links more_come.links
  pub siblings : IsSettled passed.siblings read.siblings gone.siblings more_gone.siblings come.siblings more_come.siblings
  pub extents : IsSettled passed.extents read.extents gone.extents more_gone.extents come.extents more_come.extents
  pub gone_names : more_gone.names ≡ gone.names
  pub come_names : more_come.names ≡ come.names
