-- What an answer on a tree needs of a view.
use Rattle.std.specs.Prelude.{ℕ, List}
use Rattle.obj_base.specs.declared.site.Site.{Site}
use Rattle.vol_view.specs.Volumes.{Loaded}
use Rattle.vol_view.specs.declared.volume.View.{View}
use Rattle.view_rules.specs.Rules.{view_facts}
use Rattle.path_search.specs.Needs.{HasAll, HasEntriesOf, PathNeeds}

-- what the tree of a path needs: all records of the view, and what the path needs
pub record TreeNeeds (image : List ℕ) (site : Site) (volume : Loaded) (view : View) (path : List ℕ) : Type 0 where
  pub all : HasAll image site volume view
  pub led : PathNeeds (view_facts image site volume view) (HasEntriesOf image site volume view) path
