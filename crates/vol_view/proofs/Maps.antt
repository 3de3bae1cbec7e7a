-- What is looked up in a volume's map.
use Rattle.std.specs.Prelude.{◌≡◌, ℕ, Bool, true, false, List, None, cond, refl}
use Rattle.obj_base.specs.declared.site.Site.{Site}
use Rattle.omap_map.specs.Resolve.{latest, resolved, resolve, named_by}
use Rattle.omap_map.specs.Maps.{Contents, contents_of, is_whole_map}
use Rattle.omap_map.specs.Loading.{named_in}
use Rattle.vol_view.specs.Volumes.{empty_map, map_or_empty}

named-step : (b : Bool) (c : Contents) (x blocks oid : ℕ) → named_by (cond b c empty_map).records x blocks oid ≡ cond b (named_by c.records x blocks oid) None
unfolding named_by resolve resolved latest
named-step true c x blocks oid = refl
named-step false c x blocks oid = refl

-- an id names a block in the map of a volume as in its image
pub named-in_image : (image : List ℕ) (site : Site) (block x oid : ℕ) → named_by (map_or_empty image site block).records x site.blocks oid ≡ named_in image site block x oid
unfolding map_or_empty named_in
named-in_image image site block x oid = named-step (is_whole_map image site block) (contents_of image site block) x site.blocks oid
