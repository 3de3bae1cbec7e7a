-- By which record a wanted object is found, whether it is sound, and what it wants in turn.
use Rattle.std.specs.Prelude.{ℕ, zero, suc, Bool, List, [], ◌∷◌, Option, Ok, Err, is_ok, option_map, option_and_then, slice_get}
use Rattle.apfs_model.specs.Blocks.{block_of, in_container}
use Rattle.apfs_model.specs.Lists.{through}
use Rattle.obj_base.specs.declared.site.Site.{Site}
use Rattle.bt_node.specs.Node.{level_of}
use Rattle.omap_map.specs.Resolve.{resolved}
use Rattle.omap_map.specs.declared.records.OmapRecord.{OmapRecord}
use Rattle.vol_view.specs.Volumes.{Loaded}
use Rattle.reach_rules.specs.declared.naming.TreeKind.TheVariants.{Files}
use Rattle.reach_rules.specs.Tested.{Answer, tested}
use Rattle.reach_rules.specs.Next.{children_in}
use Rattle.view_sweep.specs.declared.wanted.SweptView.{SweptView}
use Rattle.view_sweep.specs.declared.wanted.Want.{Want}
use Rattle.view_sweep.specs.declared.wanted.Want.TheVariants.{Root, Metadata, Node}
use Rattle.view_sweep.specs.declared.wanted.Wanted.{Wanted}
use Rattle.view_sweep.specs.declared.used.Used.{Used}
use Rattle.view_sweep.specs.declared.used.Hit.{Hit}
use Rattle.view_sweep.specs.Wanted.{wanted, expected_of}

-- the record of the map of a view that is used
abbrev pub used_by : SweptView → OmapRecord → Used
used_by v r = record { map = v.map; mapping = r }

abbrev pub used_of : Hit → Used
used_of h = used_by h.wanted.view h.mapping

-- the records of the map of a volume of some
abbrev pub records_at : List Loaded → ℕ → List OmapRecord
records_at volumes i = through (slice_get volumes i) (λ (volume : Loaded). volume.omap.records)

-- a record that gives a block of the container
abbrev pub placed : Site → OmapRecord → Option OmapRecord
placed site r = option_map (λ block. r) (in_container site.blocks r.paddr)

-- what is known of some views: by which record an object is found, and the bytes to which a record leads
pub record World : Type 0 where
  pub look : Wanted → Option OmapRecord
  pub bytes : OmapRecord → List ℕ
  pub site : Site

-- the record by which an object is found in the maps of some volumes
unfoldable pub looked : List Loaded → Site → Wanted → Option OmapRecord
looked volumes site w = option_and_then (placed site) (resolved (records_at volumes w.view.volume) w.oid w.view.xid)

-- the bytes of the block that a record gives
abbrev pub bytes_at : List ℕ → Site → OmapRecord → List ℕ
bytes_at image site r = block_of site.block_size image r.paddr

-- what is known by some volumes and an image
abbrev pub world : List Loaded → Site → List ℕ → World
world volumes site image = record { look = looked volumes site; bytes = bytes_at image site; site = site }

-- what the tests say of bytes, as an object is wanted
abbrev pub tested_as : Site → Wanted → List ℕ → Answer
tested_as site w bytes = tested site (expected_of w) w.oid bytes

-- sound as it is wanted
abbrev pub is_sound : Site → Wanted → List ℕ → Bool
is_sound site w bytes = is_ok (tested_as site w bytes)

-- the child that an entry of a node names, one level lower, of the same view
abbrev pub kid : SweptView → OmapRecord → ℕ → ℕ → ℕ → Wanted
kid v r level i oid = wanted v oid (Node level r i)

-- the children that a node names, the first of them by entry i
abbrev pub kids_from : SweptView → OmapRecord → ℕ → ℕ → List ℕ → List Wanted
kids_from v r level i [] = []
kids_from v r level i (oid ∷ oids) = kid v r level i oid ∷ kids_from v r level (suc i) oids

-- a node above level 0 names its children
abbrev pub kids_by : SweptView → OmapRecord → ℕ → List ℕ → List Wanted
kids_by v r zero oids = []
kids_by v r (suc level) oids = kids_from v r level 0 oids

-- what the bytes of a record want, as the object is wanted
abbrev pub wants_by : SweptView → Want → OmapRecord → List ℕ → List Wanted
wants_by v Root r bytes = kids_by v r (level_of bytes) (children_in (Files v.hashed) bytes)
wants_by v Metadata r bytes = []
wants_by v (Node level namer entry) r bytes = kids_by v r level (children_in (Files v.hashed) bytes)

abbrev pub wants_of : Wanted → OmapRecord → List ℕ → List Wanted
wants_of w r bytes = wants_by w.view w.want r bytes

-- what is wanted by a sound object
abbrev pub wants_if : Wanted → OmapRecord → List ℕ → Answer → List Wanted
wants_if w r bytes (Ok _) = wants_of w r bytes
wants_if w r bytes (Err bad) = []

-- what a wanted object wants in turn, by the record by which it is found
abbrev pub next_by : World → Wanted → Option OmapRecord → List Wanted
next_by k w o = through o (λ r. wants_if w r (k.bytes r) (tested_as k.site w (k.bytes r)))

unfoldable pub next_of : World → Wanted → List Wanted
next_of k w = next_by k w (k.look w)
