-- What is wanted of views, as namings.
use Rattle.std.specs.Prelude.{◌≡◌, ℕ, ◌+◌, ◌<◌, ◌==◌, List, [], ◌∷◌, flat_map, if◌then◌else◌}
use Rattle.apfs_model.specs.Lists.{In}
use Rattle.reach_rules.specs.declared.naming.ViewAt.{ViewAt}
use Rattle.reach_rules.specs.declared.naming.LookUp.TheVariants.{InView}
use Rattle.reach_rules.specs.declared.naming.Object.TheVariants.{OfRecord}
use Rattle.reach_rules.specs.declared.naming.Namer.{Namer}
use Rattle.reach_rules.specs.declared.naming.Namer.TheVariants.{Whole}
use Rattle.reach_rules.specs.declared.naming.TreeKind.TheVariants.{Files}
use Rattle.reach_rules.specs.declared.naming.Expected.{Expected}
use Rattle.reach_rules.specs.declared.naming.Expected.TheVariants.{ExtendedMetadata, TreeRoot, TreeNode}
use Rattle.reach_rules.specs.declared.naming.Naming.{Naming}
use Rattle.reach_rules.specs.Naming.{naming}
use Rattle.view_sweep.specs.declared.wanted.SweptView.{SweptView}
use Rattle.view_sweep.specs.declared.wanted.Head.{Head}
use Rattle.view_sweep.specs.declared.wanted.Want.{Want}
use Rattle.view_sweep.specs.declared.wanted.Want.TheVariants.{Root, Metadata, Node}
use Rattle.view_sweep.specs.declared.wanted.Wanted.{Wanted}

-- the view, as namings have it
abbrev pub view_at : SweptView → ViewAt
view_at v = record { slot = v.slot; place = v.place; xid = v.xid; map = v.map; hashed = v.hashed }

-- an object that is wanted of a view, by its parts
abbrev pub wanted : SweptView → ℕ → Want → Wanted
wanted v oid want = record { view = v; oid = oid; want = want }

-- the superblock of a view wants the root of its files, and its extended metadata where it has some
abbrev pub head_wants : Head → List Wanted
head_wants h = wanted h.view h.root_oid Root ∷ (if h.meta_ext == 0 then [] else wanted h.view h.meta_ext Metadata ∷ [])

-- what the superblocks of some views want
abbrev pub heads_want : List Head → List Wanted
heads_want heads = flat_map head_wants heads

-- the number of what is expected, whoever names it
abbrev pub number_by : Want → ℕ
number_by Root = 0
number_by Metadata = 1
number_by (Node level namer entry) = level + 2

-- what is expected, as namings have it
abbrev pub expected_by : SweptView → Want → Expected
expected_by v Root = TreeRoot (Files v.hashed)
expected_by v Metadata = ExtendedMetadata
expected_by v (Node level namer entry) = TreeNode (Files v.hashed) level

abbrev pub expected_of : Wanted → Expected
expected_of w = expected_by w.view w.want

-- who names it: a superblock, which is known by the view, or a node
abbrev pub namer_by : (SweptView → Namer) → SweptView → Want → Namer
namer_by supers v Root = supers v
namer_by supers v Metadata = supers v
namer_by supers v (Node level namer entry) = Whole (OfRecord v.map namer)

-- the position in the namer: the byte of a superblock's field, or the number of a node's entry
abbrev pub position_of : Want → ℕ
position_of Root = 136
position_of Metadata = 1000
position_of (Node level namer entry) = entry

-- what is wanted, as a naming; of each view the namer of its head is known
abbrev pub naming_of : (SweptView → Namer) → Wanted → Naming
naming_of supers w = naming (namer_by supers w.view w.want) (position_of w.want) (expected_of w) (InView (view_at w.view)) w.oid

-- a view is told by its slot and its place
abbrev pub AreTold : List Wanted → Type 0
AreTold ws = (a b : Wanted) → In a ws → In b ws → a.view.slot ≡ b.view.slot → a.view.place ≡ b.view.place → a.view ≡ b.view

-- a view is told by its slot and its place, of some that are handed in
abbrev pub AreToldHeads : List Head → Type 0
AreToldHeads heads = (a b : Head) → In a heads → In b heads → a.view.slot ≡ b.view.slot → a.view.place ≡ b.view.place → a.view ≡ b.view

-- the volume of each view is one of so many
abbrev pub AreBelowHeads : ℕ → List Head → Type 0
AreBelowHeads volumes heads = (h : Head) → In h heads → h.view.volume < volumes

-- what is wanted is wanted of some views
abbrev pub AreOfHeads : List Head → List Wanted → Type 0
AreOfHeads heads ws = (w : Wanted) → In w ws → (h : Head) × (In h heads × (w.view ≡ h.view))
