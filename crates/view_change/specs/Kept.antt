-- What is kept of a view.
use Rattle.std.specs.Prelude.{◌≡◌, ℕ, List, map, length, None, All}
use Rattle.apfs_model.specs.Counts.{given}
use Rattle.obj_base.specs.declared.site.Site.{Site}
use Rattle.bt_node.specs.Shape.{Shape}
use Rattle.bt_node.specs.Entries.{Pair}
use Rattle.fs_name.specs.declared.naming.Names.{Names}
use Rattle.fs_record.specs.Facts.{refused}
use Rattle.view_rules.specs.Facts.{Facts, facts_in}
use Rattle.view_facts.specs.Contents.{brief_facts}
use Rattle.view_change.specs.declared.leaf.Leaf.{Leaf}
use Rattle.view_change.specs.declared.kept.KeptLeaf.{KeptLeaf}
use Rattle.view_change.specs.declared.kept.Held.{Held}
use Rattle.view_change.specs.declared.kept_view.KeptView.{KeptView}
use Rattle.view_change.specs.Leaves.{records_of, records_in}
use Rattle.view_change.specs.Ends.{HasEnds}
use Rattle.view_change.specs.Numbers.{numbers_of}

-- the facts of a view that is kept
abbrev pub facts_of : KeptView → Facts
facts_of view = view.held.facts

-- the number of its records, as it is given
abbrev pub records_kept : KeptView → ℕ
records_kept view = view.held.records

-- the leaf of what is kept of one
abbrev pub leaf_of : KeptLeaf → Leaf
leaf_of kept = kept.leaf

-- the leaves of a view that is kept
abbrev pub leaves_of : KeptView → List Leaf
leaves_of view = map leaf_of view.held.leaves.items

-- what is kept of the facts that some records say
abbrev pub facts_said : Names → List Pair → Facts
facts_said names pairs = brief_facts (facts_in names pairs)

-- no reader refuses its record
abbrev pub AreReadable : Names → List Pair → Type 0
AreReadable names pairs = All (λ (pair : Pair). refused names pair ≡ None) pairs

-- what is kept of a leaf is right: its ends, how many facts its records say, and that they can be read
pub record IsKeptLeaf {K : Type 0} (shape : Shape K) (site : Site) (image : List ℕ) (names : Names) (kept : KeptLeaf) : Type 0 where
  pub ends : HasEnds shape site image kept.leaf kept.ends
  pub numbers : kept.numbers ≡ numbers_of (facts_said names (records_of shape site image kept.leaf))
  pub readable : AreReadable names (records_of shape site image kept.leaf)

-- what is kept of some leaves is right, and these facts are what is kept of those that their records say
pub record AreKept {K : Type 0} (shape : Shape K) (site : Site) (image : List ℕ) (names : Names) (kept : List KeptLeaf) (facts : Facts) : Type 0 where
  pub each : All (IsKeptLeaf shape site image names) kept
  pub said : facts ≡ facts_said names (records_in shape site image (map leaf_of kept))

-- this is what is kept of some leaves
pub record IsHeld {K : Type 0} (shape : Shape K) (site : Site) (image : List ℕ) (names : Names) (leaves : List Leaf) (held : Held) : Type 0 where
  pub listed : map leaf_of held.leaves.items ≡ leaves
  pub kept : AreKept shape site image names held.leaves.items held.facts
  pub records : held.records ≡ given (length (records_in shape site image leaves))

-- this is what is kept of a view with some leaves
abbrev pub IsKeptView : {K : Type 0} → Shape K → Site → List ℕ → Names → List Leaf → KeptView → Type 0
IsKeptView shape site image names leaves view = IsHeld shape site image names leaves view.held
