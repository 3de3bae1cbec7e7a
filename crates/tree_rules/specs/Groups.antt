-- The rules on the facts of a view in groups, in the order in which they are tested.
use Rattle.std.specs.Prelude.{◌≡◌, true, false}
use Rattle.view_rules.specs.Facts.{Facts}
use Rattle.view_rules.specs.Names.{HasDistinctEntries, HasDistinctAttributes, HasAsciiHashes, HasNameHashes}
use Rattle.view_rules.specs.Entries.{HasParents, HasFiles, HasKinds, has_root}
use Rattle.view_rules.specs.Directories.{HasDirNames, HasWays, is_root_named}
use Rattle.view_rules.specs.Counts.{HasChildren, HasLinks}
use Rattle.view_rules.specs.Siblings.{HasEntryFellows, HasLinkFellows, HasMapFellows, HasMarks}
use Rattle.view_rules.specs.Extents.{HasExtentOrder, HasExtentPlaces, HasCover}
use Rattle.view_rules.specs.Inodes.{HasTargets, HasStreamSizes, HasBodySizes, HasOwners}
use Rattle.view_rules.specs.declared.profile.Profile.TheVariants.{Strict}
use Rattle.rule_breaks.specs.declared.faults.Asked.{Asked}

-- those on names
abbrev pub HasNameRules : Facts → Type 0
HasNameRules facts = HasDistinctEntries facts × (HasDistinctAttributes facts × HasAsciiHashes facts)

-- those on entries
abbrev pub HasEntryRules : Facts → Type 0
HasEntryRules facts = HasParents facts × (HasFiles facts × ((has_root facts ≡ true) × HasKinds facts))

-- those on the names of directories
abbrev pub HasDirectoryNameRules : Facts → Type 0
HasDirectoryNameRules facts = HasDirNames facts × (is_root_named facts ≡ false)

-- those on what is counted
abbrev pub HasCountRules : Facts → Type 0
HasCountRules facts = HasChildren facts × HasLinks facts

-- those on directories, and on the ways to them and what they count
abbrev pub HasDirectoryRules : Facts → Type 0
HasDirectoryRules facts = HasDirectoryNameRules facts × (HasWays facts × HasCountRules facts)

-- those on how files are named
abbrev pub HasNamingRules : Facts → Type 0
HasNamingRules facts = HasNameRules facts × (HasEntryRules facts × HasDirectoryRules facts)

-- those on siblings
abbrev pub HasSiblingRules : Facts → Type 0
HasSiblingRules facts = HasEntryFellows facts × (HasLinkFellows facts × (HasMapFellows facts × HasMarks facts))

-- those on extents
abbrev pub HasExtentRules : Asked → Facts → Type 0
HasExtentRules asked facts = HasExtentOrder asked.site.now.block_size facts × (HasExtentPlaces asked.site.now.block_size asked.site.now.blocks facts × HasCover asked.site.now.block_size asked.ranges.now facts)

-- those on inodes
abbrev pub HasInodeRules : Facts → Type 0
HasInodeRules facts = HasTargets facts × (HasStreamSizes facts × (HasBodySizes facts × HasOwners facts))

-- those on hashes of names that aren't ASCII
abbrev pub HasHashRules : Asked → Facts → Type 0
HasHashRules asked facts = asked.profile ≡ Strict → HasNameHashes facts

-- those on extents and those after them
abbrev pub HasRulesFromExtents : Asked → Facts → Type 0
HasRulesFromExtents asked facts = HasExtentRules asked facts × (HasInodeRules facts × HasHashRules asked facts)

-- those on what files have
abbrev pub HasContentRules : Asked → Facts → Type 0
HasContentRules asked facts = HasSiblingRules facts × HasRulesFromExtents asked facts
