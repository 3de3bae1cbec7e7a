-- What one more record adds to what is kept of the facts of a view.
use Rattle.std.specs.Prelude.{ℕ, Bool, ◌==◌, ◌||◌, List, ◌++◌, option_map, option_to_list, Result}
use Rattle.apfs_model.specs.Lists.{value_of}
use Rattle.bt_node.specs.Entries.{Pair}
use Rattle.bt_keys.specs.RecordKey.{inode_record, attribute_record, sibling_link_record, file_extent_record, entry_record, sibling_map_record}
use Rattle.fs_record.specs.Attributes.{Attribute}
use Rattle.fs_record.specs.Facts.{Fact, fact_of, read_inode, read_entry, read_attribute, read_link, read_sibling, read_extent}
use Rattle.fs_record.specs.declared.fault.RecFault.{RecFault}
use Rattle.view_rules.specs.Facts.{Facts}
use Rattle.view_facts.specs.Contents.{brief, besides}

-- a fact of an id
abbrev pub fact_with : {X : Type 0} → ℕ → X → Fact X
fact_with id x = record { id = id; what = x }

-- the fact that a record of an id says, none where its reader refuses it
abbrev pub said_by : {X : Type 0} → ℕ → Result X RecFault → List (Fact X)
said_by id read = option_to_list (option_map (fact_with id) (value_of read))

-- what is kept of an attribute that a record of an id says
abbrev pub brief_said : ℕ → Result Attribute RecFault → List (Fact Attribute)
brief_said id read = option_to_list (option_map brief (option_map (fact_with id) (value_of read)))

-- records of a kind say something of files: those of inodes and of entries
abbrev pub is_file_record : ℕ → Bool
is_file_record kind = (kind == inode_record) || (kind == entry_record)

-- what is kept of the facts, or of those of files alone, and of what one more record says
abbrev pub facts_with : Bool → Facts → Pair → Facts
facts_with files facts pair = record {
  names = facts.names;
  inodes = facts.inodes ++ option_to_list (fact_of inode_record read_inode pair);
  entries = facts.entries ++ option_to_list (fact_of entry_record (read_entry facts.names) pair);
  attributes = facts.attributes ++ besides files (option_to_list (option_map brief (fact_of attribute_record read_attribute pair)));
  links = facts.links ++ besides files (option_to_list (fact_of sibling_link_record read_link pair));
  siblings = facts.siblings ++ besides files (option_to_list (fact_of sibling_map_record read_sibling pair));
  extents = facts.extents ++ besides files (option_to_list (fact_of file_extent_record read_extent pair));
}
