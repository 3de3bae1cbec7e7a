-- What is kept of an attribute's contents: of those that stand in the record, the target of a symbolic link alone.
use Rattle.std.specs.Prelude.{ℕ, Bool, true, false, List, [], map, bytes_eq, if◌then◌else◌}
use Rattle.fs_record.specs.Attributes.{Body, Embedded, Streamed, Attribute}
use Rattle.fs_record.specs.Facts.{Fact}
use Rattle.view_rules.specs.Facts.{Facts}
use Rattle.view_rules.specs.Inodes.{target_name}
use Rattle.view_facts.specs.declared.contents.Contents.{Contents}
use Rattle.view_facts.specs.declared.contents.Contents.TheVariants as kept

-- an attribute's body, by what is kept of it
abbrev pub body_of : Contents → Body
body_of (kept.Embedded bytes) = Embedded bytes.items
body_of (kept.Stream id size) = Streamed id size

-- what is kept of the body of an attribute of a name
abbrev pub brief_body : List ℕ → Body → Body
brief_body name (Embedded bytes) = Embedded (if bytes_eq name target_name then bytes else [])
brief_body name (Streamed id size) = Streamed id size

-- what is kept of an attribute
abbrev pub brief : Fact Attribute → Fact Attribute
brief f = record { id = f.id; what = record { name = f.what.name; body = brief_body f.what.name f.what.body } }

-- what is kept of the facts of a view
abbrev pub brief_facts : Facts → Facts
brief_facts facts = record {
  names = facts.names;
  inodes = facts.inodes;
  entries = facts.entries;
  attributes = map brief facts.attributes;
  links = facts.links;
  siblings = facts.siblings;
  extents = facts.extents;
}

-- facts of a kind that says nothing of files: none are kept of files alone
abbrev pub besides : {X : Type 0} → Bool → List X → List X
besides true facts = []
besides false facts = facts

-- what is kept of the facts of a view, or of its files alone
abbrev pub kept_facts : Bool → Facts → Facts
kept_facts files facts = record {
  names = facts.names;
  inodes = facts.inodes;
  entries = facts.entries;
  attributes = besides files (map brief facts.attributes);
  links = besides files facts.links;
  siblings = besides files facts.siblings;
  extents = besides files facts.extents;
}
