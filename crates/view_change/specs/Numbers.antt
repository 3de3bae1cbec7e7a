-- The facts of each kind, by their numbers.
use Rattle.std.specs.Prelude.{◌-◌, [], ◌++◌, length, take, drop}
use Rattle.fs_name.specs.declared.naming.Names.{Names}
use Rattle.view_rules.specs.Facts.{Facts}
use Rattle.view_change.specs.declared.kept.Numbers.{Numbers}

-- how many facts of each kind there are
abbrev pub numbers_of : Facts → Numbers
numbers_of facts = record {
  inodes = length facts.inodes;
  entries = length facts.entries;
  attributes = length facts.attributes;
  links = length facts.links;
  siblings = length facts.siblings;
  extents = length facts.extents;
}

-- what is more than other numbers
abbrev pub numbers_since : Numbers → Numbers → Numbers
numbers_since numbers before = record {
  inodes = numbers.inodes - before.inodes;
  entries = numbers.entries - before.entries;
  attributes = numbers.attributes - before.attributes;
  links = numbers.links - before.links;
  siblings = numbers.siblings - before.siblings;
  extents = numbers.extents - before.extents;
}

-- no facts
abbrev pub no_facts_under : Names → Facts
no_facts_under names = record {
  names = names;
  inodes = [];
  entries = [];
  attributes = [];
  links = [];
  siblings = [];
  extents = [];
}

-- some facts, and others after them, kind by kind
abbrev pub joined : Facts → Facts → Facts
joined facts others = record {
  names = facts.names;
  inodes = facts.inodes ++ others.inodes;
  entries = facts.entries ++ others.entries;
  attributes = facts.attributes ++ others.attributes;
  links = facts.links ++ others.links;
  siblings = facts.siblings ++ others.siblings;
  extents = facts.extents ++ others.extents;
}

-- the first facts of each kind
abbrev pub first_facts : Numbers → Facts → Facts
first_facts numbers facts = record {
  names = facts.names;
  inodes = take numbers.inodes facts.inodes;
  entries = take numbers.entries facts.entries;
  attributes = take numbers.attributes facts.attributes;
  links = take numbers.links facts.links;
  siblings = take numbers.siblings facts.siblings;
  extents = take numbers.extents facts.extents;
}

-- the facts of each kind after the first ones
abbrev pub rest_facts : Numbers → Facts → Facts
rest_facts numbers facts = record {
  names = facts.names;
  inodes = drop numbers.inodes facts.inodes;
  entries = drop numbers.entries facts.entries;
  attributes = drop numbers.attributes facts.attributes;
  links = drop numbers.links facts.links;
  siblings = drop numbers.siblings facts.siblings;
  extents = drop numbers.extents facts.extents;
}

-- some facts behind others, kind by kind; names are compared as for them
abbrev pub behind : Facts → Facts → Facts
behind others facts = record {
  names = facts.names;
  inodes = others.inodes ++ facts.inodes;
  entries = others.entries ++ facts.entries;
  attributes = others.attributes ++ facts.attributes;
  links = others.links ++ facts.links;
  siblings = others.siblings ++ facts.siblings;
  extents = others.extents ++ facts.extents;
}
