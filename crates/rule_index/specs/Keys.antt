-- Counts of facts by numbers and a name.
use Rattle.std.specs.Prelude.{◌≡◌, ℕ, Bool, List, count_by, ◌==◌, ◌&&◌, bytes_eq, Option, None, Some, option_map, [], if◌then◌else◌}
use Rattle.std.specs.declared.cmp.Ordering.{Ordering}
use Rattle.std.specs.Ordering.{nat_cmp, on, then_cmp, is_eq, as_partial_cmp}
use Rattle.std.specs.Cmp.{IsTotalOrder, IsPartialOrder, partial_order_from_own_ties, partial_order_from_total}
use Rattle.std.specs.Cmp.Lexicographic.{slice_cmp}
use Rattle.std.specs.Cmp.Rules.{comparing}
use Rattle.std.proofs.Common.{rules}
use Rattle.std.proofs.lemmas.Cmp.{then_total, on_total, nat_cmp_total, nat_list_cmp_total}
use Rattle.apfs_model.specs.Lists.{passes}
use Rattle.fs_record.specs.Entries.{Entry}
use Rattle.fs_record.specs.Attributes.{Attribute}
use Rattle.fs_record.specs.Siblings.{Link}
use Rattle.fs_record.specs.Facts.{Fact, private_id}
use Rattle.view_rules.specs.Facts.{Facts, is_system_id}
use Rattle.view_rules.specs.Siblings.{is_twin, has_link}

-- what facts are counted by: three numbers and a name
pub record Key : Type 0 where
  pub first : ℕ
  pub second : ℕ
  pub third : ℕ
  pub name : List ℕ

-- the order of keys
abbrev pub key_cmp : Key → Key → Ordering
key_cmp = then_cmp (on (λ k. k.first) nat_cmp) (then_cmp (on (λ k. k.second) nat_cmp) (then_cmp (on (λ k. k.third) nat_cmp) (on (λ k. k.name) (slice_cmp nat_cmp))))

-- two keys are the same
abbrev pub is_same_key : Key → Key → Bool
is_same_key a b = (a.first == b.first) && ((a.second == b.second) && ((a.third == b.third) && bytes_eq a.name b.name))

-- the order is total
pub key_total : IsTotalOrder key_cmp
key_total = then_total (on_total (λ k. k.first) nat_cmp_total) (then_total (on_total (λ k. k.second) nat_cmp_total) (then_total (on_total (λ k. k.third) nat_cmp_total) (on_total (λ k. k.name) nat_list_cmp_total)))

-- keys that tie are the same
pub key_ties : (a b : Key) → is_same_key a b ≡ is_eq (key_cmp a b)
key_ties a b = Prim.search (comparing, rules)

-- the order as a partial one
pub key_partial : IsPartialOrder is_same_key (as_partial_cmp key_cmp)
key_partial = partial_order_from_own_ties {E = is_same_key} {C = as_partial_cmp key_cmp} (partial_order_from_total key_total) key_ties

-- an item has a key
abbrev pub has_key : {T : Type 0} → (T → Option Key) → Key → T → Bool
has_key key q x = passes (key x) (λ k. is_same_key k q)

-- how often a key stands in a list
unfoldable pub key_count : List Key → Key → ℕ
key_count keys q = count_by (λ k. is_same_key k q) keys

-- a list has each key as often as some items have it
abbrev pub CountsKeys : {T : Type 0} → (T → Option Key) → List T → List Key → Type 0
CountsKeys key items keys = (q : Key) → key_count keys q ≡ count_by (has_key key q) items

-- a directory or a file, and a name in it
abbrev pub place_key : ℕ → List ℕ → Key
place_key id name = record { first = id; second = 0; third = 0; name = name }

-- where an entry stands
abbrev pub entry_key : Fact Entry → Option Key
entry_key e = Some (place_key e.id e.what.name)

-- where an attribute stands
abbrev pub attribute_key : Fact Attribute → Option Key
attribute_key a = Some (place_key a.id a.what.name)

-- what an entry and its link have in common: the file, the sibling, the directory and the name
abbrev pub fellow_key : ℕ → ℕ → ℕ → List ℕ → Key
fellow_key file sibling parent name = record { first = file; second = sibling; third = parent; name = name }

-- that of an entry, where it has a sibling's id
abbrev pub entry_fellow : Fact Entry → Option Key
entry_fellow e = option_map (λ s. fellow_key e.what.file_id s e.id e.what.name) e.what.sibling

-- that of a link
abbrev pub link_fellow : Fact Link → Option Key
link_fellow l = Some (fellow_key l.what.file l.what.sibling l.what.parent l.what.name)

-- a sibling of a file
abbrev pub sibling_key : ℕ → ℕ → Key
sibling_key file sibling = record { first = file; second = sibling; third = 0; name = [] }

-- that of a map
abbrev pub map_sibling : Fact ℕ → Option Key
map_sibling m = Some (sibling_key m.what m.id)

-- the sibling of an entry of the private directory
abbrev pub private_sibling : Fact Entry → Option Key
private_sibling e = if e.id == private_id then option_map (sibling_key e.what.file_id) e.what.sibling else None

-- the sibling of a link whose parent is the private directory or reserved
abbrev pub system_sibling : Fact Link → Option Key
system_sibling l = if is_system_id l.what.parent then Some (sibling_key l.what.file l.what.sibling) else None

-- the sibling of an entry that needs its fellows and has its link
abbrev pub linked_sibling : Facts → Fact Entry → Option Key
linked_sibling facts e = if is_twin e && has_link facts e then option_map (sibling_key e.what.file_id) e.what.sibling else None
