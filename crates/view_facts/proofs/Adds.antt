-- What one more record adds.
use Rattle.std.proofs.Common.{◌≡◌, ◌==◌, ℕ, Bool, true, false, cond, List, [], ◌∷◌, ◌++◌, map, Option, Some, None, Result, refl, ap, sym, ◌∙◌, append-nil}
use Rattle.std.specs.Prelude.{filter_map, option_map, option_to_list}
use Rattle.std.specs.List.{cons_option}
use Rattle.std.proofs.lemmas.Bool.{false≢true}
use Rattle.std.proofs.lemmas.Bool.Decides.{Decides-eqb}
use Rattle.std.proofs.lemmas.List.{map-append}
use Rattle.std.proofs.lemmas.List.Elements.{filter_map-append}
use Rattle.apfs_model.specs.Lists.{value_of}
use Rattle.apfs_model.proofs.BoolTests.{never-true}
use Rattle.bt_node.specs.Entries.{Pair}
use Rattle.bt_keys.specs.RecordKey.{record_kind_of, inode_record, attribute_record, sibling_link_record, file_extent_record, entry_record, sibling_map_record}
use Rattle.fs_name.specs.declared.naming.Names.{Names}
use Rattle.fs_record.specs.declared.fault.RecFault.{RecFault}
use Rattle.fs_record.specs.Facts.{told_by, fact_of, read_inode, read_entry, read_attribute, read_link, read_sibling, read_extent, inodes_of, entries_of, attributes_of, links_of, sibling_files_of, extents_of}
use Rattle.view_rules.specs.Facts.{Facts, facts_in}
use Rattle.view_facts.specs.Contents.{brief, besides, kept_facts}
use Rattle.view_facts.specs.Adding.{is_file_record, facts_with}

one-option : {X : Type 0} (o : Option X) → cons_option o [] ≡ option_to_list o
one-option None = refl
one-option (Some x) = refl

-- what is read of some pairs and one more
more : {X Y : Type 0} (read : X → Option Y) (ps : List X) (p : X) → filter_map read (ps ++ p ∷ []) ≡ filter_map read ps ++ option_to_list (read p)
more read ps p = filter_map-append read ps (p ∷ []) ∙ ap (λ o. filter_map read ps ++ o) (one-option (read p))

besides-more : {X : Type 0} (files : Bool) (xs ys : List X) → besides files (xs ++ ys) ≡ besides files xs ++ besides files ys
besides-more true xs ys = refl
besides-more false xs ys = refl

besides-none : {X : Type 0} (files : Bool) (xs : List X) → xs ≡ [] → xs ≡ besides files []
besides-none true xs e = e
besides-none false xs e = e

mapped-option : {X Y : Type 0} (f : X → Y) (o : Option X) → map f (option_to_list o) ≡ option_to_list (option_map f o)
mapped-option f None = refl
mapped-option f (Some x) = refl

more-mapped : {X Y Z : Type 0} (f : Y → Z) (read : X → Option Y) (ps : List X) (p : X) → map f (filter_map read (ps ++ p ∷ [])) ≡ map f (filter_map read ps) ++ option_to_list (option_map f (read p))
more-mapped f read ps p =
    ap (map f) (more read ps p) ∙ (map-append f (filter_map read ps) (option_to_list (read p)) ∙ ap (λ xs. map f (filter_map read ps) ++ xs) (mapped-option f (read p)))

-- what is kept of some records and one more
pub facts-more : (files : Bool) (names : Names) (ps : List Pair) (p : Pair) → kept_facts files (facts_in names (ps ++ p ∷ [])) ≡ facts_with files (kept_facts files (facts_in names ps)) p
unfolding inodes_of entries_of attributes_of links_of sibling_files_of extents_of
facts-more files names ps p = λ i. record {
  names = names;
  inodes = more (fact_of inode_record read_inode) ps p i;
  entries = more (fact_of entry_record (read_entry names)) ps p i;
  attributes = (ap (besides files) (more-mapped brief (fact_of attribute_record read_attribute) ps p) ∙ besides-more files (map brief (attributes_of ps)) (option_to_list (option_map brief (fact_of attribute_record read_attribute p)))) i;
  links = (ap (besides files) (more (fact_of sibling_link_record read_link) ps p) ∙ besides-more files (links_of ps) (option_to_list (fact_of sibling_link_record read_link p))) i;
  siblings = (ap (besides files) (more (fact_of sibling_map_record read_sibling) ps p) ∙ besides-more files (sibling_files_of ps) (option_to_list (fact_of sibling_map_record read_sibling p))) i;
  extents = (ap (besides files) (more (fact_of file_extent_record read_extent) ps p) ∙ besides-more files (extents_of ps) (option_to_list (fact_of file_extent_record read_extent p))) i;
}

-- no record says anything
pub facts-none : (files : Bool) (facts : Facts) → facts.inodes ≡ [] → facts.entries ≡ [] → facts.attributes ≡ [] → facts.links ≡ [] → facts.siblings ≡ [] → facts.extents ≡ [] → facts ≡ kept_facts files (facts_in facts.names [])
unfolding inodes_of entries_of attributes_of links_of sibling_files_of extents_of
facts-none files facts a b c d e f = λ i. record {
  names = facts.names;
  inodes = a i;
  entries = b i;
  attributes = besides-none files facts.attributes c i;
  links = besides-none files facts.links d i;
  siblings = besides-none files facts.siblings e i;
  extents = besides-none files facts.extents f i;
}

none-of : {X : Type 0} (kind : ℕ) (read : Pair → Result X RecFault) (pair : Pair) → (record_kind_of pair.key ≡ kind → ⊥) → fact_of kind read pair ≡ None
none-of kind read pair other =
    ap (λ b. cond b (option_map (told_by pair) (value_of (read pair))) None) (never-true (record_kind_of pair.key == kind) (λ h. other ((Decides-eqb (record_kind_of pair.key) kind).0 h)))

nothing-more : {X : Type 0} (xs : List X) (o : Option X) → o ≡ None → xs ≡ xs ++ option_to_list o
nothing-more xs o e = sym (append-nil xs) ∙ ap (λ (p : Option _). xs ++ option_to_list p) (sym e)

-- a record that says something of files says nothing else
pub file_with : (facts : Facts) (pair : Pair) → is_file_record (record_kind_of pair.key) ≡ true → facts_with false facts pair ≡ facts_with true facts pair
file_with facts pair e =
    let other : (kind : ℕ) → is_file_record kind ≡ false → record_kind_of pair.key ≡ kind → ⊥ = λ kind none k. false≢true (sym none ∙ (ap is_file_record (sym k) ∙ e)) in
    λ i. record {
      names = facts.names;
      inodes = facts.inodes ++ option_to_list (fact_of inode_record read_inode pair);
      entries = facts.entries ++ option_to_list (fact_of entry_record (read_entry facts.names) pair);
      attributes = facts.attributes ++ option_to_list (option_map brief (none-of attribute_record read_attribute pair (other attribute_record refl) i));
      links = facts.links ++ option_to_list (none-of sibling_link_record read_link pair (other sibling_link_record refl) i);
      siblings = facts.siblings ++ option_to_list (none-of sibling_map_record read_sibling pair (other sibling_map_record refl) i);
      extents = facts.extents ++ option_to_list (none-of file_extent_record read_extent pair (other file_extent_record refl) i);
    }

-- another record says nothing of files
pub other_with : (facts : Facts) (pair : Pair) → is_file_record (record_kind_of pair.key) ≡ false → facts ≡ facts_with true facts pair
other_with facts pair e =
    let other : (kind : ℕ) → is_file_record kind ≡ true → record_kind_of pair.key ≡ kind → ⊥ = λ kind one k. false≢true (sym e ∙ (ap is_file_record k ∙ one)) in
    λ i. record {
      names = facts.names;
      inodes = nothing-more facts.inodes (fact_of inode_record read_inode pair) (none-of inode_record read_inode pair (other inode_record refl)) i;
      entries = nothing-more facts.entries (fact_of entry_record (read_entry facts.names) pair) (none-of entry_record (read_entry facts.names) pair (other entry_record refl)) i;
      attributes = sym (append-nil facts.attributes) i;
      links = sym (append-nil facts.links) i;
      siblings = sym (append-nil facts.siblings) i;
      extents = sym (append-nil facts.extents) i;
    }
