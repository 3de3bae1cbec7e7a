-- Facts that are joined, kind by kind, and taken apart by their numbers.
use Rattle.std.proofs.Common.{◌≡◌, ℕ, ◌+◌, List, [], ◌∷◌, ◌++◌, length, map, take, refl, ap, sym, ◌∙◌, subst, arith, append_assoc, append-nil, length-append}
use Rattle.std.specs.Prelude.{false, ◌-◌, Option, None, Some, is_some, slice_get}
use Rattle.std.proofs.Math.Seq.{take-append_seam, drop-append_seam}
use Rattle.std.proofs.lemmas.List.{map-append, take_more}
use Rattle.std.proofs.lemmas.Option.{slice_get_within, get_or_from_slice_get}
use Rattle.std.proofs.lemmas.List.Elements.{filter_map-append, All-nil, All-push}
use Rattle.bt_node.specs.Entries.{Pair}
use Rattle.bt_keys.specs.RecordKey.{inode_record, attribute_record, sibling_link_record, file_extent_record, entry_record, sibling_map_record}
use Rattle.fs_name.specs.declared.naming.Names.{Names}
use Rattle.fs_record.specs.Facts.{fact_of, read_inode, read_entry, read_attribute, read_link, read_sibling, read_extent, refused, inodes_of, entries_of, attributes_of, links_of, sibling_files_of, extents_of}
use Rattle.fs_record.specs.declared.fault.RecFault.{RecFault}
use Rattle.rule_changes.specs.Changes.{Weaves, AreWoven, ended}
use Rattle.view_rules.specs.Facts.{Facts}
use Rattle.view_facts.specs.Contents.{brief}
use Rattle.view_facts.specs.Adding.{facts_with}
use Rattle.view_facts.proofs.Adds.{facts-more}
use Rattle.view_change.specs.Numbers.{numbers_of, numbers_since, no_facts_under, joined, behind, first_facts, rest_facts}
use Rattle.view_change.specs.Kept.{facts_said, AreReadable}
use Rattle.view_change.proofs.Weaving.{more-stay}

-- parts of joined lists
length-since : {X : Type 0} (xs ys : List X) → length (xs ++ ys) - length xs ≡ length ys
length-since xs ys = let e = length-append xs ys in omega (arith, e)

-- facts that are joined to two others in turn
pub joined-assoc : (a b c : Facts) → joined (joined a b) c ≡ joined a (joined b c)
joined-assoc a b c = λ i. record {
  names = a.names;
  inodes = append_assoc a.inodes b.inodes c.inodes i;
  entries = append_assoc a.entries b.entries c.entries i;
  attributes = append_assoc a.attributes b.attributes c.attributes i;
  links = append_assoc a.links b.links c.links i;
  siblings = append_assoc a.siblings b.siblings c.siblings i;
  extents = append_assoc a.extents b.extents c.extents i;
}

-- the first facts, and those after them
pub first-joined : (a b : Facts) → first_facts (numbers_of a) (joined a b) ≡ a
first-joined a b = λ i. record {
  names = a.names;
  inodes = take-append_seam a.inodes b.inodes i;
  entries = take-append_seam a.entries b.entries i;
  attributes = take-append_seam a.attributes b.attributes i;
  links = take-append_seam a.links b.links i;
  siblings = take-append_seam a.siblings b.siblings i;
  extents = take-append_seam a.extents b.extents i;
}

pub rest-joined : (a b : Facts) → a.names ≡ b.names → rest_facts (numbers_of a) (joined a b) ≡ b
rest-joined a b e = λ i. record {
  names = e i;
  inodes = drop-append_seam a.inodes b.inodes i;
  entries = drop-append_seam a.entries b.entries i;
  attributes = drop-append_seam a.attributes b.attributes i;
  links = drop-append_seam a.links b.links i;
  siblings = drop-append_seam a.siblings b.siblings i;
  extents = drop-append_seam a.extents b.extents i;
}

-- the numbers of what was joined
pub since-joined : (a b : Facts) → numbers_since (numbers_of (joined a b)) (numbers_of a) ≡ numbers_of b
since-joined a b = λ i. record {
  inodes = length-since a.inodes b.inodes i;
  entries = length-since a.entries b.entries i;
  attributes = length-since a.attributes b.attributes i;
  links = length-since a.links b.links i;
  siblings = length-since a.siblings b.siblings i;
  extents = length-since a.extents b.extents i;
}

-- nothing is joined
pub joined-none : (a : Facts) (names : Names) → joined a (no_facts_under names) ≡ a
joined-none a names = λ i. record {
  names = a.names;
  inodes = append-nil a.inodes i;
  entries = append-nil a.entries i;
  attributes = append-nil a.attributes i;
  links = append-nil a.links i;
  siblings = append-nil a.siblings i;
  extents = append-nil a.extents i;
}

-- facts behind others, joined to more
pub behind-joined : (others a b : Facts) → behind others (joined a b) ≡ joined (behind others a) b
behind-joined others a b = λ i. record {
  names = a.names;
  inodes = sym (append_assoc others.inodes a.inodes b.inodes) i;
  entries = sym (append_assoc others.entries a.entries b.entries) i;
  attributes = sym (append_assoc others.attributes a.attributes b.attributes) i;
  links = sym (append_assoc others.links a.links b.links) i;
  siblings = sym (append_assoc others.siblings a.siblings b.siblings) i;
  extents = sym (append_assoc others.extents a.extents b.extents) i;
}

-- no facts behind others that go on
pub behind-none : (others a : Facts) (names : Names) → behind (joined others a) (no_facts_under names) ≡ joined (behind others (no_facts_under names)) a
behind-none others a names = λ i. record {
  names = names;
  inodes = (append-nil (others.inodes ++ a.inodes) ∙ ap (λ xs. xs ++ a.inodes) (sym (append-nil others.inodes))) i;
  entries = (append-nil (others.entries ++ a.entries) ∙ ap (λ xs. xs ++ a.entries) (sym (append-nil others.entries))) i;
  attributes = (append-nil (others.attributes ++ a.attributes) ∙ ap (λ xs. xs ++ a.attributes) (sym (append-nil others.attributes))) i;
  links = (append-nil (others.links ++ a.links) ∙ ap (λ xs. xs ++ a.links) (sym (append-nil others.links))) i;
  siblings = (append-nil (others.siblings ++ a.siblings) ∙ ap (λ xs. xs ++ a.siblings) (sym (append-nil others.siblings))) i;
  extents = (append-nil (others.extents ++ a.extents) ∙ ap (λ xs. xs ++ a.extents) (sym (append-nil others.extents))) i;
}

-- no facts behind some that were put behind others
pub put-behind : (others a : Facts) (names : Names) → names ≡ a.names → behind (joined others a) (no_facts_under names) ≡ behind others a
put-behind others a names e = λ i. record {
  names = e i;
  inodes = append-nil (others.inodes ++ a.inodes) i;
  entries = append-nil (others.entries ++ a.entries) i;
  attributes = append-nil (others.attributes ++ a.attributes) i;
  links = append-nil (others.links ++ a.links) i;
  siblings = append-nil (others.siblings ++ a.siblings) i;
  extents = append-nil (others.extents ++ a.extents) i;
}

-- no facts behind others are woven as these are
pub behind-woven : {others same other : Facts} (names : Names) → AreWoven others same other → AreWoven (behind others (no_facts_under names)) same other
behind-woven {others = others} {same = same} {other = other} names w = record {
  inodes = subst (λ xs. Weaves xs same.inodes other.inodes) (sym (append-nil others.inodes)) w.inodes;
  entries = subst (λ xs. Weaves xs same.entries other.entries) (sym (append-nil others.entries)) w.entries;
  attributes = subst (λ xs. Weaves xs same.attributes other.attributes) (sym (append-nil others.attributes)) w.attributes;
  links = subst (λ xs. Weaves xs same.links other.links) (sym (append-nil others.links)) w.links;
  siblings = subst (λ xs. Weaves xs same.siblings other.siblings) (sym (append-nil others.siblings)) w.siblings;
  extents = subst (λ xs. Weaves xs same.extents other.extents) (sym (append-nil others.extents)) w.extents;
}

-- what some records say, and others after them
pub said-append : (names : Names) (ps qs : List Pair) → facts_said names (ps ++ qs) ≡ joined (facts_said names ps) (facts_said names qs)
unfolding inodes_of entries_of attributes_of links_of sibling_files_of extents_of
said-append names ps qs = λ i. record {
  names = names;
  inodes = filter_map-append (fact_of inode_record read_inode) ps qs i;
  entries = filter_map-append (fact_of entry_record (read_entry names)) ps qs i;
  attributes = (ap (map brief) (filter_map-append (fact_of attribute_record read_attribute) ps qs) ∙ map-append brief (attributes_of ps) (attributes_of qs)) i;
  links = filter_map-append (fact_of sibling_link_record read_link) ps qs i;
  siblings = filter_map-append (fact_of sibling_map_record read_sibling) ps qs i;
  extents = filter_map-append (fact_of file_extent_record read_extent) ps qs i;
}

-- no record says anything
pub said-none : (names : Names) → no_facts_under names ≡ facts_said names []
unfolding inodes_of entries_of attributes_of links_of sibling_files_of extents_of
said-none names = refl

-- what some records say, and one more
pub said-more : (facts : Facts) (ps : List Pair) (p : Pair) → facts_with false (joined facts (facts_said facts.names ps)) p ≡ joined facts (facts_said facts.names (ps ++ p ∷ []))
said-more facts ps p =
    let with-joined : facts_with false (joined facts (facts_said facts.names ps)) p ≡ joined facts (facts_with false (facts_said facts.names ps) p) = λ i. record {
      names = facts.names;
      inodes = append_assoc facts.inodes (facts_said facts.names ps).inodes (facts_with false (no_facts_under facts.names) p).inodes i;
      entries = append_assoc facts.entries (facts_said facts.names ps).entries (facts_with false (no_facts_under facts.names) p).entries i;
      attributes = append_assoc facts.attributes (facts_said facts.names ps).attributes (facts_with false (no_facts_under facts.names) p).attributes i;
      links = append_assoc facts.links (facts_said facts.names ps).links (facts_with false (no_facts_under facts.names) p).links i;
      siblings = append_assoc facts.siblings (facts_said facts.names ps).siblings (facts_with false (no_facts_under facts.names) p).siblings i;
      extents = append_assoc facts.extents (facts_said facts.names ps).extents (facts_with false (no_facts_under facts.names) p).extents i;
    } in
    with-joined ∙ ap (joined facts) (sym (facts-more false facts.names ps p))

-- what some records say is added to some facts, and each of them can be read
pub record AreAdded (facts : Facts) (pairs : List Pair) (now : Facts) : Type 0 where
  pub said : now ≡ joined facts (facts_said facts.names pairs)
  pub names : now.names ≡ facts.names
  pub readable : AreReadable facts.names pairs

pub added-none : (facts : Facts) → AreAdded facts [] facts
added-none facts = record {
  said = sym (joined-none facts facts.names) ∙ ap (joined facts) (said-none facts.names);
  names = refl;
  readable = All-nil (λ (pair : Pair). refused facts.names pair ≡ None);
}

-- the first items and one more
pub take-next : {X : Type 0} (xs : List X) (i : ℕ) (x : X) → slice_get xs i ≡ Some x → take (i + 1) xs ≡ take i xs ++ x ∷ []
take-next xs i x e = take_more xs i x (slice_get_within xs i x e) ∙ ap (λ y. take i xs ++ y ∷ []) (get_or_from_slice_get xs i x x e)

none-is : {X : Type 0} (o : Option X) → is_some o ≡ false → o ≡ None
none-is None e = refl
none-is (Some x) e = absurd cc

-- and one more
pub added-more : (facts old new : Facts) (pairs : List Pair) (i : ℕ) (p q : Pair) (why : Option RecFault) → p ≡ q → slice_get pairs i ≡ Some q → new ≡ facts_with false old p → new.names ≡ old.names → why ≡ refused old.names p → is_some why ≡ false
    → AreAdded facts (take i pairs) old → AreAdded facts (take (i + 1) pairs) new
added-more facts old new pairs i p q why same listed added named told fine had =
    let clear : refused facts.names q ≡ None = ap (λ (n : Names). refused n q) (sym had.names) ∙ (ap (refused old.names) (sym same) ∙ (sym told ∙ none-is why fine)) in
    subst (λ ps. AreAdded facts ps new) (sym (take-next pairs i q listed)) (record {
      said = added ∙ (ap (facts_with false old) same ∙ (ap (λ (f : Facts). facts_with false f q) had.said ∙ said-more facts (take i pairs) q));
      names = named ∙ had.names;
      readable = All-push (λ (pair : Pair). refused facts.names pair ≡ None) (take i pairs) q had.readable clear;
    })

-- more facts of all and of those that are the same
pub joined-stay : (xs : Facts) {all same other : Facts} → AreWoven all same other → AreWoven (joined all xs) (joined same xs) other
joined-stay xs w = record {
  inodes = more-stay xs.inodes w.inodes;
  entries = more-stay xs.entries w.entries;
  attributes = more-stay xs.attributes w.attributes;
  links = more-stay xs.links w.links;
  siblings = more-stay xs.siblings w.siblings;
  extents = more-stay xs.extents w.extents;
}

-- no facts are woven
pub none-woven : (a b c : Names) → AreWoven (no_facts_under a) (no_facts_under b) (no_facts_under c)
none-woven a b c = record {
  inodes = ended;
  entries = ended;
  attributes = ended;
  links = ended;
  siblings = ended;
  extents = ended;
}
