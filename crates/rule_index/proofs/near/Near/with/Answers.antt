use Rattle.std.proofs.Common.{ℕ, ◌∙◌, ap, sym, subst}
use Rattle.std.specs.List.Sorted.{IsNonDecreasingBy}
use Rattle.fs_record.specs.Attributes.{Attribute}
use Rattle.fs_record.specs.Entries.{Entry}
use Rattle.fs_record.specs.declared.extents.FileExt.{FileExt}
use Rattle.fs_record.specs.Facts.{Fact}
use Rattle.fs_record.specs.Inodes.{Inode}
use Rattle.fs_record.specs.Siblings.{Link}
use Rattle.view_rules.specs.Facts.{Facts}
use Rattle.rule_index.specs.Order.{hash_rank, inode_follows, entry_follows, attribute_follows, link_follows, map_follows, extent_follows}
use Rattle.rule_index.proofs.Chains.{chain-in-order, le-up, inode-up, directory-up, hash-up}
use Rattle.rule_index.proofs.near.Near.with.Goals as goal

pub known-requires : goal.known-requires
known-requires c = subst (IsNonDecreasingBy (λ (f : Fact Inode). f.id)) (sym (c.deref.ensures.value ∙ ap (λ (g : Facts). g.inodes) c.facts.view_is)) (chain-in-order inode_follows (λ (f : Fact Inode). f.id) c.args.facts.now.inodes inode-up c.requires.order.inodes)

pub known-requires-2 : goal.known-requires-2
known-requires-2 c = subst (IsNonDecreasingBy (λ (e : Fact Entry). e.id)) (sym (c.deref-2.ensures.value ∙ ap (λ (g : Facts). g.entries) c.facts.view_is)) (chain-in-order entry_follows (λ (e : Fact Entry). e.id) c.args.facts.now.entries directory-up c.requires.order.entries)

pub known-requires-3 : goal.known-requires-3
known-requires-3 c = subst (IsNonDecreasingBy hash_rank) (sym (c.deref-3.ensures.value ∙ ap (λ (g : Facts). g.entries) c.facts.view_is)) (chain-in-order entry_follows hash_rank c.args.facts.now.entries hash-up c.requires.order.entries)

pub known-requires-4 : goal.known-requires-4
known-requires-4 c = subst (IsNonDecreasingBy (λ (a : Fact Attribute). a.id)) (sym (c.deref-4.ensures.value ∙ ap (λ (g : Facts). g.attributes) c.facts.view_is)) (chain-in-order attribute_follows (λ (a : Fact Attribute). a.id) c.args.facts.now.attributes (λ a next. le-up a.id next.id) c.requires.order.attributes)

pub known-requires-5 : goal.known-requires-5
known-requires-5 c = subst (IsNonDecreasingBy (λ (l : Fact Link). l.what.file)) (sym (c.deref-5.ensures.value ∙ ap (λ (g : Facts). g.links) c.facts.view_is)) (chain-in-order link_follows (λ (l : Fact Link). l.what.file) c.args.facts.now.links (λ l next. le-up l.what.file next.what.file) c.requires.order.links)

pub known-requires-6 : goal.known-requires-6
known-requires-6 c = subst (IsNonDecreasingBy (λ (m : Fact ℕ). m.id)) (sym (c.deref-6.ensures.value ∙ ap (λ (g : Facts). g.siblings) c.facts.view_is)) (chain-in-order map_follows (λ (m : Fact ℕ). m.id) c.args.facts.now.siblings (λ m next. le-up m.id next.id) c.requires.order.siblings)

pub known-requires-7 : goal.known-requires-7
known-requires-7 c = subst (IsNonDecreasingBy (λ (f : Fact FileExt). f.id)) (sym (c.deref-7.ensures.value ∙ ap (λ (g : Facts). g.extents) c.facts.view_is)) (chain-in-order extent_follows (λ (f : Fact FileExt). f.id) c.args.facts.now.extents (λ f next. le-up f.id next.id) c.requires.order.extents)
