use Rattle.std.proofs.Common.{◌∙◌, ap, subst}
use Rattle.view_rules.specs.Facts.{Facts}
use Rattle.rule_index.specs.Order.{IsChain, inode_follows, entry_follows, attribute_follows, link_follows, map_follows, extent_follows}
use Rattle.rule_index.proofs.chain.are_in_order.Goals as goal

pub returns : goal.returns
returns c t = record {
  inodes = subst (IsChain inode_follows) (c.deref.ensures.value ∙ ap (λ (g : Facts). g.inodes) c.facts.view_is) (c.is_chain.ensures c.if-not-is_chain.false);
  entries = subst (IsChain entry_follows) (c.deref-2.ensures.value ∙ ap (λ (g : Facts). g.entries) c.facts.view_is) (c.is_chain-2.ensures c.if-not-is_chain-2.false);
  attributes = subst (IsChain attribute_follows) (c.deref-3.ensures.value ∙ ap (λ (g : Facts). g.attributes) c.facts.view_is) (c.is_chain-3.ensures c.if-not-is_chain-3.false);
  links = subst (IsChain link_follows) (c.deref-4.ensures.value ∙ ap (λ (g : Facts). g.links) c.facts.view_is) (c.is_chain-4.ensures c.if-not-is_chain-4.false);
  siblings = subst (IsChain map_follows) (c.deref-5.ensures.value ∙ ap (λ (g : Facts). g.siblings) c.facts.view_is) (c.is_chain-5.ensures c.if-not-is_chain-5.false);
  extents = subst (IsChain extent_follows) (c.deref-6.ensures.value ∙ ap (λ (g : Facts). g.extents) c.facts.view_is) (c.is_chain-6.ensures t);
}
