use Rattle.std.proofs.Common.{◌≡◌, ◌∙◌, ◌∷◌, [], ◌++◌, List, Option, ℕ, None, ap, sym, subst, rules}
use Rattle.apfs_model.specs.Lists.{through}
use Rattle.view_change.specs.declared.leaf.Leaf.{Leaf}
use Rattle.view_change.specs.Ends.{HasEnds}
use Rattle.view_change.specs.Leaves.{leaf_at}
use Rattle.view_change.specs.Outline.{node_place, leaves_in, HasSeen}
use Rattle.view_change.proofs.Passes.{at-some, any-some, next-leaf, pass-upper, pass-leaf-if}
use Rattle.view_change.proofs.walking.pass.Goals as goal

pub returns-in_default-child-clause-passed : goal.returns-in_default-child-clause-passed
returns-in_default-child-clause-passed g c start image root keys nodes begun left told p =
    let shape = g.K.TreeKey.shape in
    let none : c.args.next.child ≡ None = search rules in
    pass-upper shape c.args.site.now (g.N.Namer.named c.args.namer.now) image root keys nodes (g.T.LeafTaker.holds start c.args.taker.now c.args.site.now image) begun (g.S.BlockSource.reads c.args.src.now) c.args.next left c.args.seen c.in-Some.seen p none
    (λ items item has separates. at-some c.after_separator.result c.in-Some.seen (HasSeen shape keys nodes (items ++ item ∷ [])) c.in-Some.is (c.after_separator.ensures keys nodes items item has separates))

pub returns-clause-passed : goal.returns-clause-passed
returns-clause-passed g c start image root keys nodes begun left told p =
    let shape = g.K.TreeKey.shape in
    let site = c.args.site.now in
    let seen = c.in-Some.seen in
    let ends = c.in-Some-2.ends in
    let leaf : Leaf = record { oid = c.in-Some-child.oid; block = c.in-Some-block_again.block } in
    let held = g.T.LeafTaker.holds start c.take.new.self site image in
    let told_ends : HasEnds shape site image leaf ends = at-some c.in_ok-ends.field-0 ends (HasEnds shape site image leaf) c.in-Some-2.is (c.in_ok-ends.ensures.leaf_ends start image p.leaves told p.held) in
    let have : held (p.leaves ++ leaf ∷ []) = at-some c.in_ok-ends.field-0 ends (λ _. held (p.leaves ++ leaf ∷ [])) c.in-Some-2.is (c.in_ok-ends.ensures.held start image p.leaves told p.held) in
    pass-leaf-if shape site (g.N.Namer.named c.args.namer.now) image root keys nodes (g.T.LeafTaker.holds start c.args.taker.now site image) held begun (g.S.BlockSource.reads c.args.src.now) (g.S.BlockSource.reads c.take.new.src) c.args.next left c.args.seen c.after_leaf.result c.in-Some-child.oid c.in-Some-block_again.block p c.in-Some-child.is
    (sym c.block_again.ensures ∙ c.in-Some-block_again.is) told_ends.there
    (λ items item has separates. c.after_leaf.ensures keys nodes (items ++ item ∷ []) site image leaf
    (at-some c.after_separator.result seen (HasSeen shape keys nodes (items ++ item ∷ [])) c.in-Some.is (c.after_separator.ensures keys nodes items item has separates)) told_ends)
    have c.take.ensures.reads

pub returns-in_default-child-clause-reads_new : goal.returns-in_default-child-clause-reads_new
returns-in_default-child-clause-reads_new g c left limit within =
    let site = c.args.site.now in
    let named = g.N.Namer.named c.args.namer.now in
    let none : c.args.next.child ≡ None = search rules in
    let same : leaves_in site named (c.args.next ∷ left) ≡ leaves_in site named left = ap (λ (child : Option ℕ). through child (λ oid. leaf_at site named (node_place 0 oid)) ++ leaves_in site named left) none in
    subst (λ (ls : List Leaf). g.T.LeafTaker.goes_within c.args.taker.now ls (g.S.BlockSource.reads c.args.src.now) limit) same within

pub returns-clause-reads_new : goal.returns-clause-reads_new
returns-clause-reads_new g c left limit within =
    let site = c.args.site.now in
    let named = g.N.Namer.named c.args.namer.now in
    let oid = c.in-Some-child.oid in
    let block = c.in-Some-block_again.block in
    let leaf : Leaf = record { oid = oid; block = block } in
    let goes = g.T.LeafTaker.goes_within c.take.new.self (leaves_in site named left) (g.S.BlockSource.reads c.take.new.src) limit in
    let same : leaves_in site named (c.args.next ∷ left) ≡ leaf ∷ leaves_in site named left =
    ap (λ (ls : List Leaf). ls ++ leaves_in site named left) (next-leaf site named c.args.next oid block c.in-Some-child.is (sym c.block_again.ensures ∙ c.in-Some-block_again.is)) in
    any-some c.after_leaf.result goes
    (at-some c.in_ok-ends.field-0 c.in-Some-2.ends (λ _. goes) c.in-Some-2.is
    (c.in_ok-ends.ensures.reads_new (leaves_in site named left) limit (subst (λ (ls : List Leaf). g.T.LeafTaker.goes_within c.args.taker.now ls (g.S.BlockSource.reads c.args.src.now) limit) same within)))
