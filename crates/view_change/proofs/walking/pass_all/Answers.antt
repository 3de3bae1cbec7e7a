use Rattle.std.proofs.Common.{rules, ◌∙◌, ◌+◌, [], sym, subst, drop, arith}
use Rattle.std.proofs.lemmas.Grind.{common_steps}
use Rattle.std.proofs.lemmas.List.{drop_all}
use Rattle.view_change.specs.Outline.{leaves_in, HasSeen, IsPassed}
use Rattle.view_change.proofs.Outlines.{left-next, part-left}
use Rattle.view_change.proofs.Passes.{at-some, pass-start, next-left, pass-next, pass-end}
use Rattle.view_change.proofs.walking.pass_all.Goals as goal

pub separators-init : goal.separators-init
separators-init g c =
    let shape = g.K.TreeKey.shape in
    let site = c.args.site.now in
    let named = g.N.Namer.named c.args.namer.now in
    let outline = c.args.outline.now in
    let reads = g.S.BlockSource.reads c.args.src.now in
    let right = at-some c.nothing.result c.in-Some.seen (HasSeen shape outline.info.key_count outline.info.node_count []) c.in-Some.is c.nothing.ensures in
    record {
      passed = λ start image root begun told outlined none.
          subst (λ left. IsPassed shape site named image root outline.info.key_count outline.info.node_count (g.T.LeafTaker.holds start c.args.taker.now site image) begun reads left c.in-Some.seen) (sym c.deref-next-items.ensures.value)
          (pass-start shape site named image root begun reads outline (g.T.LeafTaker.holds start c.args.taker.now site image) c.in-Some.seen outlined c.requires.end right none);
      within = λ limit begun. subst (λ xs. g.T.LeafTaker.goes_within c.args.taker.now (leaves_in site named xs) reads limit) (sym c.deref-next-items.ensures.value) begun;
      few = omega arith;
      kept = first_of (search rules, grind (arith, common_steps));
    }

pub separators-preserved : goal.separators-preserved
separators-preserved g c =
    let shape = g.K.TreeKey.shape in
    let site = c.args.site.now in
    let named = g.N.Namer.named c.args.namer.now in
    let keys = c.args.outline.now.info.key_count in
    let nodes = c.args.outline.now.info.node_count in
    let reads = g.S.BlockSource.reads in
    let old = c.separators.invariant in
    let all = c.deref-next-items.result.now in
    let i = c.separators.next-index in
    record {
      passed = λ start image root begun told outlined none.
          at-some c.in_ok-more.field-0 c.in-Some-2.more (IsPassed shape site named image root keys nodes (g.T.LeafTaker.holds start c.pass.new.taker site image) begun (reads c.pass.new.src) (drop (i + 1) all)) c.in-Some-2.is
          (c.in_ok-more.ensures.passed start image root keys nodes begun (drop (i + 1) all) (old.kept.same_bytes ∙ told)
          (pass-next shape site named image root keys nodes (g.T.LeafTaker.holds start c.separators.taker site image) begun (reads c.separators.src) all i _ c.separators.seen c.separators-test.true (old.passed start image root begun told outlined none)));
      within = λ limit begun.
          let goes = g.T.LeafTaker.goes_within c.pass.new.taker (leaves_in site named (drop (i + 1) all)) (reads c.pass.new.src) limit in
          at-some c.in_ok-more.field-0 c.in-Some-2.more (λ _. goes) c.in-Some-2.is
          (c.in_ok-more.ensures.reads_new (drop (i + 1) all) limit (subst (λ xs. g.T.LeafTaker.goes_within c.separators.taker (leaves_in site named xs) (reads c.separators.src) limit) (next-left all i _ c.separators-test.true) (old.within limit begun)));
      few = left-next all i _ (reads c.args.src.now) (reads c.separators.src) (reads c.pass.new.src) c.separators-test.true old.few c.pass.ensures.reads;
      kept = first_of (search rules, grind (arith, common_steps));
    }

pub returns-clause-taken : goal.returns-clause-taken
returns-clause-taken g c start image root begun told outlined none on =
    let reads = g.S.BlockSource.reads in
    let site = c.args.site.now in
    let i = c.separators.next-index in
    let all = c.deref-next-items.result.now in
    (pass-end g.K.TreeKey.shape site (g.N.Namer.named c.args.namer.now) image root begun (reads c.args.src.now) (reads c.separators.src) c.args.outline.now (g.T.LeafTaker.holds start c.separators.taker site image) (drop i all) c.separators.seen outlined
    (c.separators.invariant.passed start image root begun told outlined none) (drop_all i all c.separators-test.false) (c.is_all.ensures.keys on) (c.is_all.ensures.nodes on)).taken

pub returns-clause-reads : goal.returns-clause-reads
returns-clause-reads g c start image root begun told outlined none on =
    let reads = g.S.BlockSource.reads in
    let site = c.args.site.now in
    let i = c.separators.next-index in
    let all = c.deref-next-items.result.now in
    (pass-end g.K.TreeKey.shape site (g.N.Namer.named c.args.namer.now) image root begun (reads c.args.src.now) (reads c.separators.src) c.args.outline.now (g.T.LeafTaker.holds start c.separators.taker site image) (drop i all) c.separators.seen outlined
    (c.separators.invariant.passed start image root begun told outlined none) (drop_all i all c.separators-test.false) (c.is_all.ensures.keys on) (c.is_all.ensures.nodes on)).few

pub returns-in_err-more-clause-reads_met : goal.returns-in_err-more-clause-reads_met
returns-in_err-more-clause-reads_met g c =
    let reads = g.S.BlockSource.reads in
    part-left c.deref-next-items.result.now c.args.outline.now.separators.items c.separators.next-index _ (reads c.args.src.now) (reads c.separators.src) (reads c.pass.new.src) c.deref-next-items.ensures.value c.separators-test.true c.separators.invariant.few c.pass.ensures.reads

pub returns-in_default-2-clause-reads_met : goal.returns-in_default-2-clause-reads_met
returns-in_default-2-clause-reads_met g c =
    let reads = g.S.BlockSource.reads in
    part-left c.deref-next-items.result.now c.args.outline.now.separators.items c.separators.next-index _ (reads c.args.src.now) (reads c.separators.src) (reads c.pass.new.src) c.deref-next-items.ensures.value c.separators-test.true c.separators.invariant.few c.pass.ensures.reads

pub returns-clause-reads_new : goal.returns-clause-reads_new
returns-clause-reads_new g c limit begun on =
    let site = c.args.site.now in
    let named = g.N.Namer.named c.args.namer.now in
    subst (λ xs. g.T.LeafTaker.goes_within c.separators.taker (leaves_in site named xs) (g.S.BlockSource.reads c.separators.src) limit) (drop_all c.separators.next-index c.deref-next-items.result.now c.separators-test.false) (c.separators.invariant.within limit begun)
