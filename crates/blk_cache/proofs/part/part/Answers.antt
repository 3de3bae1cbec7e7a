use Rattle.std.proofs.Common.{◌*◌, ◌+◌, ◌/◌, ◌%◌, inl, refl, sym, ◌∙◌, arith, length}
use Rattle.blk_cache.proofs.Keeps.{size_fits, grows_on, served_same, served_grows, found_copy, served_found, served_cache}
use Rattle.blk_cache.proofs.Ranges.{range_copies}
use Rattle.blk_cache.proofs.part.part.Goals as goal

pub serve-requires : goal.serve-requires
serve-requires g c = λ v e.
    let copy = found_copy g.S.BlockSource.bytes g.S.BlockSource.bytes_len c.args.inner.now c.args.store.now (c.args.at / c.args.store.now.size) v c.requires.cache e in
    let size = size_fits c.args.store.now.size c.requires.cache.accepted in
    omega (arith, copy.long, size)

pub returns-then-serve-clause-found : goal.returns-then-serve-clause-found
returns-then-serve-clause-found g c = λ image told.
    let size = size_fits c.args.store.now.size c.requires.cache.accepted in
    let shown = served_found g.S.BlockSource.bytes g.S.BlockSource.bytes_len c.args.inner.now c.args.store.now (c.args.at / c.args.store.now.size) (c.args.at % c.args.store.now.size) (length c.args.into.now) c.serve.new.into c.requires.cache (sym c.if-serve.ensures.found) c.if-serve.ensures.copied c.requires.within image told in
    range_copies image c.serve.new.into c.args.at (c.args.store.now.size * (c.args.at / c.args.store.now.size) + c.args.at % c.args.store.now.size) (length c.args.into.now) shown (omega (arith, size)) c.serve.auto.into

pub returns-then-serve-clause-cache : goal.returns-then-serve-clause-cache
returns-then-serve-clause-cache g c = served_cache g.S.BlockSource.bytes g.S.BlockSource.bytes_len c.args.inner.now c.args.store.now c.serve.new.self (c.args.at / c.args.store.now.size) c.requires.cache c.if-serve.ensures.entries c.if-serve.ensures.size

pub returns-then-serve-clause-grows : goal.returns-then-serve-clause-grows
returns-then-serve-clause-grows g c = served_grows c.args.store.now c.serve.new.self (c.args.at / c.args.store.now.size) c.if-serve.ensures.entries c.if-serve.ensures.size c.if-serve.ensures.lost

pub returns-then-serve-clause-last : goal.returns-then-serve-clause-last
returns-then-serve-clause-last g c = inl ((served_same c.args.store.now c.serve.new.self (c.args.at / c.args.store.now.size) c.if-serve.ensures.entries c.if-serve.ensures.lost).same_blocks (c.args.at / c.args.store.now.size) ∙ sym c.if-serve.ensures.found)

pub returns-then-serve-clause-served : goal.returns-then-serve-clause-served
returns-then-serve-clause-served g c = λ kept. (refl, served_same c.args.store.now c.serve.new.self (c.args.at / c.args.store.now.size) c.if-serve.ensures.entries c.if-serve.ensures.lost)

pub fill-requires-clause-cache : goal.fill-requires-clause-cache
fill-requires-clause-cache g c = served_cache g.S.BlockSource.bytes g.S.BlockSource.bytes_len c.args.inner.now c.args.store.now c.serve.new.self (c.args.at / c.args.store.now.size) c.requires.cache c.if-serve.ensures.entries c.if-serve.ensures.size

pub fill-requires-clause-lacks : goal.fill-requires-clause-lacks
fill-requires-clause-lacks g c = (served_same c.args.store.now c.serve.new.self (c.args.at / c.args.store.now.size) c.if-serve.ensures.entries c.if-serve.ensures.lost).same_blocks (c.args.at / c.args.store.now.size) ∙ sym c.if-serve.ensures.found

pub returns-clause-grows : goal.returns-clause-grows
returns-clause-grows g c = grows_on c.args.store.now c.serve.new.self c.fill.new.store c.fill.ensures.cache.fits (served_grows c.args.store.now c.serve.new.self (c.args.at / c.args.store.now.size) c.if-serve.ensures.entries c.if-serve.ensures.size c.if-serve.ensures.lost) c.fill.ensures.grows
