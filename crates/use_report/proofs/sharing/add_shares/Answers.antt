use Rattle.std.proofs.Common.{get_or, refl, sym, ◌∙◌, arith}
use Rattle.use_report.proofs.Lists.{got-in}
use Rattle.use_report.proofs.Spread.{no_share, shares-none, shares-next, shares-all, view-sets}
use Rattle.use_report.proofs.sharing.add_shares.Goals as goal

pub shares-init : goal.shares-init
shares-init g c = record {
  held = λ image told. shares-none image c.args.site.now c.args.sets.now c.args.many c.args.shares.now c.args.held.now.all c.requires.none;
  sets = λ image told. c.requires.sets;
  long = sym c.in_ok-block.block.ok.0 ∙ c.in_ok-block.ensures.len;
  kept = record { same_bytes = refl; same_size = refl; later = omega arith };
}

pub overflow_add-many : goal.overflow_add-many
overflow_add-many g c =
    let shares = c.args.shares.now in
    let i = c.shares.share-index in
    let low = c.requires.order.number (get_or shares i no_share) (got-in shares i no_share c.shares-test.true) in
    let few = c.requires.few in
    omega (arith, low, few)

pub add_share-requires-clause-inside : goal.add_share-requires-clause-inside
add_share-requires-clause-inside g c =
    let shares = c.args.shares.now in
    let i = c.shares.share-index in
    c.requires.order.placed (get_or shares i no_share) (got-in shares i no_share c.shares-test.true)

pub shares-preserved : goal.shares-preserved
shares-preserved g c =
    let had = c.shares.invariant in
    let shares = c.args.shares.now in
    let i = c.shares.share-index in
    record {
      held = λ image told.
          shares-next image c.args.site.now c.args.sets.now c.args.many shares i c.shares.held c.turn.new.self c.add_share.new.held c.shares-test.true (c.requires.order.number (get_or shares i no_share) (got-in shares i no_share c.shares-test.true))
          (had.held image told) (had.sets image told) c.turn.ensures (c.in-Ok-true.ensures.added image (had.kept.same_bytes ∙ told) c.in-Ok-true.field-0-test);
      sets = λ image told. view-sets c.args.sets.now c.args.many c.shares.held c.turn.new.self c.add_share.new.held _ _ c.turn.ensures (c.in-Ok-true.ensures.added image (had.kept.same_bytes ∙ told) c.in-Ok-true.field-0-test).grows (had.sets image told);
      long = c.add_share.ensures.long;
      kept = record {
        same_bytes = c.add_share.ensures.kept.same_bytes ∙ had.kept.same_bytes;
        same_size = c.add_share.ensures.kept.same_size ∙ had.kept.same_size;
        later = omega (arith, c.add_share.ensures.kept.later, had.kept.later);
      };
    }

pub returns-clause-held : goal.returns-clause-held
returns-clause-held g c image told _ =
    shares-all image c.args.site.now c.args.sets.now c.args.many c.args.shares.now c.shares.share-index c.shares.held.all c.shares-test.false (c.shares.invariant.held image told)
