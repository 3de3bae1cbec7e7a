use Rattle.std.proofs.Common.{◌∙◌, subst}
use Rattle.bt_cursor.specs.Cursors.{left_of, gapped_left_of}
use Rattle.path_search.specs.Parts.{whats, is_wanted, TakesNext, GoesWhole}
use Rattle.path_search.specs.declared.search.Took.{Took}
use Rattle.path_search.proofs.Stays.{stays_on, stops_on}
use Rattle.path_search.proofs.search.take_run.Goals as goal

pub returns-in-Err-clause-stays : goal.returns-in-Err-clause-stays
returns-in-Err-clause-stays g c = stays_on c.run.invariant.stays c.in-Err.ensures.stays

pub returns-in-Err-clause-stops : goal.returns-in-Err-clause-stops
returns-in-Err-clause-stops g c = stops_on c.run.invariant.stays c.in-Err.ensures.stops

pub returns-in-End-clause-stays : goal.returns-in-End-clause-stays
returns-in-End-clause-stays g c = stays_on c.run.invariant.stays c.in-Ok.ensures.stays

pub returns-in-Refused-clause-stays : goal.returns-in-Refused-clause-stays
returns-in-Refused-clause-stays g c = stays_on c.run.invariant.stays c.in-Ok.ensures.stays

pub returns-then-len-gt-FEW-clause-stays : goal.returns-then-len-gt-FEW-clause-stays
returns-then-len-gt-FEW-clause-stays g c = stays_on c.run.invariant.stays c.in-Ok.ensures.stays

pub run-preserved : goal.run-preserved
run-preserved g c = record {
  stays = stays_on c.run.invariant.stays c.in-Ok.ensures.stays;
  whole = λ image told. c.run.invariant.whole image told ∙ subst (λ (t : Took). GoesWhole g.K.TreeKey.shape c.args.id (gapped_left_of c.run.cursor image) (gapped_left_of c.take_next.new.cursor image) t) c.in-One.is (c.in-Ok.ensures.whole image (c.run.invariant.stays.kept.same_bytes ∙ told));
  taken = λ image told. c.run.invariant.taken image told ∙ subst (λ (t : Took). TakesNext g.K.TreeKey.shape c.args.names (is_wanted c.args.names c.args.wanted) c.args.id (left_of c.run.cursor image) (left_of c.take_next.new.cursor image) (whats c.run.taken.items) (whats c.take_next.new.taken.items) t) c.in-One.is (c.in-Ok.ensures.taken image (c.run.invariant.stays.kept.same_bytes ∙ told));
}
