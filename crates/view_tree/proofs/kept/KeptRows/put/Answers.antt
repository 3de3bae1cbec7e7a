use Rattle.std.proofs.Common.{ℕ, List, subst}
use Rattle.path_search.specs.declared.target.Target.{Target}
use Rattle.view_tree.specs.Puts.{IsPut}
use Rattle.view_tree.specs.Texts.{tree_text}
use Rattle.view_tree.proofs.RowsPut.{put_whole, put_part, put_cause, put_later}
use Rattle.view_tree.proofs.kept.KeptRows.put.Goals as goal

pub returns-clause-put : goal.returns-clause-put
returns-clause-put g c =
    put_whole (tree_text c.args.self.now) c.put_held.result (g.W.Sink.contents c.args.out.now) (g.W.Sink.contents c.put_held.new.out) (g.W.Sink.faults c.args.out.now) (g.W.Sink.faults c.put_held.new.out)
    (subst (λ (l : List (List ℕ × Target)). IsPut (tree_text l) c.put_held.result (g.W.Sink.contents c.args.out.now) (g.W.Sink.contents c.put_held.new.out) (g.W.Sink.faults c.args.out.now) (g.W.Sink.faults c.put_held.new.out)) c.self.view_is c.put_held.ensures)

pub returns-clause-part : goal.returns-clause-part
returns-clause-part g c =
    put_part (tree_text c.args.self.now) c.put_held.result (g.W.Sink.contents c.args.out.now) (g.W.Sink.contents c.put_held.new.out) (g.W.Sink.faults c.args.out.now) (g.W.Sink.faults c.put_held.new.out)
    (subst (λ (l : List (List ℕ × Target)). IsPut (tree_text l) c.put_held.result (g.W.Sink.contents c.args.out.now) (g.W.Sink.contents c.put_held.new.out) (g.W.Sink.faults c.args.out.now) (g.W.Sink.faults c.put_held.new.out)) c.self.view_is c.put_held.ensures)

pub returns-clause-cause : goal.returns-clause-cause
returns-clause-cause g c =
    put_cause (tree_text c.args.self.now) c.put_held.result (g.W.Sink.contents c.args.out.now) (g.W.Sink.contents c.put_held.new.out) (g.W.Sink.faults c.args.out.now) (g.W.Sink.faults c.put_held.new.out)
    (subst (λ (l : List (List ℕ × Target)). IsPut (tree_text l) c.put_held.result (g.W.Sink.contents c.args.out.now) (g.W.Sink.contents c.put_held.new.out) (g.W.Sink.faults c.args.out.now) (g.W.Sink.faults c.put_held.new.out)) c.self.view_is c.put_held.ensures)

pub returns-clause-later : goal.returns-clause-later
returns-clause-later g c =
    put_later (tree_text c.args.self.now) c.put_held.result (g.W.Sink.contents c.args.out.now) (g.W.Sink.contents c.put_held.new.out) (g.W.Sink.faults c.args.out.now) (g.W.Sink.faults c.put_held.new.out)
    (subst (λ (l : List (List ℕ × Target)). IsPut (tree_text l) c.put_held.result (g.W.Sink.contents c.args.out.now) (g.W.Sink.contents c.put_held.new.out) (g.W.Sink.faults c.args.out.now) (g.W.Sink.faults c.put_held.new.out)) c.self.view_is c.put_held.ensures)
