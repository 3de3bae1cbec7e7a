-- What is said of the rows holds of them as they are told.
use Rattle.std.proofs.Common.{◌≡◌, ◌∙◌, ℕ, List, Result, Err, Ok, ap, sym, subst, Vec, Global}
use Rattle.obj_base.specs.declared.stop.Stop.{Stop}
use Rattle.obj_base.specs.declared.stop.Stop.TheVariants.{Found}
use Rattle.view_rules.specs.Rules.{view_facts}
use Rattle.path_search.specs.Calls.{IsGiven}
use Rattle.path_search.specs.Needs.{RestsOn}
use Rattle.path_search.specs.declared.answer.Answer.{Answer}
use Rattle.path_search.specs.declared.stop.PathStop.{PathStop}
use Rattle.path_search.specs.declared.stop.PathStop.TheVariants as stops
use Rattle.path_search.specs.declared.target.Target.{Target}
use Rattle.view_tree.specs.Rows.{IsShownTwice, HaveMetFiles}
use Rattle.view_tree.specs.Needs.{TreeNeeds}
use Rattle.view_tree.specs.Tree.{tree}
use Rattle.view_tree.proofs.depth.tree.Goals as goal

-- what a stop says doesn't depend on what would have been answered
given-same : (wanted : Result (List (List ℕ × Target)) Answer) (stop : Stop PathStop) → IsGiven {T = List (List ℕ × Target)} (λ rows. rows) wanted (Err stop) → IsGiven {T = Vec (List ℕ × Target) Global} (λ rows. rows.items) wanted (Err stop)
given-same wanted (Found (stops.Answer a)) given = given
given-same wanted stop given = given

rests-same : (wanted : Result (List (List ℕ × Target)) Answer) (needs : Type 0) (stop : Stop PathStop) → RestsOn {T = List (List ℕ × Target)} (λ rows. rows) wanted needs (Err stop) → RestsOn {T = Vec (List ℕ × Target) Global} (λ rows. rows.items) wanted needs (Err stop)
rests-same wanted needs (Found (stops.Answer a)) rests = rests
rests-same wanted needs stop rests = rests

pub returns-in-Err-clause-exact : goal.returns-in-Err-clause-exact
returns-in-Err-clause-exact g c image told lawful =
    given-same (tree (view_facts image c.args.site.now c.args.volume.now c.args.view.now) c.args.path.now) c.in-Err.stop (c.in-Err.ensures.exact image told lawful)

pub returns-in-Err-clause-told : goal.returns-in-Err-clause-told
returns-in-Err-clause-told g c image told fault e =
    let same : c.in-Err.stop ≡ Found (stops.Fault fault) = cc in
    c.in-Err.ensures.told image told fault (ap (λ (s : Stop PathStop). Err s) same)

pub returns-in-Err-clause-rests : goal.returns-in-Err-clause-rests
returns-in-Err-clause-rests g c image told =
    rests-same (tree (view_facts image c.args.site.now c.args.volume.now c.args.view.now) c.args.path.now) (TreeNeeds image c.args.site.now c.args.volume.now c.args.view.now c.args.path.now) c.in-Err.stop (c.in-Err.ensures.rests image told)

pub returns-in-Ok-told-clause-exact : goal.returns-in-Ok-told-clause-exact
returns-in-Ok-told-clause-exact g c image told lawful = c.in-Ok.ensures.exact image told lawful ∙ ap (λ (l : List (List ℕ × Target)). Ok l) (sym c.in-Ok-told.ensures.told)

pub returns-in-Ok-told-clause-clear : goal.returns-in-Ok-told-clause-clear
returns-in-Ok-told-clause-clear g c image told id twice =
    c.in-Ok.ensures.clear image told id (subst (λ (l : List (List ℕ × Target)). IsShownTwice (view_facts image c.args.site.now c.args.volume.now c.args.view.now) c.args.path.now l id) c.in-Ok-told.ensures.told twice)

pub returns-in-Ok-told-clause-files : goal.returns-in-Ok-told-clause-files
returns-in-Ok-told-clause-files g c image told =
    subst (λ (l : List (List ℕ × Target)). HaveMetFiles (view_facts image c.args.site.now c.args.volume.now c.args.view.now) c.args.path.now l) (sym c.in-Ok-told.ensures.told) (c.in-Ok.ensures.files image told)

pub returns-in-Ok-told-clause-rests : goal.returns-in-Ok-told-clause-rests
returns-in-Ok-told-clause-rests g c image told =
    let rests = c.in-Ok.ensures.rests image told in
    (rests.0 ∙ ap (λ (l : List (List ℕ × Target)). Ok l) (sym c.in-Ok-told.ensures.told), rests.1)
