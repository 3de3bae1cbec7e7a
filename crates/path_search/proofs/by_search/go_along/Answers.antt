use Rattle.std.proofs.Common.{◌≡◌, ◌<◌, ℕ, List, [], Result, length, map, get_or, arith, Bor}
use Rattle.bt_cursor.specs.Flat.{flat_of}
use Rattle.bt_cursor.specs.Cursors.{root_of, tree_of}
use Rattle.view_rules.specs.Facts.{Facts, facts_in}
use Rattle.path_search.specs.Places.{Place}
use Rattle.path_search.specs.Parts.{along, by_part, Leads, HasEntriesIn, NeedsIn, PartNeeds, WhereLed}
use Rattle.path_search.specs.declared.answer.Answer.{Answer}
use Rattle.path_search.proofs.Viewed.{leads_to, leads_err, led_to, led_err}
use Rattle.path_search.proofs.Listed.{along_next, along_ends}
use Rattle.path_search.proofs.Needed.{needs_next, needs_ends, needs_done}
use Rattle.path_search.proofs.Stays.{stays_on, stops_on, says_on}
use Rattle.path_search.proofs.by_search.go_along.Goals as goal

pub returns-in-Answered-clause-leads : goal.returns-in-Answered-clause-leads
returns-in-Answered-clause-leads g c image told on ordered =
    let facts : Facts = facts_in c.args.names (flat_of (tree_of c.args.cursor.now image) (root_of c.args.cursor.now)) in
    let low : c.loop-part.part-index < length c.args.parts.now = omega arith in
    let d : Bor (List ℕ) = record { ref_ptr = (0, 0); now = [] } in
    let part : List ℕ = (get_or c.args.parts.now c.loop-part.part-index d).now in
    let whole : Result Place Answer = along facts (map (λ (p : Bor (List ℕ)). p.now) c.args.parts.now) c.args.start in
    let goes = says_on (λ t r. Leads (λ (p : Place). p) (by_part (facts_in c.args.names (flat_of t r)) c.loop-part.place part) c.in-Ok.onward) c.loop-part.invariant.stays c.in-Ok.ensures.leads image told on ordered in
    along_ends (λ (p : Bor (List ℕ)). p.now) facts c.args.parts.now c.loop-part.part-index d c.loop-part.place c.in-Answered.answer whole low (leads_err (λ (p : Place). p) (by_part facts c.loop-part.place part) c.in-Ok.onward c.in-Answered.answer c.in-Answered.is goes) (c.loop-part.invariant.goes image told on ordered)

pub returns-in-Answered-clause-needs : goal.returns-in-Answered-clause-needs
returns-in-Answered-clause-needs g c image told on ordered =
    let facts : Facts = facts_in c.args.names (flat_of (tree_of c.args.cursor.now image) (root_of c.args.cursor.now)) in
    let low : c.loop-part.part-index < length c.args.parts.now = omega arith in
    let d : Bor (List ℕ) = record { ref_ptr = (0, 0); now = [] } in
    let part : List ℕ = (get_or c.args.parts.now c.loop-part.part-index d).now in
    let goes = says_on (λ t r. Leads (λ (p : Place). p) (by_part (facts_in c.args.names (flat_of t r)) c.loop-part.place part) c.in-Ok.onward) c.loop-part.invariant.stays c.in-Ok.ensures.leads image told on ordered in
    let has_all : ℕ → Type 0 = HasEntriesIn c.args.names (tree_of c.args.cursor.now image) (root_of c.args.cursor.now) in
    let needs = says_on (λ t r. WhereLed (NeedsIn (λ f h. PartNeeds f h c.loop-part.place part) c.args.names t r) c.in-Ok.onward) c.loop-part.invariant.stays c.in-Ok.ensures.needs image told on ordered in
    c.loop-part.invariant.needs image told on ordered
    (needs_ends (λ (p : Bor (List ℕ)). p.now) facts has_all c.args.parts.now c.loop-part.part-index d c.loop-part.place c.in-Answered.answer low (led_err (PartNeeds facts has_all c.loop-part.place part) c.in-Ok.onward c.in-Answered.answer c.in-Answered.is needs)
    (leads_err (λ (p : Place). p) (by_part facts c.loop-part.place part) c.in-Ok.onward c.in-Answered.answer c.in-Answered.is goes))

pub loop-part-preserved : goal.loop-part-preserved
loop-part-preserved g c = record {
  stays = stays_on c.loop-part.invariant.stays c.in-Ok.ensures.stays;
  goes = λ image told on ordered.
      let facts : Facts = facts_in c.args.names (flat_of (tree_of c.args.cursor.now image) (root_of c.args.cursor.now)) in
      let low : c.loop-part.part-index < length c.args.parts.now = omega arith in
      let d : Bor (List ℕ) = record { ref_ptr = (0, 0); now = [] } in
      let part : List ℕ = (get_or c.args.parts.now c.loop-part.part-index d).now in
      let whole : Result Place Answer = along facts (map (λ (p : Bor (List ℕ)). p.now) c.args.parts.now) c.args.start in
      let goes = says_on (λ t r. Leads (λ (p : Place). p) (by_part (facts_in c.args.names (flat_of t r)) c.loop-part.place part) c.in-Ok.onward) c.loop-part.invariant.stays c.in-Ok.ensures.leads image told on ordered in
      along_next (λ (p : Bor (List ℕ)). p.now) facts c.args.parts.now c.loop-part.part-index d c.loop-part.place c.in-To.next whole low (leads_to (λ (p : Place). p) (by_part facts c.loop-part.place part) c.in-Ok.onward c.in-To.next c.in-To.is goes) (c.loop-part.invariant.goes image told on ordered);
  needs = λ image told on ordered rest.
      let facts : Facts = facts_in c.args.names (flat_of (tree_of c.args.cursor.now image) (root_of c.args.cursor.now)) in
      let low : c.loop-part.part-index < length c.args.parts.now = omega arith in
      let d : Bor (List ℕ) = record { ref_ptr = (0, 0); now = [] } in
      let part : List ℕ = (get_or c.args.parts.now c.loop-part.part-index d).now in
      let goes = says_on (λ t r. Leads (λ (p : Place). p) (by_part (facts_in c.args.names (flat_of t r)) c.loop-part.place part) c.in-Ok.onward) c.loop-part.invariant.stays c.in-Ok.ensures.leads image told on ordered in
      let has_all : ℕ → Type 0 = HasEntriesIn c.args.names (tree_of c.args.cursor.now image) (root_of c.args.cursor.now) in
      let needs = says_on (λ t r. WhereLed (NeedsIn (λ f h. PartNeeds f h c.loop-part.place part) c.args.names t r) c.in-Ok.onward) c.loop-part.invariant.stays c.in-Ok.ensures.needs image told on ordered in
      c.loop-part.invariant.needs image told on ordered
      (needs_next (λ (p : Bor (List ℕ)). p.now) facts has_all c.args.parts.now c.loop-part.part-index d c.loop-part.place c.in-To.next low (led_to (PartNeeds facts has_all c.loop-part.place part) c.in-Ok.onward c.in-To.next c.in-To.is needs)
      (leads_to (λ (p : Place). p) (by_part facts c.loop-part.place part) c.in-Ok.onward c.in-To.next c.in-To.is goes) rest);
}

pub returns-clause-needs : goal.returns-clause-needs
returns-clause-needs g c image told on ordered =
    let facts : Facts = facts_in c.args.names (flat_of (tree_of c.args.cursor.now image) (root_of c.args.cursor.now)) in
    let end : c.loop-part.part-index ≡ length c.args.parts.now = omega arith in
    c.loop-part.invariant.needs image told on ordered (needs_done (λ (p : Bor (List ℕ)). p.now) facts (HasEntriesIn c.args.names (tree_of c.args.cursor.now image) (root_of c.args.cursor.now)) c.args.parts.now c.loop-part.part-index c.loop-part.place end)

pub returns-in-Err-clause-stays : goal.returns-in-Err-clause-stays
returns-in-Err-clause-stays g c = stays_on c.loop-part.invariant.stays c.in-Err.ensures.stays

pub returns-in-Err-clause-stops : goal.returns-in-Err-clause-stops
returns-in-Err-clause-stops g c = stops_on c.loop-part.invariant.stays c.in-Err.ensures.stops

pub returns-in-Answered-clause-stays : goal.returns-in-Answered-clause-stays
returns-in-Answered-clause-stays g c = stays_on c.loop-part.invariant.stays c.in-Ok.ensures.stays

pub returns-in-Lost-clause-stays : goal.returns-in-Lost-clause-stays
returns-in-Lost-clause-stays g c = stays_on c.loop-part.invariant.stays c.in-Ok.ensures.stays
