use Rattle.std.proofs.Common.{◌∙◌, ℕ, List, map, ap, Bor}
use Rattle.path_search.proofs.Stays.{tells_stop, read_failed}
use Rattle.path_search.proofs.by_search.locate.Goals as goal

pub returns-clause-leads : goal.returns-clause-leads
returns-clause-leads g c = c.go_from_root.ensures.leads c.args.path.now (ap (map (λ (part : Bor (List ℕ)). part.now)) c.deref.ensures.value ∙ c.in_ok-parts.ensures)

pub returns-clause-needs : goal.returns-clause-needs
returns-clause-needs g c = c.go_from_root.ensures.needs c.args.path.now (ap (map (λ (part : Bor (List ℕ)). part.now)) c.deref.ensures.value ∙ c.in_ok-parts.ensures)

pub returns-clause-present : goal.returns-clause-present
returns-clause-present g c = tells_stop g.S.BlockSource.bytes g.S.BlockSource.faults c.args.src.now c.go_from_root.new.src c.args.cursor.now c.go_from_root.result c.go_from_root.ensures.stops

pub returns-clause-cause : goal.returns-clause-cause
returns-clause-cause g c = read_failed g.S.BlockSource.bytes g.S.BlockSource.faults c.args.src.now c.go_from_root.new.src c.args.cursor.now c.go_from_root.result c.go_from_root.ensures.stops

pub returns-clause-within : goal.returns-clause-within
returns-clause-within g c = c.go_from_root.ensures.stays.within

pub returns-clause-kept : goal.returns-clause-kept
returns-clause-kept g c = c.go_from_root.ensures.stays.kept
