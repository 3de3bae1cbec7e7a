use Rattle.plain_change.proofs.found.has_fellows.Goals as goal

pub returns-in-Some : goal.returns-in-Some
returns-in-Some c holds = c.is_first_fellow.ensures holds c.in-Some.ensures
