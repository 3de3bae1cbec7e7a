use Rattle.std.proofs.Common.{ℕ, ap, ◌∙◌}
use Rattle.std.specs.Prelude.{count_by, filter}
use Rattle.view_rules.specs.Names.{is_entry_at}
use Rattle.rule_changes.specs.Changes.{is_of}
use Rattle.plain_change.proofs.Looks.{hash-fellows, directory-fellows}
use Rattle.plain_change.proofs.repeats.rivals.Goals as goal

pub returns-then-is_told_by_hash : goal.returns-then-is_told_by_hash
returns-then-is_told_by_hash c right listed =
    let after = c.args.after.now.index.now.facts.now in
    let e = c.args.e.now in
    ap (count_by (is_entry_at e.id e.what.name)) c.entries_like.ensures
    ∙ hash-fellows after e (c.is_told_by_hash.ensures.hashed c.if-is_told_by_hash.true) (c.is_told_by_hash.ensures.ascii c.if-is_told_by_hash.true) right listed

pub returns-else-is_told_by_hash : goal.returns-else-is_told_by_hash
returns-else-is_told_by_hash c right listed =
    let after = c.args.after.now.index.now.facts.now in
    let e = c.args.e.now in
    ap (count_by (is_entry_at e.id e.what.name)) c.entries_of.ensures
    ∙ (ap (λ (id : ℕ). count_by (is_entry_at e.id e.what.name) (filter (is_of id) after.entries)) c.id.ensures ∙ directory-fellows after e)
