use Rattle.std.proofs.Common.{rules, ◌≡◌, true, false, List, map, reverse, ap, ◌∙◌}
use Rattle.path_search.specs.Places.{target_of}
use Rattle.path_search.specs.Listing.{children}
use Rattle.view_tree.specs.Parts.{is_opened_target}
use Rattle.view_tree.proofs.RowsKept.{kept_opened, kept_closed}
use Rattle.view_tree.proofs.Entered.{entered_by}
use Rattle.view_tree.proofs.Staying.{kept_by}
use Rattle.apfs_model.proofs.BoolTests.{clash}
use Rattle.path_search.specs.declared.order.Numbered.{Numbered}
use Rattle.view_tree.specs.declared.kept.Row.{Row}
use Rattle.view_tree.proofs.under.go_under.Goals as goal

pub returns-then-not-is_opened-clause-gives : goal.returns-then-not-is_opened-clause-gives
returns-then-not-is_opened-clause-gives c facts path first way entered memo =
    let e : is_opened_target c.args.target.now ≡ false = search rules in
    kept_closed facts c.args.shared c.args.target.now (reverse c.args.left.now.items) (reverse c.thin.new.list.items) e (ap (λ (l : List Row). reverse l) c.thin.ensures)

pub returns-in-Err-clause-stops : goal.returns-in-Err-clause-stops
returns-in-Err-clause-stops c facts path first way entered memo =
    let e : is_opened_target c.args.target.now ≡ true = search rules in
    c.in-Err.ensures.stops facts path first way (entered_by facts first c.id.result c.args.target.now.id c.id.ensures (entered e)) memo

pub returns-in-Ok-put_on-clause-gives : goal.returns-in-Ok-put_on-clause-gives
returns-in-Ok-put_on-clause-gives c facts path first way entered memo =
    let e : is_opened_target c.args.target.now ≡ true = search rules in
    let these : (map (λ (t : Numbered). t.target) c.in-Ok.targets.items) ≡ map target_of (children facts c.args.target.now.id) = c.in-Ok.ensures.gives facts path first way (entered_by facts first c.id.result c.args.target.now.id c.id.ensures (entered e)) memo ∙ ap (λ i. map target_of (children facts i)) c.id.ensures in
    kept_opened facts c.args.shared c.args.target.now (map (λ (t : Numbered). t.target) c.in-Ok.targets.items) (reverse c.args.left.now.items) (reverse c.put_on.new.left.items) e these c.in-Ok-put_on.ensures.put

pub returns-in-Ok-put_on-clause-kept : goal.returns-in-Ok-put_on-clause-kept
returns-in-Ok-put_on-clause-kept c facts path first way entered memo =
    let e : is_opened_target c.args.target.now ≡ true = search rules in
    c.in-Ok.ensures.kept facts path first way (entered_by facts first c.id.result c.args.target.now.id c.id.ensures (entered e)) memo

pub returns-then-not-is_opened-clause-all : goal.returns-then-not-is_opened-clause-all
returns-then-not-is_opened-clause-all c facts path first way entered memo =
    let e : is_opened_target c.args.target.now ≡ false = search rules in
    (λ id s there. there, λ opened. absurd (clash (is_opened_target c.args.target.now) opened e))

pub returns-in-Ok-put_on-clause-all : goal.returns-in-Ok-put_on-clause-all
returns-in-Ok-put_on-clause-all c facts path first way entered memo =
    let e : is_opened_target c.args.target.now ≡ true = search rules in
    let k = c.in-Ok.ensures.all facts path first way (entered_by facts first c.id.result c.args.target.now.id c.id.ensures (entered e)) memo in
    (k.0, λ opened. kept_by facts c.enter.new.memo c.id.result c.args.target.now.id c.id.ensures k.1)
