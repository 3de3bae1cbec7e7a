use Rattle.std.proofs.Common.{◌≡◌, ◌<◌, ◌∙◌, List, length, Some, ap, sym, arith, below_more}
use Rattle.std.specs.BTreeMap.{get}
use Rattle.std.specs.Ordering.{nat_cmp}
use Rattle.std.proofs.lemmas.List.{take_all}
use Rattle.apfs_model.specs.Lists.{In}
use Rattle.omap_map.proofs.Lists.{contains-in}
use Rattle.fs_record.specs.Entries.{Entry}
use Rattle.fs_record.specs.Facts.{Fact}
use Rattle.path_search.specs.Parts.{whats, target_by, targets_by, numbered}
use Rattle.view_tree.proofs.Entered.{lack_stop, entry_by, place_told, met_entry}
use Rattle.view_tree.proofs.Numbered.{kind_at, numbered_more}
use Rattle.view_tree.specs.Met.{spot_in, is_user_id}
use Rattle.view_tree.proofs.Staying.{stays_on, at_stays, entry_kept, all_kept}
use Rattle.view_tree.proofs.under.meet_entries.Goals as goal

pub returns-in-Err-clause-stops : goal.returns-in-Err-clause-stops
returns-in-Err-clause-stops c facts path first way entered all told memo =
    let low : c.loop-number.number < length c.args.run.now.entries.now = omega arith in
    let one : In c.entry-item.result c.args.run.now.entries.now = contains-in c.args.run.now.entries.now c.entry-item.result c.loop-number.number low (sym c.entry-item.is) in
    let t = all.each c.entry-item.result one in
    let kind = kind_at facts c.args.run.now.entries.now c.args.run.now.kinds.now c.loop-number.number c.entry-item.result c.index-run-number.result told low c.entry-item.is c.index-run-number.is in
    lack_stop facts c.args.view.now path c.entry-item.result c.in-Err.stop t.0 t.1 (c.in-Err.ensures.known facts (sym c.index-run-number.is ∙ kind))

pub returns-in-Err-meet-clause-stops : goal.returns-in-Err-meet-clause-stops
returns-in-Err-meet-clause-stops c facts path first way entered all told memo =
    let h = c.loop-number.invariant facts path first way entered all told memo in
    let low : c.loop-number.number < length c.args.run.now.entries.now = omega arith in
    let kind = kind_at facts c.args.run.now.entries.now c.args.run.now.kinds.now c.loop-number.number c.entry-item.result c.index-run-number.result told low c.entry-item.is c.index-run-number.is in
    let p = place_told facts c.entry-item.result.what c.in_ok-target.target (c.in-Ok.ensures.known facts (sym c.index-run-number.is ∙ kind) ∙ ap Some (sym c.in_ok-target.ensures)) in
    let t = met_entry facts path first c.args.id c.loop-number.number c.args.files.now.entries.items c.args.files.now.kinds.items c.args.run.now.entries.now c.entry-item.result p.0 c.in_ok-target.target c.is_opened.result way entered all low c.entry-item.is p.1.0 p.1.1 c.is_opened.ensures in
    c.in-Err-meet.ensures.stops facts path h.1.0 t.0 (entry_by facts (spot_in c.args.id c.loop-number.number) c.id.result c.in_ok-target.target.id c.id.ensures t.1.0) (λ opens. ap (is_user_id facts) c.id.ensures ∙ t.1.1 opens)

pub loop-number-preserved : goal.loop-number-preserved
loop-number-preserved c facts path first way entered all told memo =
    let h = c.loop-number.invariant facts path first way entered all told memo in
    let low : c.loop-number.number < length c.args.run.now.entries.now = omega arith in
    let kind = kind_at facts c.args.run.now.entries.now c.args.run.now.kinds.now c.loop-number.number c.entry-item.result c.index-run-number.result told low c.entry-item.is c.index-run-number.is in
    let known : target_by facts c.entry-item.result.what ≡ Some c.in_ok-target.target = c.in-Ok.ensures.known facts (sym c.index-run-number.is ∙ kind) ∙ ap Some (sym c.in_ok-target.ensures) in
    let p = place_told facts c.entry-item.result.what c.in_ok-target.target known in
    let t = met_entry facts path first c.args.id c.loop-number.number c.args.files.now.entries.items c.args.files.now.kinds.items c.args.run.now.entries.now c.entry-item.result p.0 c.in_ok-target.target c.is_opened.result way entered all low c.entry-item.is p.1.0 p.1.1 c.is_opened.ensures in
    let n = numbered_more facts c.args.run.now.entries.now c.loop-number.number c.entry-item.result c.in_ok-target.target c.loop-number.targets.items low c.entry-item.is known h.0 in (
      (c.in_ok-push.ensures.items ∙ n.0, n.1),
      (
        c.in-Ok-meet.ensures.kept facts path h.1.0 t.0 (entry_by facts (spot_in c.args.id c.loop-number.number) c.id.result c.in_ok-target.target.id c.id.ensures t.1.0),
        (
          stays_on c.args.memo.now c.loop-number.memo c.meet.new.memo h.1.1.0 c.in-Ok-meet.ensures.stays,
          below_more _ _ (λ k less. at_stays facts c.loop-number.memo c.meet.new.memo (spot_in c.args.id k) c.in-Ok-meet.ensures.stays (h.1.1.1 k less))
              (entry_kept facts c.meet.new.memo c.args.id c.loop-number.number c.args.run.now.entries.now c.entry-item.result p.0 c.in_ok-target.target c.is_opened.result all low c.entry-item.is p.1.0 p.1.1 c.is_opened.ensures (λ opens. ap (get nat_cmp c.meet.new.memo) (sym c.id.ensures) ∙ c.in-Ok-meet.ensures.holds opens)),
        ),
      ),
    )

pub returns-clause-gives : goal.returns-clause-gives
returns-clause-gives c facts path first way entered all told memo =
    let end : c.loop-number.number ≡ length c.args.run.now.entries.now = omega arith in
    (c.loop-number.invariant facts path first way entered all told memo).0.0
    ∙ ap (λ (l : List (Fact Entry)). numbered 0 (targets_by facts (whats l))) (take_all c.loop-number.number c.args.run.now.entries.now (omega arith))

pub returns-clause-kept : goal.returns-clause-kept
returns-clause-kept c facts path first way entered all told memo = (c.loop-number.invariant facts path first way entered all told memo).1.0

pub returns-clause-all : goal.returns-clause-all
returns-clause-all c facts path first way entered all told memo =
    let h = c.loop-number.invariant facts path first way entered all told memo in
    let end : c.loop-number.number ≡ length c.args.run.now.entries.now = omega arith in
    (h.1.1.0, all_kept facts c.loop-number.memo c.args.id c.loop-number.number c.args.run.now.entries.now all end h.1.1.1)
