use Rattle.std.proofs.Common.{◌≡◌, ◌<◌, length, Some, Ok, ap, sym, arith, Vec, Global, length-append}
use Rattle.apfs_model.specs.Lists.{In}
use Rattle.omap_map.proofs.Lists.{contains-in}
use Rattle.path_search.specs.Parts.{target_by, targets_with, whats}
use Rattle.path_search.specs.declared.kinds.KindAndSize.{KindAndSize}
use Rattle.path_search.proofs.Known.{known_lack}
use Rattle.path_search.proofs.Listed.{kinds_more, kinds_done}
use Rattle.path_search.proofs.Needed.{target_file, place_untold, files_next, files_done}
use Rattle.path_search.specs.Needs.{HaveFiles}
use Rattle.path_walk.proofs.by_memory.kinds_in.Goals as goal

pub returns-in-Err-clause-known : goal.returns-in-Err-clause-known
returns-in-Err-clause-known c facts same rise each =
    let low : c.loop-entry.entry-index < length c.args.entries.now = omega arith in
    let one : In c.entry-item.result c.args.entries.now = contains-in c.args.entries.now c.entry-item.result c.loop-entry.entry-index low (sym c.entry-item.is) in
    let t = each c.entry-item.result one in
    known_lack facts c.args.view.now c.entry-item.result (λ (v : Vec KindAndSize Global). targets_with c.args.entries.now v.items) _ c.in-Err.stop t.0 t.1 (c.in-Err.ensures.known facts same rise)

pub loop-entry-preserved : goal.loop-entry-preserved
loop-entry-preserved c = record {
  counted = omega (arith, ap length c.in_ok-push.ensures.items, length-append {A = KindAndSize});
  targets = λ facts same rise.
      let low : c.loop-entry.entry-index < length c.args.entries.now = omega arith in
      let there : target_by facts c.entry-item.result.what ≡ Some c.in-Ok.target = c.in-Ok.ensures.known facts same rise in
      kinds_more facts c.args.entries.now c.loop-entry.entry-index c.entry-item.result c.in-Ok.target c.kind_and_size.result c.loop-entry.kinds.items c.push.new.self.items low c.entry-item.is there c.kind_and_size.ensures.kind_told c.kind_and_size.ensures.size_told
      c.in_ok-push.ensures.items c.loop-entry.invariant.counted (c.loop-entry.invariant.targets facts same rise);
  files = λ facts same rise.
      let low : c.loop-entry.entry-index < length c.args.entries.now = omega arith in
      files_next facts c.args.entries.now c.loop-entry.entry-index c.entry-item.result low c.entry-item.is (target_file facts c.entry-item.result.what c.in-Ok.target (c.in-Ok.ensures.known facts same rise)) (c.loop-entry.invariant.files facts same rise);
}

pub returns-in-Err-clause-needs : goal.returns-in-Err-clause-needs
returns-in-Err-clause-needs c facts same rise each = place_untold (Vec KindAndSize Global) facts c.args.view.now c.entry-item.result (HaveFiles facts (whats c.args.entries.now)) c.in-Err.stop (c.in-Err.ensures.known facts same rise)

pub returns-clause-known : goal.returns-clause-known
returns-clause-known c facts same rise each =
    let end : c.loop-entry.entry-index ≡ length c.args.entries.now = omega arith in
    ap Ok (sym (kinds_done facts c.args.entries.now c.loop-entry.entry-index c.loop-entry.kinds.items end (c.loop-entry.invariant.targets facts same rise)))

pub returns-clause-needs : goal.returns-clause-needs
returns-clause-needs c facts same rise each =
    let end : c.loop-entry.entry-index ≡ length c.args.entries.now = omega arith in
    files_done facts c.args.entries.now c.loop-entry.entry-index end (c.loop-entry.invariant.files facts same rise)
