use Rattle.std.proofs.Common.{◌≡◌, ◌∙◌, ◌++◌, ℕ, List, length, map, ap}
use Rattle.std.specs.List.{range_with_len}
use Rattle.reach_gather.specs.Chain.{reap_at}
use Rattle.reach_gather.proofs.Chain.{reaper-adds, longer}
use Rattle.reach_gather.proofs.reaping.add_reaper.Goals as goal

pub returns-clause-clear : goal.returns-clause-clear
returns-clause-clear c = λ image.
    let ids : c.as_slice.result.now ≡ c.in-Ok.ids.items = c.as_slice.ensures.value in
    reaper-adds image c.args.cp.now c.in-Ok.ids.items c.args.out.now c.note_links.new.out (c.in-Ok.ensures.clear image)
    (c.in_ok-note_links.ensures.namings ∙ ap (λ (xs : List ℕ). c.args.out.now.namings ++ map (reap_at xs) (range_with_len 0 (length xs))) ids)
    c.note_links.ensures.owners
    c.note_links.ensures.pool_owners

pub returns-clause-longer : goal.returns-clause-longer
returns-clause-longer c = longer c.args.out.now.namings (map (reap_at c.as_slice.result.now) (range_with_len 0 (length c.as_slice.result.now))) c.note_links.new.out.namings c.in_ok-note_links.ensures.namings
