use Rattle.std.proofs.Common.{◌≡◌, ℕ, false}
use Rattle.fs_record.specs.Facts.{Fact}
use Rattle.fs_record.specs.Entries.{Entry}
use Rattle.fs_record.specs.Siblings.{Link}
use Rattle.view_rules.specs.Siblings.{is_entry_lost, is_link_lost, is_map_lost}
use Rattle.plain_change.specs.Fellows.{IsLinkLeft, IsMapLetGo, IsEntryLeft}
use Rattle.plain_change.proofs.Looks.{each-in}
use Rattle.plain_change.proofs.Among.{fellows}
use Rattle.plain_change.proofs.siblings.are_found.Goals as goal

pub returns : goal.returns
returns c holds =
    let after = c.args.after.now.index.now.facts.now in
    let gone = c.args.gone.now in
    let come = c.args.come.now in
    fellows after gone come
    (each-in (λ (e : Fact Entry). is_entry_lost after e ≡ false) come.entries (c.are_entries_found.ensures c.if-not-are_entries_found.false))
    (each-in (λ (l : Fact Link). is_link_lost after l ≡ false) come.links (c.are_links_found.ensures c.if-not-are_links_found.false))
    (each-in (λ (m : Fact ℕ). is_map_lost after m ≡ false) come.siblings (c.are_maps_found.ensures c.if-not-are_maps_found.false))
    (λ e listed. (each-in (IsEntryLeft after) gone.entries (c.are_entries_left.ensures c.if-not-are_entries_left.false) e listed).0)
    (λ l listed. (each-in (IsLinkLeft after) gone.links (c.are_links_left.ensures c.if-not-are_links_left.false) l listed).0)
    (each-in (IsMapLetGo after) gone.siblings (c.are_maps_let_go.ensures holds))
    (λ e listed. (each-in (IsEntryLeft after) gone.entries (c.are_entries_left.ensures c.if-not-are_entries_left.false) e listed).1)
    (λ l listed. (each-in (IsLinkLeft after) gone.links (c.are_links_left.ensures c.if-not-are_links_left.false) l listed).1)
