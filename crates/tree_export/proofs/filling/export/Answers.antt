use Rattle.std.proofs.Common.{◌≡◌, ◌∙◌, ◌+◌, ◌<◌, ℕ, List, [], ◌∷◌, ◌++◌, true, length, map, take, drop, refl, ap, sym, subst, arith, take-append-drop}
use Rattle.std.proofs.lemmas.List.{length-map}
use Rattle.std.proofs.lemmas.List.Elements.{All-nil, All-same, All-push}
use Rattle.vol_view.specs.Views.{view_flat, is_view_ordered}
use Rattle.view_rules.specs.Rules.{view_facts}
use Rattle.blk_folder.specs.Items as folders
use Rattle.blk_folder.specs.Put.{Filled}
use Rattle.tree_export.specs.Exported.{Wanted, item_of, put_all, exported}
use Rattle.tree_export.specs.Stopping.{wanted_of, HaveInodes}
use Rattle.tree_export.specs.Done.{IsDoneFor}
use Rattle.tree_export.specs.Faults.{HasInode}
use Rattle.tree_export.specs.Parts.{TellsMore}
use Rattle.tree_export.proofs.Fills.{filled_none, filled_more, filled_cut, filled_front, put_append, put_nothing}
use Rattle.tree_export.proofs.Counts.{done_none, done_more}
use Rattle.tree_export.proofs.Taken.{taken_more, taken_split, taken_all, taken_len, taken_there, inside_more}
use Rattle.tree_export.proofs.Stops.{missing_only, lawful_free}
use Rattle.tree_export.proofs.filling.export.Goals as goal

pub loop-place-init : goal.loop-place-init
loop-place-init g c = record {
  filled = filled_none (g.F.Folder.contents c.args.folder.now) (g.S.BlockSource.bytes c.args.src.now) (λ (image : List ℕ). is_view_ordered image c.args.site.now c.args.volume.now c.args.view.now ≡ true) (λ (image : List ℕ). put_all c.args.site.now.block_size image (view_facts image c.args.site.now c.args.volume.now c.args.view.now) []) (λ image. put_nothing c.args.site.now.block_size image (view_facts image c.args.site.now c.args.volume.now c.args.view.now));
  told = λ image told ordered. done_none c.args.site.now.block_size image (view_facts image c.args.site.now c.args.volume.now c.args.view.now) _ refl refl refl c.new.ensures.items;
  inside = All-same (λ (place : ℕ). place < 0) _ [] c.new.ensures.items (All-nil (λ (place : ℕ). place < 0));
  inodes = λ image told. All-nil (λ (item : Wanted). HasInode (view_flat image c.args.site.now c.args.volume.now c.args.view.now) item.id);
  kept = record { same_bytes = refl; same_size = refl; later = omega arith };
  later = omega arith;
  on = c.new-trail.ensures c.args.rows.now;
}

pub returns-in-Err-clause-filled : goal.returns-in-Err-clause-filled
returns-in-Err-clause-filled g c =
    filled_front (g.F.Folder.contents c.args.folder.now) (g.F.Folder.contents c.loop-place.folder) (g.S.BlockSource.bytes c.args.src.now) (λ (image : List ℕ). is_view_ordered image c.args.site.now c.args.volume.now c.args.view.now ≡ true) (λ (image : List ℕ). put_all c.args.site.now.block_size image (view_facts image c.args.site.now c.args.volume.now c.args.view.now) (take c.loop-place.place (map item_of c.args.rows.now))) (λ (image : List ℕ). put_all c.args.site.now.block_size image (view_facts image c.args.site.now c.args.volume.now c.args.view.now) (map item_of c.args.rows.now)) (λ (image : List ℕ). put_all c.args.site.now.block_size image (view_facts image c.args.site.now c.args.volume.now c.args.view.now) (drop c.loop-place.place (map item_of c.args.rows.now)))
    (λ image. sym (put_append c.args.site.now.block_size image (view_facts image c.args.site.now c.args.volume.now c.args.view.now) (take c.loop-place.place (map item_of c.args.rows.now)) (drop c.loop-place.place (map item_of c.args.rows.now))) ∙ ap (put_all c.args.site.now.block_size image (view_facts image c.args.site.now c.args.volume.now c.args.view.now)) (take-append-drop c.loop-place.place (map item_of c.args.rows.now)))
    c.loop-place.invariant.filled

pub returns-in-Err-clause-present : goal.returns-in-Err-clause-present
returns-in-Err-clause-present g c image told =
    let there = taken_there (map item_of c.args.rows.now) c.loop-place.place (omega (arith, length-map c.args.rows.now item_of)) in
    record {
      number = c.loop-place.place;
      item = there.0;
      at = there.1;
      before = c.loop-place.invariant.inodes image told;
      there = tt;
      missing = λ whole lacks. tt;
    }

pub returns-in-Err-put_item-clause-filled : goal.returns-in-Err-put_item-clause-filled
returns-in-Err-put_item-clause-filled g c =
    filled_cut (g.F.Folder.contents c.args.folder.now) (g.F.Folder.contents c.loop-place.folder) (g.F.Folder.contents c.put_item.new.folder) (g.S.BlockSource.bytes c.args.src.now) (g.S.BlockSource.bytes c.loop-place.src) (λ (image : List ℕ). is_view_ordered image c.args.site.now c.args.volume.now c.args.view.now ≡ true)
    (λ (image : List ℕ). put_all c.args.site.now.block_size image (view_facts image c.args.site.now c.args.volume.now c.args.view.now) (take c.loop-place.place (map item_of c.args.rows.now))) (λ (image : List ℕ). put_all c.args.site.now.block_size image (view_facts image c.args.site.now c.args.volume.now c.args.view.now) (wanted_of c.in-Ok.item ∷ [])) (λ (image : List ℕ). put_all c.args.site.now.block_size image (view_facts image c.args.site.now c.args.volume.now c.args.view.now) (map item_of c.args.rows.now)) (λ (image : List ℕ). put_all c.args.site.now.block_size image (view_facts image c.args.site.now c.args.volume.now c.args.view.now) (drop (c.loop-place.place + 1) (map item_of c.args.rows.now)))
    c.loop-place.invariant.kept.same_bytes
    (λ image. ap (λ (l : List folders.Item). l ++ put_all c.args.site.now.block_size image (view_facts image c.args.site.now c.args.volume.now c.args.view.now) (drop (c.loop-place.place + 1) (map item_of c.args.rows.now))) (sym (put_append c.args.site.now.block_size image (view_facts image c.args.site.now c.args.volume.now c.args.view.now) (take c.loop-place.place (map item_of c.args.rows.now)) (wanted_of c.in-Ok.item ∷ [])))
    ∙ (sym (put_append c.args.site.now.block_size image (view_facts image c.args.site.now c.args.volume.now c.args.view.now) ((take c.loop-place.place (map item_of c.args.rows.now)) ++ (wanted_of c.in-Ok.item ∷ [])) (drop (c.loop-place.place + 1) (map item_of c.args.rows.now))) ∙ ap (put_all c.args.site.now.block_size image (view_facts image c.args.site.now c.args.volume.now c.args.view.now)) (taken_split (map item_of c.args.rows.now) c.loop-place.place (wanted_of c.in-Ok.item) c.in-Ok.ensures.item)))
    c.loop-place.invariant.filled c.in-Err-put_item.ensures.filled

pub returns-in-Err-put_item-clause-present : goal.returns-in-Err-put_item-clause-present
returns-in-Err-put_item-clause-present g c image told =
    let there = c.in-Err-put_item.ensures.present image (c.loop-place.invariant.kept.same_bytes ∙ told) in
    record {
      number = c.loop-place.place;
      item = wanted_of c.in-Ok.item;
      at = c.in-Ok.ensures.item;
      before = c.loop-place.invariant.inodes image told;
      there = there;
      missing = missing_only image c.args.site.now c.args.volume.now c.args.view.now c.in-Ok.item.id c.in-Err-put_item.stop there;
    }

pub returns-in-Err-put_item-clause-exact : goal.returns-in-Err-put_item-clause-exact
returns-in-Err-put_item-clause-exact g c image told lawful same =
    lawful_free image c.args.site.now c.args.volume.now c.args.view.now (map item_of c.args.rows.now) c.in-Err-put_item.stop lawful same (returns-in-Err-put_item-clause-present g c image told)

pub returns-in-Err-tell-clause-filled : goal.returns-in-Err-tell-clause-filled
returns-in-Err-tell-clause-filled g c =
    filled_front (g.F.Folder.contents c.args.folder.now) (g.F.Folder.contents c.put_item.new.folder) (g.S.BlockSource.bytes c.args.src.now) (λ (image : List ℕ). is_view_ordered image c.args.site.now c.args.volume.now c.args.view.now ≡ true) (λ (image : List ℕ). put_all c.args.site.now.block_size image (view_facts image c.args.site.now c.args.volume.now c.args.view.now) (take (c.loop-place.place + 1) (map item_of c.args.rows.now))) (λ (image : List ℕ). put_all c.args.site.now.block_size image (view_facts image c.args.site.now c.args.volume.now c.args.view.now) (map item_of c.args.rows.now)) (λ (image : List ℕ). put_all c.args.site.now.block_size image (view_facts image c.args.site.now c.args.volume.now c.args.view.now) (drop (c.loop-place.place + 1) (map item_of c.args.rows.now)))
    (λ image. ap (λ (l : List Wanted). put_all c.args.site.now.block_size image (view_facts image c.args.site.now c.args.volume.now c.args.view.now) l ++ put_all c.args.site.now.block_size image (view_facts image c.args.site.now c.args.volume.now c.args.view.now) (drop (c.loop-place.place + 1) (map item_of c.args.rows.now))) (taken_more (map item_of c.args.rows.now) c.loop-place.place (wanted_of c.in-Ok.item) c.in-Ok.ensures.item)
    ∙ (sym (put_append c.args.site.now.block_size image (view_facts image c.args.site.now c.args.volume.now c.args.view.now) ((take c.loop-place.place (map item_of c.args.rows.now)) ++ (wanted_of c.in-Ok.item ∷ [])) (drop (c.loop-place.place + 1) (map item_of c.args.rows.now))) ∙ ap (put_all c.args.site.now.block_size image (view_facts image c.args.site.now c.args.volume.now c.args.view.now)) (taken_split (map item_of c.args.rows.now) c.loop-place.place (wanted_of c.in-Ok.item) c.in-Ok.ensures.item)))
    (filled_more (g.F.Folder.contents c.args.folder.now) (g.F.Folder.contents c.loop-place.folder) (g.F.Folder.contents c.put_item.new.folder) (g.S.BlockSource.bytes c.args.src.now) (g.S.BlockSource.bytes c.loop-place.src) (λ (image : List ℕ). is_view_ordered image c.args.site.now c.args.volume.now c.args.view.now ≡ true) (λ (image : List ℕ). put_all c.args.site.now.block_size image (view_facts image c.args.site.now c.args.volume.now c.args.view.now) (take c.loop-place.place (map item_of c.args.rows.now))) (λ (image : List ℕ). put_all c.args.site.now.block_size image (view_facts image c.args.site.now c.args.volume.now c.args.view.now) (wanted_of c.in-Ok.item ∷ [])) (λ (image : List ℕ). put_all c.args.site.now.block_size image (view_facts image c.args.site.now c.args.volume.now c.args.view.now) (take (c.loop-place.place + 1) (map item_of c.args.rows.now))) c.loop-place.invariant.kept.same_bytes
    (λ image. sym (put_append c.args.site.now.block_size image (view_facts image c.args.site.now c.args.volume.now c.args.view.now) (take c.loop-place.place (map item_of c.args.rows.now)) (wanted_of c.in-Ok.item ∷ [])) ∙ ap (put_all c.args.site.now.block_size image (view_facts image c.args.site.now c.args.volume.now c.args.view.now)) (sym (taken_more (map item_of c.args.rows.now) c.loop-place.place (wanted_of c.in-Ok.item) c.in-Ok.ensures.item)))
    c.loop-place.invariant.filled c.in-Ok-put_item.ensures.filled)

pub returns-in-Err-tell-clause-present : goal.returns-in-Err-tell-clause-present
returns-in-Err-tell-clause-present g c image told =
    record {
      number = c.loop-place.place;
      item = wanted_of c.in-Ok.item;
      at = c.in-Ok.ensures.item;
      before = c.loop-place.invariant.inodes image told;
      there = tt;
      missing = λ whole lacks. tt;
    }

pub loop-place-preserved : goal.loop-place-preserved
loop-place-preserved g c =
    let before = c.loop-place.invariant in
    let more : TellsMore c.loop-place.done c.loop-place.place c.in-Ok-put_item.put c.tell.new.done = c.in-Ok-tell.ensures in
    record {
      on = c.in-Ok.ensures.on;
      filled =
          filled_more (g.F.Folder.contents c.args.folder.now) (g.F.Folder.contents c.loop-place.folder) (g.F.Folder.contents c.put_item.new.folder) (g.S.BlockSource.bytes c.args.src.now) (g.S.BlockSource.bytes c.loop-place.src) (λ (image : List ℕ). is_view_ordered image c.args.site.now c.args.volume.now c.args.view.now ≡ true) (λ (image : List ℕ). put_all c.args.site.now.block_size image (view_facts image c.args.site.now c.args.volume.now c.args.view.now) (take c.loop-place.place (map item_of c.args.rows.now))) (λ (image : List ℕ). put_all c.args.site.now.block_size image (view_facts image c.args.site.now c.args.volume.now c.args.view.now) (wanted_of c.in-Ok.item ∷ [])) (λ (image : List ℕ). put_all c.args.site.now.block_size image (view_facts image c.args.site.now c.args.volume.now c.args.view.now) (take (c.loop-place.place + 1) (map item_of c.args.rows.now))) c.loop-place.invariant.kept.same_bytes
          (λ image. sym (put_append c.args.site.now.block_size image (view_facts image c.args.site.now c.args.volume.now c.args.view.now) (take c.loop-place.place (map item_of c.args.rows.now)) (wanted_of c.in-Ok.item ∷ [])) ∙ ap (put_all c.args.site.now.block_size image (view_facts image c.args.site.now c.args.volume.now c.args.view.now)) (sym (taken_more (map item_of c.args.rows.now) c.loop-place.place (wanted_of c.in-Ok.item) c.in-Ok.ensures.item)))
          before.filled c.in-Ok-put_item.ensures.filled;
      told = λ image told ordered.
          subst (λ (l : List Wanted). IsDoneFor c.args.site.now.block_size image (view_facts image c.args.site.now c.args.volume.now c.args.view.now) l c.tell.new.done) (sym (taken_more (map item_of c.args.rows.now) c.loop-place.place (wanted_of c.in-Ok.item) c.in-Ok.ensures.item))
          (done_more c.args.site.now.block_size image (view_facts image c.args.site.now c.args.volume.now c.args.view.now) (take c.loop-place.place (map item_of c.args.rows.now)) (wanted_of c.in-Ok.item) c.in-Ok-put_item.put c.loop-place.done c.tell.new.done (before.told image told ordered) (c.in-Ok-put_item.ensures.told image (c.loop-place.invariant.kept.same_bytes ∙ told) ordered)
          (subst (λ (n : ℕ). TellsMore c.loop-place.done n c.in-Ok-put_item.put c.tell.new.done) (sym (taken_len (map item_of c.args.rows.now) c.loop-place.place (wanted_of c.in-Ok.item) c.in-Ok.ensures.item)) more));
      inside = inside_more c.loop-place.done c.loop-place.place c.in-Ok-put_item.put c.tell.new.done more before.inside;
      inodes = λ image told.
          subst (λ (l : List Wanted). HaveInodes (view_flat image c.args.site.now c.args.volume.now c.args.view.now) l) (sym (taken_more (map item_of c.args.rows.now) c.loop-place.place (wanted_of c.in-Ok.item) c.in-Ok.ensures.item))
          (All-push (λ (item : Wanted). HasInode (view_flat image c.args.site.now c.args.volume.now c.args.view.now) item.id) (take c.loop-place.place (map item_of c.args.rows.now)) (wanted_of c.in-Ok.item) (before.inodes image told) (c.in-Ok-put_item.ensures.record image (c.loop-place.invariant.kept.same_bytes ∙ told)));
      kept = record {
        same_bytes = c.in-Ok-put_item.ensures.kept.same_bytes ∙ before.kept.same_bytes;
        same_size = c.in-Ok-put_item.ensures.kept.same_size ∙ before.kept.same_size;
        later = omega (arith, c.in-Ok-put_item.ensures.kept.later, before.kept.later);
      };
      later = omega (arith, c.in-Ok-put_item.ensures.later, before.later);
    }

pub returns-clause-exported : goal.returns-clause-exported
unfolding exported
returns-clause-exported g c image told ordered same =
    let filled = c.loop-place.invariant.filled in
    let end : c.loop-place.place ≡ length (map item_of c.args.rows.now) = omega (arith, length-map c.args.rows.now item_of) in
    subst (λ (l : List folders.Item). Filled (g.F.Folder.contents c.args.folder.now) (g.F.Folder.contents c.loop-place.folder) l)
    (filled.2 image told ordered ∙ (ap (put_all c.args.site.now.block_size image (view_facts image c.args.site.now c.args.volume.now c.args.view.now)) (taken_all (map item_of c.args.rows.now) c.loop-place.place end) ∙ ap (put_all c.args.site.now.block_size image (view_facts image c.args.site.now c.args.volume.now c.args.view.now)) same)) filled.1

pub returns-clause-inodes : goal.returns-clause-inodes
returns-clause-inodes g c image told =
    let end : c.loop-place.place ≡ length (map item_of c.args.rows.now) = omega (arith, length-map c.args.rows.now item_of) in
    subst (λ (l : List Wanted). HaveInodes (view_flat image c.args.site.now c.args.volume.now c.args.view.now) l) (taken_all (map item_of c.args.rows.now) c.loop-place.place end) (c.loop-place.invariant.inodes image told)
