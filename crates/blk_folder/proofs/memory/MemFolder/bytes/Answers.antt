-- The bytes of a file are those from its path on, up to the next item.
use Rattle.std.proofs.Common.{◌≡◌, ◌∙◌, ap, length, List, ℕ, arith, slice_range}
use Rattle.blk_folder.specs.Memory.{MemoryFolder}
use Rattle.blk_folder.specs.Places.{IsIn, end_at, item_to}
use Rattle.blk_folder.specs.declared.memory.Place.{Place}
use Rattle.blk_folder.proofs.Held.{place-low, seen-in, seen-at, held-file, held-directory}
use Rattle.blk_folder.proofs.memory.MemFolder.bytes.Goals as goal

pub index-place-requires : goal.index-place-requires
index-place-requires c =
    let inside = c.self.inside in
    place-low inside.text.items inside.places.items c.args.self.now.contents _ c.args.i (ap (λ (f : MemoryFolder). f.contents) c.self.view_is) inside.places.ok.0 c.requires

pub end_at-end-requires : goal.end_at-end-requires
end_at-end-requires c =
    let inside = c.self.inside in
    place-low inside.text.items inside.places.items c.args.self.now.contents _ c.args.i (ap (λ (f : MemoryFolder). f.contents) c.self.view_is) (c.deref.ensures.len ∙ inside.places.ok.0) c.requires

pub part-requires : goal.part-requires
part-requires c =
    let inside = c.self.inside in
    let is : IsIn inside.text.items c.index-place.result.now (end_at inside.places.items (length inside.text.items) c.args.i) =
    seen-in inside.text.items inside.places.items c.args.self.now.contents c.args.i c.index-place.result.now (ap (λ (f : MemoryFolder). f.contents) c.self.view_is) c.self.invariant.4 c.requires c.index-place.ensures in
    let end : c.end_at-end.result ≡ end_at inside.places.items (length inside.text.items) c.args.i =
    c.end_at-end.ensures ∙ ap (λ (l : List Place). end_at l c.len.result c.args.i) c.deref.ensures.value ∙ ap (λ (k : ℕ). end_at inside.places.items k c.args.i) (c.len.ensures ∙ inside.text.ok.0) in
    record {
      order = omega (arith, is.then_bytes, end);
      inside = omega (arith, is.inside, end, c.deref-then-place.ensures.len, inside.text.ok.0);
    }

pub returns-then-place-clause-file : goal.returns-then-place-clause-file
returns-then-place-clause-file c item at =
    let inside = c.self.inside in
    let place = c.index-place.result.now in
    let is : item ≡ item_to inside.text.items place (end_at inside.places.items (length inside.text.items) c.args.i) =
    seen-at inside.text.items inside.places.items c.args.self.now.contents c.args.i place item (ap (λ (f : MemoryFolder). f.contents) c.self.view_is) c.requires c.index-place.ensures at in
    let end : c.end_at-end.result ≡ end_at inside.places.items (length inside.text.items) c.args.i =
    c.end_at-end.ensures ∙ ap (λ (l : List Place). end_at l c.len.result c.args.i) c.deref.ensures.value ∙ ap (λ (k : ℕ). end_at inside.places.items k c.args.i) (c.len.ensures ∙ inside.text.ok.0) in
    let same : c.part.result.now ≡ slice_range inside.text.items place.path_end (end_at inside.places.items (length inside.text.items) c.args.i) =
    c.part.ensures ∙ ap (λ (l : List ℕ). slice_range l place.path_end c.end_at-end.result) c.deref-then-place.ensures.value ∙ ap (slice_range inside.text.items place.path_end) end in
    held-file inside.text.items c.part.result.now place _ item is c.if-place.true same

pub returns-else-place-clause-directory : goal.returns-else-place-clause-directory
returns-else-place-clause-directory c item at =
    let inside = c.self.inside in
    let place = c.index-place.result.now in
    let is : item ≡ item_to inside.text.items place (end_at inside.places.items (length inside.text.items) c.args.i) =
    seen-at inside.text.items inside.places.items c.args.self.now.contents c.args.i place item (ap (λ (f : MemoryFolder). f.contents) c.self.view_is) c.requires c.index-place.ensures at in
    held-directory inside.text.items place _ item is c.if-place.false
