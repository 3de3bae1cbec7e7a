-- The path of an item is that of its place, which is UTF-8.
use Rattle.std.proofs.Common.{◌≡◌, ◌∙◌, ap, sym, length, List, ℕ, arith, slice_range}
use Rattle.std.proofs.lemmas.Str.{IsUtf8-from_is_utf8}
use Rattle.std.specs.Str.{IsUtf8, is_utf8}
use Rattle.blk_folder.specs.Items.{Item}
use Rattle.blk_folder.specs.Memory.{MemoryFolder}
use Rattle.blk_folder.specs.Places.{IsIn, end_at, item_to}
use Rattle.blk_folder.proofs.Held.{place-low, seen-in, seen-at, utf8-ok}
use Rattle.blk_folder.proofs.memory.MemFolder.path.Goals as goal

pub index-place-requires : goal.index-place-requires
index-place-requires c =
    let inside = c.self.inside in
    place-low inside.text.items inside.places.items c.args.self.now.contents _ c.args.i (ap (λ (f : MemoryFolder). f.contents) c.self.view_is) inside.places.ok.0 c.requires

pub part-path-requires : goal.part-path-requires
part-path-requires c =
    let inside = c.self.inside in
    let is : IsIn inside.text.items c.index-place.result.now (end_at inside.places.items (length inside.text.items) c.args.i) =
    seen-in inside.text.items inside.places.items c.args.self.now.contents c.args.i c.index-place.result.now (ap (λ (f : MemoryFolder). f.contents) c.self.view_is) c.self.invariant.4 c.requires c.index-place.ensures in
    record {
      order = is.path_first;
      inside = omega (arith, is.then_bytes, is.inside, c.deref.ensures.len, inside.text.ok.0);
    }

pub unwrap-requires : goal.unwrap-requires
unwrap-requires c =
    let inside = c.self.inside in
    let place = c.index-place.result.now in
    let is : IsIn inside.text.items place (end_at inside.places.items (length inside.text.items) c.args.i) =
    seen-in inside.text.items inside.places.items c.args.self.now.contents c.args.i place (ap (λ (f : MemoryFolder). f.contents) c.self.view_is) c.self.invariant.4 c.requires c.index-place.ensures in
    let same : c.part-path.result.now ≡ slice_range inside.text.items place.start place.path_end = c.part-path.ensures ∙ ap (λ (l : List ℕ). slice_range l place.start place.path_end) c.deref.ensures.value in
    utf8-ok c.from_utf8.result _ _ _ c.from_utf8.ensures.cases (IsUtf8-from_is_utf8 c.part-path.result.now (ap is_utf8 same ∙ is.is_path))

pub returns : goal.returns
returns c item at =
    let inside = c.self.inside in
    let place = c.index-place.result.now in
    let is : item ≡ item_to inside.text.items place (end_at inside.places.items (length inside.text.items) c.args.i) =
    seen-at inside.text.items inside.places.items c.args.self.now.contents c.args.i place item (ap (λ (f : MemoryFolder). f.contents) c.self.view_is) c.requires c.index-place.ensures at in
    let both : (c.unwrap.result.now ≡ c.part-path.result.now) × IsUtf8 c.part-path.result.now = rw c.unwrap.ensures at c.from_utf8.ensures.cases in
    ap (λ (i : Item). i.path) is ∙ sym (both.0 ∙ c.part-path.ensures ∙ ap (λ (l : List ℕ). slice_range l place.start place.path_end) c.deref.ensures.value)
