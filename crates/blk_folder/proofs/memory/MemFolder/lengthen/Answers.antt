-- A piece more, at the end of the text, is a piece more of the last item.
use Rattle.std.proofs.Common.{◌≡◌, ◌+◌, ◌++◌, ◌∙◌, refl, ap, sym, subst, length, List, ℕ, arith}
use Rattle.std.proofs.lemmas.List.{length-append}
use Rattle.blk_folder.specs.Items.{with_more}
use Rattle.blk_folder.specs.Memory.{MemoryFolder, taken}
use Rattle.blk_folder.specs.Places.{items_in, AreIn, EndsInFile}
use Rattle.blk_folder.proofs.Held.{ok-is, grown-held, are-grown, taken-more, ends-more, with-contents-alone}
use Rattle.blk_folder.proofs.memory.MemFolder.lengthen.Goals as goal

text-is : (c : goal.After-unwrap) → c.extend_from_slice.new.self.items ≡ c.self.inside.text.items ++ c.args.piece.now
text-is c = ok-is c.extend_from_slice.result c.unwrap.result _ _ _ c.unwrap.ensures c.extend_from_slice.ensures.items

pub invariant_of-self : goal.invariant_of-self
invariant_of-self c =
    let inside = c.self.inside in
    let was = c.self.invariant in
    let old = items_in inside.text.items inside.places.items in
    let piece = c.args.piece.now in
    let room : inside.room ≡ c.args.self.now.room = ap (λ (f : MemoryFolder). f.room) c.self.view_is in
    let used : taken old ≡ taken c.args.self.now.contents = ap (λ (f : MemoryFolder). taken f.contents) c.self.view_is in
    let ends : EndsInFile old = was.6 (ap (λ (f : MemoryFolder). f.writing) c.self.view_is ∙ c.requires.writing) in
    let text_long : length c.extend_from_slice.new.self.items ≡ length inside.text.items + length piece = ap length (text-is c) ∙ length-append inside.text.items piece in
    let are : items_in c.extend_from_slice.new.self.items inside.places.items ≡ with_more piece old = grown-held inside.text.items piece c.extend_from_slice.new.self.items inside.places.items old refl (text-is c) was.4 in
    let more : taken (items_in c.extend_from_slice.new.self.items inside.places.items) ≡ taken old + length piece = ap taken are ∙ taken-more piece old ends in
    let P : List ℕ → Type 0 = λ l. AreIn l inside.places.items in (
      omega (arith, was.0, c.extend_from_slice.ensures.capacity),
      was.1,
      was.2,
      omega (arith, c.extend_from_slice.new.self.ok.0, text_long, inside.text.ok.0, was.5, used, room, c.requires.room),
      subst P (sym (text-is c)) (are-grown inside.text.items piece inside.places.items was.4),
      omega (arith, more, was.5, inside.text.ok.0, text_long, c.extend_from_slice.new.self.ok.0),
      λ writing. subst EndsInFile (sym are) (ends-more piece old ends),
    )

pub returns : goal.returns
returns c =
    let are : items_in c.extend_from_slice.new.self.items c.self.inside.places.items ≡ with_more c.args.piece.now c.args.self.now.contents =
    grown-held c.self.inside.text.items c.args.piece.now c.extend_from_slice.new.self.items c.self.inside.places.items c.args.self.now.contents
    (ap (λ (f : MemoryFolder). f.contents) c.self.view_is) (text-is c) c.self.invariant.4 in
    with-contents-alone c.args.self.now _ _ _ are _ _ _ _ _ _ c.self.view_is
