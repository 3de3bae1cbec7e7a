use Rattle.std.proofs.Common.{◌≡◌, ℕ, List, ◌∷◌, Option, Ok, ap, ap₂, sym, ◌∙◌, subst}
use Rattle.std.specs.Prelude.{option_map}
use Rattle.apfs_model.specs.Lists.{In}
use Rattle.obj_base.specs.Stops.{Tells}
use Rattle.bt_node.specs.Entries.{Pair}
use Rattle.bt_cursor.specs.Flat.{flat_of}
use Rattle.bt_cursor.specs.Faults.{IsNodeFault, HasFeature}
use Rattle.bt_cursor.specs.Cursors.{root_of, tree_of, gapped_left_of, passed_of, Moves}
use Rattle.bt_cursor.proofs.Runs.{passed-in}
use Rattle.file_extent.specs.Stops.{HasRefused}
use Rattle.file_extent.specs.Collected.{IsCollectStop}
use Rattle.file_extent.proofs.Steps.{refused_there, goes_on, goes_on_none}
use Rattle.file_extent.proofs.Walks.{walk_tells}
use Rattle.file_extent.proofs.collect.step.Goals as goal

pair-of : (p : Pair) (key : List ℕ) (value : Option (List ℕ)) → key ≡ p.key → value ≡ p.value → p ≡ record { key = key; value = value }
pair-of p key value a b = sym (ap₂ (λ (k : List ℕ) (v : Option (List ℕ)). record { key = k; value = v }) a b)

pub returns-in-Ok-clause-goes_on : goal.returns-in-Ok-clause-goes_on
returns-in-Ok-clause-goes_on g c = λ image told es col.
    let pair : Pair = record { key = c.item.result.key_bytes.now; value = option_map (λ v. v.now) c.item.result.value } in
    let same : passed_of c.next.new.self ≡ pair = pair-of (passed_of c.next.new.self) pair.key pair.value c.item.ensures.key_bytes c.item.ensures.value in
    let moved = subst (Moves image c.args.cursor.now c.next.new.self) c.in-Ok-true.field-0-test (c.in-Ok-true.ensures.moved image told) in
    let next : gapped_left_of c.args.cursor.now image ≡ Ok pair ∷ gapped_left_of c.next.new.self image = moved ∙ ap (λ (p : Pair). Ok p ∷ gapped_left_of c.next.new.self image) same in
    goes_on g.K.FsTreeKey.HASHED (tree_of c.args.cursor.now image) c.args.root c.args.id (gapped_left_of c.args.cursor.now image) (gapped_left_of c.next.new.self image) es pair c.item.result.key c.in-Ok.extent
    g.met.K.FsTreeKey.of_tree col next c.item.ensures.key (sym c.in-Ok.ensures)

pub returns-in-Err-extent_at-clause-present : goal.returns-in-Err-extent_at-clause-present
returns-in-Err-extent_at-clause-present g c = λ image told on.
    let pair : Pair = record { key = c.item.result.key_bytes.now; value = option_map (λ v. v.now) c.item.result.value } in
    let same : passed_of c.next.new.self ≡ pair = pair-of (passed_of c.next.new.self) pair.key pair.value c.item.ensures.key_bytes c.item.ensures.value in
    let moved = subst (Moves image c.args.cursor.now c.next.new.self) c.in-Ok-true.field-0-test (c.in-Ok-true.ensures.moved image told) in
    let one = subst (λ (p : Pair). In p (flat_of (tree_of c.args.cursor.now image) (root_of c.args.cursor.now))) same (passed-in image c.args.cursor.now c.next.new.self on moved) in
    subst (λ (root : ℕ). HasRefused (flat_of (tree_of c.args.cursor.now image) root) c.args.id c.in-Err-extent_at.why) c.requires.root
    (refused_there (flat_of (tree_of c.args.cursor.now image) (root_of c.args.cursor.now)) c.args.id pair c.in-Err-extent_at.why one (sym c.in-Err-extent_at.ensures))

pub returns-in-Ok-false-clause-goes_on : goal.returns-in-Ok-false-clause-goes_on
returns-in-Ok-false-clause-goes_on g c = λ image told es col.
    let moved = subst (Moves image c.args.cursor.now c.next.new.self) c.in-Ok-false.field-0-test (c.in-Ok-false.ensures.moved image told) in
    goes_on_none g.K.FsTreeKey.HASHED (tree_of c.args.cursor.now image) c.args.root c.args.id (gapped_left_of c.args.cursor.now image) es g.met.K.FsTreeKey.of_tree col moved

pub returns-in-Err-clause-present : goal.returns-in-Err-clause-present
returns-in-Err-clause-present g c = λ image told on.
    let tree = tree_of c.args.cursor.now image in
    let named = subst (λ (root : ℕ). Tells (IsNodeFault tree root) (HasFeature tree root) c.in-Err.stop) c.requires.root (c.in-Err.ensures.present image told on) in
    subst (Tells (IsCollectStop c.args.site.now tree c.args.root c.args.id) (HasFeature tree c.args.root)) (sym c.raise.ensures)
    (walk_tells c.args.site.now tree c.args.root c.args.id c.in-Err.stop named)
