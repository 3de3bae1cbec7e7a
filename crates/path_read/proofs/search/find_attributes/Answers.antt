use Rattle.std.proofs.Common.{◌≡◌, ◌∙◌, subst, true}
use Rattle.std.specs.Prelude.{option_map}
use Rattle.bt_keys.specs.RecordKey.{attribute_record}
use Rattle.bt_cursor.specs.Cursors.{root_of, tree_of, left_of, gapped_left_of}
use Rattle.fs_record.specs.Facts.{all_for, attributes_of}
use Rattle.bt_cursor.specs.Flat.{flat_of}
use Rattle.bt_cursor.proofs.Runs.{left-from, whole-from}
use Rattle.path_search.proofs.Searched.{tells_same, flat_same}
use Rattle.path_read.specs.Parts.{HasRefused, are_whole}
use Rattle.path_read.proofs.Searched.{attributes_found, refused_found, if_seen, none_seen, attributes_there}
use Rattle.bt_node.specs.declared.key.Rank.{Rank}
use Rattle.bt_cursor.specs.From.{is_of_kind, is_kind_whole}
use Rattle.path_search.proofs.Needed.{if_as}
use Rattle.path_read.proofs.search.find_attributes.Goals as goal

pub returns-in-Ok-take_run-clause-found : goal.returns-in-Ok-take_run-clause-found
returns-in-Ok-take_run-clause-found g c image told on ordered =
    if_seen (λ v. v.items) c.in-Ok-take_run.run' (all_for c.args.id (attributes_of (flat_of (tree_of c.args.cursor.now image) (root_of c.args.cursor.now))))
    (attributes_found g.K.FsTreeKey.HASHED image c.args.cursor.now (root_of c.args.cursor.now) c.args.id (left_of c.seek.new.self image) (option_map (λ v. v.items) c.in-Ok-take_run.run') g.met.K.FsTreeKey.of_tree ordered
    (left-from image c.args.cursor.now c.seek.new.self (record { id = c.args.id; kind = attribute_record; sub = 0 }) ordered (c.in-Ok.ensures.left image told on ordered)) (c.in-Ok-take_run.ensures.taken image (c.in-Ok.ensures.kept.same_bytes ∙ told)))

pub returns-in-Ok-take_run-clause-all : goal.returns-in-Ok-take_run-clause-all
returns-in-Ok-take_run-clause-all g c image told on ordered =
    let rank : Rank = record { id = c.args.id; kind = attribute_record; sub = 0 } in
    let left = c.in-Ok.ensures.left image told on ordered in
    let later = c.in-Ok.ensures.kept.same_bytes ∙ told in
    attributes_there g.K.FsTreeKey.HASHED image c.args.cursor.now (root_of c.args.cursor.now) c.args.id (left_of c.seek.new.self image) (λ v. v.items) c.in-Ok-take_run.run' g.met.K.FsTreeKey.of_tree ordered
    (left-from image c.args.cursor.now c.seek.new.self rank ordered left) (c.in-Ok-take_run.ensures.taken image later)
    (if_as (λ v. are_whole g.K.TreeKey.shape c.args.id (gapped_left_of c.seek.new.self image) ≡ true) (λ v. is_kind_whole (tree_of c.args.cursor.now image) (root_of c.args.cursor.now) c.args.id attribute_record ≡ true) c.in-Ok-take_run.run'
    (λ v whole. whole-from image c.args.cursor.now c.seek.new.self rank (is_of_kind c.args.id attribute_record) left whole) (c.in-Ok-take_run.ensures.whole image later))

pub returns-in-Ok-take_run-clause-refused : goal.returns-in-Ok-take_run-clause-refused
returns-in-Ok-take_run-clause-refused g c image told on none =
    let here = refused_found g.K.FsTreeKey.HASHED image c.seek.new.self c.args.id g.met.K.FsTreeKey.of_tree (c.in-Ok.ensures.within image told on)
    (c.in-Ok-take_run.ensures.taken image (c.in-Ok.ensures.kept.same_bytes ∙ told) ∙ none_seen (λ v. v.items) c.in-Ok-take_run.run' none) in
    subst HasRefused (flat_same (tree_of c.args.cursor.now) (tree_of c.seek.new.self) (root_of c.args.cursor.now) (root_of c.seek.new.self) image c.in-Ok.ensures.tree c.in-Ok.ensures.root) here

pub returns-in-Err-take_run-clause-present : goal.returns-in-Err-take_run-clause-present
returns-in-Err-take_run-clause-present g c image told on =
    tells_same (tree_of c.args.cursor.now) (tree_of c.seek.new.self) (root_of c.args.cursor.now) (root_of c.seek.new.self) image c.in-Err-take_run.stop c.in-Ok.ensures.tree c.in-Ok.ensures.root
    (c.in-Err-take_run.ensures.present image (c.in-Ok.ensures.kept.same_bytes ∙ told) (c.in-Ok.ensures.within image told on))
