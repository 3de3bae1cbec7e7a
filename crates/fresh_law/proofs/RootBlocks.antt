-- Roots that are leaves are sound, and have the entries that they were made of.
use Rattle.std.proofs.Common.{arith, ◌≡◌, ℕ, ◌+◌, ◌-◌, ◌*◌, Bool, true, false, ◌==◌, ◌&&◌, List, [], length, map, Result, Ok, Err, is_ok, refl, ap, ◌∙◌}
use Rattle.std.proofs.lemmas.Grind.{common_steps}
use Rattle.std.specs.Prelude.{not}
use Rattle.std.specs.List.{range_with_len, list_all}
use Rattle.apfs_model.proofs.BoolTests.{right-or}
use Rattle.apfs_model.specs.Bytes.{number_at, u16_at, u32_at, u64_at, has_flag}
use Rattle.apfs_model.specs.Object.{kind_in, flags_in, encrypted_flag, no_header_flag, root_kind}
use Rattle.obj_base.specs.Sound.{sound_of}
use Rattle.obj_base.specs.declared.header.Header.{Header}
use Rattle.obj_base.specs.declared.header.HeadFault.{HeadFault}
use Rattle.obj_base.specs.declared.stop.Bad.{Bad}
use Rattle.obj_base.proofs.SoundLemmas.{means_sound}
use Rattle.bt_node.specs.declared.node.NodeAt.{NodeAt}
use Rattle.bt_node.specs.Shape.{Shape}
use Rattle.bt_node.specs.Node.{flags_of, level_of, count_of, table_offset_of, table_length_of, table_begin, keys_begin, end_of, node_size_of, key_count_of, node_count_of}
use Rattle.bt_node.specs.Entries.{pairs_of}
use Rattle.bt_node.specs.Entries as entries
use Rattle.bt_node.specs.Soundness.{node_expect, node_of, with_header, after_head, has_layout, has_right_flags, is_empty, is_bounded, is_table_inside, has_value, has_values, has_keys, each_entry}
use Rattle.bt_cursor.specs.Tree.{root_place}
use Rattle.bt_keys.specs.Shapes.{queue_shape, ext_shape, snap_shape}
use Rattle.obj_base.specs.declared.site.Site.{Site}
use Rattle.img_format.specs.declared.spec.Spec.{Spec}
use Rattle.img_format.specs.Tables.{size, Field, num, is_laid, object}
use Rattle.img_format.specs.Nodes.{flags, item_len, root_fields, root}
use Rattle.img_format.specs.Blocks.{pool_queue, main_queue, extents, snapshots}
use Rattle.fresh_law.specs.Site.{site}
use Rattle.fresh_law.specs.Facts.{HasHeader, IsRootLeaf}
use Rattle.fresh_law.proofs.Laid.{byte_in, number_from, all_fields, object-number, object-length}
use Rattle.fresh_law.proofs.Says.{object-head}

-- ---- the header
-- the header of a root is sound
root-header : {K : Type 0} (shape : Shape K) (spec : Spec) (oid type : ℕ) (bytes : List ℕ) → HasHeader oid type shape.subtype bytes →
    has_flag (flags_in type) encrypted_flag ≡ false → has_flag (flags_in type) no_header_flag ≡ false → kind_in type ≡ root_kind →
    is_ok (sound_of bytes (node_expect shape (root_place oid) (site spec))) ≡ true
root-header shape spec oid type bytes h plain headed k =
    means_sound bytes (node_expect shape (root_place oid) (site spec)) (record {
      sum_right = h.sum;
      plain = ap (λ t. has_flag (flags_in t) encrypted_flag) h.type_is ∙ plain;
      has_header = ap (λ t. has_flag (flags_in t) no_header_flag) h.type_is ∙ headed;
      kind_right = ap kind_in h.type_is ∙ k;
      subtype_right = Prim.grind (arith, common_steps, h.subtype_is);
      oid_right = Prim.grind (arith, common_steps, h.oid_is);
      xid_right = Prim.omega (arith, h.xid_is);
    })

after-with_header : {K : Type 0} (shape : Shape K) (at : NodeAt) (s : Site) (node : List ℕ) (r : Result Header (Bad HeadFault)) → is_ok r ≡ true → with_header shape at s node r ≡ after_head shape at s node
after-with_header shape at s node (Ok h) e = refl
after-with_header shape at s node (Err bad) e = absurd (let z : false ≡ true = e in let q : ⊥ = cc in q)

-- a root passes the tests of its header, and then the others
pub root-node : {K : Type 0} (shape : Shape K) (spec : Spec) (oid type : ℕ) (bytes : List ℕ) → HasHeader oid type shape.subtype bytes →
    has_flag (flags_in type) encrypted_flag ≡ false → has_flag (flags_in type) no_header_flag ≡ false → kind_in type ≡ root_kind →
    after_head shape (root_place oid) (site spec) bytes ≡ Ok bytes → node_of shape (root_place oid) (site spec) bytes ≡ Ok bytes
unfolding node_of
root-node shape spec oid type bytes h plain headed k after =
    after-with_header shape (root_place oid) (site spec) bytes (sound_of bytes (node_expect shape (root_place oid) (site spec))) (root-header shape spec oid type bytes h plain headed k) ∙ after

-- ---- what is read of a root
-- the fields of a root that is a leaf, with so many entries
pub record HasFields (fixed : Bool) (count : ℕ) (bytes : List ℕ) : Type 0 where
  pub flagged : flags_of bytes ≡ flags fixed
  pub level : level_of bytes ≡ 0
  pub counted : count_of bytes ≡ count
  pub offset : table_offset_of bytes ≡ 0
  pub table : table_length_of bytes ≡ item_len fixed * count
  pub sized : node_size_of bytes ≡ size
  pub keys : key_count_of bytes ≡ count
  pub nodes : node_count_of bytes ≡ 1

-- where the table, the keys and the values lie
pub begins : (fixed : Bool) (count : ℕ) (bytes : List ℕ) → HasFields fixed count bytes → table_begin bytes ≡ 56
unfolding table_begin
begins fixed count bytes f = ap (λ n. 56 + n) f.offset

pub keys-begin : (fixed : Bool) (count : ℕ) (bytes : List ℕ) → HasFields fixed count bytes → keys_begin bytes ≡ 56 + item_len fixed * count
unfolding keys_begin
keys-begin fixed count bytes f = rw (begins fixed count bytes f, f.table)

pub ends : (fixed : Bool) (count : ℕ) (bytes : List ℕ) → HasFields fixed count bytes → length bytes ≡ size → end_of bytes ≡ 4056
unfolding end_of
ends true count bytes f long = rw (f.flagged, long)
ends false count bytes f long = rw (f.flagged, long)

-- all entries of a root without any have values
values-empty : {K : Type 0} (shape : Shape K) (bytes : List ℕ) → count_of bytes ≡ 0 → has_values shape bytes ≡ true
unfolding has_values
values-empty shape bytes none = right-or (shape.ghosts && (level_of bytes == 0)) (each_entry bytes (has_value shape bytes)) (ap (λ n. list_all (has_value shape bytes) (range_with_len 0 n)) none)

-- a root without entries passes the tests after that of its header
empty-after : {K : Type 0} (shape : Shape K) (spec : Spec) (oid : ℕ) (fixed : Bool) (bytes : List ℕ) → HasFields fixed 0 bytes → length bytes ≡ size → has_layout shape.layout bytes ≡ true →
    after_head shape (root_place oid) (site spec) bytes ≡ Ok bytes
unfolding after_head has_right_flags is_empty is_bounded is_table_inside has_keys
empty-after shape spec oid true bytes f long layout = rw (layout, values-empty shape bytes f.counted, keys-begin true 0 bytes f, ends true 0 bytes f long, f.flagged, f.level, f.counted, f.table, f.sized) refl
empty-after shape spec oid false bytes f long layout = rw (layout, values-empty shape bytes f.counted, keys-begin false 0 bytes f, ends false 0 bytes f long, f.flagged, f.level, f.counted, f.table, f.sized) refl

no-pairs : {K : Type 0} (shape : Shape K) (bytes : List ℕ) → count_of bytes ≡ 0 → pairs_of shape bytes ≡ []
no-pairs shape bytes none = ap (λ n. map (entries.pair_of shape bytes) (range_with_len 0 n)) none

-- a root without entries is a sound leaf
pub empty-root : {K : Type 0} (shape : Shape K) (spec : Spec) (oid type : ℕ) (fixed : Bool) (bytes : List ℕ) → HasHeader oid type shape.subtype bytes →
    has_flag (flags_in type) encrypted_flag ≡ false → has_flag (flags_in type) no_header_flag ≡ false → kind_in type ≡ root_kind →
    HasFields fixed 0 bytes → has_layout shape.layout bytes ≡ true → IsRootLeaf shape spec oid [] bytes
empty-root shape spec oid type fixed bytes h plain headed k f layout = record {
  long = h.long;
  sound = root-node shape spec oid type bytes h plain headed k (empty-after shape spec oid fixed bytes f h.long layout);
  level = f.level;
  pairs = no-pairs shape bytes f.counted;
  keys = f.keys;
  nodes = f.nodes;
}

-- ---- the tables of roots
-- what the table of such a root tells
pub record Tells (fixed : Bool) (count : ℕ) (look : ℕ → ℕ) : Type 0 where
  pub flagged : number_from 2 look 32 ≡ flags fixed
  pub level : number_from 2 look 34 ≡ 0
  pub counted : number_from 4 look 36 ≡ count
  pub offset : number_from 2 look 40 ≡ 0
  pub table : number_from 2 look 42 ≡ item_len fixed * count
  pub sized : number_from 4 look 4060 ≡ size
  pub keys : number_from 8 look 4080 ≡ count
  pub nodes : number_from 8 look 4088 ≡ 1

pub told-fields : (oid type subtype count : ℕ) (fixed : Bool) (fields : List Field) → is_laid size 8 (all_fields oid type subtype fields) ≡ true →
    Tells fixed count (byte_in (all_fields oid type subtype fields)) → HasFields fixed count (object oid type subtype fields)
unfolding flags_of level_of count_of table_offset_of table_length_of node_size_of key_count_of node_count_of u16_at u32_at u64_at
told-fields oid type subtype count fixed fields e t =
    let bytes : List ℕ = object oid type subtype fields in
    let long : length bytes ≡ size = object-length oid type subtype fields e in
    record {
      flagged = object-number 2 oid type subtype 32 fields e (omega arith) (omega arith) ∙ t.flagged;
      level = object-number 2 oid type subtype 34 fields e (omega arith) (omega arith) ∙ t.level;
      counted = object-number 4 oid type subtype 36 fields e (omega arith) (omega arith) ∙ t.counted;
      offset = object-number 2 oid type subtype 40 fields e (omega arith) (omega arith) ∙ t.offset;
      table = object-number 2 oid type subtype 42 fields e (omega arith) (omega arith) ∙ t.table;
      sized = ap (λ n. number_at 4 bytes (n - 40 + 4)) long ∙ object-number 4 oid type subtype 4060 fields e (omega arith) (omega arith) ∙ t.sized;
      keys = ap (λ n. number_at 8 bytes (n - 40 + 24)) long ∙ object-number 8 oid type subtype 4080 fields e (omega arith) (omega arith) ∙ t.keys;
      nodes = ap (λ n. number_at 8 bytes (n - 40 + 32)) long ∙ object-number 8 oid type subtype 4088 fields e (omega arith) (omega arith) ∙ t.nodes;
    }

-- ---- the roots without entries
pub pool_queue-says : (spec : Spec) → IsRootLeaf queue_shape spec 1029 [] pool_queue
unfolding pool_queue root num
pool_queue-says spec =
    let f : HasFields true 0 (object 1029 0x80000002 9 (root_fields true [])) = told-fields 1029 0x80000002 9 0 true (root_fields true []) refl (record { flagged = refl; level = refl; counted = refl; offset = refl; table = refl; sized = refl; keys = refl; nodes = refl }) in
    empty-root queue_shape spec 1029 0x80000002 true (object 1029 0x80000002 9 (root_fields true [])) (object-head 1029 0x80000002 9 (root_fields true []) refl refl refl refl refl) refl refl refl f (ap (λ n. has_flag n 4) f.flagged)

pub pool_queue-head : HasHeader 1029 0x80000002 9 pool_queue
unfolding pool_queue root num
pool_queue-head = object-head 1029 0x80000002 9 (root_fields true []) refl refl refl refl refl

pub main_queue-says : (spec : Spec) → IsRootLeaf queue_shape spec 1030 [] main_queue
unfolding main_queue root num
main_queue-says spec =
    let f : HasFields true 0 (object 1030 0x80000002 9 (root_fields true [])) = told-fields 1030 0x80000002 9 0 true (root_fields true []) refl (record { flagged = refl; level = refl; counted = refl; offset = refl; table = refl; sized = refl; keys = refl; nodes = refl }) in
    empty-root queue_shape spec 1030 0x80000002 true (object 1030 0x80000002 9 (root_fields true [])) (object-head 1030 0x80000002 9 (root_fields true []) refl refl refl refl refl) refl refl refl f (ap (λ n. has_flag n 4) f.flagged)

pub main_queue-head : HasHeader 1030 0x80000002 9 main_queue
unfolding main_queue root num
main_queue-head = object-head 1030 0x80000002 9 (root_fields true []) refl refl refl refl refl

pub extents-says : (spec : Spec) → IsRootLeaf ext_shape spec 55 [] extents
unfolding extents root num
extents-says spec =
    let f : HasFields false 0 (object 55 0x40000002 0xf (root_fields false [])) = told-fields 55 0x40000002 0xf 0 false (root_fields false []) refl (record { flagged = refl; level = refl; counted = refl; offset = refl; table = refl; sized = refl; keys = refl; nodes = refl }) in
    empty-root ext_shape spec 55 0x40000002 false (object 55 0x40000002 0xf (root_fields false [])) (object-head 55 0x40000002 0xf (root_fields false []) refl refl refl refl refl) refl refl refl f refl

pub snapshots-says : (spec : Spec) → IsRootLeaf snap_shape spec 56 [] snapshots
unfolding snapshots root num
snapshots-says spec =
    let f : HasFields false 0 (object 56 0x40000002 0x10 (root_fields false [])) = told-fields 56 0x40000002 0x10 0 false (root_fields false []) refl (record { flagged = refl; level = refl; counted = refl; offset = refl; table = refl; sized = refl; keys = refl; nodes = refl }) in
    empty-root snap_shape spec 56 0x40000002 false (object 56 0x40000002 0x10 (root_fields false [])) (object-head 56 0x40000002 0x10 (root_fields false []) refl refl refl refl refl) refl refl refl f (ap (λ n. not (has_flag n 4)) f.flagged)
