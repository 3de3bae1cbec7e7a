-- The roots that have records: those of the two object maps' trees, and that of the volume's files.
use Rattle.std.proofs.Common.{arith, ◌≡◌, ℕ, ◌+◌, ◌-◌, ◌*◌, ◌≤◌, true, false, ◌==◌, nat_le, List, [], ◌∷◌, length, map, Option, Some, Ok, refl, ap, ◌∙◌}
use Rattle.std.specs.Prelude.{codes}
use Rattle.std.specs.List.{range_with_len}
use Rattle.apfs_model.specs.Bytes.{number_at, u16_at, u32_at, u64_at, part_at}
use Rattle.bt_node.specs.Shape.{Shape}
use Rattle.bt_node.specs.Node.{count_of}
use Rattle.bt_node.specs.Entries.{Pair, pairs_of, place_of, fixed_place, variable_place, key_in, value_in}
use Rattle.bt_node.specs.Entries as entries
use Rattle.bt_node.specs.Soundness.{after_head, has_right_flags, is_empty, is_bounded, is_table_inside, is_key_inside, is_value_inside, has_value, has_values, has_keys}
use Rattle.bt_cursor.specs.Tree.{root_place}
use Rattle.bt_keys.specs.RecordKey.{is_fs_key, record_kind_of, len_and_hash_of, id_of, sub_of, second_of}
use Rattle.bt_keys.specs.Shapes.{omap_shape, fs_shape}
use Rattle.img_format.specs.declared.spec.Spec.{Spec}
use Rattle.img_format.specs.Tables.{size, Field, num, laid, object}
use Rattle.img_format.specs.Nodes.{Entry, root_fields, root}
use Rattle.img_format.specs.Blocks.{map_entry, map_tree, dir_entry, directory, private_hash, root_hash, file_entries, files}
use Rattle.fresh_law.specs.Site.{site}
use Rattle.fresh_law.specs.Facts.{HasHeader, pair_of, IsRootLeaf}
use Rattle.fresh_law.proofs.Laid.{byte_in, number_from, all_fields, object-number, object-length}
use Rattle.fresh_law.proofs.Parts.{bytes_from, object-part}
use Rattle.fresh_law.proofs.RootBlocks.{HasFields, told-fields, begins, keys-begin, ends, root-node}
use Rattle.fresh_law.proofs.Says.{object-head}

-- an entry lies inside its root, has a value, and its key and its value are these
record IsAt {K : Type 0} (shape : Shape K) (bytes : List ℕ) (i : ℕ) (entry : Entry) : Type 0 where
  key_inside : is_key_inside bytes (place_of shape bytes i) ≡ true
  value_inside : is_value_inside bytes (place_of shape bytes i) ≡ true
  valued : has_value shape bytes i ≡ true
  key : key_in bytes (place_of shape bytes i) ≡ entry.0
  value : value_in bytes (place_of shape bytes i) ≡ Some entry.1

pair-is : {K : Type 0} (shape : Shape K) (bytes : List ℕ) (i : ℕ) (entry : Entry) → IsAt shape bytes i entry → entries.pair_of shape bytes i ≡ pair_of entry
pair-is shape bytes i entry a = both (key_in bytes (place_of shape bytes i)) (value_in bytes (place_of shape bytes i)) entry.0 (Some entry.1) a.key a.value
  where
    both : (k : List ℕ) (v : Option (List ℕ)) (l : List ℕ) (w : Option (List ℕ)) → k ≡ l → v ≡ w → ◌≡◌ {A = Pair} (record { key = k; value = v }) (record { key = l; value = w })
    both k v l w p q = cc

-- ---- the trees of object maps
-- a root with one record passes the tests after that of its header
one-after : (spec : Spec) (oid : ℕ) (bytes : List ℕ) (entry : Entry) → HasFields true 1 bytes → length bytes ≡ size → IsAt omap_shape bytes 0 entry → length entry.0 ≡ 16 →
    after_head omap_shape (root_place oid) (site spec) bytes ≡ Ok bytes
unfolding after_head has_right_flags is_empty is_bounded is_table_inside has_values has_keys
one-after spec oid bytes entry f long a k =
    rw (f.counted, a.key_inside, a.value_inside, a.valued, a.key, k, keys-begin true 1 bytes f, ends true 1 bytes f long, f.flagged, f.level, f.table, f.sized) refl

one-pair : (bytes : List ℕ) (entry : Entry) → count_of bytes ≡ 1 → IsAt omap_shape bytes 0 entry → pairs_of omap_shape bytes ≡ map pair_of (entry ∷ [])
one-pair bytes entry counted a =
    ap (λ n. map (entries.pair_of omap_shape bytes) (range_with_len 0 n)) counted
    ∙ ap (λ (p : Pair). p ∷ []) (pair-is omap_shape bytes 0 entry a)

-- such a root is a sound leaf
one-leaf : (spec : Spec) (oid : ℕ) (bytes : List ℕ) (entry : Entry) → HasHeader oid 0x40000002 0xb bytes → HasFields true 1 bytes → IsAt omap_shape bytes 0 entry → length entry.0 ≡ 16 →
    IsRootLeaf omap_shape spec oid (entry ∷ []) bytes
one-leaf spec oid bytes entry h f a k = record {
  long = h.long;
  sound = root-node omap_shape spec oid 0x40000002 bytes h refl refl refl (one-after spec oid bytes entry f h.long a k);
  level = f.level;
  pairs = one-pair bytes entry f.counted a;
  keys = f.keys;
  nodes = f.nodes;
}

-- where its record lies, by the two numbers of the table
fixed-at : (bytes : List ℕ) (entry : Entry) → HasFields true 1 bytes → length bytes ≡ size → u16_at bytes 56 ≡ 0 → u16_at bytes 58 ≡ 16 → part_at bytes 60 16 ≡ entry.0 → part_at bytes 4040 16 ≡ entry.1 →
    IsAt omap_shape bytes 0 entry
unfolding place_of fixed_place key_in value_in is_key_inside is_value_inside
fixed-at bytes entry f long a b k v = record {
  key_inside = rw (f.flagged, begins true 1 bytes f, keys-begin true 1 bytes f, ends true 1 bytes f long, a) refl;
  value_inside = rw (f.flagged, begins true 1 bytes f, keys-begin true 1 bytes f, ends true 1 bytes f long, f.level, b) refl;
  valued = rw (f.flagged, begins true 1 bytes f, b) refl;
  key = rw (f.flagged, begins true 1 bytes f, keys-begin true 1 bytes f, a) k;
  value = rw (f.flagged, begins true 1 bytes f, ends true 1 bytes f long, f.level, b) (ap Some v);
}

pub container_tree-says : (spec : Spec) → IsRootLeaf omap_shape spec 26 (map_entry 1026 51 ∷ []) (map_tree 26 1026 51)
unfolding map_tree root num u16_at
container_tree-says spec =
    let fields : List Field = root_fields true (map_entry 1026 51 ∷ []) in
    let bytes : List ℕ = object 26 0x40000002 0xb fields in
    let f : HasFields true 1 bytes = told-fields 26 0x40000002 0xb 1 true fields refl (record { flagged = refl; level = refl; counted = refl; offset = refl; table = refl; sized = refl; keys = refl; nodes = refl }) in
    one-leaf spec 26 bytes (map_entry 1026 51) (object-head 26 0x40000002 0xb fields refl refl refl refl refl) f
    (fixed-at bytes (map_entry 1026 51) f (object-length 26 0x40000002 0xb fields refl) (object-number 2 26 0x40000002 0xb 56 fields refl (omega arith) (omega arith)) (object-number 2 26 0x40000002 0xb 58 fields refl (omega arith) (omega arith))
    (object-part 16 26 0x40000002 0xb 60 fields refl (omega arith) (omega arith)) (object-part 16 26 0x40000002 0xb 4040 fields refl (omega arith) (omega arith)))
    refl

pub volume_tree-says : (spec : Spec) → IsRootLeaf omap_shape spec 53 (map_entry 1028 54 ∷ []) (map_tree 53 1028 54)
unfolding map_tree root num u16_at
volume_tree-says spec =
    let fields : List Field = root_fields true (map_entry 1028 54 ∷ []) in
    let bytes : List ℕ = object 53 0x40000002 0xb fields in
    let f : HasFields true 1 bytes = told-fields 53 0x40000002 0xb 1 true fields refl (record { flagged = refl; level = refl; counted = refl; offset = refl; table = refl; sized = refl; keys = refl; nodes = refl }) in
    one-leaf spec 53 bytes (map_entry 1028 54) (object-head 53 0x40000002 0xb fields refl refl refl refl refl) f
    (fixed-at bytes (map_entry 1028 54) f (object-length 53 0x40000002 0xb fields refl) (object-number 2 53 0x40000002 0xb 56 fields refl (omega arith) (omega arith)) (object-number 2 53 0x40000002 0xb 58 fields refl (omega arith) (omega arith))
    (object-part 16 53 0x40000002 0xb 60 fields refl (omega arith) (omega arith)) (object-part 16 53 0x40000002 0xb 4040 fields refl (omega arith) (omega arith)))
    refl

-- ---- the root of the volume's files
-- its first two entries
abbrev private_entry : Entry
private_entry = dir_entry (codes "private-dir") private_hash 3

abbrev root_entry : Entry
root_entry = dir_entry (codes "root") root_hash 2

-- a root whose keys and values differ in size: where an entry lies, by the four numbers of the table
variable-at : (bytes : List ℕ) (i a b c d : ℕ) (entry : Entry) → HasFields false 4 bytes → length bytes ≡ size →
    u16_at bytes (56 + 8 * i) ≡ a → u16_at bytes (56 + 8 * i + 2) ≡ b → u16_at bytes (56 + 8 * i + 4) ≡ c → u16_at bytes (56 + 8 * i + 6) ≡ d →
    nat_le (88 + a + b) 4056 ≡ true → (c == 0xffff) ≡ false → nat_le (88 + c) 4056 ≡ true → nat_le d c ≡ true →
    part_at bytes (88 + a) b ≡ entry.0 → part_at bytes (4056 - c) d ≡ entry.1 → IsAt fs_shape bytes i entry
unfolding place_of variable_place key_in value_in is_key_inside is_value_inside
variable-at bytes i a b c d entry f long p q r s in_keys there in_values room k v = record {
  key_inside = rw (f.flagged, begins false 4 bytes f, keys-begin false 4 bytes f, ends false 4 bytes f long, p, q, in_keys) refl;
  value_inside = rw (f.flagged, begins false 4 bytes f, keys-begin false 4 bytes f, ends false 4 bytes f long, f.level, r, s, there, in_values, room) refl;
  valued = rw (f.flagged, begins false 4 bytes f, r, there) refl;
  key = rw (f.flagged, begins false 4 bytes f, keys-begin false 4 bytes f, p, q) k;
  value = rw (f.flagged, begins false 4 bytes f, ends false 4 bytes f long, r, s, there) (ap Some v);
}

-- the four entries are in a root
record HasFour (bytes : List ℕ) : Type 0 where
  first : IsAt fs_shape bytes 0 private_entry
  second : IsAt fs_shape bytes 1 root_entry
  third : IsAt fs_shape bytes 2 (directory 2)
  fourth : IsAt fs_shape bytes 3 (directory 3)

four-pairs : (bytes : List ℕ) → count_of bytes ≡ 4 → HasFour bytes → pairs_of fs_shape bytes ≡ map pair_of file_entries
four-pairs bytes counted a =
    ap (λ n. map (entries.pair_of fs_shape bytes) (range_with_len 0 n)) counted
    ∙ four (entries.pair_of fs_shape bytes 0) (entries.pair_of fs_shape bytes 1) (entries.pair_of fs_shape bytes 2) (entries.pair_of fs_shape bytes 3) (pair_of private_entry) (pair_of root_entry) (pair_of (directory 2)) (pair_of (directory 3))
    (pair-is fs_shape bytes 0 private_entry a.first) (pair-is fs_shape bytes 1 root_entry a.second) (pair-is fs_shape bytes 2 (directory 2) a.third) (pair-is fs_shape bytes 3 (directory 3) a.fourth)
  where
    four : (a b c d a' b' c' d' : Pair) → a ≡ a' → b ≡ b' → c ≡ c' → d ≡ d' → a ∷ b ∷ c ∷ d ∷ [] ≡ a' ∷ b' ∷ c' ∷ d' ∷ []
    four a b c d a' b' c' d' p q r s = cc

-- it passes the tests after that of its header
four-after : (spec : Spec) (bytes : List ℕ) → HasFields false 4 bytes → length bytes ≡ size → HasFour bytes → after_head fs_shape (root_place 1028) (site spec) bytes ≡ Ok bytes
unfolding after_head has_right_flags is_empty is_bounded is_table_inside has_values has_keys
four-after spec bytes f long a =
    rw (
      f.counted,
      a.first.key_inside,
      a.second.key_inside,
      a.third.key_inside,
      a.fourth.key_inside,
      a.first.value_inside,
      a.second.value_inside,
      a.third.value_inside,
      a.fourth.value_inside,
      a.first.valued,
      a.second.valued,
      a.third.valued,
      a.fourth.valued,
      a.first.key,
      a.second.key,
      a.third.key,
      a.fourth.key,
      keys-begin false 4 bytes f,
      ends false 4 bytes f long,
      f.flagged,
      f.level,
      f.table,
      f.sized,
    )
    (unfold is_fs_key record_kind_of len_and_hash_of id_of sub_of second_of u16_at u32_at u64_at num in refl)

pub files-says : (spec : Spec) → IsRootLeaf fs_shape spec 1028 file_entries files
unfolding files root num u16_at laid
files-says spec =
    let fields : List Field = root_fields false file_entries in
    let bytes : List ℕ = object 1028 2 0xe fields in
    let f : HasFields false 4 bytes = told-fields 1028 2 0xe 4 false fields refl (record { flagged = refl; level = refl; counted = refl; offset = refl; table = refl; sized = refl; keys = refl; nodes = refl }) in
    let long : length bytes ≡ size = object-length 1028 2 0xe fields refl in
    let h : HasHeader 1028 2 0xe bytes = object-head 1028 2 0xe fields refl refl refl refl refl in
    let at : (n p : ℕ) → 8 ≤ p → p + n ≤ size → number_at n bytes p ≡ number_from n (byte_in (all_fields 1028 2 0xe fields)) p = λ n p a h. object-number n 1028 2 0xe p fields refl a h in
    let part : (n p : ℕ) → 8 ≤ p → p + n ≤ size → part_at bytes p n ≡ bytes_from n (byte_in (all_fields 1028 2 0xe fields)) p = λ n p a h. object-part n 1028 2 0xe p fields refl a h in
    let four : HasFour bytes = record {
      first = variable-at bytes 0 0 24 18 18 private_entry f long (at 2 56 (omega arith) (omega arith)) (at 2 58 (omega arith) (omega arith)) (at 2 60 (omega arith) (omega arith)) (at 2 62 (omega arith) (omega arith)) refl refl refl refl (part 24 88 (omega arith) (omega arith)) (part 18 4038 (omega arith) (omega arith));
      second = variable-at bytes 1 24 17 36 18 root_entry f long (at 2 64 (omega arith) (omega arith)) (at 2 66 (omega arith) (omega arith)) (at 2 68 (omega arith) (omega arith)) (at 2 70 (omega arith) (omega arith)) refl refl refl refl (part 17 112 (omega arith) (omega arith)) (part 18 4020 (omega arith) (omega arith));
      third = variable-at bytes 2 41 8 128 92 (directory 2) f long (at 2 72 (omega arith) (omega arith)) (at 2 74 (omega arith) (omega arith)) (at 2 76 (omega arith) (omega arith)) (at 2 78 (omega arith) (omega arith)) refl refl refl refl (part 8 129 (omega arith) (omega arith)) (part 92 3928 (omega arith) (omega arith));
      fourth = variable-at bytes 3 49 8 220 92 (directory 3) f long (at 2 80 (omega arith) (omega arith)) (at 2 82 (omega arith) (omega arith)) (at 2 84 (omega arith) (omega arith)) (at 2 86 (omega arith) (omega arith)) refl refl refl refl (part 8 137 (omega arith) (omega arith)) (part 92 3836 (omega arith) (omega arith));
    } in
    record {
      long = long;
      sound = root-node fs_shape spec 1028 2 bytes h refl refl refl (four-after spec bytes f long four);
      level = f.level;
      pairs = four-pairs bytes f.counted four;
      keys = f.keys;
      nodes = f.nodes;
    }
