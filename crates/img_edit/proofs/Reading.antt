-- What is read of a node is what it was made of.
use Rattle.std.proofs.Common.{◌≡◌, ℕ, zero, suc, ◌+◌, ◌*◌, ◌-◌, ◌^◌, ◌<◌, ◌≤◌, Bool, true, false, List, [], ◌∷◌, ◌++◌, length, take, drop, get_or, replicate, bit_or, if◌then◌else◌, vec_len, append_assoc, length-append, Option, Some, None, refl, sym, ap, ◌∙◌, arith}
use Rattle.std.proofs.Math.Nat.{mul-suc, mul_comm}
use Rattle.std.proofs.Math.Seq.{drop-append-add}
use Rattle.std.proofs.lemmas.List.{drop-drop, drop_at, take_at, length-replicate}
use Rattle.byteorder.specs.Endian.{little_from}
use Rattle.byteorder.specs.Numbers.{little_number-reads_back}
use Rattle.obj_base.proofs.Numbers.{number_at_is}
use Rattle.apfs_model.specs.Bytes.{number_at, u16_at, u32_at, u64_at}
use Rattle.apfs_model.specs.Object.{oid_of, xid_of, type_of, subtype_of}
use Rattle.img_edit.specs.declared.header.Head.{Head}
use Rattle.img_edit.specs.declared.node.Tree.{Tree}
use Rattle.img_edit.specs.declared.node.Totals.{Totals}
use Rattle.img_edit.specs.declared.node.NodeHead.{NodeHead}
use Rattle.img_edit.specs.Nodes.{Pair, number_bytes, header_of, head_of, fields_of, entry_of, entry_len, table_of, keys_of, values_of, info_of, is_fixed, node_of, taken_by, info_len, value_at, FitsHead, HasHead, HasLengths, HasItems}
use Rattle.img_edit.proofs.Nodes.{length-header, length-fields, length-entry, length-table}

-- a number is read where its bytes stand
pub read : (n x at : ℕ) (bytes rest : List ℕ) → drop at bytes ≡ number_bytes n x ++ rest → x < 256 ^ n → number_at n bytes at ≡ x
unfolding number_bytes
read n x at bytes rest stands small = sym (number_at_is n bytes at) ∙ ap (λ l. little_from 0 n l) stands ∙ little_number-reads_back n x rest small

-- what stands behind a part
pub behind : (m n j : ℕ) (bytes part rest : List ℕ) → drop m bytes ≡ part ++ rest → length part ≡ n → m + n ≡ j → drop j bytes ≡ rest
behind m n j bytes part rest stands long at =
    ap (λ i. drop i bytes) (sym at) ∙ sym (drop-drop n m bytes) ∙ ap (λ l. drop n l) stands ∙ drop_at part rest n long

-- the header of an object is read behind the sum
pub head_read : (head : Head) (bytes rest : List ℕ) → drop 8 bytes ≡ header_of head ++ rest → FitsHead head → HasHead head bytes
unfolding header_of number_bytes oid_of xid_of type_of subtype_of u64_at u32_at
head_read head bytes rest stands fits =
    let subtype_on = number_bytes 4 head.subtype ++ rest in
    let type_on = number_bytes 4 (bit_or head.storage head.kind) ++ subtype_on in
    let xid_on = number_bytes 8 head.xid ++ type_on in
    let at_xid : drop 16 bytes ≡ xid_on = behind 8 8 16 bytes (number_bytes 8 head.oid) xid_on stands refl refl in
    let at_type : drop 24 bytes ≡ type_on = behind 16 8 24 bytes (number_bytes 8 head.xid) type_on at_xid refl refl in
    let at_subtype : drop 28 bytes ≡ subtype_on = behind 24 4 28 bytes (number_bytes 4 (bit_or head.storage head.kind)) subtype_on at_type refl refl in record {
      oid = read 8 head.oid 8 bytes xid_on stands fits.oid;
      xid = read 8 head.xid 16 bytes type_on at_xid fits.xid;
      type = read 4 (bit_or head.storage head.kind) 24 bytes subtype_on at_type fits.type;
      subtype = read 4 head.subtype 28 bytes rest at_subtype fits.subtype;
    }

-- the keys before one, and it, are of all keys
pub keys_within : (items : List Pair) (k : ℕ) (none : Pair) → k < length items → length (keys_of (take k items)) + length (get_or items k none).0.items ≤ length (keys_of items)
keys_within [] k none inside = absurd (omega arith)
keys_within (item ∷ items) zero none inside = omega (arith, length-append item.0.items (keys_of items))
keys_within (item ∷ items) (suc k) none inside =
    omega (arith, length-append item.0.items (keys_of items), length-append item.0.items (keys_of (take k items)), keys_within items k none (omega arith))

-- a value is of the values up to it, and these are of all values
pub values_within : (items : List Pair) (k : ℕ) (none : Pair) → k < length items → (length (get_or items k none).1.items ≤ length (values_of (take (suc k) items))) × (length (values_of (take (suc k) items)) ≤ length (values_of items))
values_within [] k none inside = absurd (omega arith)
values_within (item ∷ items) zero none inside = (omega arith, omega (arith, length-append (values_of items) item.1.items))
values_within (item ∷ items) (suc k) none inside =
    let more = values_within items k none (omega arith) in
    let all = length-append (values_of items) item.1.items in
    let some = length-append (values_of (take (suc k) items)) item.1.items in
    (omega (arith, more.0, some), omega (arith, more.1, all, some))

-- a key stands where those before it end
pub keys_stand : (items : List Pair) (rest : List ℕ) (k : ℕ) (none : Pair) → k < length items → take (length (get_or items k none).0.items) (drop (length (keys_of (take k items))) (keys_of items ++ rest)) ≡ (get_or items k none).0.items
keys_stand [] rest k none inside = absurd (omega arith)
keys_stand (item ∷ items) rest zero none inside =
    let key = item.0.items in
    ap (λ l. take (length key) l) (append_assoc key (keys_of items) rest) ∙ take_at key (keys_of items ++ rest) (length key) refl
keys_stand (item ∷ items) rest (suc k) none inside =
    let key = item.0.items in
    let before = keys_of (take k items) in
    let on : drop (length (key ++ before)) ((key ++ keys_of items) ++ rest) ≡ drop (length before) (keys_of items ++ rest) =
    ap (λ i. drop i ((key ++ keys_of items) ++ rest)) (length-append key before)
    ∙ ap (λ l. drop (length key + length before) l) (append_assoc key (keys_of items) rest)
    ∙ drop-append-add key (keys_of items ++ rest) (length before) in
    ap (λ l. take (length (get_or items k none).0.items) l) on ∙ keys_stand items rest k none (omega arith)

-- a value stands as far before the values' end as those up to it are long
pub values_stand : (items : List Pair) (rest : List ℕ) (k : ℕ) (none : Pair) → k < length items → take (length (get_or items k none).1.items) (drop (length (values_of items) - length (values_of (take (suc k) items))) (values_of items ++ rest)) ≡ (get_or items k none).1.items
values_stand [] rest k none inside = absurd (omega arith)
values_stand (item ∷ items) rest zero none inside =
    let value = item.1.items in
    let others = values_of items in
    let at : length (others ++ value) - length value ≡ length others = omega (arith, length-append others value) in
    ap (λ i. take (length value) (drop i ((others ++ value) ++ rest))) at
    ∙ ap (λ l. take (length value) (drop (length others) l)) (append_assoc others value rest)
    ∙ ap (λ l. take (length value) l) (drop_at others (value ++ rest) (length others) refl)
    ∙ take_at value rest (length value) refl
values_stand (item ∷ items) rest (suc k) none inside =
    let value = item.1.items in
    let others = values_of items in
    let some = values_of (take (suc k) items) in
    let long = length (get_or items k none).1.items in
    let at : length (others ++ value) - length (some ++ value) ≡ length others - length some = omega (arith, length-append others value, length-append some value) in
    ap (λ i. take long (drop i ((others ++ value) ++ rest))) at
    ∙ ap (λ l. take long (drop (length others - length some) l)) (append_assoc others value rest)
    ∙ values_stand items (value ++ rest) k none (omega arith)

-- a table entry stands in its place, and tells of the keys before its own and of the values up to its own
pub entry_stands : (fixed : Bool) (keys values : ℕ) (items : List Pair) (rest : List ℕ) (k : ℕ) (none : Pair) (at key value : ℕ) → k < length items → at ≡ (if fixed then 4 else 8) * k
    → key ≡ keys + length (keys_of (take k items)) → value ≡ values + length (values_of (take (suc k) items))
    → (more : List ℕ) × (drop at (table_of fixed keys values items ++ rest) ≡ entry_of fixed key value (get_or items k none) ++ more)
entry_stands fixed keys values [] rest k none at key value inside place offset back = absurd (omega arith)
entry_stands fixed keys values (item ∷ items) rest zero none at key value inside place offset back =
    let table = table_of fixed (keys + vec_len item.0) (values + vec_len item.1) items in
    let start : at ≡ 0 = omega arith in
    let first : keys ≡ key = omega arith in
    let last : values + vec_len item.1 ≡ value = omega (arith, item.1.ok.0) in (
      table ++ rest,
      ap (λ i. drop i ((entry_of fixed keys (values + vec_len item.1) item ++ table) ++ rest)) start
          ∙ append_assoc (entry_of fixed keys (values + vec_len item.1) item) table rest
          ∙ ap (λ i. entry_of fixed i (values + vec_len item.1) item ++ (table ++ rest)) first
          ∙ ap (λ i. entry_of fixed key i item ++ (table ++ rest)) last,
    )
entry_stands fixed keys values (item ∷ items) rest (suc k) none at key value inside place offset back =
    let entry = entry_of fixed keys (values + vec_len item.1) item in
    let size : ℕ = if fixed then 4 else 8 in
    let table = table_of fixed (keys + vec_len item.0) (values + vec_len item.1) items in
    let long : length entry ≡ size = length-entry fixed keys (values + vec_len item.1) item in
    let split : at ≡ length entry + size * k = omega (arith, place, long, mul-suc size k) in
    let first : key ≡ keys + vec_len item.0 + length (keys_of (take k items)) = omega (arith, offset, item.0.ok.0, length-append item.0.items (keys_of (take k items))) in
    let last : value ≡ values + vec_len item.1 + length (values_of (take (suc k) items)) = omega (arith, back, item.1.ok.0, length-append (values_of (take (suc k) items)) item.1.items) in
    let more = entry_stands fixed (keys + vec_len item.0) (values + vec_len item.1) items rest k none (size * k) key value (omega arith) refl first last in (
      more.0,
      ap (λ i. drop i ((entry ++ table) ++ rest)) split
          ∙ ap (λ l. drop (length entry + size * k) l) (append_assoc entry table rest)
          ∙ drop-append-add entry (table ++ rest) (size * k)
          ∙ more.1,
    )

-- what a root tells of its tree is as long as its place
pub length-info : (size : ℕ) (tree : Tree) (totals : Option Totals) → length (info_of size tree totals) ≡ info_len totals
unfolding info_of number_bytes
length-info size tree None = refl
length-info size tree (Some totals) = refl

-- what a table entry tells is read
entry_read : (fixed : Bool) (at key value : ℕ) (item : Pair) (node more : List ℕ) → drop at node ≡ entry_of fixed key value item ++ more
    → key < 65536 → value < 65536 → vec_len item.0 < 65536 → vec_len item.1 < 65536
    → (u16_at node at ≡ key) × (u16_at node (at + value_at fixed) ≡ value) × (fixed ≡ false → HasLengths node at item)
unfolding number_bytes u16_at
entry_read true at key value item node more stands key_small value_small key_short value_short =
    let on = number_bytes 2 value ++ more in
    let behind_key : drop (at + 2) node ≡ on = behind at 2 (at + 2) node (number_bytes 2 key) on stands refl refl in
    (read 2 key at node on stands key_small, read 2 value (at + 2) node more behind_key value_small, λ (e : true ≡ false). cc)
entry_read false at key value item node more stands key_small value_small key_short value_short =
    let on_value_len = number_bytes 2 (vec_len item.1) ++ more in
    let on_value = number_bytes 2 value ++ on_value_len in
    let on_key_len = number_bytes 2 (vec_len item.0) ++ on_value in
    let behind_key : drop (at + 2) node ≡ on_key_len = behind at 2 (at + 2) node (number_bytes 2 key) on_key_len stands refl refl in
    let behind_key_len : drop (at + 4) node ≡ on_value = behind (at + 2) 2 (at + 4) node (number_bytes 2 (vec_len item.0)) on_value behind_key refl (omega arith) in
    let behind_value : drop (at + 6) node ≡ on_value_len = behind (at + 4) 2 (at + 6) node (number_bytes 2 value) on_value_len behind_key_len refl (omega arith) in (
      read 2 key at node on_key_len stands key_small,
      read 2 value (at + 4) node on_value_len behind_key_len value_small,
      λ (e : false ≡ false). record {
        key = read 2 (vec_len item.0) (at + 2) node on_value behind_key key_short;
        value = read 2 (vec_len item.1) (at + 6) node more behind_value value_short;
      },
    )

-- the parts of a node, the first one apart
parts : (h f t k z v i : List ℕ) → h ++ f ++ t ++ k ++ z ++ v ++ i ≡ h ++ (f ++ (t ++ (k ++ (z ++ (v ++ i)))))
parts h f t k z v i = simp append_assoc

-- each item of a node is read where its table entry tells
pub items_read : (size : ℕ) (tree : Tree) (head : NodeHead) (items : List Pair) (node : List ℕ) → drop 8 node ≡ node_of size tree head items → taken_by size tree head items ≤ size → size ≤ 65536 → HasItems size tree head items node
items_read size tree head items node stands room most = λ k none inside.
    let fixed = is_fixed tree in
    let count = length items * entry_len tree in
    let free = size - taken_by size tree head items in
    let front = header_of (head_of tree head) in
    let fields = fields_of tree head (length items) count (length (keys_of items)) free in
    let table = table_of fixed 0 0 items in
    let keys = keys_of items in
    let zeros = replicate {A = ℕ} free 0 in
    let values = values_of items in
    let info = info_of size tree head.totals in
    let on_values = values ++ info in
    let on_zeros = zeros ++ on_values in
    let on_keys = keys ++ on_zeros in
    let on_table = table ++ on_keys in
    let on_fields = fields ++ on_table in
    let e8 : drop 8 node ≡ front ++ on_fields = stands ∙ parts front fields table keys zeros values info in
    let e32 : drop 32 node ≡ on_fields = behind 8 24 32 node front on_fields e8 (length-header (head_of tree head)) refl in
    let e56 : drop 56 node ≡ on_table = behind 32 24 56 node fields on_table e32 (length-fields tree head (length items) count (length keys) free) refl in
    let at_keys : drop (56 + count) node ≡ on_keys = behind 56 count (56 + count) node table on_keys e56 (length-table fixed 0 0 items) refl in
    let at_zeros : drop (56 + count + length keys) node ≡ on_zeros = behind (56 + count) (length keys) (56 + count + length keys) node keys on_zeros at_keys refl refl in
    let at_values : drop (56 + count + length keys + free) node ≡ on_values = behind (56 + count + length keys) free (56 + count + length keys + free) node zeros on_values at_zeros (length-replicate free 0) refl in
    let item = get_or items k none in
    let key = length (keys_of (take k items)) in
    let value = length (values_of (take (suc k) items)) in
    let place = k * entry_len tree in
    let entry = entry_stands fixed 0 0 items on_keys k none place key value inside (mul_comm k (entry_len tree)) (omega arith) (omega arith) in
    let at_entry : drop (56 + place) node ≡ entry_of fixed key value item ++ entry.0 = sym (drop-drop place 56 node) ∙ ap (λ l. drop place l) e56 ∙ entry.1 in
    let key_in = keys_within items k none inside in
    let value_in = values_within items k none inside in
    let told = entry_read fixed (56 + place) key value item node entry.0 at_entry (omega arith) (omega arith) (omega (arith, item.0.ok.0)) (omega (arith, item.1.ok.0)) in
    let info_is = length-info size tree head.totals in
    let key_place : drop (56 + count + u16_at node (56 + place)) node ≡ drop key on_keys = ap (λ n. drop (56 + count + n) node) told.0 ∙ sym (drop-drop key (56 + count) node) ∙ ap (λ l. drop key l) at_keys in
    let back : size - info_len head.totals - u16_at node (56 + place + value_at fixed) ≡ 56 + count + length keys + free + (length values - value) = omega (arith, told.1, info_is, room, value_in.1) in
    let value_place : drop (size - info_len head.totals - u16_at node (56 + place + value_at fixed)) node ≡ drop (length values - value) on_values = ap (λ n. drop n node) back ∙ sym (drop-drop (length values - value) (56 + count + length keys + free) node) ∙ ap (λ l. drop (length values - value) l) at_values in
    let key_long : 56 + count + u16_at node (56 + place) + vec_len item.0 - (56 + count + u16_at node (56 + place)) ≡ length item.0.items = omega (arith, item.0.ok.0) in
    let value_end = size - info_len head.totals - u16_at node (56 + place + value_at fixed) in
    let value_long : value_end + vec_len item.1 - value_end ≡ length item.1.items = omega (arith, item.1.ok.0) in record {
      key = ap (λ n. take n (drop (56 + count + u16_at node (56 + place)) node)) key_long ∙ ap (λ l. take (length item.0.items) l) key_place ∙ keys_stand items on_zeros k none inside;
      value = ap (λ n. take n (drop value_end node)) value_long ∙ ap (λ l. take (length item.1.items) l) value_place ∙ values_stand items info k none inside;
      lengths = told.2;
    }

-- a header behind zeros for a sum is read
pub headed_read : (head : Head) (bytes rest : List ℕ) → bytes ≡ replicate 8 0 ++ header_of head ++ rest → FitsHead head → HasHead head bytes
headed_read head bytes rest is fits = head_read head bytes rest (ap (λ l. drop 8 l) is) fits

-- the header of a node is read in it
pub node_head_read : (size : ℕ) (tree : Tree) (head : NodeHead) (items : List Pair) (node : List ℕ) → drop 8 node ≡ node_of size tree head items → FitsHead (head_of tree head) → HasHead (head_of tree head) node
node_head_read size tree head items node stands fits =
    let free = size - taken_by size tree head items in
    let fields = fields_of tree head (length items) (length items * entry_len tree) (length (keys_of items)) free in
    head_read (head_of tree head) node _ (stands ∙ parts (header_of (head_of tree head)) fields (table_of (is_fixed tree) 0 0 items) (keys_of items) (replicate {A = ℕ} free 0) (values_of items) (info_of size tree head.totals)) fits
