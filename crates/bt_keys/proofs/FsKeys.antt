-- What a key of a file-system tree that was read tells, and what lies inside it by its kind.
use Rattle.std.specs.Prelude.{◌≡◌, ℕ, ◌≤◌, Bool, true, List, length, Some, if◌then◌else◌}
use Rattle.std.proofs.Common.{arith, ◌∙◌}
use Rattle.std.proofs.lemmas.Bool.Decides.{nat_tests}
use Rattle.std.proofs.lemmas.Grind.{common_steps}
use Rattle.bt_node.specs.Shape.{Shape}
use Rattle.bt_keys.specs.FsTree.{IsFsShape}
use Rattle.bt_keys.specs.RecordKey.{id_of, record_kind_of, is_fs_key, has_hashed_name, has_plain_name, entry_record, attribute_record, sibling_link_record, file_extent_record}

-- the id and the kind of a key, from its bytes
pub id_read : {K : Type 0} (hashed : Bool) (shape : Shape K) (key : List ℕ) (k : K) (n : ℕ) → IsFsShape hashed shape → shape.read key ≡ Some k → n ≡ (shape.rank k).id → n ≡ id_of key
id_read hashed shape key k n law e is = is ∙ (law.reads key k e).id

pub kind_read : {K : Type 0} (hashed : Bool) (shape : Shape K) (key : List ℕ) (k : K) (n : ℕ) → IsFsShape hashed shape → shape.read key ≡ Some k → n ≡ (shape.rank k).kind → n ≡ record_kind_of key
kind_read hashed shape key k n law e is = is ∙ (law.reads key k e).kind

-- the name of an entry, hashed or not
pub entry_named : (hashed : Bool) (key : List ℕ) → is_fs_key hashed key ≡ true → record_kind_of key ≡ entry_record → (if hashed then has_hashed_name key else has_plain_name key) ≡ true
unfolding is_fs_key
entry_named hashed key whole kind = Prim.grind (arith, nat_tests, common_steps)

-- the name of an attribute
pub attribute_named : (hashed : Bool) (key : List ℕ) → is_fs_key hashed key ≡ true → record_kind_of key ≡ attribute_record → has_plain_name key ≡ true
unfolding is_fs_key
attribute_named hashed key whole kind = Prim.grind (arith, nat_tests, common_steps)

-- the sibling of a sibling link
pub link_long : (hashed : Bool) (key : List ℕ) → is_fs_key hashed key ≡ true → record_kind_of key ≡ sibling_link_record → 16 ≤ length key
unfolding is_fs_key
link_long hashed key whole kind = Prim.grind (arith, nat_tests, common_steps)

-- the logical address of an extent
pub extent_long : (hashed : Bool) (key : List ℕ) → is_fs_key hashed key ≡ true → record_kind_of key ≡ file_extent_record → 16 ≤ length key
unfolding is_fs_key
extent_long hashed key whole kind = Prim.grind (arith, nat_tests, common_steps)
