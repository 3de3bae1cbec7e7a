-- What the two kinds of keys of file-system trees have in common.
use Rattle.std.specs.Prelude.{◌≡◌, ℕ, Bool, true, List, Some}
use Rattle.bt_node.specs.Shape.{Shape}
use Rattle.bt_node.specs.declared.key.Rank.{Rank}
use Rattle.bt_keys.specs.RecordKey.{id_of, record_kind_of, sub_of, is_fs_key, is_strict_kind}

-- what is known of a record's key that was read: what its kind adds lies in it, and its rank is that of its id, its kind and its sub
pub record IsFsKey (hashed : Bool) (key : List ℕ) (rank : Rank) : Type 0 where
  pub whole : is_fs_key hashed key ≡ true
  pub id : rank.id ≡ id_of key
  pub kind : rank.kind ≡ record_kind_of key
  pub sub : rank.sub ≡ sub_of hashed key

-- keys of a file-system tree, whose entries have hashed names or not: each key that is read is whole, and strict by its kind
pub record IsFsShape {K : Type 0} (hashed : Bool) (shape : Shape K) : Type 0 where
  pub reads : (key : List ℕ) (k : K) → shape.read key ≡ Some k → IsFsKey hashed key (shape.rank k)
  pub strict : (k : K) → shape.strict k ≡ is_strict_kind (shape.rank k).kind
