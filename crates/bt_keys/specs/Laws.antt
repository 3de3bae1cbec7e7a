-- The laws of the seven kinds of keys.
use Rattle.std.specs.Prelude.{◌≡◌, ℕ, ◌≤◌, Bool, true, false, ◌&&◌, nat_lt, nat_le, List, length, Option, Some, None, if◌then◌else◌, refl}
use Rattle.std.proofs.Common.{ap, sym}
use Rattle.std.proofs.lemmas.Bool.{ltb-false, leb-true, false≢true}
use Rattle.std.proofs.lemmas.Option.{none-some, same_Some}
use Rattle.bt_node.specs.declared.key.Rank.{Rank}
use Rattle.bt_node.specs.SoundNode.{IsLawful}
use Rattle.bt_keys.specs.RecordKey.{id_of, record_kind_of, sub_of, is_ext_key, is_fs_key}
use Rattle.bt_keys.specs.Shapes.{omap_shape, omap_snap_shape, queue_shape, ext_shape, snap_shape, fs_record_shape}
use Rattle.bt_keys.specs.FsTree.{IsFsKey, IsFsShape}
use Rattle.bt_keys.specs.declared.number_key.OmapKey.{OmapKey}
use Rattle.bt_keys.specs.declared.number_key.OmapSnapKey.{OmapSnapKey}
use Rattle.bt_keys.specs.declared.number_key.QueueKey.{QueueKey}
use Rattle.bt_keys.specs.declared.record_key.ExtKey.{ExtKey}
use Rattle.bt_keys.specs.declared.record_key.FsRecordKey.{FsRecordKey}

-- what is read where a test fails is read only then
read-fails : {X : Type 0} (test : Bool) (x y : X) → (if test then None else Some x) ≡ Some y → test ≡ false
read-fails true x y e = absurd (none-some y e)
read-fails false x y e = refl

-- what is read where a test passes is read only then, and is what is read there
read-passes : {X : Type 0} (test : Bool) (x y : X) → (if test then Some x else None) ≡ Some y → test ≡ true
read-passes true x y e = refl
read-passes false x y e = absurd (none-some y e)

read-is : {X : Type 0} (test : Bool) (x y : X) → (if test then Some x else None) ≡ Some y → y ≡ x
read-is true x y e = sym (same_Some x y e)
read-is false x y e = absurd (none-some y e)

first-passes : (a b : Bool) → (a && b) ≡ true → a ≡ true
first-passes true b e = refl
first-passes false b e = absurd (false≢true e)

omap_long : (key : List ℕ) (k : OmapKey) → omap_shape.read key ≡ Some k → 16 ≤ length key
omap_long key k e = ltb-false (length key) 16 (read-fails (nat_lt (length key) 16) _ k e)

pub omap_lawful : IsLawful omap_shape
omap_lawful = record {
  one = λ a b s t e. ap (λ (r : Rank). record { oid = r.id; xid = r.kind }) e;
  long = λ key k fixed e. omap_long key k e;
}

omap_snap_long : (key : List ℕ) (k : OmapSnapKey) → omap_snap_shape.read key ≡ Some k → 8 ≤ length key
omap_snap_long key k e = ltb-false (length key) 8 (read-fails (nat_lt (length key) 8) _ k e)

pub omap_snap_lawful : IsLawful omap_snap_shape
omap_snap_lawful = record {
  one = λ a b s t e. ap (λ (r : Rank). record { xid = r.id }) e;
  long = λ key k fixed e. omap_snap_long key k e;
}

queue_long : (key : List ℕ) (k : QueueKey) → queue_shape.read key ≡ Some k → 16 ≤ length key
queue_long key k e = ltb-false (length key) 16 (read-fails (nat_lt (length key) 16) _ k e)

pub queue_lawful : IsLawful queue_shape
queue_lawful = record {
  one = λ a b s t e. ap (λ (r : Rank). record { xid = r.id; paddr = r.kind }) e;
  long = λ key k fixed e. queue_long key k e;
}

ext_long : (key : List ℕ) (k : ExtKey) → ext_shape.read key ≡ Some k → 8 ≤ length key
unfolding is_ext_key
ext_long key k e = leb-true 8 (length key) (first-passes (nat_le 8 (length key)) _ (read-passes (is_ext_key key) _ k e))

pub ext_lawful : IsLawful ext_shape
ext_lawful = record {
  one = λ a b s t e. ap (λ (r : Rank). record { first = r.id }) e;
  long = λ key k fixed e. ext_long key k e;
}

pub snap_lawful : IsLawful snap_shape
snap_lawful = record {
  one = λ a b s t e. ap (λ (r : Rank). record { id = r.id; kind = r.kind }) e;
  long = λ key k other e. absurd (other refl);
}

pub fs_record_lawful : {n : ℕ} (hashed : Bool) → IsLawful (fs_record_shape {n = n} hashed)
fs_record_lawful hashed = record {
  one = λ a b s t e. ap (λ (r : Rank). record { id = r.id; kind = r.kind; sub = r.sub }) e;
  long = λ key k other e. absurd (other refl);
}

-- the key that is read from a record's bytes
fs_key : {n : ℕ} → Bool → List ℕ → FsRecordKey n
fs_key hashed key = record { id = id_of key; kind = record_kind_of key; sub = sub_of hashed key }

fs_read : {n : ℕ} (hashed : Bool) (key : List ℕ) (k : FsRecordKey n) → (fs_record_shape hashed).read key ≡ Some k → IsFsKey hashed key ((fs_record_shape hashed).rank k)
unfolding fs_key
fs_read {n} hashed key k e =
    let same : k ≡ fs_key hashed key = read-is (is_fs_key hashed key) (fs_key hashed key) k e in
    record {
      whole = read-passes (is_fs_key hashed key) (fs_key {n = n} hashed key) k e;
      id = ap (λ (f : FsRecordKey n). f.id) same;
      kind = ap (λ (f : FsRecordKey n). f.kind) same;
      sub = ap (λ (f : FsRecordKey n). f.sub) same;
    }

pub fs_of_tree : {n : ℕ} (hashed : Bool) → IsFsShape hashed (fs_record_shape {n = n} hashed)
fs_of_tree hashed = record { reads = fs_read hashed; strict = λ k. refl }
