-- What is known of a sound object.
use Rattle.std.specs.Prelude.{◌≡◌, ℕ, ◌≤◌, true, false, List}
use Rattle.apfs_model.specs.Sum.{sum_of}
use Rattle.apfs_model.specs.Object.{sum_field, oid_of, xid_of, subtype_of, kind_of, is_encrypted, has_no_header}
use Rattle.obj_base.specs.declared.header.Expect.{Expect}
use Rattle.obj_base.specs.Sound.{agrees}

-- the facts that make an object sound
pub record IsSound (bytes : List ℕ) (expect : Expect) : Type 0 where
  pub sum_right : sum_field bytes ≡ sum_of bytes
  pub plain : is_encrypted bytes ≡ false
  pub has_header : has_no_header bytes ≡ false
  pub kind_right : kind_of bytes ≡ expect.kind
  pub subtype_right : agrees expect.subtype (subtype_of bytes) ≡ true
  pub oid_right : agrees expect.oid (oid_of bytes) ≡ true
  pub xid_right : xid_of bytes ≤ expect.max_xid
