-- A header of a known type is sound where its kind and its id are expected.
use Rattle.std.proofs.Common.{arith, ◌≡◌, ℕ, ◌≤◌, true, false, List, Some, is_ok, refl, ap, ◌∙◌}
use Rattle.std.proofs.lemmas.Grind.{common_steps}
use Rattle.apfs_model.specs.Bytes.{has_flag}
use Rattle.apfs_model.specs.Object.{kind_in, flags_in, encrypted_flag, no_header_flag}
use Rattle.obj_base.specs.Sound.{sound_of, expecting}
use Rattle.obj_base.proofs.SoundLemmas.{means_sound}
use Rattle.fresh_law.specs.Facts.{HasHeader}

-- the tests of a header pass
pub head-sound : (oid type subtype kind xid : ℕ) (bytes : List ℕ) → HasHeader oid type subtype bytes →
    has_flag (flags_in type) encrypted_flag ≡ false → has_flag (flags_in type) no_header_flag ≡ false → kind_in type ≡ kind → 1 ≤ xid →
    is_ok (sound_of bytes (expecting kind (Some oid) xid)) ≡ true
head-sound oid type subtype kind xid bytes h plain headed k late =
    means_sound bytes (expecting kind (Some oid) xid) (record {
      sum_right = h.sum;
      plain = ap (λ t. has_flag (flags_in t) encrypted_flag) h.type_is ∙ plain;
      has_header = ap (λ t. has_flag (flags_in t) no_header_flag) h.type_is ∙ headed;
      kind_right = ap kind_in h.type_is ∙ k;
      subtype_right = refl;
      oid_right = Prim.grind (arith, common_steps, h.oid_is);
      xid_right = Prim.omega (arith, h.xid_is, late);
    })
