-- The normal form of a name, by which a volume compares and hashes names (File-System Objects, j_drec_hashed_key_t).
use Rattle.std.specs.Prelude.{ℕ, Bool, true, false, List, chars, bytes_eq, if◌then◌else◌}
use Rattle.unicode_normalization.specs.Forms.{nfd}
use Rattle.caseless.specs.Caseless.{default_case_fold}
use Rattle.apfs_model.specs.Bytes.{has_flag}
use Rattle.fs_name.specs.declared.naming.Names.{Names}
use Rattle.fs_name.specs.declared.naming.Names.TheVariants.{Exact, Normal, Folded}

-- capital and small letters are alike (APFS_INCOMPAT_CASE_INSENSITIVE)
abbrev pub case_insensitive : ℕ
case_insensitive = 1

-- composed and decomposed characters are alike (APFS_INCOMPAT_NORMALIZATION_INSENSITIVE)
abbrev pub normalization_insensitive : ℕ
normalization_insensitive = 8

-- how a volume compares names, by its incompatible features (Volumes, Incompatible Volume Feature Flags)
abbrev pub names_of : ℕ → Names
names_of incompat = if has_flag incompat case_insensitive then Folded else if has_flag incompat normalization_insensitive then Normal else Exact

-- the normal form of characters, by Unicode's NFD and its full case folding
unfoldable pub normal_chars : Names → List ℕ → List ℕ
normal_chars Exact cs = cs
normal_chars Normal cs = nfd cs
normal_chars Folded cs = nfd (default_case_fold (nfd cs))

-- the normal form of a name, as characters
abbrev pub normal_form : Names → List ℕ → List ℕ
normal_form names name = normal_chars names (chars name)

-- two names are the same: their normal forms are equal
unfoldable pub is_same_name : Names → List ℕ → List ℕ → Bool
is_same_name names a b = bytes_eq (normal_form names a) (normal_form names b)

-- the keys of directory entries have hashes where more than the bytes of names is compared
abbrev pub are_hashed : Names → Bool
are_hashed Exact = false
are_hashed Normal = true
are_hashed Folded = true
