-- Which objects are sound, and which test is the first that fails.
use Rattle.std.specs.Prelude.{ℕ, ◌-◌, ◌^◌, Bool, true, not, ◌==◌, nat_le, List, Option, Some, None, Result, Ok, Err, if◌then◌else◌}
use Rattle.apfs_model.specs.Sum.{sum_of}
use Rattle.apfs_model.specs.Object.{sum_field, oid_of, xid_of, subtype_of, kind_of, flags_of, is_encrypted, has_no_header}
use Rattle.obj_base.specs.declared.header.Header.{Header}
use Rattle.obj_base.specs.declared.header.Expect.{Expect}
use Rattle.obj_base.specs.declared.header.HeadFault.{HeadFault}
use Rattle.obj_base.specs.declared.header.HeadFault.TheVariants.{BadSum, BadKind, BadSubtype, BadOid, BadXid}
use Rattle.obj_base.specs.declared.stop.Bad.{Bad}
use Rattle.obj_base.specs.declared.stop.Bad.TheVariants.{Found, Unsupported}
use Rattle.obj_base.specs.declared.stop.Feature.TheVariants.{Encrypted, NoHeader}

-- a number is the one expected, where one is expected
abbrev pub agrees : Option ℕ → ℕ → Bool
agrees None n = true
agrees (Some m) n = m == n

-- the greatest transaction that a field can hold
abbrev pub any_xid : ℕ
any_xid = 2 ^ 64 - 1

-- the header of an object
abbrev pub header_of : List ℕ → Header
header_of bytes = record {
  sum = sum_field bytes;
  oid = oid_of bytes;
  xid = xid_of bytes;
  kind = kind_of bytes;
  flags = record { bits = flags_of bytes };
  subtype = subtype_of bytes;
}

-- the header of a sound object, or the first test that fails
abbrev pub sound_of : List ℕ → Expect → Result Header (Bad HeadFault)
sound_of bytes expect =
    if not (sum_field bytes == sum_of bytes) then Err (Found BadSum) else
    if is_encrypted bytes then Err (Unsupported Encrypted) else
    if has_no_header bytes then Err (Unsupported NoHeader) else
    if not (kind_of bytes == expect.kind) then Err (Found BadKind) else
    if not (agrees expect.subtype (subtype_of bytes)) then Err (Found BadSubtype) else
    if not (agrees expect.oid (oid_of bytes)) then Err (Found BadOid) else
    if not (nat_le (xid_of bytes) expect.max_xid) then Err (Found BadXid) else
    Ok (header_of bytes)

-- what is expected of an object: a kind, an oid, and a transaction of at most the greatest
abbrev pub expecting : ℕ → Option ℕ → ℕ → Expect
expecting kind oid max_xid = record { kind = kind; subtype = None; oid = oid; max_xid = max_xid }
