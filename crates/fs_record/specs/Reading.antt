-- What the calls give beside the fields of records.
use Rattle.std.specs.Prelude.{ℕ, Bool, ◌&&◌, List, Option, option_map, Result, Ok, Err, not, if◌then◌else◌}
use Rattle.fs_record.specs.declared.fields.Field.{Field}
use Rattle.fs_record.specs.declared.fault.RecFault.{RecFault}
use Rattle.fs_record.specs.declared.fault.RecFault.TheVariants as faults
use Rattle.fs_record.specs.Fields.{field_of, have_fields_room, is_field_long}
use Rattle.bt_keys.specs.RecordKey.{has_hashed_name, has_plain_name}
use Rattle.fs_name.specs.declared.naming.Names.{Names}
use Rattle.fs_name.specs.Normal.{are_hashed}
use Rattle.fs_record.specs.declared.attribute.AttrBody.{AttrBody}
use Rattle.fs_record.specs.declared.attribute.AttrBody.TheVariants as bodies
use Rattle.fs_record.specs.Attributes.{Body, Embedded, Streamed}

-- where the contents of the first field of a type start, where there is one; Fields where what is there doesn't fit or that field is too short
unfoldable pub field_place : List ℕ → ℕ → ℕ → ℕ → Result (Option ℕ) RecFault
field_place value at type least =
    if not (have_fields_room value at && is_field_long (field_of value at type) least) then Err faults.Fields else
    Ok (option_map (λ (f : Field). f.at) (field_of value at type))

-- the name lies inside the key
abbrev pub has_entry_name : Names → List ℕ → Bool
has_entry_name names key = if are_hashed names then has_hashed_name key else has_plain_name key

-- what an attribute's body holds, as the bytes that it lends
abbrev pub body_seen : AttrBody → Body
body_seen (bodies.Embedded bytes) = Embedded bytes.now
body_seen (bodies.Stream id size) = Streamed id size
