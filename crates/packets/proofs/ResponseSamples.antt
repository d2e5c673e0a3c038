-- Responses and what comes of them, each computed. The bytes and what they come to were put down from the documents by hand. Assumes nothing.
use Rattle.std.proofs.Common.{◌≡◌, [], ◌∷◌, Some, None, Ok, Err, refl}
use Rattle.checksum.specs.declared.kind.Checksum.TheVariants.{Crc32, Crc32c}
use Rattle.wire.specs.Fields.{field_at}
use Rattle.packets.specs.declared.faults.PacketFault.TheVariants.{CutShort, Malformed, Missing, TooFewSums, Refused}
use Rattle.packets.specs.Responses.{response_of}
use Rattle.packets.proofs.Samples.{by}

-- a field that is cut short and of a wrong wire type is cut short, since it is read first
pub cut_first : response_of (0x0a ∷ []) ≡ Err CutShort
unfolding response_of field_at
cut_first = refl

-- a field that is known and was read has another wire type
pub wrong_type : response_of (0x0d ∷ 0x00 ∷ 0x00 ∷ 0x00 ∷ 0x00 ∷ []) ≡ Err Malformed
unfolding response_of field_at
wrong_type = refl

-- a bad key is malformed at once: the field's number 0, wire types 3, 4, 6 and 7, more than 32 bits
pub key_first : response_of (0x02 ∷ []) ≡ Err Malformed
unfolding response_of field_at
key_first = refl

pub key_of_type_three : response_of (0x0b ∷ []) ≡ Err Malformed
unfolding response_of field_at
key_of_type_three = refl

pub key_of_type_four : response_of (0x0c ∷ []) ≡ Err Malformed
unfolding response_of field_at
key_of_type_four = refl

pub key_of_type_six : response_of (0x0e ∷ []) ≡ Err Malformed
unfolding response_of field_at
key_of_type_six = refl

pub key_of_type_seven : response_of (0x0f ∷ []) ≡ Err Malformed
unfolding response_of field_at
key_of_type_seven = refl

pub key_of_33_bits : response_of (0x80 ∷ 0x80 ∷ 0x80 ∷ 0x80 ∷ 0x10 ∷ []) ≡ Err Malformed
unfolding response_of field_at
key_of_33_bits = refl

-- what is missing comes after all bad fields, whatever their depth
pub missing_later : response_of (0x1a ∷ 0x01 ∷ 0x00 ∷ []) ≡ Err Malformed
unfolding response_of field_at
missing_later = refl

-- embedded messages level by level: the fourth field is cut short one level above the malformed one in the third
pub level_by_level : response_of (0x08 ∷ 0x00 ∷ 0x1a ∷ 0x03 ∷ 0x2a ∷ 0x01 ∷ 0x0b ∷ 0x22 ∷ 0x01 ∷ 0x0a ∷ []) ≡ Err CutShort
unfolding response_of field_at
level_by_level = refl

-- within a level by place: a malformed third field, then a fourth that is cut short
pub by_place : response_of (0x08 ∷ 0x00 ∷ 0x1a ∷ 0x01 ∷ 0x00 ∷ 0x22 ∷ 0x01 ∷ 0x0a ∷ []) ≡ Err Malformed
unfolding response_of field_at
by_place = refl

-- the outer message first: its last field is cut short, and an embedded one before it is malformed
pub outer_first : response_of (0x1a ∷ 0x01 ∷ 0x00 ∷ 0x08 ∷ []) ≡ Err CutShort
unfolding response_of field_at
outer_first = refl

-- each part of an embedded message is read by itself
pub parts_by_themselves : response_of (0x08 ∷ 0x00 ∷ 0x22 ∷ 0x01 ∷ 0x0a ∷ 0x22 ∷ 0x05 ∷ 0x04 ∷ 0x08 ∷ 0x02 ∷ 0x10 ∷ 0x01 ∷ []) ≡ Err CutShort
unfolding response_of field_at
parts_by_themselves = refl

-- the status is required
pub nothing_sent : response_of [] ≡ Err Missing
unfolding response_of field_at
nothing_sent = refl

-- the status alone opens, and nothing is checked
pub success : response_of (0x08 ∷ 0x00 ∷ []) ≡ Ok None
unfolding response_of field_at
success = refl

-- of an enum that is sent twice the last value counts
pub last_counts : response_of (0x08 ∷ 0x0e ∷ 0x08 ∷ 0x00 ∷ []) ≡ Ok None
unfolding response_of field_at
last_counts = refl

pub last_unknown : response_of (0x08 ∷ 0x00 ∷ 0x08 ∷ 0x0e ∷ []) ≡ Err Missing
unfolding response_of field_at
last_unknown = refl

-- 13 is the last status that is known
pub last_known_status : response_of (0x08 ∷ 0x0d ∷ []) ≡ Err Refused
unfolding response_of field_at
last_known_status = refl

-- a negative status, ten bytes long
pub negative_status : response_of (0x08 ∷ 0xff ∷ 0xff ∷ 0xff ∷ 0xff ∷ 0xff ∷ 0xff ∷ 0xff ∷ 0xff ∷ 0xff ∷ 0x01 ∷ []) ≡ Err Missing
unfolding response_of field_at
negative_status = refl

-- messages that nobody uses are read too, and have required fields
pub unused_read : response_of (0x08 ∷ 0x00 ∷ 0x1a ∷ 0x01 ∷ 0x00 ∷ []) ≡ Err Malformed
unfolding response_of field_at
unused_read = refl

pub unused_required : response_of (0x08 ∷ 0x00 ∷ 0x1a ∷ 0x00 ∷ []) ≡ Err Missing
unfolding response_of field_at
unused_required = refl

-- they may leave out the optional ones
pub unused_complete : response_of (0x08 ∷ 0x00 ∷ 0x1a ∷ 0x06 ∷ 0x08 ∷ 0x00 ∷ 0x10 ∷ 0x00 ∷ 0x1a ∷ 0x00 ∷ []) ≡ Ok None
unfolding response_of field_at
unused_complete = refl

-- their enums are known, up to the last
pub unused_enum_known : response_of (0x08 ∷ 0x00 ∷ 0x1a ∷ 0x0c ∷ 0x08 ∷ 0x00 ∷ 0x10 ∷ 0x00 ∷ 0x1a ∷ 0x00 ∷ 0x20 ∷ 0x02 ∷ 0x2a ∷ 0x02 ∷ 0x08 ∷ 0x02 ∷ []) ≡ Ok None
unfolding response_of field_at
unused_enum_known = refl

-- an optional enum of an unknown value
pub unused_enum_unknown : response_of (0x08 ∷ 0x00 ∷ 0x1a ∷ 0x08 ∷ 0x08 ∷ 0x00 ∷ 0x10 ∷ 0x00 ∷ 0x1a ∷ 0x00 ∷ 0x20 ∷ 0x03 ∷ []) ≡ Err Missing
unfolding response_of field_at
unused_enum_unknown = refl

-- one that begins with 1
pub inner_enum_unknown : response_of (0x08 ∷ 0x00 ∷ 0x1a ∷ 0x0a ∷ 0x08 ∷ 0x00 ∷ 0x10 ∷ 0x00 ∷ 0x1a ∷ 0x00 ∷ 0x2a ∷ 0x02 ∷ 0x08 ∷ 0x00 ∷ []) ≡ Err Missing
unfolding response_of field_at
inner_enum_unknown = refl

-- checksum info has a checksum and an offset
pub info_empty : response_of (0x08 ∷ 0x00 ∷ 0x22 ∷ 0x00 ∷ []) ≡ Err Missing
unfolding response_of field_at
info_empty = refl

pub info_without_offset : response_of (0x08 ∷ 0x00 ∷ 0x22 ∷ 0x07 ∷ 0x0a ∷ 0x05 ∷ 0x08 ∷ 0x02 ∷ 0x10 ∷ 0x80 ∷ 0x04 ∷ []) ≡ Err Missing
unfolding response_of field_at
info_without_offset = refl

pub info_without_length : response_of (0x08 ∷ 0x00 ∷ 0x22 ∷ 0x06 ∷ 0x0a ∷ 0x02 ∷ 0x08 ∷ 0x02 ∷ 0x10 ∷ 0x00 ∷ []) ≡ Err Missing
unfolding response_of field_at
info_without_length = refl

-- a type of checksum that is unknown
pub unknown_type : response_of (0x08 ∷ 0x00 ∷ 0x22 ∷ 0x09 ∷ 0x0a ∷ 0x05 ∷ 0x08 ∷ 0x03 ∷ 0x10 ∷ 0x80 ∷ 0x04 ∷ 0x10 ∷ 0x00 ∷ []) ≡ Err Missing
unfolding response_of field_at
unknown_type = refl

-- fields that are not known have any wire type, and the text of a message any bytes
pub unknown_fields : response_of (0x08 ∷ 0x00 ∷ 0x2a ∷ 0x01 ∷ 0xff ∷ 0x78 ∷ 0x05 ∷ 0x7a ∷ 0x01 ∷ 0xff ∷ []) ≡ Ok None
unfolding response_of field_at
unknown_fields = refl

-- a status of 2^32 is SUCCESS: the low 32 bits count
pub low_bits : response_of (0x08 ∷ 0x80 ∷ 0x80 ∷ 0x80 ∷ 0x80 ∷ 0x10 ∷ []) ≡ Ok None
unfolding response_of field_at
low_bits = refl

-- keys and lengths may be longer than need be, up to ten bytes
pub long_key : response_of (0x88 ∷ 0x80 ∷ 0x80 ∷ 0x80 ∷ 0x80 ∷ 0x80 ∷ 0x80 ∷ 0x80 ∷ 0x80 ∷ 0x00 ∷ 0x00 ∷ []) ≡ Ok None
unfolding response_of field_at
long_key = refl

pub long_length : response_of (0x08 ∷ 0x00 ∷ 0x12 ∷ 0x80 ∷ 0x80 ∷ 0x80 ∷ 0x80 ∷ 0x80 ∷ 0x80 ∷ 0x80 ∷ 0x80 ∷ 0x80 ∷ 0x00 ∷ []) ≡ Ok None
unfolding response_of field_at
long_length = refl

pub eleven_bytes : response_of (0x08 ∷ 0x00 ∷ 0x12 ∷ 0x80 ∷ 0x80 ∷ 0x80 ∷ 0x80 ∷ 0x80 ∷ 0x80 ∷ 0x80 ∷ 0x80 ∷ 0x80 ∷ 0x80 ∷ 0x00 ∷ []) ≡ Err Malformed
unfolding response_of field_at
eleven_bytes = refl

-- a refused opening comes after what is missing, and before runs of no bytes
pub refused_later : response_of (0x08 ∷ 0x01 ∷ 0x22 ∷ 0x00 ∷ []) ≡ Err Missing
unfolding response_of field_at
refused_later = refl

pub refused_first : response_of (0x08 ∷ 0x05 ∷ 0x22 ∷ 0x08 ∷ 0x0a ∷ 0x04 ∷ 0x08 ∷ 0x02 ∷ 0x10 ∷ 0x00 ∷ 0x10 ∷ 0x00 ∷ []) ≡ Err Refused
unfolding response_of field_at
refused_first = refl

pub runs_of_no_bytes : response_of (0x08 ∷ 0x00 ∷ 0x22 ∷ 0x08 ∷ 0x0a ∷ 0x04 ∷ 0x08 ∷ 0x02 ∷ 0x10 ∷ 0x00 ∷ 0x10 ∷ 0x00 ∷ []) ≡ Err TooFewSums
unfolding response_of field_at
runs_of_no_bytes = refl

-- the type NULL checks nothing, whatever the length of its runs
pub no_checksum : response_of (0x08 ∷ 0x00 ∷ 0x22 ∷ 0x08 ∷ 0x0a ∷ 0x04 ∷ 0x08 ∷ 0x00 ∷ 0x10 ∷ 0x00 ∷ 0x10 ∷ 0x00 ∷ []) ≡ Ok None
unfolding response_of field_at
no_checksum = refl

-- CRC32C for each 512 bytes
pub castagnoli_of_512 : response_of (0x08 ∷ 0x00 ∷ 0x22 ∷ 0x09 ∷ 0x0a ∷ 0x05 ∷ 0x08 ∷ 0x02 ∷ 0x10 ∷ 0x80 ∷ 0x04 ∷ 0x10 ∷ 0x00 ∷ []) ≡ Ok (Some (by Crc32c 512))
unfolding response_of field_at
castagnoli_of_512 = refl

-- CRC32 for each 512 bytes
pub ieee_of_512 : response_of (0x08 ∷ 0x00 ∷ 0x22 ∷ 0x09 ∷ 0x0a ∷ 0x05 ∷ 0x08 ∷ 0x01 ∷ 0x10 ∷ 0x80 ∷ 0x04 ∷ 0x10 ∷ 0x00 ∷ []) ≡ Ok (Some (by Crc32 512))
unfolding response_of field_at
ieee_of_512 = refl

-- an embedded message in two parts has the fields of both, and the last of each counts
pub parts_join : response_of (0x08 ∷ 0x00 ∷ 0x22 ∷ 0x07 ∷ 0x0a ∷ 0x05 ∷ 0x08 ∷ 0x02 ∷ 0x10 ∷ 0x80 ∷ 0x04 ∷ 0x22 ∷ 0x02 ∷ 0x10 ∷ 0x00 ∷ []) ≡ Ok (Some (by Crc32c 512))
unfolding response_of field_at
parts_join = refl

pub parts_join_below : response_of (0x08 ∷ 0x00 ∷ 0x22 ∷ 0x06 ∷ 0x0a ∷ 0x02 ∷ 0x08 ∷ 0x02 ∷ 0x10 ∷ 0x00 ∷ 0x22 ∷ 0x07 ∷ 0x0a ∷ 0x05 ∷ 0x08 ∷ 0x01 ∷ 0x10 ∷ 0x80 ∷ 0x04 ∷ [])
    ≡ Ok (Some (by Crc32 512))
unfolding response_of field_at
parts_join_below = refl

-- 2^32 + 512 bytes in a field of 32 bits
pub narrow_length : response_of (0x08 ∷ 0x00 ∷ 0x22 ∷ 0x0c ∷ 0x0a ∷ 0x08 ∷ 0x08 ∷ 0x02 ∷ 0x10 ∷ 0x80 ∷ 0x84 ∷ 0x80 ∷ 0x80 ∷ 0x10 ∷ 0x10 ∷ 0x00 ∷ []) ≡ Ok (Some (by Crc32c 512))
unfolding response_of field_at
narrow_length = refl
