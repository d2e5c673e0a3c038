-- What is known of a response and of the messages in it, level by level. Assumes nothing.
use Rattle.std.specs.Prelude.{ℕ, Bool, true, List, Ok, Some, None, Option}
use Rattle.std.specs.Option.{unwrap_or}
use Rattle.wire.specs.Readings.{Reading, and_then, seen}
use Rattle.wire.specs.Fields.{Value, varint, fixed64, part, fixed32, Field}
use Rattle.wire.specs.Messages.{fields_that}
use Rattle.packets.specs.Kinds.{MessageKind, packet_header, block_op_response, op_block_checksum_response, block_checksum_options, read_op_checksum_info, checksum_proto, fits, message_in}
use Rattle.messages.specs.declared.parts.ResponseFields.{ResponseFields}
use Rattle.messages.specs.declared.parts.ChecksumsFields.{ChecksumsFields}
use Rattle.messages.specs.declared.parts.OptionsFields.{OptionsFields}
use Rattle.messages.specs.declared.parts.InfoFields.{InfoFields}
use Rattle.messages.specs.declared.parts.ChecksumFields.{ChecksumFields}
use Rattle.messages.specs.declared.known.Known.{Known}
use Rattle.messages.specs.declared.known.PartsOf.{PartsOf}
use Rattle.messages.specs.declared.known.DeeperOf.{DeeperOf}
use Rattle.messages.specs.Gathering.{gathered}
use Rattle.messages.specs.Kinds.{kind_meant}
use Rattle.messages.specs.PartFields.{no_response_fields, no_checksums_fields, no_options_fields, no_info_fields, no_checksum_fields, with_response_field, with_checksums_field, with_options_field, with_info_field, with_checksum_field}

-- a walk over fields that are read already takes each
abbrev pub any_field : Field → Bool
any_field f = true

abbrev pub known_parts : Option ResponseFields → Option ChecksumsFields → Option OptionsFields → Option InfoFields → Option ChecksumFields → Known
known_parts a b c d e = record { response = a; checksums = b; options = c; info = d; checksum = e }

-- with the fields of a message of some kind, or of one more part of it
abbrev pub with_message : Known → MessageKind → List ℕ → Reading Known
with_message s packet_header m = and_then (fields_that (fits packet_header) m) (λ fs. Ok s)
with_message s block_op_response m = seen (λ r. known_parts (Some r) s.checksums s.options s.info s.checksum) (gathered (fits block_op_response) with_response_field (unwrap_or s.response no_response_fields) m)
with_message s op_block_checksum_response m = seen (λ r. known_parts s.response (Some r) s.options s.info s.checksum) (gathered (fits op_block_checksum_response) with_checksums_field (unwrap_or s.checksums no_checksums_fields) m)
with_message s block_checksum_options m = seen (λ r. known_parts s.response s.checksums (Some r) s.info s.checksum) (gathered (fits block_checksum_options) with_options_field (unwrap_or s.options no_options_fields) m)
with_message s read_op_checksum_info m = seen (λ r. known_parts s.response s.checksums s.options (Some r) s.checksum) (gathered (fits read_op_checksum_info) with_info_field (unwrap_or s.info no_info_fields) m)
with_message s checksum_proto m = seen (λ r. known_parts s.response s.checksums s.options s.info (Some r)) (gathered (fits checksum_proto) with_checksum_field (unwrap_or s.checksum no_checksum_fields) m)

-- with the message in a field, if it holds one, by what a message adds
abbrev pub by_held : (Known → MessageKind → List ℕ → Reading Known) → Option MessageKind → Value → Known → Reading Known
by_held add None v s = Ok s
by_held add (Some k) (varint n) s = Ok s
by_held add (Some k) (fixed64 n) s = Ok s
by_held add (Some k) (part bs at) s = add s k bs
by_held add (Some k) (fixed32 n) s = Ok s

abbrev pub with_held : MessageKind → Known → Field → Reading Known
with_held k s f = by_held with_message (message_in k f.number) f.value s

-- the walk for the messages in a message
abbrev pub with_parts_of : PartsOf → Field → PartsOf
with_parts_of w f = record { kind = w.kind; known = and_then w.known (λ s. with_held (kind_meant w.kind) s f) }

-- after all fields, as long as none is at fault
abbrev pub after_all : (Known → Field → Reading Known) → Known → List ℕ → Reading Known
after_all add s m = and_then (gathered any_field (λ r f. and_then r (λ s. add s f)) (Ok s) m) (λ r. r)

-- with the messages in the fields of a message
abbrev pub with_inner : Known → MessageKind → List ℕ → Reading Known
with_inner s k m = after_all (with_held k) s m

abbrev pub with_inner_held : MessageKind → Known → Field → Reading Known
with_inner_held k s f = by_held with_inner (message_in k f.number) f.value s

abbrev pub with_deeper_of : DeeperOf → Field → DeeperOf
with_deeper_of w f = record { kind = w.kind; known = and_then w.known (λ s. with_inner_held (kind_meant w.kind) s f) }

-- with the messages in those
abbrev pub with_deeper : Known → MessageKind → List ℕ → Reading Known
with_deeper s k m = after_all (with_inner_held k) s m

-- nothing is read
abbrev pub nothing_known : Known
nothing_known = known_parts None None None None None

-- a response, the messages in it, and those in these
abbrev pub known_of : List ℕ → Reading Known
known_of m =
    and_then (with_message nothing_known block_op_response m) (λ s.
    and_then (with_inner s block_op_response m) (λ s.
    with_deeper s block_op_response m))
