-- What comes of a response by what is known of it and of the messages in it. Assumes nothing.
use Rattle.std.specs.Prelude.{Bool, true, cond, not, ◌&&◌, ◌==◌, Err, Some, None, Option}
use Rattle.std.specs.Option.{is_some, unwrap_or}
use Rattle.wire.specs.Numbers.{low32}
use Rattle.packets.specs.declared.faults.PacketFault.TheVariants.{Missing, Refused}
use Rattle.packets.specs.declared.info.ChecksumInfo.{ChecksumInfo}
use Rattle.packets.specs.Answers.{Answer}
use Rattle.packets.specs.Messages.{among}
use Rattle.packets.specs.Responses.{kind_of, checked_by}
use Rattle.messages.specs.declared.parts.ResponseFields.{ResponseFields}
use Rattle.messages.specs.declared.parts.ChecksumsFields.{ChecksumsFields}
use Rattle.messages.specs.declared.parts.OptionsFields.{OptionsFields}
use Rattle.messages.specs.declared.parts.InfoFields.{InfoFields}
use Rattle.messages.specs.declared.parts.ChecksumFields.{ChecksumFields}
use Rattle.messages.specs.declared.known.Known.{Known}
use Rattle.messages.specs.PartFields.{no_response_fields, no_checksum_fields}

-- a message has what is required of it
abbrev pub response_complete : ResponseFields → Bool
response_complete s = is_some s.status && among 0 13 s.status

abbrev pub checksums_complete : ChecksumsFields → Bool
checksums_complete s = s.bytes_per_crc && s.crc_per_block && s.block_checksum && among 0 2 s.crc_type

abbrev pub options_complete : OptionsFields → Bool
options_complete s = among 1 2 s.block_checksum_type

abbrev pub info_complete : InfoFields → Bool
info_complete s = s.checksum && s.chunk_offset

abbrev pub checksum_complete : ChecksumFields → Bool
checksum_complete s = is_some s.checksum_type && is_some s.bytes_per_checksum && among 0 2 s.checksum_type

-- what is there passes
abbrev pub passes : {S : Type 0} → (S → Bool) → Option S → Bool
passes test (Some s) = test s
passes test None = true

abbrev pub all_there : Known → Bool
all_there s =
    passes response_complete s.response && passes checksums_complete s.checksums && passes info_complete s.info
    && passes options_complete s.options && passes checksum_complete s.checksum

-- by what data are checked
abbrev pub info_by : ChecksumFields → Answer (Option ChecksumInfo)
info_by s = checked_by (kind_of (low32 (unwrap_or s.checksum_type 0))) (low32 (unwrap_or s.bytes_per_checksum 0))

abbrev pub response_by : Known → Answer (Option ChecksumInfo)
response_by s =
    cond (not (all_there s)) (Err Missing)
    (cond (not (low32 (unwrap_or (unwrap_or s.response no_response_fields).status 0) == 0)) (Err Refused)
    (info_by (unwrap_or s.checksum no_checksum_fields)))
