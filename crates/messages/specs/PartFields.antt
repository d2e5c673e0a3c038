-- The fields of the messages of a response so far. Assumes nothing.
use Rattle.std.specs.Prelude.{ℕ, Bool, true, false, cond, None, ◌==◌}
use Rattle.wire.specs.Fields.{Field}
use Rattle.packets.specs.Messages.{latest}
use Rattle.messages.specs.declared.parts.ResponseFields.{ResponseFields}
use Rattle.messages.specs.declared.parts.ChecksumsFields.{ChecksumsFields}
use Rattle.messages.specs.declared.parts.OptionsFields.{OptionsFields}
use Rattle.messages.specs.declared.parts.InfoFields.{InfoFields}
use Rattle.messages.specs.declared.parts.ChecksumFields.{ChecksumFields}

-- whether field n is there after one field more
abbrev pub sent : ℕ → Bool → Field → Bool
sent n before f = cond (f.number == n) true before

-- no field is read
abbrev pub no_response_fields : ResponseFields
no_response_fields = record { status = None }

abbrev pub no_checksums_fields : ChecksumsFields
no_checksums_fields = record { bytes_per_crc = false; crc_per_block = false; block_checksum = false; crc_type = None }

abbrev pub no_options_fields : OptionsFields
no_options_fields = record { block_checksum_type = None }

abbrev pub no_info_fields : InfoFields
no_info_fields = record { checksum = false; chunk_offset = false }

abbrev pub no_checksum_fields : ChecksumFields
no_checksum_fields = record { checksum_type = None; bytes_per_checksum = None }

-- the fields with one more
abbrev pub with_response_field : ResponseFields → Field → ResponseFields
with_response_field s f = record { status = latest 1 s.status f }

abbrev pub with_checksums_field : ChecksumsFields → Field → ChecksumsFields
with_checksums_field s f = record {
  bytes_per_crc = sent 1 s.bytes_per_crc f;
  crc_per_block = sent 2 s.crc_per_block f;
  block_checksum = sent 3 s.block_checksum f;
  crc_type = latest 4 s.crc_type f;
}

abbrev pub with_options_field : OptionsFields → Field → OptionsFields
with_options_field s f = record { block_checksum_type = latest 1 s.block_checksum_type f }

abbrev pub with_info_field : InfoFields → Field → InfoFields
with_info_field s f = record { checksum = sent 1 s.checksum f; chunk_offset = sent 2 s.chunk_offset f }

abbrev pub with_checksum_field : ChecksumFields → Field → ChecksumFields
with_checksum_field s f = record { checksum_type = latest 1 s.checksum_type f; bytes_per_checksum = latest 2 s.bytes_per_checksum f }
