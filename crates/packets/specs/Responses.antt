-- What comes of the response to an opening. Assumes nothing.
use Rattle.std.specs.Prelude.{ℕ, Bool, cond, not, ◌||◌, ◌==◌, List, [], ◌∷◌, Ok, Err, Some, None, Option}
use Rattle.std.specs.List.{list_all}
use Rattle.checksum.specs.declared.kind.Checksum.{Checksum}
use Rattle.checksum.specs.declared.kind.Checksum.TheVariants.{Crc32, Crc32c}
use Rattle.wire.specs.Numbers.{low32}
use Rattle.packets.specs.declared.faults.PacketFault.TheVariants.{Missing, TooFewSums, Refused}
use Rattle.packets.specs.declared.info.ChecksumInfo.{ChecksumInfo}
use Rattle.packets.specs.Answers.{Answer, from_fields}
use Rattle.packets.specs.Kinds.{MessageKind, block_op_response, op_block_checksum_response, block_checksum_options, read_op_checksum_info, checksum_proto}
use Rattle.packets.specs.Messages.{last_number, complete, Opened, levels_of, holds, merged}

-- the messages of a response that are there have what is required of them
abbrev pub all_complete : List Opened → Bool
all_complete os =
    list_all (λ (k : MessageKind). not (holds k os) || complete k (merged k os))
    (block_op_response ∷ op_block_checksum_response ∷ read_op_checksum_info ∷ block_checksum_options ∷ checksum_proto ∷ [])

-- the types of checksum by their numbers: 1 is CRC32, 2 is CRC32C, and 0 is NULL, which is none
abbrev pub kind_of : ℕ → Option Checksum
kind_of n = cond (n == 1) (Some Crc32) (cond (n == 2) (Some Crc32c) None)

-- by what data are checked: a checksum of runs of no bytes is refused
abbrev pub checked_by : Option Checksum → ℕ → Answer (Option ChecksumInfo)
checked_by (Some k) n = cond (n == 0) (Err TooFewSums) (Ok (Some (record { kind = k; bytes_per_checksum = n })))
checked_by None n = Ok None

abbrev pub info_in : List Opened → Answer (Option ChecksumInfo)
info_in os =
    checked_by (kind_of (low32 (last_number 1 (merged checksum_proto os))))
    (low32 (last_number 2 (merged checksum_proto os)))

-- just the status SUCCESS, which is 0, opens
abbrev pub status_in : List Opened → ℕ
status_in os = low32 (last_number 1 (merged block_op_response os))

abbrev pub response_in : List Opened → Answer (Option ChecksumInfo)
response_in os =
    cond (not (all_complete os)) (Err Missing)
    (cond (not (status_in os == 0)) (Err Refused)
    (info_in os))

-- what comes of the bytes of a response: by what the data that follow are checked; messages in it go two levels deep
unfoldable pub response_of : List ℕ → Answer (Option ChecksumInfo)
response_of m = from_fields (levels_of 3 (record { kind = block_op_response; bytes = m } ∷ [])) response_in
