-- Frames and responses as they are written. Assumes nothing.
use Rattle.std.specs.Prelude.{ℕ, ◌+◌, ◌*◌, Bool, true, false, List, [], ◌∷◌, ◌++◌, length, Some, None, Option, flat_map}
use Rattle.std.specs.List.{range_with_len}
use Rattle.std.specs.Int.{w16, w32, w64, to_be_bytes, to_le_bytes}
use Rattle.checksum.specs.declared.kind.Checksum.{Checksum}
use Rattle.checksum.specs.declared.kind.Checksum.TheVariants.{Crc32, Crc32c}
use Rattle.checksum.specs.Sums.{sum_of}
use Rattle.wire.specs.Varints.{varint_bytes}
use Rattle.wire.specs.Fields.{Value, varint, fixed64, part, fixed32, wire_type, Field, field}
use Rattle.packets.specs.declared.header.PacketHeader.{PacketHeader}
use Rattle.packets.specs.declared.info.ChecksumInfo.{ChecksumInfo}
use Rattle.packets.specs.Frames.{run_count, run_of}

-- a value in the shortest form; the place of a part is not written
abbrev pub value_bytes : Value → List ℕ
value_bytes (varint n) = varint_bytes n
value_bytes (fixed64 n) = to_le_bytes w64 n
value_bytes (part bs at) = varint_bytes (length bs) ++ bs
value_bytes (fixed32 n) = to_le_bytes w32 n

-- a message as its fields in the order that is given
abbrev pub message_bytes : List Field → List ℕ
message_bytes fs = flat_map (λ (f : Field). varint_bytes (f.number * 8 + wire_type f.value) ++ value_bytes f.value) fs

abbrev pub bit_of : Bool → ℕ
bit_of true = 1
bit_of false = 0

abbrev pub header_bytes : PacketHeader → List ℕ
header_bytes h = message_bytes (
    field 1 (fixed64 h.offset_in_block)
    ∷ field 2 (fixed64 h.seqno)
    ∷ field 3 (varint (bit_of h.last_packet_in_block))
    ∷ field 4 (fixed32 h.data_len)
    ∷ [])

-- a checksum for each run of the data, the highest byte first
abbrev pub sum_bytes : Option ChecksumInfo → List ℕ → List ℕ
sum_bytes None d = []
sum_bytes (Some k) d =
    flat_map (λ (i : ℕ). to_be_bytes w32 (sum_of k.kind (run_of k.bytes_per_checksum d i)))
    (range_with_len 0 (run_count k.bytes_per_checksum (length d)))

-- the frame of a header, of checksums and of data, whatever they are
abbrev pub frame_with : List ℕ → List ℕ → List ℕ → List ℕ
frame_with h sums d = to_be_bytes w32 (4 + length sums + length d) ++ (to_be_bytes w16 (length h) ++ (h ++ (sums ++ d)))

-- the frame of data with its own checksums
abbrev pub frame_bytes : Option ChecksumInfo → PacketHeader → List ℕ → List ℕ
frame_bytes info h d = frame_with (header_bytes h) (sum_bytes info d) d

-- the number of a type of checksum
abbrev pub type_number : Checksum → ℕ
type_number Crc32 = 1
type_number Crc32c = 2

-- what tells by what data are checked: the type, the length of a run, and 0 as the offset of the first one
abbrev pub info_fields : Option ChecksumInfo → List Field
info_fields None = []
info_fields (Some k) = field 4 (part (message_bytes (
    field 1 (part (message_bytes (field 1 (varint (type_number k.kind)) ∷ field 2 (varint k.bytes_per_checksum) ∷ [])) 0)
    ∷ field 2 (varint 0)
    ∷ [])) 0) ∷ []

-- the response of a place that opens
abbrev pub response_bytes : Option ChecksumInfo → List ℕ
response_bytes info = message_bytes (field 1 (varint 0) ∷ info_fields info)
