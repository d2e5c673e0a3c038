-- Headers, frames and responses as they are written, each computed. The bytes and what they come to were put down from the documents by hand. Assumes nothing.
use Rattle.std.proofs.Common.{◌≡◌, ◌-◌, ◌^◌, true, false, [], ◌∷◌, Some, None, Ok, refl}
use Rattle.crcmath.specs.Registers.{reversed, step, steps, crc_of}
use Rattle.checksum.specs.declared.kind.Checksum.TheVariants.{Crc32, Crc32c}
use Rattle.wire.specs.Fields.{field_at}
use Rattle.wire.specs.Varints.{groups_of, varint_bytes}
use Rattle.packets.specs.Headers.{header_of}
use Rattle.packets.specs.Responses.{response_of}
use Rattle.packets.specs.Frames.{sums_match, frame_of}
use Rattle.packets.specs.Written.{header_bytes, frame_bytes, response_bytes}
use Rattle.packets.proofs.Samples.{by, heading, packet, zeros, nine}

-- fields in rising number, the mark as one byte
pub header_written : header_bytes (heading 0 0 false 9) ≡ 0x09 ∷ zeros (0x11 ∷ zeros (0x18 ∷ 0x00 ∷ 0x25 ∷ 0x09 ∷ 0x00 ∷ 0x00 ∷ 0x00 ∷ []))
unfolding varint_bytes groups_of
header_written = refl

pub header_written_last : header_bytes (heading 512 (2 ^ 64 - 1) true 9)
    ≡ 0x09 ∷ 0x00 ∷ 0x02 ∷ 0x00 ∷ 0x00 ∷ 0x00 ∷ 0x00 ∷ 0x00 ∷ 0x00 ∷ 0x11 ∷ 0xff ∷ 0xff ∷ 0xff ∷ 0xff ∷ 0xff ∷ 0xff ∷ 0xff ∷ 0xff ∷ 0x18 ∷ 0x01 ∷ 0x25 ∷ 0x09 ∷ 0x00 ∷ 0x00 ∷ 0x00 ∷ []
unfolding varint_bytes groups_of
header_written_last = refl

-- the response of a place whose data have a CRC32C for each 512 bytes
pub response_written : response_bytes (Some (by Crc32c 512)) ≡ 0x08 ∷ 0x00 ∷ 0x22 ∷ 0x09 ∷ 0x0a ∷ 0x05 ∷ 0x08 ∷ 0x02 ∷ 0x10 ∷ 0x80 ∷ 0x04 ∷ 0x10 ∷ 0x00 ∷ []
unfolding varint_bytes groups_of
response_written = refl

-- the response of one whose data are not checked
pub response_written_bare : response_bytes None ≡ 0x08 ∷ 0x00 ∷ []
unfolding varint_bytes groups_of
response_written_bare = refl

-- nine digits with their CRC32C
pub frame_written : frame_bytes (Some (by Crc32c 512)) (heading 0 0 false 9) nine
    ≡ 0x00 ∷ 0x00 ∷ 0x00 ∷ 0x11 ∷ 0x00 ∷ 0x19 ∷ 0x09 ∷ zeros (0x11 ∷ zeros (0x18 ∷ 0x00 ∷ 0x25 ∷ 0x09 ∷ 0x00 ∷ 0x00 ∷ 0x00 ∷ 0xe3 ∷ 0x06 ∷ 0x92 ∷ 0x83 ∷ 0x31 ∷ 0x32 ∷ 0x33 ∷ 0x34 ∷ 0x35 ∷ 0x36 ∷ 0x37 ∷ 0x38 ∷ 0x39 ∷ []))
unfolding varint_bytes groups_of crc_of steps step reversed
frame_written = refl

-- runs of four, four and one byte
pub frame_written_in_runs : frame_bytes (Some (by Crc32 4)) (heading 0 0 false 9) nine
    ≡ 0x00 ∷ 0x00 ∷ 0x00 ∷ 0x19 ∷ 0x00 ∷ 0x19 ∷ 0x09 ∷ zeros (0x11 ∷ zeros (0x18 ∷ 0x00 ∷ 0x25 ∷ 0x09 ∷ 0x00 ∷ 0x00 ∷ 0x00 ∷ 0x9b ∷ 0xe3 ∷ 0xe0 ∷ 0xa3 ∷ 0x7e ∷ 0x52 ∷ 0x56 ∷ 0x07 ∷ 0x8d ∷ 0x07 ∷ 0x67 ∷ 0x85 ∷ 0x31 ∷ 0x32 ∷ 0x33 ∷ 0x34 ∷ 0x35 ∷ 0x36 ∷ 0x37 ∷ 0x38 ∷ 0x39 ∷ []))
unfolding varint_bytes groups_of crc_of steps step reversed
frame_written_in_runs = refl

-- no checksums
pub frame_written_bare : frame_bytes None (heading 0 0 false 9) nine
    ≡ 0x00 ∷ 0x00 ∷ 0x00 ∷ 0x0d ∷ 0x00 ∷ 0x19 ∷ 0x09 ∷ zeros (0x11 ∷ zeros (0x18 ∷ 0x00 ∷ 0x25 ∷ 0x09 ∷ 0x00 ∷ 0x00 ∷ 0x00 ∷ 0x31 ∷ 0x32 ∷ 0x33 ∷ 0x34 ∷ 0x35 ∷ 0x36 ∷ 0x37 ∷ 0x38 ∷ 0x39 ∷ []))
unfolding varint_bytes groups_of crc_of steps step reversed
frame_written_bare = refl

-- what is written is read back
pub response_back : response_of (response_bytes (Some (by Crc32c 512))) ≡ Ok (Some (by Crc32c 512))
unfolding response_of field_at varint_bytes groups_of
response_back = refl

pub response_back_bare : response_of (response_bytes None) ≡ Ok None
unfolding response_of field_at varint_bytes groups_of
response_back_bare = refl

pub frame_back : frame_of (Some (by Crc32 4)) 6 (frame_bytes (Some (by Crc32 4)) (heading 2 0 false 9) nine) ≡ Ok (packet (heading 2 0 false 9) 43 47)
unfolding frame_of header_of field_at sums_match crc_of steps step reversed varint_bytes groups_of
frame_back = refl
