-- Buffers with a frame at their front, and the frames that are not written. Assumes nothing.
use Rattle.std.specs.Prelude.{ℕ, ◌+◌, ◌*◌, ◌^◌, Bool, false, cond, ◌||◌, ◌==◌, List, ◌++◌, length, Ok, Err, Some, None, Option, Result, nat_le, nat_lt}
use Rattle.std.specs.Int.{w16, w32, to_be_bytes}
use Rattle.packets.specs.declared.header.PacketHeader.{PacketHeader}
use Rattle.packets.specs.declared.info.ChecksumInfo.{ChecksumInfo}
use Rattle.packets.specs.Frames.{run_count}
use Rattle.packets.specs.Written.{header_bytes, frame_bytes}
use Rattle.written.specs.declared.faults.FrameFault.{FrameFault}
use Rattle.written.specs.declared.faults.FrameFault.TheVariants.{Short, BadLength, EmptyRuns, BadOffset}
use Rattle.written.specs.Fronts.{fronted}

-- the header of data
abbrev pub header_with : ℕ → ℕ → Bool → List ℕ → PacketHeader
header_with o s l d = record { offset_in_block = o; seqno = s; last_packet_in_block = l; data_len = length d }

-- the lengths at the front of a frame, and its header
abbrev pub head_bytes : ℕ → PacketHeader → List ℕ
head_bytes p h = to_be_bytes w32 p ++ (to_be_bytes w16 25 ++ header_bytes h)

-- runs are of no bytes
abbrev pub empty_runs : Option ChecksumInfo → Bool
empty_runs None = false
empty_runs (Some k) = k.bytes_per_checksum == 0

-- how many bytes the checksums of n bytes have, four for each run
abbrev pub sums_len : Option ChecksumInfo → ℕ → ℕ
sums_len None n = 0
sums_len (Some k) n = run_count k.bytes_per_checksum n * 4

-- the payload length of n bytes
abbrev pub payload_len : Option ChecksumInfo → ℕ → ℕ
payload_len info n = 4 + sums_len info n + n

-- data_len would be negative, or the payload length takes more than 32 bits
abbrev pub too_much : Option ChecksumInfo → ℕ → Bool
too_much info n = nat_le (2 ^ 31) n || nat_le (2 ^ 32) (payload_len info n)

-- the offset is negative, or n bytes from it on go past the last that is not
abbrev pub past_the_end : ℕ → ℕ → Bool
past_the_end o n = nat_le (2 ^ 63) o || nat_lt (2 ^ 63) (o + n)

-- the length of a frame of so many bytes of data, of this size, in a buffer of so many bytes; the first reason that holds refuses it
abbrev pub end_by : Option ChecksumInfo → ℕ → ℕ → ℕ → ℕ → Result ℕ FrameFault
end_by info o n room size =
    cond (empty_runs info) (Err EmptyRuns)
    (cond (too_much info n) (Err BadLength)
    (cond (past_the_end o n) (Err BadOffset)
    (cond (nat_lt room size) (Err Short) (Ok size))))

abbrev pub frame_end : Option ChecksumInfo → PacketHeader → List ℕ → List ℕ → Result ℕ FrameFault
frame_end info h d bs = end_by info h.offset_in_block (length d) (length bs) (length (frame_bytes info h d))

-- a buffer with bytes at its front where nothing refuses them
abbrev pub over : Result ℕ FrameFault → List ℕ → List ℕ → List ℕ
over (Ok n) ws bs = fronted ws bs
over (Err e) ws bs = bs

abbrev pub frame_over : Option ChecksumInfo → PacketHeader → List ℕ → List ℕ → List ℕ
frame_over info h d bs = over (frame_end info h d bs) (frame_bytes info h d) bs
