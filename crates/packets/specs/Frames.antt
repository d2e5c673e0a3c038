-- What comes of a frame. Assumes nothing.
use Rattle.std.specs.Prelude.{ℕ, ◌+◌, ◌-◌, ◌*◌, ◌/◌, ◌^◌, max, Bool, cond, not, ◌&&◌, ◌||◌, ◌==◌, List, length, take, drop, Ok, Err, Some, None, Option, nat_le, nat_lt}
use Rattle.std.specs.List.{list_all, range_with_len}
use Rattle.std.specs.Int.{w16, w32, from_be_bytes}
use Rattle.checksum.specs.Sums.{sum_of}
use Rattle.packets.specs.declared.faults.PacketFault.TheVariants.{CutShort, Malformed, BadLength, TooFewSums, SumDiffers, NotCovered}
use Rattle.packets.specs.declared.header.PacketHeader.{PacketHeader}
use Rattle.packets.specs.declared.info.ChecksumInfo.{ChecksumInfo}
use Rattle.packets.specs.declared.packet.Packet.{Packet}
use Rattle.packets.specs.Answers.{Answer, onward}
use Rattle.packets.specs.Headers.{header_of}

-- how many runs of c bytes n bytes are, the last perhaps shorter
abbrev pub run_count : ℕ → ℕ → ℕ
run_count c n = (n + c - 1) / c

-- run i of the data
abbrev pub run_of : ℕ → List ℕ → ℕ → List ℕ
run_of c d i = take c (drop (i * c) d)

-- a run is of some bytes, and each run has a checksum of four; what is left over of these is not looked at
abbrev pub enough_sums : ChecksumInfo → List ℕ → List ℕ → Bool
enough_sums k sums d = not (k.bytes_per_checksum == 0) && nat_le (run_count k.bytes_per_checksum (length d) * 4) (length sums)

-- checksum i is that of run i
abbrev pub run_matches : ChecksumInfo → List ℕ → List ℕ → ℕ → Bool
run_matches k sums d i = from_be_bytes w32 (drop (i * 4) sums) == sum_of k.kind (run_of k.bytes_per_checksum d i)

-- the checksum of each run is the one that stands for it
unfoldable pub sums_match : ChecksumInfo → List ℕ → List ℕ → Bool
sums_match k sums d = list_all (run_matches k sums d) (range_with_len 0 (run_count k.bytes_per_checksum (length d)))

-- what comes of checksums and data where they refuse nothing; without checksum info nothing is checked
abbrev pub checked_sums : {A : Type 0} → Option ChecksumInfo → List ℕ → List ℕ → Answer A → Answer A
checked_sums None sums d r = r
checked_sums (Some k) sums d r = cond (not (enough_sums k sums d)) (Err TooFewSums) (cond (not (sums_match k sums d)) (Err SumDiffers) r)

-- the packet has the byte q, and its offset is not negative
abbrev pub covers : PacketHeader → ℕ → Bool
covers h q = nat_lt h.offset_in_block (2 ^ 63) && nat_le h.offset_in_block q && nat_lt q (h.offset_in_block + h.data_len)

-- what a frame tells whose data begin at a place
abbrev pub packet_at : PacketHeader → ℕ → ℕ → Packet
packet_at h at q = record { header = h; data_at = at; len = h.data_len; due_at = at + (q - h.offset_in_block) }

-- what comes of a frame by its checksums and its data, which begin at a place
abbrev pub data_of : Option ChecksumInfo → ℕ → PacketHeader → List ℕ → List ℕ → ℕ → Answer Packet
data_of info q h sums d at = checked_sums info sums d (cond (not (covers h q)) (Err NotCovered) (Ok (packet_at h at q)))

-- the payload length is less than its own bytes, or data_len is negative or more than the bytes after the header
abbrev pub bad_length : ℕ → List ℕ → PacketHeader → Bool
bad_length p rest h = nat_lt p 4 || nat_le (2 ^ 31) h.data_len || nat_lt (length rest) h.data_len

-- what comes of a frame of payload length p by the bytes after its header, which begin at a place: checksums, and the data at their end
abbrev pub payload_of : Option ChecksumInfo → ℕ → ℕ → ℕ → List ℕ → PacketHeader → Answer Packet
payload_of info q p at rest h =
    cond (bad_length p rest h) (Err BadLength)
    (data_of info q h (take (length rest - h.data_len) rest) (drop (length rest - h.data_len) rest) (at + (length rest - h.data_len)))

-- what comes of a frame by its payload length p and its header length n: they say how long it is
abbrev pub lengths_of : Option ChecksumInfo → ℕ → List ℕ → ℕ → ℕ → Answer Packet
lengths_of info q bs p n =
    cond (nat_lt (length bs) (2 + max p 4 + n)) (Err CutShort)
    (cond (nat_lt (2 + max p 4 + n) (length bs)) (Err Malformed)
    (onward (header_of (take n (drop 6 bs))) (payload_of info q p (6 + n) (drop (6 + n) bs))))

-- what comes of the bytes of a frame, by what checks its data and by the byte that is due
unfoldable pub frame_of : Option ChecksumInfo → ℕ → List ℕ → Answer Packet
frame_of info q bs = cond (nat_lt (length bs) 6) (Err CutShort) (lengths_of info q bs (from_be_bytes w32 bs) (from_be_bytes w16 (drop 4 bs)))
