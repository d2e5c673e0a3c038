-- What is written is read back. Assumes nothing.
use Rattle.std.specs.Prelude.{◌≡◌, ℕ, ◌+◌, ◌^◌, ◌<◌, ◌≤◌, Bool, false, List, length, Ok, Some, None, Option}
use Rattle.std.specs.List.{AllByRecursion}
use Rattle.packets.specs.declared.info.ChecksumInfo.{ChecksumInfo}
use Rattle.packets.specs.Frames.{packet_at, frame_of}
use Rattle.packets.specs.Responses.{response_of}
use Rattle.packets.specs.Written.{frame_bytes, response_bytes}
use Rattle.written.specs.Frames.{header_with, empty_runs, sums_len, payload_len}

-- the frame of data that fit is accepted for each byte that it has, and tells its header and where its data stand
abbrev pub FramesReturn : Type 0
FramesReturn =
    (info : Option ChecksumInfo) (o s q : ℕ) (l : Bool) (d : List ℕ) → empty_runs info ≡ false → length d < 2 ^ 31 → payload_len info (length d) < 2 ^ 32
    → o + length d ≤ 2 ^ 63 → s < 2 ^ 64 → AllByRecursion (λ b. b < 256) d → o ≤ q → q < o + length d
    → frame_of info q (frame_bytes info (header_with o s l d) d) ≡ Ok (packet_at (header_with o s l d) (31 + sums_len info (length d)) q)

-- the response is read as what it was written from
pub record ResponsesReturn : Type 0 where
  pub bare : response_of (response_bytes None) ≡ Ok None
  pub checked : (k : ChecksumInfo) → 0 < k.bytes_per_checksum → k.bytes_per_checksum < 2 ^ 32 → response_of (response_bytes (Some k)) ≡ Ok (Some k)
