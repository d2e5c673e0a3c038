-- What the samples speak of. Assumes nothing.
use Rattle.std.proofs.Common.{ℕ, Bool, List, ◌∷◌}
use Rattle.std.specs.Prelude.{codes}
use Rattle.checksum.specs.declared.kind.Checksum.{Checksum}
use Rattle.packets.specs.declared.header.PacketHeader.{PacketHeader}
use Rattle.packets.specs.declared.info.ChecksumInfo.{ChecksumInfo}
use Rattle.packets.specs.declared.packet.Packet.{Packet}

abbrev pub by : Checksum → ℕ → ChecksumInfo
by k n = record { kind = k; bytes_per_checksum = n }

-- a header by its four fields
abbrev pub heading : ℕ → ℕ → Bool → ℕ → PacketHeader
heading o s last n = record { offset_in_block = o; seqno = s; last_packet_in_block = last; data_len = n }

-- a packet by its header and the places of its data and of the byte due
abbrev pub packet : PacketHeader → ℕ → ℕ → Packet
packet h at due = record { header = h; data_at = at; len = h.data_len; due_at = due }

-- eight bytes 0 before others
abbrev pub zeros : List ℕ → List ℕ
zeros bs = 0x00 ∷ 0x00 ∷ 0x00 ∷ 0x00 ∷ 0x00 ∷ 0x00 ∷ 0x00 ∷ 0x00 ∷ bs

abbrev pub nine : List ℕ
nine = codes "123456789"
