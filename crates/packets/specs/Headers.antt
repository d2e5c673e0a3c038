-- What comes of a packet's header. Assumes nothing.
use Rattle.std.specs.Prelude.{ℕ, cond, not, List, Ok, Err}
use Rattle.wire.specs.Numbers.{truth}
use Rattle.wire.specs.Fields.{Field}
use Rattle.wire.specs.Messages.{fields_that}
use Rattle.packets.specs.declared.faults.PacketFault.TheVariants.{Missing}
use Rattle.packets.specs.declared.header.PacketHeader.{PacketHeader}
use Rattle.packets.specs.Answers.{Answer, from_fields}
use Rattle.packets.specs.Kinds.{packet_header, fits}
use Rattle.packets.specs.Messages.{last_number, complete}

-- the header that its fields say
abbrev pub header_from : List Field → PacketHeader
header_from fs = record {
  offset_in_block = last_number 1 fs;
  seqno = last_number 2 fs;
  last_packet_in_block = truth (last_number 3 fs);
  data_len = last_number 4 fs;
}

abbrev pub header_in : List Field → Answer PacketHeader
header_in fs = cond (not (complete packet_header fs)) (Err Missing) (Ok (header_from fs))

-- what comes of the bytes of a header
unfoldable pub header_of : List ℕ → Answer PacketHeader
header_of m = from_fields (fields_that (fits packet_header) m) header_in
