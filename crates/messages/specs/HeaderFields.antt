-- The fields of a header so far, and the header that they make. Assumes nothing.
use Rattle.std.specs.Prelude.{Option, Some, None, cond, ◌&&◌}
use Rattle.std.specs.Option.{is_some, unwrap_or}
use Rattle.wire.specs.Numbers.{truth}
use Rattle.wire.specs.Fields.{Field}
use Rattle.packets.specs.declared.header.PacketHeader.{PacketHeader}
use Rattle.packets.specs.Messages.{latest}
use Rattle.messages.specs.declared.headers.HeaderFields.{HeaderFields}

-- no field is read
abbrev pub no_header_fields : HeaderFields
no_header_fields = record { offset_in_block = None; seqno = None; last_packet_in_block = None; data_len = None }

-- the fields with one more
abbrev pub with_header_field : HeaderFields → Field → HeaderFields
with_header_field s f = record {
  offset_in_block = latest 1 s.offset_in_block f;
  seqno = latest 2 s.seqno f;
  last_packet_in_block = latest 3 s.last_packet_in_block f;
  data_len = latest 4 s.data_len f;
}

-- the header, if its four fields are there
abbrev pub header_by : HeaderFields → Option PacketHeader
header_by s =
    cond (is_some s.offset_in_block && is_some s.seqno && is_some s.last_packet_in_block && is_some s.data_len)
    (Some (record {
      offset_in_block = unwrap_or s.offset_in_block 0;
      seqno = unwrap_or s.seqno 0;
      last_packet_in_block = truth (unwrap_or s.last_packet_in_block 0);
      data_len = unwrap_or s.data_len 0;
    }))
    None
