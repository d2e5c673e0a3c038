-- The kinds of messages that a response is made of, as the code names them. Assumes nothing.
use Rattle.std.specs.Prelude.{Some, None, Option}
use Rattle.packets.specs.Kinds.{MessageKind, block_op_response, op_block_checksum_response, block_checksum_options, read_op_checksum_info, checksum_proto}
use Rattle.messages.specs.declared.known.Kind.{Kind}
use Rattle.messages.specs.declared.known.Kind.TheVariants.{Response, Checksums, Options, Info, Checksum}

abbrev pub kind_meant : Kind → MessageKind
kind_meant Response = block_op_response
kind_meant Checksums = op_block_checksum_response
kind_meant Options = block_checksum_options
kind_meant Info = read_op_checksum_info
kind_meant Checksum = checksum_proto

abbrev pub kind_found : Option Kind → Option MessageKind
kind_found (Some k) = Some (kind_meant k)
kind_found None = None
