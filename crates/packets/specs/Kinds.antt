-- The messages of datatransfer.proto and hdfs.proto that headers and responses are made of. Assumes nothing.
use Rattle.std.specs.Prelude.{ℕ, Bool, true, cond, List, [], ◌∷◌, ◌||◌, ◌==◌, Some, None, Option, nat_le, ◌&&◌}
use Rattle.wire.specs.Fields.{Field, wire_type}

pub data MessageKind : Type 0 where
  packet_header : MessageKind
  block_op_response : MessageKind
  op_block_checksum_response : MessageKind
  block_checksum_options : MessageKind
  read_op_checksum_info : MessageKind
  checksum_proto : MessageKind

-- each kind by a number of its own, to tell one from another
abbrev pub rank : MessageKind → ℕ
rank packet_header = 0
rank block_op_response = 1
rank op_block_checksum_response = 2
rank block_checksum_options = 3
rank read_op_checksum_info = 4
rank checksum_proto = 5

-- the wire type of each field that a kind of message knows
abbrev pub type_known : MessageKind → ℕ → Option ℕ
-- 1 offset_in_block, 2 seqno, 3 last_packet_in_block, 4 data_len, 5 sync_block
type_known packet_header n = cond (n == 1 || n == 2) (Some 1) (cond (n == 3 || n == 5) (Some 0) (cond (n == 4) (Some 5) None))
-- 1 status, 2 first_bad_link, 3 checksum_response, 4 read_op_checksum_info, 5 message, 6 short_circuit_access_version
type_known block_op_response n = cond (n == 1 || n == 6) (Some 0) (cond (nat_le 2 n && nat_le n 5) (Some 2) None)
-- 1 bytes_per_crc, 2 crc_per_block, 3 block_checksum, 4 crc_type, 5 block_checksum_options
type_known op_block_checksum_response n = cond (n == 1 || n == 2 || n == 4) (Some 0) (cond (n == 3 || n == 5) (Some 2) None)
-- 1 block_checksum_type, 2 stripe_length
type_known block_checksum_options n = cond (n == 1 || n == 2) (Some 0) None
-- 1 checksum, 2 chunk_offset
type_known read_op_checksum_info n = cond (n == 1) (Some 2) (cond (n == 2) (Some 0) None)
-- 1 type, 2 bytes_per_checksum
type_known checksum_proto n = cond (n == 1 || n == 2) (Some 0) None

-- a field that is known has its wire type; any other may have each
abbrev pub of_type : Option ℕ → ℕ → Bool
of_type (Some t) u = t == u
of_type None u = true

abbrev pub fits : MessageKind → Field → Bool
fits k f = of_type (type_known k f.number) (wire_type f.value)

-- which fields hold a message
abbrev pub message_in : MessageKind → ℕ → Option MessageKind
message_in packet_header n = None
message_in block_op_response n = cond (n == 3) (Some op_block_checksum_response) (cond (n == 4) (Some read_op_checksum_info) None)
message_in op_block_checksum_response n = cond (n == 5) (Some block_checksum_options) None
message_in block_checksum_options n = None
message_in read_op_checksum_info n = cond (n == 1) (Some checksum_proto) None
message_in checksum_proto n = None

-- which fields are required
abbrev pub required : MessageKind → List ℕ
required packet_header = 1 ∷ 2 ∷ 3 ∷ 4 ∷ []
required block_op_response = 1 ∷ []
required op_block_checksum_response = 1 ∷ 2 ∷ 3 ∷ []
required block_checksum_options = []
required read_op_checksum_info = 1 ∷ 2 ∷ []
required checksum_proto = 1 ∷ 2 ∷ []

-- An enum that a field holds: the field, and the lowest and highest value that is known. All between are known.
pub record Choice : Type 0 where
  pub number : ℕ
  pub lowest : ℕ
  pub highest : ℕ

abbrev pub choice : ℕ → ℕ → ℕ → Choice
choice n a b = record { number = n; lowest = a; highest = b }

-- which fields hold an enum: Status, ChecksumTypeProto and BlockChecksumTypeProto
abbrev pub choices : MessageKind → List Choice
choices packet_header = []
choices block_op_response = choice 1 0 13 ∷ []
choices op_block_checksum_response = choice 4 0 2 ∷ []
choices block_checksum_options = choice 1 1 2 ∷ []
choices read_op_checksum_info = []
choices checksum_proto = choice 1 0 2 ∷ []
