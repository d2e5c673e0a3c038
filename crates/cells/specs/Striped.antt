-- The rows, shards and cells of a block under its scheme.
use Rattle.std.specs.Prelude.{ℕ, ◌+◌, ◌*◌, List}
use Rattle.dealing.specs.Places.{rows_of, shard_len, own_len_of, like_shard_of}
use Rattle.dealing.specs.Dealt.{own_bytes, shard_bytes}
use Rattle.cells.specs.declared.block.StripedBlock.{StripedBlock}

-- how many rows the block has
abbrev pub dealt_rows : StripedBlock → ℕ
dealt_rows b = rows_of b.schema.data_units b.schema.cell_size b.len

-- how many bytes shard i of the block has
abbrev pub dealt_shard_len : StripedBlock → ℕ → ℕ
dealt_shard_len b i = shard_len b.schema.data_units b.schema.parity_units b.schema.cell_size b.len i

-- how many bytes of its own the cell of shard i has in row k
abbrev pub dealt_own_len : StripedBlock → ℕ → ℕ → ℕ
dealt_own_len b i k = own_len_of b.schema.data_units b.schema.parity_units b.schema.cell_size b.len i k

-- where the block has these bytes, those of the data shard that shard i is as long as
abbrev pub dealt_shard : StripedBlock → List ℕ → ℕ → List ℕ
dealt_shard b block i = shard_bytes b.schema.data_units b.schema.cell_size block (like_shard_of b.schema.data_units i)

-- and what that data shard's cell in row k has of them for its own
abbrev pub dealt_own : StripedBlock → List ℕ → ℕ → ℕ → List ℕ
dealt_own b block i k = own_bytes b.schema.cell_size block (k * b.schema.data_units + like_shard_of b.schema.data_units i)
