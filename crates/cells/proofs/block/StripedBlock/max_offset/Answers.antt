-- A shard is as long as its bytes, and each is one of the block's.
use Rattle.std.proofs.Common.{◌≡◌, ◌<◌, sym, ◌∙◌, arith}
use Rattle.dealing.specs.Places.{data_len_of}
use Rattle.dealing.proofs.Numbers.{shard_len_is, like_shard_data}
use Rattle.dealing.proofs.Shards.{length_shard, length_any_shard, from_shard}
use Rattle.cells.specs.Striped.{dealt_shard_len}
use Rattle.cells.proofs.block.StripedBlock.max_offset.Goals as goal

pub returns-then-index-units-clause-length_of_shard : goal.returns-then-index-units-clause-length_of_shard
returns-then-index-units-clause-length_of_shard c = λ block e h.
    let b = c.args.self in
    let is = shard_len_is b.schema.data_units b.schema.parity_units b.schema.cell_size b.len c.args.index h in
    let long : c.data_len.result ≡ dealt_shard_len b c.args.index = cc in
    long ∙ rw (← e) (sym (length_any_shard b.schema.data_units b.schema.cell_size block (omega arith) (omega arith) b.schema.parity_units c.args.index h))

pub returns-then-index-units-clause-bytes_of_block : goal.returns-then-index-units-clause-bytes_of_block
returns-then-index-units-clause-bytes_of_block c = λ block e hi o h.
    let b = c.args.self in
    let itself = like_shard_data b.schema.data_units c.args.index hi in
    let long : c.data_len.result ≡ data_len_of b.schema.data_units b.schema.cell_size b.len c.args.index = cc in
    let l : o < data_len_of b.schema.data_units b.schema.cell_size b.len c.args.index = rw long at h in
    from_shard b.schema.data_units b.schema.cell_size block (omega arith) (omega arith) c.args.index o hi
    (rw (length_shard b.schema.data_units b.schema.cell_size block (omega arith) (omega arith) c.args.index hi, e) l)
