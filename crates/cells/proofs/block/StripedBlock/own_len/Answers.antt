-- What a cell has for its own is what its shard has in that row.
use Rattle.std.proofs.Common.{◌≡◌, ◌∙◌, arith}
use Rattle.dealing.proofs.Numbers.{own_len_is, own_len_of_shard}
use Rattle.dealing.proofs.Shards.{cell_of_shard}
use Rattle.cells.specs.Striped.{dealt_own_len}
use Rattle.cells.proofs.block.StripedBlock.own_len.Goals as goal

pub returns-then-index-units-clause-cell_of_shard : goal.returns-then-index-units-clause-cell_of_shard
returns-then-index-units-clause-cell_of_shard c = λ block e h.
    let b = c.args.self in
    cell_of_shard b.schema.data_units b.schema.cell_size block (omega arith) (omega arith) c.args.index c.args.row h

pub returns-then-index-units-clause-of_its_shard : goal.returns-then-index-units-clause-of_its_shard
returns-then-index-units-clause-of_its_shard c =
    let b = c.args.self in
    let is = own_len_is b.schema.data_units b.schema.parity_units b.schema.cell_size b.len c.args.index c.args.row (omega arith) in
    let own : c.cell_len.result ≡ dealt_own_len b c.args.index c.args.row = cc in
    own ∙ own_len_of_shard b.schema.data_units b.schema.parity_units b.schema.cell_size b.len c.args.index c.args.row (omega arith) (omega arith)
