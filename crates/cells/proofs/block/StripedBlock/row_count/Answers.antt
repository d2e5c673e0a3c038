-- So many rows hold the block, and put together are it.
use Rattle.std.proofs.Common.{◌≡◌, arith, rules}
use Rattle.dealing.proofs.Numbers.{rows_least}
use Rattle.dealing.proofs.Rows.{rows_are_block}
use Rattle.cells.specs.Striped.{dealt_rows}
use Rattle.cells.proofs.block.StripedBlock.row_count.Goals as goal

pub returns-clause-least : goal.returns-clause-least
returns-clause-least c =
    let b = c.args.self in
    let count : c.div_ceil.result ≡ dealt_rows b = search rules in
    rw count (rows_least b.schema.data_units b.schema.cell_size b.len (omega arith) (omega arith))

pub returns-clause-rows_are_block : goal.returns-clause-rows_are_block
returns-clause-rows_are_block c = λ block h.
    let b = c.args.self in
    let count : c.div_ceil.result ≡ dealt_rows b = search rules in
    rw (count, ← h) (rows_are_block b.schema.data_units b.schema.cell_size block (omega arith) (omega arith))
