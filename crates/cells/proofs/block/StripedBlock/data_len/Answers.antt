-- A shard is no longer than its block, so its length fits.
use Rattle.std.proofs.Common.{◌*◌, ◌%◌, ◌≤◌, arith}
use Rattle.dealing.proofs.Numbers.{whole_le}
use Rattle.cells.proofs.block.StripedBlock.data_len.Goals as goal

-- what is left of the row that is begun is no more than that row
pub overflow_add-result : goal.overflow_add-result
overflow_add-result c =
    let b = c.args.self in
    let left : c.min.result ≤ b.len % (b.schema.data_units * b.schema.cell_size) = rw (← c.row_size-row.ensures) (omega arith) in
    rw c.row_size-row.ensures (omega (arith, left, whole_le b.schema.data_units b.schema.cell_size b.len (omega arith) (omega arith)))
