-- A row's part of a range is the block's.
use Rattle.std.proofs.Common.{◌≡◌, arith, rules}
use Rattle.dealing.specs.Places.{row_bytes}
use Rattle.dealing.proofs.Rows.{part_of_block, parts_are_range}
use Rattle.cells.specs.Found.{range_of}
use Rattle.cells.proofs.rows.row_range.Goals as goal

pub returns-clause-part_of_block : goal.returns-clause-part_of_block
returns-clause-part_of_block c = λ block h.
    let s = c.args.schema in
    let range : c.part_of_row.result ≡ range_of (row_bytes s.data_units s.cell_size) c.args.row c.args.offset c.args.len = search rules in
    rw range (part_of_block s.data_units s.cell_size block c.args.offset c.args.len h c.args.row)

pub returns-clause-parts_are_range : goal.returns-clause-parts_are_range
returns-clause-parts_are_range c = λ block h.
    let s = c.args.schema in
    parts_are_range s.data_units s.cell_size block c.args.offset c.args.len h (omega arith) (omega arith)
