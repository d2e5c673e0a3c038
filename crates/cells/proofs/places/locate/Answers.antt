-- The byte is at the places that are told, and nowhere else.
use Rattle.std.proofs.Common.{arith}
use Rattle.dealing.proofs.Numbers.{byte_of_place}
use Rattle.dealing.proofs.Shards.{placed}
use Rattle.cells.proofs.places.locate.Goals as goal

pub returns-clause-placed : goal.returns-clause-placed
returns-clause-placed c = λ block h.
    let s = c.args.schema in
    rw (c.row_for_cell.ensures, c.shard_for_cell.ensures, c.place_in_shard.ensures, c.cell_for_offset-cell.ensures)
    (placed s.data_units s.cell_size block (omega arith) (omega arith) c.args.offset h)

pub returns-clause-found_back : goal.returns-clause-found_back
returns-clause-found_back c =
    let s = c.args.schema in
    rw (c.shard_for_cell.ensures, c.place_in_shard.ensures, c.cell_for_offset-cell.ensures)
    (byte_of_place s.data_units s.cell_size c.args.offset (omega arith) (omega arith))
