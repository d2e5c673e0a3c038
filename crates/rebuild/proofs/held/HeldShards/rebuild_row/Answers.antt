-- What is made again of the cells laid is the row that the shards held whole have.
use Rattle.std.proofs.Common.{◌+◌, ◌*◌, sym, ap, ◌∙◌, rules}
use Rattle.std.specs.Result.{is_ok}
use Rattle.std.proofs.lemmas.Result.{err_from_is_err_and}
use Rattle.stripe.specs.Coded.{byte_at}
use Rattle.rebuild.specs.Held.{held_in}
use Rattle.rebuild.proofs.RowMade.{row_made, row_short}
use Rattle.rebuild.proofs.held.HeldShards.rebuild_row.Goals as goal

pub returns-in_err-map_err : goal.returns-in_err-map_err
returns-in_err-map_err c =
    let p = err_from_is_err_and c.from_residual.result c.from_residual.ensures.1 in
    let b = c.args.self.block in
    rw (p.1, p.2)
    (row_short b.schema b.len (held_in c.args.self.shards.now) c.args.row c.cells_there-there.result c.lay_row.new.buffer c.recover-made.new.row c.cells_there-there.ensures.each_flag c.recover-made.result c.in_err-map_err.field-0.0
    (byte_at b.schema.cell_size c.recover-made.new.row) (search rules) c.recover-made.ensures.from_the_lowest_there)

pub returns : goal.returns
returns c =
    let b = c.args.self.block in
    row_made b.schema b.len (held_in c.args.self.shards.now) c.args.row c.cells_there-there.result c.lay_row.new.buffer c.recover-made.new.row c.cells_there-there.ensures.each_flag c.recover-made.result
    (sym c.map_err.ensures.variant ∙ ap is_ok c.in_ok-map_err.was) c.lay_row.ensures (λ q i. (c.type_inv.buffer (q * b.schema.cell_size + i)).fits) c.recover-made.ensures.from_the_lowest_there c.recover-made.ensures.the_cells_dealt
