use Rattle.std.proofs.Common.{◌+◌, ◌-◌, arith}
use Rattle.matrix.proofs.Parts.{row_fits, row_changed}
use Rattle.matrix.proofs.rows.scale_row.Goals as goal

pub returns : goal.returns
returns g c =
    let K = g.F.Field.ops in
    let cols = c.args.shape.cols in
    let start = c.place-start.result in
    let fits = row_fits cols c.args.row c.args.shape.rows c.requires.within in
    row_changed K.zero _ _ start (start + cols - start) c.args.m.now c.loop-x.x-items (omega arith) (omega arith) c.loop-x.auto.x-items (omega arith) (K.times c.args.by)
    (λ j l. c.loop-x.invariant.0 j (omega arith))
