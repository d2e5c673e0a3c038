use Rattle.matrix.specs.Grids.{grid}
use Rattle.matrix.specs.Rows.{ClearTo}
use Rattle.matrix.proofs.rows.clear_column.Given as goal

abbrev pub invariant-loop-r : goal.invariant-loop-r
invariant-loop-r g l =
    let K = g.F.Field.ops in
    ClearTo K l.shape.cols l.r l.k (grid K.zero l.shape.cols l.initial.m) (grid K.zero l.shape.cols l.m)
