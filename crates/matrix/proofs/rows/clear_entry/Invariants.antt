use Rattle.matrix.specs.Grids.{grid}
use Rattle.matrix.proofs.Grids.{RowTo}
use Rattle.matrix.proofs.rows.clear_entry.Given as goal

abbrev pub invariant-loop-c : goal.invariant-loop-c
invariant-loop-c g l =
    let K = g.F.Field.ops in
    let w = grid K.zero l.shape.cols l.initial.m in
    RowTo l.shape.cols l.c l.row (λ c. K.minus (w l.row c) (K.times (w l.row l.k) (w l.k c))) w (grid K.zero l.shape.cols l.m)
