use Rattle.std.proofs.Common.{◌≡◌}
use Rattle.algebra.specs.Matrices.{product}
use Rattle.matrix.specs.Grids.{grid}
use Rattle.matrix.proofs.product.row_times_column.Given as goal

abbrev pub invariant-loop-k : goal.invariant-loop-k
invariant-loop-k g l =
    let K = g.F.Field.ops in
    l.total ≡ product K l.k (grid K.zero l.a.shape.cols l.a.entries.now) (grid K.zero l.b.shape.cols l.b.entries.now) l.fn.row l.col
