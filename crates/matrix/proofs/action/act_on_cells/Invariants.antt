use Rattle.std.proofs.Common.{length, get_or}
use Rattle.algebra.specs.Matrices.{mixed}
use Rattle.matrix.specs.Grids.{grid}
use Rattle.matrix.proofs.Grids.{RowTo}
use Rattle.matrix.proofs.action.act_on_cells.Given as goal

abbrev pub invariant-loop-i : goal.invariant-loop-i
invariant-loop-i g l =
    let K = g.F.Field.ops in
    let w = grid 0 l.cell_size l.initial.cells in
    RowTo l.cell_size l.i l.target (λ i. mixed K (length l.entries) (λ c. get_or l.entries c K.zero) (λ k. w (get_or l.sources k 0) i)) w (grid 0 l.cell_size l.cells)
