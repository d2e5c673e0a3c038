use Rattle.algebra.specs.Elimination.{SameKernel, Reduced}
use Rattle.matrix.specs.Grids.{grid, Beyond}
use Rattle.matrix.proofs.elimination.eliminate.Given as goal

abbrev pub invariant-loop-k : goal.invariant-loop-k
invariant-loop-k g l =
    let K = g.F.Field.ops in
    let w = grid K.zero l.wide.cols l.initial.m in
    let x = grid K.zero l.wide.cols l.m in
    SameKernel K l.wide.rows l.wide.cols w x × Reduced K l.wide.rows l.k x × Beyond l.wide.rows l.wide.cols w x
