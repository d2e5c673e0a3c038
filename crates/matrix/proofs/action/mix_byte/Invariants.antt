use Rattle.std.proofs.Common.{◌≡◌, length, get_or}
use Rattle.algebra.specs.Matrices.{mixed}
use Rattle.matrix.specs.Grids.{grid}
use Rattle.matrix.proofs.action.mix_byte.Given as goal

abbrev pub invariant-loop-x : goal.invariant-loop-x
invariant-loop-x g l =
    let K = g.F.Field.ops in
    l.sum ≡ mixed K (length l.yielded) (λ c. get_or l.row c K.zero) (λ k. grid 0 l.of.size l.of.bytes.now (get_or l.sources k 0) l.i)
