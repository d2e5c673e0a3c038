use Rattle.std.proofs.Common.{◌≡◌, ℕ, ◌<◌, get_or}
use Rattle.matrix.proofs.shape.Shape.clear.Given as goal

abbrev pub invariant-loop-x : goal.invariant-loop-x
invariant-loop-x g l =
    let none = g.F.Field.ops.zero in (k : ℕ) → k < l.x-index → get_or l.x-items k none ≡ none
