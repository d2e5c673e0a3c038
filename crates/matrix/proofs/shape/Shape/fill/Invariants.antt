use Rattle.std.proofs.Common.{◌≡◌, ℕ, ◌<◌, length, get_or}
use Rattle.matrix.specs.Grids.{grid, EachEntry, Beyond}
use Rattle.matrix.proofs.shape.Shape.fill.Given as goal

abbrev pub invariant-loop-col : goal.invariant-loop-col
invariant-loop-col g l = (c : ℕ) → c < l.col → goal.G-post g l.at l.row c (get_or l.x-items c g.F.Field.ops.zero)

abbrev pub invariant-loop-row : goal.invariant-loop-row
invariant-loop-row g l =
    let none = g.F.Field.ops.zero in
    let cols = l.self.cols in
    (length l.out ≡ length l.initial.out)
    × (EachEntry l.row cols (goal.G-post g l.at) (grid none cols l.out)
    × Beyond l.self.rows cols (grid none cols l.initial.out) (grid none cols l.out))
