use Rattle.std.proofs.Common.{◌≡◌, ℕ, ◌-◌, ◌<◌, ◌≤◌}
use Rattle.matrix.specs.Grids.{grid}
use Rattle.matrix.proofs.rows.pivot.Given as goal

abbrev pub invariant-rows : goal.invariant-rows
invariant-rows g l =
    let O = g.F.Field.ops.zero in
    (l.k ≤ l.r) × ((r : ℕ) → l.k ≤ r → r < l.r → grid O l.m.shape.cols l.m.entries.now r l.k ≡ O)

abbrev pub decreases-rows : goal.decreases-rows
decreases-rows g l = l.m.shape.rows - l.r
