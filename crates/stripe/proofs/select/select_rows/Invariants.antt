use Rattle.std.proofs.Common.{◌≡◌, ℕ, ◌<◌, get_or}
use Rattle.matrix.specs.Grids.{grid}
use Rattle.stripe.proofs.select.select_rows.Given as goal

abbrev pub invariant-loop-k : goal.invariant-loop-k
invariant-loop-k g l =
    let O = g.F.Field.ops.zero in
    (k c : ℕ) → k < l.k → c < l.d → grid O l.d l.square k c ≡ grid O l.d l.generator (get_or l.chosen k 0) c
