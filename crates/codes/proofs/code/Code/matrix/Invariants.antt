use Rattle.std.proofs.Common.{◌≡◌, ℕ, ◌/◌, ◌%◌, ◌<◌, get_or}
use Rattle.codes.proofs.code.Code.matrix.Given as goal

-- the entries before i are the matrix's
abbrev pub invariant-loop-i : goal.invariant-loop-i
invariant-loop-i g l =
    let d = l.data_units in
    (j : ℕ) → j < l.i → get_or l.x-items j g.Self.F.Field.ops.zero ≡ g.Self.Code.generator d (j / d) (j % d)
