use Rattle.std.proofs.Common.{◌≡◌, ℕ, ◌<◌, ◌≤◌, get_or}
use Rattle.matrix.proofs.rows.scale_row.Given as goal

abbrev pub invariant-loop-x : goal.invariant-loop-x
invariant-loop-x g l =
    let K = g.F.Field.ops in
    ((c : ℕ) → c < l.x-index → get_or l.x-items c K.zero ≡ K.times l.by (get_or l.initial.x-items c K.zero))
    × ((c : ℕ) → l.x-index ≤ c → get_or l.x-items c K.zero ≡ get_or l.initial.x-items c K.zero)
