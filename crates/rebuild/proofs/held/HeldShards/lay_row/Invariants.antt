use Rattle.std.proofs.Common.{◌≡◌, ℕ, ◌<◌}
use Rattle.stripe.specs.Coded.{byte_at}
use Rattle.rebuild.specs.Shards.{bytes_held}
use Rattle.rebuild.proofs.held.HeldShards.lay_row.Given as goal

abbrev pub invariant-loop-i : goal.invariant-loop-i
invariant-loop-i l = (q : ℕ) → q < l.i → (j : ℕ) → j < l.size → byte_at l.size l.buffer q j ≡ bytes_held l.self l.row q j
