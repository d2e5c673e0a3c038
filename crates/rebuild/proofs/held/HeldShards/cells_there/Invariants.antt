use Rattle.std.proofs.Common.{◌≡◌, ℕ, ◌<◌, false, get_or}
use Rattle.rebuild.specs.Shards.{there_held}
use Rattle.rebuild.proofs.held.HeldShards.cells_there.Given as goal

abbrev pub invariant-loop-index : goal.invariant-loop-index
invariant-loop-index l = (k : ℕ) → k < l.index → get_or l.here-items k false ≡ there_held l.self l.row k
