use Rattle.std.proofs.Common.{◌≡◌, ◌≤◌, length}
use Rattle.stripe.specs.There.{flag, there_below}
use Rattle.stripe.proofs.there.lowest.Given as goal

abbrev pub invariant-loop-r : goal.invariant-loop-r
invariant-loop-r l = (l.chosen.items ≡ there_below (flag l.there) l.r) × (length l.chosen.items ≤ l.r)
