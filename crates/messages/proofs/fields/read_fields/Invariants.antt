-- What is known so far, with the fields that are left, gives what comes of all.
use Rattle.std.proofs.Common.{◌≡◌, ◌-◌, length}
use Rattle.messages.specs.Gathering.{gathered}
use Rattle.messages.proofs.Steps.{gathered_from}
use Rattle.messages.proofs.fields.read_fields.Given as goal

abbrev pub invariant-loop-at : goal.invariant-loop-at
invariant-loop-at g l = gathered_from g.G.Gathered.fitting g.G.Gathered.with_one l.known l.message l.at ≡ gathered g.G.Gathered.fitting g.G.Gathered.with_one l.fn.start l.message

abbrev pub decreases-loop-at : goal.decreases-loop-at
decreases-loop-at g l = length l.message - l.at
