-- The bytes that are left, with what those after them have come to, are all bytes.
use Rattle.std.proofs.Common.{◌≡◌}
use Rattle.wire.specs.Varints.{joined}
use Rattle.wire.proofs.Groups.{onto}
use Rattle.wire.proofs.varints.join_groups.Given as goal

abbrev pub invariant-loop-byte : goal.invariant-loop-byte
invariant-loop-byte l = onto l.byte-iterator.iter.rest.now l.value ≡ joined l.bytes
