-- The checksums of the runs so far are put.
use Rattle.std.proofs.Common.{◌≡◌}
use Rattle.std.specs.Slice.Iter.{chunks_rest, chunks_size}
use Rattle.written.proofs.Puts.{SoFar}
use Rattle.written.proofs.frame.put_runs.Given as goal

abbrev pub invariant-loop-run : goal.invariant-loop-run
invariant-loop-run l =
    (goal.iterator-loop-run).can_next l.run-iterator
    × (goal.iterator-loop-run).is_finite l.run-iterator
    × (chunks_size l.run-iterator ≡ l.info.bytes_per_checksum)
    × SoFar l.info l.«data» l.initial.out l.at l.end l.out (chunks_rest l.run-iterator)
