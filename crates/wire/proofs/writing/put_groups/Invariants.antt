-- The bytes so far and those of what is left are all bytes.
use Rattle.std.proofs.Common.{◌≡◌, ◌-◌, ◌<◌, ◌≤◌, ◌++◌, take}
use Rattle.wire.specs.Varints.{groups_of, varint_bytes}
use Rattle.wire.proofs.Written.{limit}
use Rattle.wire.proofs.writing.put_groups.Given as goal

abbrev pub invariant-loop-byte : goal.invariant-loop-byte
invariant-loop-byte l = record {
  at_most_nine : l.byte-index ≤ 9;
  few_groups : l.left < limit (10 - l.byte-index);
  all_groups : take l.byte-index l.byte-items ++ groups_of (9 - l.byte-index) l.left ≡ varint_bytes l.value;
}
