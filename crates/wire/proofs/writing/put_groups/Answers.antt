-- Each turn writes one byte of those that are left, and the last of them stands alone.
use Rattle.std.proofs.Common.{◌≡◌, ◌+◌, ◌-◌, ◌<◌, ◌≤◌, length, drop, sym, arith, length-take, length-drop}
use Rattle.wire.specs.Varints.{varint_bytes}
use Rattle.wire.proofs.Puts.{groups_left, limit_next, varint_some, more_left, one_left, length_left, put_next, put_last}
use Rattle.wire.proofs.writing.put_groups.Goals as goal

pub loop-byte-preserved : goal.loop-byte-preserved
loop-byte-preserved c =
    let all = varint_bytes c.args.value in
    let bs = c.args.part.now in
    let xs = c.loop-byte.byte-items in
    let i = c.loop-byte.byte-index in
    let n = c.loop-byte.left in
    let before = c.loop-byte.invariant in
    let less : i < length xs = omega arith in
    let last : length xs + 1 ≡ length all = omega (arith, c.requires, varint_some c.args.value, c.loop-byte.auto.byte-items, length-take (length bs - 1) bs) in
    let more : 128 ≤ n = more_left (9 - i) n (omega (arith, length_left xs all i n (omega arith) before.all_groups)) in
    let nine : i < 9 = groups_left i n before.at_most_nine before.few_groups more in
    record {
      at_most_nine = omega arith;
      few_groups = limit_next i n nine before.few_groups;
      all_groups = put_next xs all i n less nine more before.all_groups;
    }

pub overflow_cast-part : goal.overflow_cast-part
overflow_cast-part c =
    let all = varint_bytes c.args.value in
    let bs = c.args.part.now in
    let xs = c.loop-byte.byte-items in
    let i = c.loop-byte.byte-index in
    let n = c.loop-byte.left in
    let before = c.loop-byte.invariant in
    let last : i + 1 ≡ length all = omega (arith, c.requires, varint_some c.args.value, c.loop-byte.auto.byte-items, length-take (length bs - 1) bs) in
    let one : n < 128 = one_left i n before.at_most_nine before.few_groups (omega (arith, length_left xs all i n (omega arith) before.all_groups)) in
    omega arith

pub returns : goal.returns
returns c =
    let all = varint_bytes c.args.value in
    let bs = c.args.part.now in
    let xs = c.loop-byte.byte-items in
    let i = c.loop-byte.byte-index in
    let n = c.loop-byte.left in
    let before = c.loop-byte.invariant in
    let some = varint_some c.args.value in
    let last : i ≡ length bs - 1 = omega (arith, c.requires, some, c.loop-byte.auto.byte-items, length-take (length bs - 1) bs) in
    let one : n < 128 = one_left i n before.at_most_nine before.few_groups (omega (arith, some, c.requires, length_left xs all i n (omega arith) before.all_groups)) in
    put_last xs (drop (length bs - 1) bs) all (length bs - 1) n (omega arith) (omega (arith, some, c.requires, length-drop (length bs - 1) bs)) one (rw (sym last) before.all_groups)
