-- Each row adds its bytes to the block, the first that cannot be made again is told, and the block is the one that was dealt.
use Rattle.std.proofs.Common.{◌≡◌, ℕ, ◌+◌, ◌≤◌, List, length, vec_items, sym, ap, subst, arith, rules}
use Rattle.std.proofs.lemmas.Nat.{mul-le}
use Rattle.std.proofs.lemmas.Result.{err_from_is_err_and}
use Rattle.cells.specs.declared.rows.RowRange.{RowRange}
use Rattle.dealing.specs.Places.{row_bytes, part_len}
use Rattle.stripe.specs.Coded.{byte_at, units, RowRoom}
use Rattle.rebuild.specs.Held.{held_in}
use Rattle.rebuild.specs.Rebuilt.{rows_in}
use Rattle.rebuild.proofs.RowsAdded.{RowsTo, rows_more, rows_all, row_refused}
use Rattle.rebuild.proofs.DealtBlock.{answer_is_dealt}
use Rattle.rebuild.proofs.held.HeldShards.rebuild.Goals as goal

pub returns-in_err-rebuild_row-clause-from_the_shards_held : goal.returns-in_err-rebuild_row-clause-from_the_shards_held
returns-in_err-rebuild_row-clause-from_the_shards_held c =
    let p = err_from_is_err_and c.from_residual-in_err-rebuild_row.result c.from_residual-in_err-rebuild_row.ensures.1 in
    let b = c.args.self.block in
    rw (p.1, p.2)
    (row_refused b.schema b.len (held_in c.args.self.shards.now) (vec_items c.loop-row.block) c.loop-row.row (byte_at b.schema.cell_size c.rebuild_row.new.buffer) c.in_err-rebuild_row.field-0.0
    (omega arith) (let v = c.row_count-row-end.ensures.value in let t = c.loop-row-test.true in omega arith) c.loop-row.invariant.1 c.in_err-rebuild_row.ensures)

pub slice_bounds-extend_from_slice-end-in-loop-row : goal.slice_bounds-extend_from_slice-end-in-loop-row
slice_bounds-extend_from_slice-end-in-loop-row c =
    let e = c.args.self.block.schema in
    let most = mul-le e.data_units e.cell_size (units e) e.cell_size (omega arith) (omega arith) in
    let h : c.row_range-part.result.len ≤ length c.rebuild_row.new.buffer =
    (let r = c.loop-row.invariant.0 in let k = c.rebuild_row.auto.buffer in let w = c.row_range-part.ensures.in_the_row in omega arith) in
    search rules

pub loop-row-preserved : goal.loop-row-preserved
loop-row-preserved c =
    let b = c.args.self.block in
    let held = held_in c.args.self.shards.now in
    let len : c.row_range-part.result.len ≡ part_len (row_bytes b.schema.data_units b.schema.cell_size) c.loop-row.row 0 b.len =
    (let v = ap (λ (r : RowRange). r.len) c.row_range-part.ensures.value in omega arith) in
    let room : RowRoom b.schema c.rebuild_row.new.buffer = (let r = c.loop-row.invariant.0 in let k = c.rebuild_row.auto.buffer in omega arith) in (
      room,
      subst (λ (block : List ℕ). RowsTo b.schema b.len held block (c.loop-row.row + 1)) (sym c.in_ok-extend_from_slice.ensures.items)
          (rows_more b.schema b.len held (vec_items c.loop-row.block) c.rebuild_row.new.buffer c.loop-row.row c.row_range-part.result.len room len c.loop-row.invariant.1 c.in_ok-rebuild_row.ensures),
    )

pub returns-clause-the_block_dealt : goal.returns-clause-the_block_dealt
returns-clause-the_block_dealt c =
    let b = c.args.self.block in
    let held = held_in c.args.self.shards.now in
    let all : c.loop-row.row ≡ rows_in b.schema b.len = (let v = c.row_count-row-end.ensures.value in let i = c.loop-row.auto.row-end in let l = c.loop-row-test.false in omega arith) in
    answer_is_dealt b.schema b.len held (vec_items c.loop-row.block) (rows_all b.schema b.len held (vec_items c.loop-row.block) c.loop-row.row (omega arith) all c.loop-row.invariant.1)
