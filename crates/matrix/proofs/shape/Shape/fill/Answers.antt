use Rattle.std.proofs.Common.{◌+◌, ◌-◌, ◌∙◌, arith}
use Rattle.matrix.proofs.Grids.{beyond_list}
use Rattle.matrix.proofs.Parts.{row_fits, rows_kept, row_filled, beyond_kept}
use Rattle.matrix.proofs.shape.Shape.fill.Given.{G-post}
use Rattle.matrix.proofs.shape.Shape.fill.Goals as goal

pub loop-row-preserved : goal.loop-row-preserved
loop-row-preserved g c =
    let none = g.F.Field.ops.zero in
    let cols = c.args.self.cols in
    let start = c.place-start.result in
    let row = c.loop-row.row in
    let kept = c.loop-row.invariant.0 in
    let ends = row_fits cols row c.args.self.rows (omega arith) in (
      rows_kept none cols row start (start + cols - start) c.loop-row.out c.loop-col.x-items (omega arith) (omega arith) c.loop-col.auto.x-items (omega arith) ∙ kept,
      (
        row_filled none cols row start (start + cols - start) c.loop-row.out c.loop-col.x-items (omega arith) (omega arith) c.loop-col.auto.x-items (omega arith) (G-post g c.args.at)
            c.loop-row.invariant.1.0 (λ j l. c.loop-col.invariant j (omega arith)),
        beyond_kept none cols row start (start + cols - start) c.loop-row.out c.loop-col.x-items (omega arith) (omega arith) c.loop-col.auto.x-items (omega arith) c.args.self.rows _
            (omega arith) c.loop-row.invariant.1.1,
      ),
    )

pub returns-clause-beyond : goal.returns-clause-beyond
returns-clause-beyond g c =
    beyond_list g.F.Field.ops.zero c.args.self.rows c.args.self.cols c.args.out.now c.loop-row.out (omega arith) c.loop-row.invariant.0 c.loop-row.invariant.1.1
