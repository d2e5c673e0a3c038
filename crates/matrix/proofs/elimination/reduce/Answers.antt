use Rattle.std.proofs.Common.{List, sym, ap, ◌∙◌, subst, arith}
use Rattle.matrix.specs.Grids.{grid}
use Rattle.matrix.proofs.Grids.{read_is}
use Rattle.matrix.proofs.Turns.{Moved, moved_exchanged, moved_not, step_made}
use Rattle.matrix.proofs.elimination.reduce.Goals as goal
use Rattle.matrix.proofs.elimination.reduce.Goals.{then-k-p, else-k-p}

pub returns-clause-step : goal.returns-clause-step
returns-clause-step g c =
    let K = g.F.Field.ops in
    let s = c.args.shape in
    let k = c.args.k in
    let p = c.args.p in
    let w = grid K.zero s.cols c.args.m.now in
    let P : List g.row.F.Denot → Type 0 = λ m. Moved s.cols k p w (grid K.zero s.cols m) in
    let moved : P c.if-k-p.m = elim c.if-k-p.branch [
      | then-k-p v ↦ subst P (sym v.m-is) (moved_exchanged _ _ _ _ _ v.swap_rows.ensures)
      | else-k-p v ↦ subst P (sym v.m-is) (moved_not _ _ _ _ (omega arith))
    ] in
    step_made g.met.F.Field.field s.rows s.cols k p c.in-Some.by _ _ _ _ c.requires.col c.requires.pivot
    (c.in-Some.ensures.1 ∙ ap K.inverse (read_is K.zero _ s.cols p k _ _ c.place.ensures.value (omega arith) c.index-m-place.is)) moved c.scale_row.ensures c.clear_column.ensures
