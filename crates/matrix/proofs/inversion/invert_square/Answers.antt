use Rattle.std.proofs.Common.{◌≡◌, ℕ, ◌+◌, ◌*◌, ◌<◌, arith, rules}
use Rattle.algebra.specs.Elimination.{widened}
use Rattle.algebra.specs.Matrices.{TheInverse, NoInverse}
use Rattle.algebra.proofs.Inverses.{solved_the_inverse, stuck_no_inverse}
use Rattle.matrix.specs.Grids.{grid, zeroed}
use Rattle.matrix.proofs.Grids.{zeroed_after}
use Rattle.matrix.proofs.inversion.invert_square.Goals as goal

pub returns-then-not-eliminate : goal.returns-then-not-eliminate
returns-then-not-eliminate g c =
    let K = g.F.Field.ops in
    let m = c.args.m.now in
    let wide = c.widen-wide.result in
    let rows = c.widen-wide.ensures.rows in
    let cols = c.widen-wide.ensures.cols in
    let laid = λ (r j : ℕ) (h : r < wide.rows) (l : j < wide.rows + wide.rows).
    let e = c.fill.ensures.entries r j (omega arith) (omega arith) in
    let p : grid K.zero wide.cols c.fill.new.out r j ≡ widened K m.shape.rows (grid K.zero m.shape.cols m.entries.now) r j = search rules in
    rw (← rows) at p in
    let zeros : c.clear.new.out ≡ zeroed K.zero (wide.rows * wide.cols) c.args.work.now = zeroed_after K.zero wide.rows wide.cols _ _ _ _ (omega arith) (omega arith) c.fill.ensures.beyond c.eliminate.ensures.beyond c.clear.ensures in
    let none : NoInverse K wide.rows (grid K.zero m.shape.cols m.entries.now) = stuck_no_inverse g.met.F.Field.field wide.rows _ _ _ laid c.if-not-eliminate.ensures.done in (
      c.requires,
      rw (rows, c.requires.square) at none,
      rw (rows, cols, c.requires.square) at zeros,
      rw c.requires.square at c.clear-then-not-eliminate.ensures,
    )

pub returns : goal.returns
returns g c =
    let K = g.F.Field.ops in
    let m = c.args.m.now in
    let wide = c.widen-wide.result in
    let rows = c.widen-wide.ensures.rows in
    let cols = c.widen-wide.ensures.cols in
    let laid = λ (r j : ℕ) (h : r < wide.rows) (l : j < wide.rows + wide.rows).
    let e = c.fill.ensures.entries r j (omega arith) (omega arith) in
    let p : grid K.zero wide.cols c.fill.new.out r j ≡ widened K m.shape.rows (grid K.zero m.shape.cols m.entries.now) r j = search rules in
    rw (← rows) at p in
    let lifted = λ (r j : ℕ) (h : r < wide.rows) (l : j < wide.rows).
    let e = c.fill-2.ensures.entries r j (omega arith) (omega arith) in
    let p : grid K.zero m.shape.cols c.fill-2.new.out r j ≡ grid K.zero wide.cols c.eliminate.new.m r (m.shape.cols + j) = search rules in
    rw (c.requires.square, ← rows) at p in
    let zeros : c.clear-2.new.out ≡ zeroed K.zero (wide.rows * wide.cols) c.args.work.now = zeroed_after K.zero wide.rows wide.cols _ _ _ _ (omega arith) (omega arith) c.fill.ensures.beyond c.eliminate.ensures.beyond c.clear-2.ensures in
    let inverse : TheInverse K wide.rows (grid K.zero m.shape.cols m.entries.now) (grid K.zero wide.rows c.fill-2.new.out) = solved_the_inverse g.met.F.Field.field wide.rows _ _ _ _ laid c.if-not-eliminate.ensures.done lifted in (
      c.requires,
      rw (rows, c.requires.square) at inverse,
      rw c.requires.square at c.fill-2.ensures.beyond,
      rw (rows, cols, c.requires.square) at zeros,
    )
