use Rattle.std.proofs.Common.{◌≡◌, arith, rules}
use Rattle.algebra.specs.Matrices.{product}
use Rattle.matrix.specs.Grids.{grid}
use Rattle.matrix.specs.Shapes.{entry_of}
use Rattle.matrix.proofs.product.multiply.Goals as goal

pub returns : goal.returns
returns g c =
    let K = g.F.Field.ops in
    let a = c.in_ok-first.ensures in
    let b = c.in_ok-second.ensures in
    let first = c.in_ok-first.first in
    let second = c.in_ok-second.second in (
      search rules,
      λ r j h l.
          let e = c.fill.ensures.entries r j (omega arith) (omega arith) in
          let p : grid K.zero second.shape.cols c.fill.new.out r j ≡ product K first.shape.cols (entry_of K.zero first) (entry_of K.zero second) r j = search rules in
          rw (a.cols, a.same, b.cols, b.same) at p,
      rw (a.rows, b.cols) at c.fill.ensures.beyond,
    )
