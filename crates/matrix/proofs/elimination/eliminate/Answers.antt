use Rattle.std.proofs.Common.{◌∙◌, arith}
use Rattle.matrix.proofs.Turns.{turn_kernel, turn_reduced}
use Rattle.matrix.proofs.elimination.eliminate.Goals as goal

pub loop-k-preserved : goal.loop-k-preserved
loop-k-preserved g c =
    let e = c.in-Some.ensures in
    let i = c.loop-k.invariant in
    let n = c.args.wide.rows in
    let L = g.met.F.Field.field in (
      turn_kernel L n _ c.loop-k.k c.in-Some.p _ _ _ (omega arith) e.1 e.2 c.reduce.ensures.step i.0,
      turn_reduced L n _ c.loop-k.k c.in-Some.p _ _ (omega arith) e.1 e.2 c.reduce.ensures.step (omega arith) e.0 i.1,
      λ r j h l. c.reduce.ensures.beyond r j h l ∙ i.2 r j h l,
    )
