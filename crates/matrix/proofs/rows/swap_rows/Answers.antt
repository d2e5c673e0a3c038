use Rattle.std.proofs.Common.{◌+◌, ◌-◌, arith}
use Rattle.matrix.proofs.Parts.{row_fits, exchanged}
use Rattle.matrix.proofs.rows.swap_rows.Goals as goal

pub returns : goal.returns
returns g c =
    let parts = c.split_at_mut-upper.ensures in
    let swapped = c.swap_with_slice.ensures in
    let s = c.place-start.result in
    let f = row_fits c.args.shape.cols c.args.b c.args.shape.rows c.requires.within in
    exchanged g.F.Field.ops.zero c.args.shape.cols c.args.a c.args.b s c.place.result (s + c.args.shape.cols - s) c.args.m.now _ _ _ _
    (omega arith) (omega arith) (omega arith) c.requires.below (omega arith) parts.front parts.back swapped.after swapped.other_after
