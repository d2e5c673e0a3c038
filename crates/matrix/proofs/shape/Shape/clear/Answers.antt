use Rattle.std.proofs.Common.{◌≡◌, ◌*◌, ◌≤◌, ◌++◌, length, drop, arith, length-append}
use Rattle.std.proofs.lemmas.List.{length-take-le}
use Rattle.std.proofs.lemmas.Slice.{drop-append-drop}
use Rattle.matrix.proofs.Grids.{each_entry, all_zero}
use Rattle.matrix.proofs.shape.Shape.clear.Goals as goal

pub returns : goal.returns
returns g c =
    let none = g.F.Field.ops.zero in
    let n = c.args.self.rows * c.args.self.cols in
    let items = c.loop-x.x-items in
    let rest = drop c.area.result c.args.out.now in
    let all = length-take-le c.area.result c.args.out.now (omega arith) in
    let long : n ≤ length (items ++ rest) = omega (arith, length-append items rest) in
    all_zero none c.args.self.rows c.args.self.cols c.args.out.now (items ++ rest) (omega arith) long
    (each_entry none c.args.self.rows c.args.self.cols (λ r j v. v ≡ none) items rest (omega arith) (λ k l. c.loop-x.invariant k (omega arith)))
    (drop-append-drop c.area.result c.args.out.now items n (omega arith) (omega arith))
