use Rattle.std.proofs.Common.{◌≡◌, ℕ, arith}
use Rattle.matrix.specs.Grids.{grid}
use Rattle.matrix.proofs.Grids.{read_is, row_more}
use Rattle.matrix.proofs.rows.clear_entry.Goals as goal

pub loop-c-preserved : goal.loop-c-preserved
loop-c-preserved g c =
    let K = g.F.Field.ops in
    let cols = c.args.shape.cols in
    let row = c.args.row in
    let k = c.args.k in
    let i = c.loop-c.c in
    let m = c.loop-c.m in
    let w = grid K.zero cols c.args.m.now in
    let t = c.loop-c.invariant in
    let by = read_is K.zero c.index-m-place.result cols row k c.place.result c.args.m.now c.place.ensures.value (omega arith) c.index-m-place.is in
    let x = read_is K.zero c.index-m-at.result cols row i c.place-at.result m c.place-at.ensures.value (omega arith) c.index-m-at.is in
    let y = read_is K.zero c.index-m-lead.result cols k i c.place-lead.result m c.place-lead.ensures.value (omega arith) c.index-m-lead.is in
    let was = t.todo i (omega arith) (omega arith) in
    let lead = t.others k i (omega arith) c.requires.apart in
    let less : c.sub.result ≡ K.minus (w row i) (K.times (w row k) (w k i)) = cc in
    row_more K.zero cols row (λ (j : ℕ). K.minus (w row j) (K.times (w row k) (w k j))) w i c.place-at.result c.sub.result m (omega arith) c.place-at.ensures.value (omega arith) t less
