use Rattle.std.proofs.Common.{◌≡◌, ℕ, ◌*◌, ◌/◌, ◌<◌, ◌≤◌, length, sym, subst, arith}
use Rattle.algebra.specs.Matrices.{mixed}
use Rattle.matrix.specs.Grids.{grid}
use Rattle.stripe.specs.Coded.{byte_at, units}
use Rattle.stripe.proofs.Acting.{acts, whole_cell}
use Rattle.stripe.proofs.Rows.{mixed_rows, parity_same, parity_more}
use Rattle.stripe.proofs.parity.encode_by.Goals as goal

same_area : (n m d len : ℕ) → m ≡ n → n * d ≤ len → m * d ≤ len
same_area n m d len e = subst (λ (k : ℕ). k * d ≤ len) (sym e)

pub unreachable-requires-in_default-act_on_cells : goal.unreachable-requires-in_default-act_on_cells
unreachable-requires-in_default-act_on_cells g c =
    let s = c.args.schema.cell_size in
    let n = units c.args.schema in
    let cells = c.cell_numbers-cells.result in
    let fits = same_area n c.units-n.result c.args.schema.data_units (length c.args.generator.now) c.units-n.ensures c.in-Ok.ensures.1 in
    acts g.C.F.Field.ops c.matrix.new.out _ c.loop-r.r cells s c.loop-r.r c.loop-r.row c.act_on_cells.new.cells c.in_default-act_on_cells.field-0 c.in_default-act_on_cells.ensures (record {
      rows = (omega arith, omega arith);
      cols = (omega arith, omega arith);
      matrix = omega arith;
      row_within = omega arith;
      one_each = omega arith;
      some_bytes = omega arith;
      target_within = whole_cell c.loop-r.r n s (length c.loop-r.row) (omega arith) (omega arith) (omega arith);
      sources_within = λ k l. subst (λ (j : ℕ). j < length c.loop-r.row / s) (sym (c.cell_numbers-cells.ensures k (omega arith))) (whole_cell k n s (length c.loop-r.row) (omega arith) (omega arith) (omega arith));
    })

pub loop-r-preserved : goal.loop-r-preserved
loop-r-preserved g c =
    let d = c.args.schema.data_units in
    let s = c.args.schema.cell_size in
    parity_more g.met.C.F.Field.field d c.loop-r.r s (grid g.C.F.Field.ops.zero d c.matrix.new.out) c.cell_numbers-cells.result (byte_at s c.args.row.now) (byte_at s c.loop-r.row)
    (byte_at s c.act_on_cells.new.cells) c.loop-r.auto.r (λ k l. c.cell_numbers-cells.ensures k (omega arith)) c.loop-r.invariant c.in-Ok-act_on_cells.ensures.1

pub returns : goal.returns
returns g c =
    let K = g.C.F.Field.ops in
    let d = c.args.schema.data_units in
    let s = c.args.schema.cell_size in
    parity_same d c.loop-r.r (units c.args.schema) s (λ r v. mixed K d (grid K.zero d c.matrix.new.out r) v) (λ r v. mixed K d (g.C.Code.generator d r) v) (byte_at s c.args.row.now) (byte_at s c.loop-r.row) (omega arith)
    (λ r v l. mixed_rows K d (grid K.zero d c.matrix.new.out r) (g.C.Code.generator d r) v (λ j o. c.in-Ok.ensures.2 r j l o)) c.loop-r.invariant
