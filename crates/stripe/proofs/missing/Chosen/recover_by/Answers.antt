use Rattle.std.proofs.Common.{◌≡◌, ℕ, ◌+◌, ◌*◌, ◌<◌, ◌≤◌, length, get_or, sym, refl, ◌∙◌, subst, arith}
use Rattle.std.proofs.lemmas.Nat.{mul-le}
use Rattle.matrix.specs.Grids.{grid}
use Rattle.stripe.specs.Coded.{byte_at, units}
use Rattle.stripe.specs.There.{flag}
use Rattle.stripe.proofs.Acting.{inverts, same_inverse, square_room, wide_room}
use Rattle.stripe.proofs.Cells.{chosen_lowest, chosen_choice, chosen_there}
use Rattle.stripe.proofs.Recovery.{made_again}
use Rattle.stripe.proofs.missing.Chosen.recover_by.Goals as goal

-- the rows of the chosen cells lie in the matrix
pub select_rows-requires-clause-rows : goal.select_rows-requires-clause-rows
select_rows-requires-clause-rows g c = λ k l.
    let self = c.args.self in
    let d = self.schema.data_units in
    let n = units self.schema in
    let r = get_or self.cells.now k 0 in
    let b = (chosen_choice (flag self.there.now) d n self.cells.now self.lowest self.enough).below k (omega arith) in
    let m : (r + 1) * d ≤ n * d = mul-le (r + 1) d n d (omega arith) (omega arith) in
    let fits : r * d + d ≤ length c.matrix.new.out = omega (arith, c.in-Ok.ensures.1) in
    subst (λ (d : ℕ). r * d + d ≤ length c.matrix.new.out) (sym self.enough) fits

-- and have an inverse
pub unreachable-requires-in_default-invert : goal.unreachable-requires-in_default-invert
unreachable-requires-in_default-invert g c =
    let self = c.args.self in
    let d = self.schema.data_units in
    let O = g.C.F.Field.ops.zero in
    let at : ℕ → ℕ = λ k. get_or self.cells.now k 0 in
    let b = c.in-Ok.ensures.3 at (chosen_choice (flag self.there.now) d (units self.schema) self.cells.now self.lowest self.enough) in
    let one = square_room d self.schema.parity_units self.schema.narrow in
    let two = wide_room d self.schema.parity_units self.schema.narrow in
    let rows = subst (λ (d : ℕ). (k j : ℕ) → k < d → j < d → grid O d c.select_rows.new.square k j ≡ grid O d c.matrix.new.out (get_or self.cells.now k 0) j) self.enough c.select_rows.ensures in
    inverts g.C.F.Field.ops (record { rows = d; cols = d }) c.select_rows.new.square c.args.space.now.work c.args.space.now.inverse c.invert.new.work c.invert.new.out c.in_default-invert.field-0 c.in_default-invert.ensures
    (record { square = refl; some = omega arith; most = omega arith; matrix = omega arith; wide = omega arith; inverse = omega arith })
    b.0 (same_inverse g.met.C.F.Field.field d (λ k. grid O d c.matrix.new.out (at k)) (grid O d c.select_rows.new.square) b.0 rows b.1)

pub returns : goal.returns
returns g c =
    let self = c.args.self in
    let d = self.schema.data_units in
    let n = units self.schema in
    let s = self.schema.cell_size in
    let O = g.C.F.Field.ops.zero in
    let there = flag self.there.now in
    let q = chosen_choice there d n self.cells.now self.lowest self.enough in
    let held = chosen_there there d n self.cells.now self.lowest self.enough in
    let rows = subst (λ (d : ℕ). (k j : ℕ) → k < d → j < d → grid O d c.select_rows.new.square k j ≡ grid O d c.matrix.new.out (get_or self.cells.now k 0) j) self.enough c.select_rows.ensures in
    made_again g.met.C.F.Field.field d n s (omega arith) (g.C.Code.generator d) (grid O d c.select_rows.new.square) (grid O d c.invert.new.out)
    there (λ k. get_or self.cells.now k 0) (chosen_lowest there d n self.cells.now self.lowest self.enough)
    (g.met.C.Code.systematic d)
    (λ k j l o. ◌∙◌ {b = grid O d c.matrix.new.out (get_or self.cells.now k 0) j} (rows k j l o) (c.in-Ok.ensures.2 (get_or self.cells.now k 0) j (q.below k l) o))
    c.in-Ok-invert.ensures.1.inverse (byte_at s c.args.row.now) (byte_at s c.fill_missing.new.row)
    (λ k i l o. subst (λ (b : ℕ). b < 256) (c.fill_missing.ensures.kept (get_or self.cells.now k 0) i (held k l) o) (c.type_inv.row (get_or self.cells.now k 0 * s + i)).fits)
    c.fill_missing.ensures
