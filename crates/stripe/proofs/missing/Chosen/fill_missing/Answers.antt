use Rattle.std.proofs.Common.{ℕ, ◌+◌, List, get_or, sym, ◌∙◌, subst, arith}
use Rattle.std.proofs.lemmas.List.{get_or-take}
use Rattle.algebra.specs.Matrices.{mixed}
use Rattle.algebra.proofs.Bytes.{mixed_same}
use Rattle.matrix.specs.Grids.{grid}
use Rattle.stripe.specs.Coded.{byte_at, units}
use Rattle.stripe.specs.Recovered.{Filled}
use Rattle.stripe.specs.There.{flag}
use Rattle.stripe.proofs.Acting.{acts, whole_cell}
use Rattle.stripe.proofs.Cells.{chosen_choice, chosen_there}
use Rattle.stripe.proofs.Rows.{filled_more, filled_over}
use Rattle.stripe.proofs.missing.Chosen.fill_missing.Goals as goal
use Rattle.stripe.proofs.missing.Chosen.fill_missing.Goals.{then-not-here+in-Ok, else-not-here}

pub unreachable-requires : goal.unreachable-requires
unreachable-requires g c =
    let self = c.args.self in
    let n = units self.schema in
    let q = chosen_choice (flag self.there.now) self.schema.data_units n self.cells.now self.lowest self.enough in
    acts g.F.Field.ops c.args.inverse.now _ c.loop-c.c self.cells.now self.schema.cell_size c.loop-c.c c.loop-c.row c.act_on_cells.new.cells c.in_default.field-0 c.in_default.ensures (record {
      rows = (omega arith, omega arith);
      cols = (omega arith, omega arith);
      matrix = omega arith;
      row_within = omega arith;
      one_each = omega arith;
      some_bytes = omega arith;
      target_within = whole_cell c.loop-c.c n self.schema.cell_size _ (omega arith) (omega arith) (omega arith);
      sources_within = λ k l. whole_cell (get_or self.cells.now k 0) n self.schema.cell_size _ (omega arith) (q.below k l) (omega arith);
    })

pub loop-c-preserved : goal.loop-c-preserved
loop-c-preserved g c =
    let K = g.F.Field.ops in
    let L = g.met.F.Field.field in
    let self = c.args.self in
    let d = self.schema.data_units in
    let s = self.schema.cell_size in
    let there = flag self.there.now in
    let row : ℕ → g.row.F.Denot = grid K.zero d c.args.inverse.now c.loop-c.c in
    let f : ℕ → (ℕ → ℕ) → ℕ = λ j v. mixed K d (grid K.zero d c.args.inverse.now j) (λ k. v (get_or self.cells.now k 0)) in
    let P : List ℕ → Type 0 = λ x. Filled (c.loop-c.c + 1) s there f (byte_at s c.args.row.now) (byte_at s x) in
    let at = sym (get_or-take d self.there.now c.loop-c.c _ (omega arith)) in
    elim c.if-not-here.branch [
      | then-not-here+in-Ok w ↦ subst P (sym w.row-is)
          (filled_more c.loop-c.c s there f _ _ _ (at ∙ w.if-not-here.true)
          (λ u v h. mixed_same L d row _ _ (λ k l. h (get_or self.cells.now k 0) (chosen_there there d (units self.schema) self.cells.now self.lowest self.enough k l))) c.loop-c.invariant w.in-Ok.ensures.1)
      | else-not-here w ↦ subst P (sym w.row-is) (filled_over c.loop-c.c s there f _ _ (at ∙ w.if-not-here.false) c.loop-c.invariant)
    ]
