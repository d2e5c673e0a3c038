use Rattle.std.proofs.Common.{◌≡◌, ℕ, ◌/◌, ◌<◌, ◌≤◌, List, length, get_or, take, refl, sym, ap, ◌∙◌, ⊎_elim, arith, rules}
use Rattle.std.proofs.lemmas.List.{get_or-take, length-take-le}
use Rattle.algebra.specs.Fields.{Ops, FieldLaws}
use Rattle.algebra.specs.Matrices.{mixed}
use Rattle.algebra.proofs.Numbers.{same_or_not}
use Rattle.algebra.proofs.Bytes.{xors_same, mixed_same}
use Rattle.matrix.specs.Acted.{EachBelow}
use Rattle.matrix.specs.Grids.{grid, RowIs}
use Rattle.matrix.proofs.Grids.{RowTo, row_more}
use Rattle.matrix.proofs.action.act_on_cells.Goals as goal

-- column i of every cell is as it was when byte i is due
due : (s i t : ℕ) (f : ℕ → ℕ) (w x : ℕ → ℕ → ℕ) → i < s → RowTo s i t f w x → (r : ℕ) → x r i ≡ w r i
due s i t f w x h q r = ⊎_elim (λ e. ap (λ (j : ℕ). x j i) e ∙ q.todo i (omega arith) h ∙ ap (λ (j : ℕ). w j i) (sym e)) (λ n. q.others r i h n) (same_or_not r t)

-- so a byte that is made of that column is made of the cells before
byte_due : {F : Type 0} {K : Ops F} (L : FieldLaws K) (n s i t byte : ℕ) (f : ℕ → F) (sources : List ℕ) (made : ℕ → ℕ) (w x : ℕ → ℕ → ℕ) → i < s → RowTo s i t made w x
    → byte ≡ mixed K n f (λ k. x (get_or sources k 0) i) → byte ≡ mixed K n f (λ k. w (get_or sources k 0) i)
byte_due L n s i t byte f sources made w x h q e = e ∙ mixed_same L n f _ _ (λ k l. due s i t made w x h q (get_or sources k 0))

-- what holds of the first n sources
each_within : (n bound : ℕ) (sources : List ℕ) → n ≤ length sources → EachBelow (length (take n sources)) bound (take n sources) → EachBelow n bound sources
each_within n bound sources h below k l =
    let e = get_or-take n sources k 0 l in
    omega (arith, below k (omega (arith, length-take-le n sources h)))

-- a row that is alike makes the same
row_mixed : {F : Type 0} (K : Ops F) (m n : ℕ) (f g : ℕ → F) (v : ℕ → ℕ) → m ≡ n → ((k : ℕ) → k < n → f k ≡ g k) → mixed K m f v ≡ mixed K n g v
row_mixed K m n f g v e h = ap (λ (j : ℕ). mixed K j f v) e ∙ xors_same n (λ k. K.act (f k) (v k)) (λ k. K.act (g k) (v k)) (λ k l. ap (λ x. K.act x (v k)) (h k l))

pub mix_byte-byte-requires-clause-within : goal.mix_byte-byte-requires-clause-within
mix_byte-byte-requires-clause-within g c k h =
    let e = each_within c.in_ok-grid.grid.shape.cols (length c.args.cells.now / c.args.cell_size) c.args.sources.now (omega arith) (c.if-not-all_below.ensures.0 refl) k (omega arith) in
    let len : length c.loop-i.cells ≡ length c.args.cells.now = omega arith in
    let count = ap (λ (n : ℕ). n / c.args.cell_size) len in
    omega arith

pub loop-i-preserved : goal.loop-i-preserved
loop-i-preserved g c =
    let K = g.F.Field.ops in
    let i = c.loop-i.i in
    let s = c.args.cell_size in
    let t = c.args.target in
    let n = length c.row-entries.result.now in
    let row = λ (k : ℕ). get_or c.row-entries.result.now k K.zero in
    let w = grid 0 s c.args.cells.now in
    let x = grid 0 s c.loop-i.cells in
    let sources = c.args.sources.now in
    let made : ℕ → ℕ = λ i. mixed K n row (λ k. w (get_or sources k 0) i) in
    row_more 0 s t made w i c.place-at.result c.mix_byte-byte.result c.loop-i.cells (omega arith) c.place-at.ensures.value (omega arith) c.loop-i.invariant
    (byte_due g.met.F.Field.field n s i t c.mix_byte-byte.result row sources made w x (omega arith) c.loop-i.invariant c.mix_byte-byte.ensures)

pub returns : goal.returns
returns g c =
    let K = g.F.Field.ops in
    let m = c.in_ok-grid.grid in
    let f = c.in_ok-grid.ensures in
    let row = c.row-entries.result.now in
    let w = grid 0 c.args.cell_size c.args.cells.now in
    let within = each_within m.shape.cols (length c.args.cells.now / c.args.cell_size) c.args.sources.now (omega arith) (c.if-not-all_below.ensures.0 refl) in
    let acted : RowIs c.args.cell_size c.args.target (λ i. mixed K m.shape.cols (grid K.zero m.shape.cols m.entries.now c.args.row) (λ k. w (get_or c.args.sources.now k 0) i)) w (grid 0 c.args.cell_size c.loop-i.cells) = record {
      this = λ j l. c.loop-i.invariant.done j (omega arith)
          ∙ row_mixed K (length row) m.shape.cols (λ k. get_or row k K.zero) (grid K.zero m.shape.cols m.entries.now c.args.row) (λ k. w (get_or c.args.sources.now k 0) j) c.row-entries.ensures.len c.row-entries.ensures.entries;
      others = c.loop-i.invariant.others;
    } in (
      search rules,
      rw (f.cols, f.same) at acted,
    )
