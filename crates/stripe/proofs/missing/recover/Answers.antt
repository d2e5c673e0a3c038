use Rattle.std.proofs.Common.{◌≡◌, ℕ, ◌+◌, ◌≤◌, take, ◌*◌, Bool, List, length, sym, ap, ◌∙◌, arith}
use Rattle.std.proofs.lemmas.List.{length-take-le}
use Rattle.algebra.specs.Sums.{count}
use Rattle.policy.specs.declared.codec.Codec.TheVariants.{Rs, Xor}
use Rattle.stripe.specs.There.{flag, there_below}
use Rattle.stripe.proofs.Cells.{below_length, lowest_of}
use Rattle.stripe.proofs.Codecs.{too_few, old_codec, all_held, by_code, rs_known, xor_known}
use Rattle.stripe.proofs.missing.recover.Goals as goal

-- the cells that are there, listed from the flags of the row's cells
listed : (flags : List Bool) {m n : ℕ} {cells : List ℕ} → m ≡ n → m ≤ length flags → cells ≡ there_below (flag (take m flags)) (length (take m flags)) → cells ≡ there_below (flag flags) n
listed flags {m = m} q h e = e ∙ lowest_of flags m h ∙ ap (there_below (flag flags)) q

-- and how many they are
held : (flags : List Bool) {m n found : ℕ} {cells : List ℕ} → m ≡ n → m ≤ length flags → found ≡ length cells → cells ≡ there_below (flag (take m flags)) (length (take m flags)) → found ≡ count (flag flags) n
held flags {n = n} q h l e = l ∙ ap length (listed flags q h e) ∙ below_length (flag flags) n

pub invariant_of-chosen : goal.invariant_of-chosen
invariant_of-chosen c =
    let d = c.args.schema.data_units in
    record {
      lowest = ap (take d) (c.deref.ensures.0 ∙ listed c.args.there.now c.units.ensures (omega arith) c.lowest.ensures);
      enough = length-take-le d c.deref.result.now (let e = ap length c.deref.ensures.0 in omega arith);
    }

pub invariant_of-chosen-in-Xor : goal.invariant_of-chosen-in-Xor
invariant_of-chosen-in-Xor c =
    let d = c.args.schema.data_units in
    record {
      lowest = ap (take d) (c.deref.ensures.0 ∙ listed c.args.there.now c.units.ensures (omega arith) c.lowest.ensures);
      enough = length-take-le d c.deref.result.now (let e = ap length c.deref.ensures.0 in omega arith);
    }

pub returns-then-cells-schema-clause-from_the_lowest_there : goal.returns-then-cells-schema-clause-from_the_lowest_there
returns-then-cells-schema-clause-from_the_lowest_there c =
    too_few c.args.schema c.args.there.now c.args.row.now c.len-cells.result (omega arith) (omega arith) (held c.args.there.now c.units.ensures (omega arith) c.len-cells.ensures.value c.lowest.ensures) c.if-cells-schema.true

pub returns-then-made-eq0 : goal.returns-then-made-eq0
returns-then-made-eq0 c =
    let s = c.args.schema in
    let a = all_held s c.args.there.now c.args.row.now c.len-cells.result (omega arith) (omega arith) (held c.args.there.now c.units.ensures (omega arith) c.len-cells.ensures.value c.lowest.ensures) c.if-cells-schema.false (sym c.if-made-eq0.true ∙ c.count_missing-made.ensures) (λ r i. (c.type_inv.row (r * s.cell_size + i)).fits) in
    record { from_the_lowest_there = a.from_the_lowest_there; the_cells_dealt = a.the_cells_dealt; cells_determine_the_row = a.cells_determine_the_row }

pub returns-in-RsLegacy-clause-from_the_lowest_there : goal.returns-in-RsLegacy-clause-from_the_lowest_there
returns-in-RsLegacy-clause-from_the_lowest_there c =
    old_codec c.args.schema c.args.there.now c.args.row.now c.len-cells.result (omega arith) (omega arith) (held c.args.there.now c.units.ensures (omega arith) c.len-cells.ensures.value c.lowest.ensures) c.in-RsLegacy.is c.if-cells-schema.false (λ e. c.if-made-eq0.false (c.count_missing-made.ensures ∙ e))

pub returns-in-Rs : goal.returns-in-Rs
returns-in-Rs c =
    let s = c.args.schema in
    let a = by_code s c.args.there.now c.args.row.now c.len-cells.result (omega arith) (omega arith) (held c.args.there.now c.units.ensures (omega arith) c.len-cells.ensures.value c.lowest.ensures) Rs c.recover_rs.new.row c.count_missing-made.result c.in-Rs.is rs_known c.if-cells-schema.false c.count_missing-made.ensures (λ r i. (c.type_inv.row (r * s.cell_size + i)).fits) c.recover_rs.ensures in
    record { from_the_lowest_there = a.from_the_lowest_there; the_cells_dealt = a.the_cells_dealt; cells_determine_the_row = a.cells_determine_the_row }

pub returns-in-Xor : goal.returns-in-Xor
returns-in-Xor c =
    let s = c.args.schema in
    let a = by_code s c.args.there.now c.args.row.now c.len-cells.result (omega arith) (omega arith) (held c.args.there.now c.units.ensures (omega arith) c.len-cells.ensures.value c.lowest.ensures) Xor c.recover_xor.new.row c.count_missing-made.result c.in-Xor.is xor_known c.if-cells-schema.false c.count_missing-made.ensures (λ r i. (c.type_inv.row (r * s.cell_size + i)).fits) c.recover_xor.ensures in
    record { from_the_lowest_there = a.from_the_lowest_there; the_cells_dealt = a.the_cells_dealt; cells_determine_the_row = a.cells_determine_the_row }
