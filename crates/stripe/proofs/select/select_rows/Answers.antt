use Rattle.std.proofs.Common.{◌≡◌, ℕ, ◌+◌, ◌-◌, ◌*◌, ◌<◌, ◌≤◌, List, length, get_or, take, sym, ap, ◌∙◌, arith, below_more}
use Rattle.std.specs.List.{between}
use Rattle.std.proofs.lemmas.List.{get_or-take}
use Rattle.std.proofs.lemmas.List.Edits.{length-between, get_or-between}
use Rattle.std.proofs.lemmas.Nat.{mul-add-lt, mul-le}
use Rattle.std.proofs.lemmas.Slice.{take-put_mid_below, between-put_mid}
use Rattle.matrix.specs.Grids.{grid}
use Rattle.stripe.proofs.select.select_rows.Goals as goal

-- one row more
row_more : {F : Type 0} (O : F) (d k : ℕ) (m w x : List F) (f : ℕ → ℕ) → take (k * d) x ≡ take (k * d) w → between (k * d) (k * d + d) x ≡ between (f k * d) (f k * d + d) m
    → ((i j : ℕ) → i < k → j < d → grid O d w i j ≡ grid O d m (f i) j) → (i j : ℕ) → i < k + 1 → j < d → grid O d x i j ≡ grid O d m (f i) j
row_more O d k m w x f kept row h i j l o = below_more (λ i. grid O d x i j ≡ grid O d m (f i) j) k earlier this i l
  where
    earlier : (i : ℕ) → i < k → grid O d x i j ≡ grid O d m (f i) j
    earlier i l =
        let b = mul-add-lt i d j k l o in
        let b : i * d + j < k * d = omega arith in
        sym (get_or-take (k * d) x (i * d + j) O b) ∙ ap (λ xs. get_or xs (i * d + j) O) kept ∙ get_or-take (k * d) w (i * d + j) O b ∙ h i j l o

    this : grid O d x k j ≡ grid O d m (f k) j
    this =
        sym (get_or-between x (k * d) (k * d + d) j O (omega arith)) ∙ ap (λ xs. get_or xs j O) row
        ∙ get_or-between m (f k * d) (f k * d + d) j O (omega arith)

pub loop-k-preserved : goal.loop-k-preserved
loop-k-preserved g c =
    let d = length c.args.chosen.now in
    let k = c.loop-k.k in
    let w = c.loop-k.square in
    let m = c.args.generator.now in
    let b : (k + 1) * d ≤ d * d = mul-le (k + 1) d d d (omega arith) (omega arith) in
    row_more g.F.Field.ops.zero d k m w _ (λ k. get_or c.args.chosen.now k 0)
    (take-put_mid_below (k * d) (k * d + d - k * d) w c.copy_from_slice.new.self (k * d) (omega arith) (omega arith))
    (between-put_mid (k * d) (k * d + d - k * d) w c.copy_from_slice.new.self (k * d + d) (omega arith) (c.copy_from_slice.auto.self ∙ length-between w (k * d) (k * d + d) (omega arith))
    ∙ c.copy_from_slice.ensures.after)
    c.loop-k.invariant
