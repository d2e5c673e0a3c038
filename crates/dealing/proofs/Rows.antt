-- The data cells of rows are the block with zeros after it, and the parts of a range in the rows are the range.
use Rattle.std.proofs.Common.{◌≡◌, ℕ, zero, suc, ◌+◌, ◌-◌, ◌*◌, ◌<◌, ◌≤◌, min, max, eqb, List, ◌++◌, length, get_or, take, drop, replicate, sym, ap, ◌∙◌, ⊎_elim, arith, take-add}
use Rattle.std.proofs.lemmas.List.{length-take, length-drop, get_or-take, get_or-drop, drop-drop, take_all, ext_get_or}
use Rattle.std.proofs.lemmas.Bool.{cases_lt, ne_eqb, cond-false}
use Rattle.dealing.specs.Places.{rows_of, cell_len_of, part_len, part_start}
use Rattle.dealing.specs.Dealt.{padded, joined_to, own_bytes, cell_bytes, row_cells, row_part}
use Rattle.dealing.specs.Laws.{RowsAreBlock, PartOfBlock, PartsAreRange}
use Rattle.dealing.proofs.Numbers.{cell_ends, rows_least}
use Rattle.dealing.proofs.Padding.{length_padded, padded_at, part_padded}
use Rattle.dealing.proofs.Joining.{joined_same, joined_padded}

-- a cell has s bytes, and each is the block's or zero
pub length_cell : (s : ℕ) (block : List ℕ) (c : ℕ) → length (cell_bytes s block c) ≡ s
length_cell s block c = length_padded s (drop (c * s) block)

pub cell_at : (s : ℕ) (block : List ℕ) (c t : ℕ) → t < s → get_or (cell_bytes s block c) t 0 ≡ get_or block (c * s + t) 0
cell_at s block c t h = padded_at s (drop (c * s) block) t h ∙ get_or-drop (c * s) block t 0

-- a cell is what it has for its own, and zeros
pub cell_is_filled : (s : ℕ) (block : List ℕ) (c : ℕ) → cell_bytes s block c ≡ own_bytes s block c ++ replicate (s - cell_len_of s (length block) c) 0
unfolding padded
cell_is_filled s block c =
    let e : s - length (drop (c * s) block) ≡ s - cell_len_of s (length block) c = simp length-drop (omega arith) in
    ap (λ (z : ℕ). own_bytes s block c ++ replicate z 0) e

module _ (d s : ℕ) (block : List ℕ) where
  -- a row's data cells are one stretch of the block
  pub row_is : (k : ℕ) → row_cells d s block k ≡ padded (d * s) (drop (k * (d * s)) block)
  row_is k =
      let e : k * d * s ≡ k * (d * s) = omega arith in
      joined_padded s (k * d) d block ∙ ap (λ (x : ℕ). padded (d * s) (drop x block)) e

  pub length_row : (k : ℕ) → length (row_cells d s block k) ≡ d * s
  length_row k = ap length (row_is k) ∙ length_padded (d * s) (drop (k * (d * s)) block)

  pub row_at : (k t : ℕ) → t < d * s → get_or (row_cells d s block k) t 0 ≡ get_or block (k * (d * s) + t) 0
  row_at k t h =
      ap (λ (x : List ℕ). get_or x t 0) (row_is k) ∙ padded_at (d * s) (drop (k * (d * s)) block) t h ∙ get_or-drop (k * (d * s)) block t 0

  -- cell i of a row stands i cells into it
  pub row_cell : (k i : ℕ) → i < d → take s (drop (i * s) (row_cells d s block k)) ≡ cell_bytes s block (k * d + i)
  row_cell k i h =
      let w = cell_ends d s i h in
      ext_get_or 0 (take s (drop (i * s) (row_cells d s block k))) (cell_bytes s block (k * d + i))
      (simp (length-take, length-drop, length_row, length_padded) (omega arith))
      (λ t l.
      let lt : t < s = (let m : t < min s (d * s - i * s) = simp (length-take, length-drop, length_row) at l in omega arith) in
      let e : k * (d * s) + (i * s + t) ≡ (k * d + i) * s + t = omega arith in
      get_or-take s (drop (i * s) (row_cells d s block k)) t 0 lt ∙ get_or-drop (i * s) (row_cells d s block k) t 0
      ∙ row_at k (i * s + t) (omega arith) ∙ ap (λ (x : ℕ). get_or block x 0) e ∙ sym (cell_at s block (k * d + i) t lt))

  -- the cells of m rows are the block with zeros after it
  pub rows_are : (m : ℕ) → joined_to (row_cells d s block) m ≡ padded (m * (d * s)) block
  rows_are m =
      let e : 0 * (d * s) ≡ 0 = omega arith in
      joined_same (row_cells d s block) (λ k. padded (d * s) (drop ((0 + k) * (d * s)) block)) m
      (λ k h. row_is k ∙ ap (λ (x : ℕ). padded (d * s) (drop (x * (d * s)) block)) (omega arith))
      ∙ joined_padded (d * s) 0 m block ∙ ap (λ (x : ℕ). padded (m * (d * s)) (drop x block)) e

  pub rows_are_block : 0 < d → 0 < s → RowsAreBlock d s block (rows_of d s (length block))
  rows_are_block dp sp =
      ap (λ (x : List ℕ). take (length block) x) (rows_are (rows_of d s (length block)))
      ∙ part_padded (rows_of d s (length block) * (d * s)) 0 (length block) block
      (omega (arith, (rows_least d s (length block) dp sp).holds)) (omega arith)
      ∙ take_all (length block) block (omega arith)

module _ (d s : ℕ) (block : List ℕ) (a l : ℕ) (inside : a + l ≤ length block) where
  -- a row's part is the stretch of the block from the range's first byte in the row
  pub part_is : (k x : ℕ) → (0 < part_len (d * s) k a l → a + x ≡ max a (k * (d * s))) → row_part d s block a l k ≡ take (part_len (d * s) k a l) (drop x (drop a block))
  part_is k x e =
      ⊎_elim
      (λ (z : part_len (d * s) k a l < 1).
      let none : part_len (d * s) k a l ≡ 0 = omega arith in
      ap (λ (n : ℕ). take n (drop (part_start (d * s) k a l) (row_cells d s block k))) none
      ∙ sym (ap (λ (n : ℕ). take n (drop x (drop a block))) none))
      (λ (some : 1 ≤ part_len (d * s) k a l).
      let st : part_start (d * s) k a l ≡ a - k * (d * s) =
      cond-false (eqb (part_len (d * s) k a l) 0) 0 (a - k * (d * s)) (ne_eqb (part_len (d * s) k a l) 0 (λ z. omega arith)) in
      let at : k * (d * s) + (a - k * (d * s)) ≡ a + x = omega (arith, e some) in
      let fits : a - k * (d * s) + part_len (d * s) k a l ≤ length (drop (k * (d * s)) block) = simp length-drop (omega arith) in
      ap (λ (n : ℕ). take (part_len (d * s) k a l) (drop n (row_cells d s block k))) st
      ∙ ap (λ (r : List ℕ). take (part_len (d * s) k a l) (drop (a - k * (d * s)) r)) (row_is d s block k)
      ∙ part_padded (d * s) (a - k * (d * s)) (part_len (d * s) k a l) (drop (k * (d * s)) block) (omega arith) fits
      ∙ ap (λ (r : List ℕ). take (part_len (d * s) k a l) r)
      (drop-drop (a - k * (d * s)) (k * (d * s)) block ∙ ap (λ (n : ℕ). drop n block) at ∙ sym (drop-drop x a block)))
      (cases_lt (part_len (d * s) k a l) 1)

  pub part_of_block : (k : ℕ) → PartOfBlock d s block k a (part_start (d * s) k a l) (part_len (d * s) k a l)
  part_of_block k =
      let from : a + (max a (k * (d * s)) - a) ≡ max a (k * (d * s)) = omega arith in
      part_is k (max a (k * (d * s)) - a) (λ h. from)
      ∙ ap (λ (r : List ℕ). take (part_len (d * s) k a l) r)
      (drop-drop (max a (k * (d * s)) - a) a block ∙ ap (λ (n : ℕ). drop n block) from)

  -- the first m rows have the range's bytes below their end
  pub parts_up_to : (m : ℕ) → joined_to (row_part d s block a l) m ≡ take (min (a + l) (m * (d * s)) - a) (drop a block)
  unfolding joined_to
  parts_up_to zero =
      let none : min (a + l) (0 * (d * s)) - a ≡ 0 = omega arith in
      sym (ap (λ (n : ℕ). take n (drop a block)) none)
  parts_up_to (suc m) =
      let x : ℕ = min (a + l) (m * (d * s)) - a in
      let on : min (a + l) (m * (d * s)) - a + part_len (d * s) m a l ≡ min (a + l) (suc m * (d * s)) - a = omega arith in
      ap (λ (r : List ℕ). r ++ row_part d s block a l m) (parts_up_to m)
      ∙ ap (λ (r : List ℕ). take x (drop a block) ++ r) (part_is m x (λ p. omega arith))
      ∙ sym (take-add x (part_len (d * s) m a l) (drop a block)) ∙ ap (λ (n : ℕ). take n (drop a block)) on

  pub parts_are_range : 0 < d → 0 < s → PartsAreRange d s block a l
  parts_are_range dp sp =
      let e : min (a + l) (rows_of d s (length block) * (d * s)) - a ≡ l =
      omega (arith, (rows_least d s (length block) dp sp).holds) in
      parts_up_to (rows_of d s (length block)) ∙ ap (λ (n : ℕ). take n (drop a block)) e
