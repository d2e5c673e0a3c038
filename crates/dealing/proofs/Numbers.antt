-- Rows, cells and places as numbers: where a row begins, how long cells and shards are.
use Rattle.std.proofs.Common.{◌≡◌, ℕ, ◌+◌, ◌-◌, ◌*◌, ◌/◌, ◌%◌, ◌<◌, ◌≤◌, min, eqb, ltb, sym, ap, ◌∙◌, ⊎_elim, arith}
use Rattle.std.proofs.lemmas.Nat.{mul-le, mod_below, div-mul-add, mod-mul-add, div-add-mod'}
use Rattle.std.proofs.lemmas.Bool.{cases_lt, cases_eq, cases_order, eq-eqb, ne_eqb, ltb-true, lt-ltb, le-ltb, cond-true, cond-false, cond_both}
use Rattle.dealing.specs.Places.{cell_of, shard_of, shard_place, byte_of, rows_of, cell_len_of, like_shard_of, data_len_of, shard_len, own_len_of, row_place, part_len, part_start}
use Rattle.dealing.specs.Laws.{Least}

-- a row's bytes are at least one
pub row_pos : (d s : ℕ) → 0 < d → 0 < s → 0 < d * s
row_pos d s p q = omega (arith, mul-le 1 1 d s p q)

-- the cell of shard i in row k begins i cells into the row
pub cell_begins : (d s k i : ℕ) → (k * d + i) * s ≡ k * (d * s) + i * s
cell_begins d s k i = omega arith

-- a shard's cell lies inside the row
pub cell_ends : (d s i : ℕ) → i < d → i * s + s ≤ d * s
cell_ends d s i h = omega (arith, mul-le (i + 1) s d s (omega arith) (omega arith))

-- rows follow one another
pub row_after : (r k m : ℕ) → k < m → k * r + r ≤ m * r
row_after r k m h = omega (arith, mul-le (k + 1) r m r (omega arith) (omega arith))

module _ (d s n : ℕ) (dp : 0 < d) (sp : 0 < s) where
  -- a block is its whole rows and the row that is begun
  pub whole_rows : n ≡ n / (d * s) * (d * s) + n % (d * s)
  whole_rows = omega arith

  pub begun_row : n % (d * s) < d * s
  begun_row = mod_below n (d * s) (row_pos d s dp sp)

  -- the cells of whole rows are full
  pub cell_len_full : (k i : ℕ) → i < d → k < n / (d * s) → cell_len_of s n (k * d + i) ≡ s
  cell_len_full k i hi hk =
      omega (arith, cell_begins d s k i, cell_ends d s i hi, row_after (d * s) k (n / (d * s)) hk, whole_rows)

  -- the cells of the row that is begun have what is left
  pub cell_len_begun : (i : ℕ) → cell_len_of s n (n / (d * s) * d + i) ≡ min s (n % (d * s) - i * s)
  cell_len_begun i = omega (arith, cell_begins d s (n / (d * s)) i, whole_rows)

  -- and past it there is nothing
  pub cell_len_past : (k i : ℕ) → n / (d * s) < k → cell_len_of s n (k * d + i) ≡ 0
  cell_len_past k i h =
      omega (arith, cell_begins d s k i, row_after (d * s) (n / (d * s)) k h, whole_rows, begun_row)

  -- how many rows: the whole ones, and one more where one is begun
  pub rows_whole : n % (d * s) ≡ 0 → rows_of d s n ≡ n / (d * s)
  rows_whole h =
      let none = cond-true {A = ℕ} (eqb (n % (d * s)) 0) 0 1 (eq-eqb (n % (d * s)) 0 h) in omega (arith, none)

  pub rows_begun : 0 < n % (d * s) → rows_of d s n ≡ n / (d * s) + 1
  rows_begun h =
      let one = cond-false {A = ℕ} (eqb (n % (d * s)) 0) 0 1 (ne_eqb (n % (d * s)) 0 (λ z. omega arith)) in
      omega (arith, one)

  pub rows_least : Least d s n (rows_of d s n)
  rows_least =
      let b = begun_row in
      ⊎_elim
      (λ (w : n % (d * s) < 1). let e = rows_whole (omega arith) in
      record {
        holds = rw e (omega (arith, whole_rows));
        fewest = λ k h. rw e (⊎_elim (λ (l : k < n / (d * s)). absurd (omega (arith, row_after (d * s) k (n / (d * s)) l, whole_rows))) (λ (g : n / (d * s) ≤ k). g) (cases_lt k (n / (d * s))));
      })
      (λ (w : 1 ≤ n % (d * s)). let e = rows_begun w in
      record {
        holds = rw e (omega (arith, whole_rows));
        fewest = λ k h. rw e (⊎_elim (λ (l : n / (d * s) < k). omega arith) (λ (g : k ≤ n / (d * s)). absurd (omega (arith, mul-le k (d * s) (n / (d * s)) (d * s) g (omega arith), whole_rows))) (cases_lt (n / (d * s)) k));
      })
      (cases_lt (n % (d * s)) 1)

  -- only the last row has cells that are not full
  pub cell_len_inner : (k i : ℕ) → i < d → k + 1 < rows_of d s n → cell_len_of s n (k * d + i) ≡ s
  cell_len_inner k i hi h =
      let b = begun_row in
      ⊎_elim
      (λ (w : n % (d * s) < 1). cell_len_full k i hi (omega (arith, rows_whole (omega arith))))
      (λ (w : 1 ≤ n % (d * s)). cell_len_full k i hi (omega (arith, rows_begun w)))
      (cases_lt (n % (d * s)) 1)

  -- a data cell has what its shard has from the row's first place
  pub cell_len_of_shard : (k i : ℕ) → i < d → cell_len_of s n (k * d + i) ≡ min s (data_len_of d s n i - k * s)
  cell_len_of_shard k i hi =
      ⊎_elim
      (λ (e : k ≡ n / (d * s)). rw e (omega (arith, cell_len_begun i)))
      (λ o. ⊎_elim
      (λ (l : k < n / (d * s)). omega (arith, cell_len_full k i hi l, row_after s k (n / (d * s)) l))
      (λ (g : n / (d * s) < k). omega (arith, cell_len_past k i g, row_after s (n / (d * s)) k g)) o)
      (cases_order k (n / (d * s)))

  -- a cell for each whole row, and the row that is begun, are no more than the block
  pub whole_le : n / (d * s) * s + n % (d * s) ≤ n
  whole_le = omega (arith, whole_rows, mul-le (n / (d * s) * s) 1 (n / (d * s) * s) d (omega arith) dp)

  -- so a data shard is no longer than the block
  pub data_len_le : (i : ℕ) → data_len_of d s n i ≤ n
  data_len_le i = omega (arith, whole_le)

  -- no shard is longer than shard 0
  pub data_len_le_first : (i : ℕ) → data_len_of d s n i ≤ data_len_of d s n 0
  data_len_le_first i = omega arith

-- what shard i is as long as is a data shard, and a data shard is itself
pub like_shard_lt : (d i : ℕ) → 0 < d → like_shard_of d i < d
like_shard_lt d i dp = cond_both (ltb i d) i 0 (λ x. x < d) (λ e. ltb-true i d e) (λ e. dp)

pub like_shard_data : (d i : ℕ) → i < d → like_shard_of d i ≡ i
like_shard_data d i h = cond-true (ltb i d) i 0 (lt-ltb i d h)

-- a shard that there is
pub shard_len_is : (d p s n i : ℕ) → i < d + p → shard_len d p s n i ≡ data_len_of d s n (like_shard_of d i)
shard_len_is d p s n i h = cond-true (ltb i (d + p)) (data_len_of d s n (like_shard_of d i)) 0 (lt-ltb i (d + p) h)

pub own_len_is : (d p s n i k : ℕ) → i < d + p → own_len_of d p s n i k ≡ cell_len_of s n (k * d + like_shard_of d i)
own_len_is d p s n i k h = cond-true (ltb i (d + p)) (cell_len_of s n (k * d + like_shard_of d i)) 0 (lt-ltb i (d + p) h)

-- and one that there is not
pub shard_len_none : (d p s n i : ℕ) → d + p ≤ i → shard_len d p s n i ≡ 0
shard_len_none d p s n i h = cond-false (ltb i (d + p)) (data_len_of d s n (like_shard_of d i)) 0 (le-ltb i (d + p) h)

pub own_len_none : (d p s n i k : ℕ) → d + p ≤ i → own_len_of d p s n i k ≡ 0
own_len_none d p s n i k h = cond-false (ltb i (d + p)) (cell_len_of s n (k * d + like_shard_of d i)) 0 (le-ltb i (d + p) h)

-- a cell has of its own what its shard has from the row's first place, at most s bytes
pub own_len_of_shard : (d p s n i k : ℕ) → 0 < d → 0 < s → own_len_of d p s n i k ≡ min s (shard_len d p s n i - row_place s k)
own_len_of_shard d p s n i k dp sp =
    ⊎_elim
    (λ (h : i < d + p).
    own_len_is d p s n i k h ∙ cell_len_of_shard d s n dp sp k (like_shard_of d i) (like_shard_lt d i dp)
    ∙ ap (λ (m : ℕ). min s (m - k * s)) (sym (shard_len_is d p s n i h)))
    (λ (h : d + p ≤ i).
    own_len_none d p s n i k h ∙ omega (arith, shard_len_none d p s n i h))
    (cases_lt i (d + p))

-- a part lies within its row
pub part_in_row : (w k a l : ℕ) → part_start w k a l + part_len w k a l ≤ w
part_in_row w k a l =
    ⊎_elim
    (λ (z : part_len w k a l ≡ 0).
    omega (arith, cond-true (eqb (part_len w k a l) 0) 0 (a - k * w) (eq-eqb (part_len w k a l) 0 z)))
    (λ (z : part_len w k a l ≡ 0 → ⊥).
    let e = cond-false (eqb (part_len w k a l) 0) 0 (a - k * w) (ne_eqb (part_len w k a l) 0 z) in
    ⊎_elim (λ (o : part_len w k a l < 1). absurd (z (omega arith))) (λ (o : 1 ≤ part_len w k a l). omega (arith, e))
    (cases_lt (part_len w k a l) 1))
    (cases_eq (part_len w k a l) 0)

module _ (d s b : ℕ) (dp : 0 < d) (sp : 0 < s) where
  -- a byte's place in its shard is no further than its place in the block
  pub shard_place_le : shard_place d s b ≤ b
  shard_place_le = omega (arith, mul-le (b / s / d) s (b / s) s (omega arith) (omega arith))

  pub byte_of_place : byte_of d s (shard_of d (cell_of s b)) (shard_place d s b) ≡ b
  byte_of_place =
      let t = mod_below b s sp in
      rw (div-mul-add (b / s / d) s (b % s) t, mod-mul-add (b / s / d) s (b % s) t)
      (ap (λ (c : ℕ). c * s + b % s) (div-add-mod' (b / s) d) ∙ div-add-mod' b s)

  -- no other cell has the byte
  pub only_cell : (c t : ℕ) → t < s → c * s + t ≡ b → (c ≡ cell_of s b) × (t ≡ b % s)
  only_cell c t h e = rw (← e) (sym (div-mul-add c s t h), sym (mod-mul-add c s t h))

module _ (d s i o : ℕ) (sp : 0 < s) (hi : i < d) where
  cell_of_byte_of : cell_of s (byte_of d s i o) ≡ o / s * d + i
  cell_of_byte_of = div-mul-add (o / s * d + i) s (o % s) (mod_below o s sp)

  pub shard_of_byte_of : shard_of d (cell_of s (byte_of d s i o)) ≡ i
  shard_of_byte_of = rw cell_of_byte_of (mod-mul-add (o / s) d i hi)

  pub place_of_byte_of : shard_place d s (byte_of d s i o) ≡ o
  place_of_byte_of =
      rw (cell_of_byte_of, div-mul-add (o / s) d i hi, mod-mul-add (o / s * d + i) s (o % s) (mod_below o s sp)) (omega arith)
