-- What one more row leaves of the block that is put together. Assumes nothing.
use Rattle.std.proofs.Common.{◌≡◌, ℕ, ◌+◌, ◌-◌, ◌*◌, ◌^◌, ◌<◌, ◌≤◌, min, List, ◌++◌, length, get_or, take, Ok, Err, Option, sym, ap, ◌∙◌, subst, arith, below_more}
use Rattle.std.proofs.lemmas.Nat.{mul-le}
use Rattle.std.proofs.lemmas.List.{length-append, length-take, get_or_append_left, get_or-append_right, get_or-take}
use Rattle.policy.specs.declared.schema.EcSchema.{EcSchema}
use Rattle.stripe.specs.Coded.{byte_at, units, RowRoom}
use Rattle.dealing.specs.Places.{row_bytes, part_len}
use Rattle.dealing.proofs.Numbers.{rows_least, cell_ends, row_after}
use Rattle.rebuild.specs.declared.fault.RebuildFault.{RebuildFault}
use Rattle.rebuild.specs.declared.fault.RebuildFault.TheVariants.{Block, TooFew, Legacy, Memory}
use Rattle.rebuild.specs.Rebuilt.{RowFrom, RowIn, rows_in, there_in, bytes_in, EnoughIn, TooFewIn, LegacyIn, RowRebuilt, Rebuilt}

module _ (e : EcSchema) (n : ℕ) (held : ℕ → Option (List ℕ)) where
  -- how many bytes of the block the rows before row k have
  abbrev pub begun : ℕ → ℕ
  begun k = min n (k * (e.data_units * e.cell_size))

  -- the rows before row k, put together
  pub record RowsTo (block : List ℕ) (k : ℕ) : Type 0 where
    pub long : length block ≡ begun k
    pub each : (q : ℕ) → q < k → RowIn e n held block q

  -- a byte of a row before row k stands among the bytes so far
  before_row : (q k c j : ℕ) → q < k → c < e.data_units → j < e.cell_size → (q * e.data_units + c) * e.cell_size + j < k * (e.data_units * e.cell_size)
  before_row q k c j h hc hj =
      omega (arith, row_after (e.data_units * e.cell_size) q k h, cell_ends e.data_units e.cell_size c hc)

  -- and it stays where it is
  kept : (block part : List ℕ) (k q : ℕ) → length block ≡ begun k → q < k → RowIn e n held block q → RowIn e n held (block ++ part) q
  kept block part k q len h r = record {
    row = r.row;
    made = r.made;
    placed = λ c j hc hj l.
        let b = before_row q k c j h hc hj in
        get_or_append_left block part 0 ((q * e.data_units + c) * e.cell_size + j) (omega arith) ∙ r.placed c j hc hj l;
  }

  -- the bytes of row k come next
  added : (block buffer : List ℕ) (k m : ℕ) → length block ≡ begun k → m ≡ part_len (row_bytes e.data_units e.cell_size) k 0 n
      → RowFrom e.codec e.data_units (units e) e.cell_size (there_in e n held k) (bytes_in e n held k) (byte_at e.cell_size buffer)
      → RowIn e n held (block ++ take m buffer) k
  added block buffer k m len part from = record {
    row = byte_at e.cell_size buffer;
    made = from;
    placed = λ c j hc hj l.
        let w = e.data_units * e.cell_size in
        let i = (k * e.data_units + c) * e.cell_size + j in
        let end = cell_ends e.data_units e.cell_size c hc in
        let full : length block ≡ k * (e.data_units * e.cell_size) = omega (arith, len) in
        let at : (k * e.data_units + c) * e.cell_size + j - k * (e.data_units * e.cell_size) ≡ c * e.cell_size + j = omega arith in
        get_or-append_right block (take m buffer) (k * w) i 0 full (omega arith) ∙ ap (λ (t : ℕ). get_or (take m buffer) t 0) at
        ∙ get_or-take m buffer (c * e.cell_size + j) 0 (omega (arith, part, end));
  }

  pub rows_more : (block buffer : List ℕ) (k m : ℕ) → RowRoom e buffer → m ≡ part_len (row_bytes e.data_units e.cell_size) k 0 n → RowsTo block k
      → RowFrom e.codec e.data_units (units e) e.cell_size (there_in e n held k) (bytes_in e n held k) (byte_at e.cell_size buffer)
      → RowsTo (block ++ take m buffer) (k + 1)
  rows_more block buffer k m room part to from = record {
    long =
        let fits = mul-le e.data_units e.cell_size (units e) e.cell_size (omega arith) (omega arith) in
        let len = to.long in
        simp (length-append, length-take) (omega (arith, len, part, fits));
    each = below_more (λ q. RowIn e n held (block ++ take m buffer) q) k
        (λ q h. kept block (take m buffer) k q to.long h (to.each q h)) (added block buffer k m to.long part from);
  }

  -- all rows are the block made again
  pub rows_all : (block : List ℕ) (k : ℕ) → n ≤ 2 ^ 40 → k ≡ rows_in e n → RowsTo block k → Rebuilt e n held (Ok block)
  rows_all block k small h to =
      let most = (rows_least e.data_units e.cell_size n e.some_data e.some_bytes).holds in
      (small, to.long ∙ ap begun h ∙ omega (arith, most), λ q l. to.each q (omega arith))

  -- the first row that is refused is refused for the block
  pub row_refused : (block : List ℕ) (k : ℕ) (x : ℕ → ℕ → ℕ) (f : RebuildFault) → n ≤ 2 ^ 40 → k < rows_in e n → RowsTo block k → RowRebuilt e n held k x (Err f) → Rebuilt e n held (Err f)
  row_refused block k x Block small l to r = absurd r
  row_refused block k x Memory small l to r = absurd r
  row_refused block k x (TooFew q cells) small l to r =
      let P : ℕ → Type 0 = λ q. (n ≤ 2 ^ 40) × (q < rows_in e n) × TooFewIn e n held q cells × ((t : ℕ) → t < q → EnoughIn e n held t) in
      subst P (sym r.0) (small, l, r.1, λ t o. (to.each t o).made.enough)
  row_refused block k x (Legacy q) small l to r =
      let P : ℕ → Type 0 = λ q. (n ≤ 2 ^ 40) × (q < rows_in e n) × LegacyIn e n held q × ((t : ℕ) → t < q → EnoughIn e n held t) in
      subst P (sym r.0) (small, l, r.1, λ t o. (to.each t o).made.enough)
