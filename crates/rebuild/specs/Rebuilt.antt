-- What putting a block of n bytes together again answers. Assumes nothing.
use Rattle.std.specs.Prelude.{◌≡◌, ℕ, ◌+◌, ◌*◌, ◌^◌, ◌<◌, ◌≤◌, Bool, true, List, length, Ok, Err, vec_items, Option, Result, slice_index}
use Rattle.std.specs.Global.{Vec}
use Rattle.algebra.specs.Sums.{count}
use Rattle.algebra.specs.Codes.{Bytes}
use Rattle.policy.specs.declared.codec.Codec.{Codec}
use Rattle.policy.specs.declared.codec.Codec.TheVariants.{RsLegacy}
use Rattle.policy.specs.declared.schema.EcSchema.{EcSchema}
use Rattle.stripe.specs.Coded.{coded, FollowsCode, units}
use Rattle.stripe.specs.There.{lowest_there}
use Rattle.dealing.specs.Places.{rows_of}
use Rattle.rebuild.specs.declared.fault.RebuildFault.{RebuildFault}
use Rattle.rebuild.specs.declared.fault.RebuildFault.TheVariants.{Block, TooFew, Legacy, Memory}
use Rattle.rebuild.specs.Held.{cell_there, cell_byte}

-- which cells of row k are there, and the bytes that they have
abbrev pub there_in : EcSchema → ℕ → (ℕ → Option (List ℕ)) → ℕ → ℕ → Bool
there_in e n held k = cell_there e.data_units e.parity_units e.cell_size n held k

abbrev pub bytes_in : EcSchema → ℕ → (ℕ → Option (List ℕ)) → ℕ → ℕ → ℕ → ℕ
bytes_in e n held k = cell_byte e.data_units e.parity_units e.cell_size n held k

abbrev pub rows_in : EcSchema → ℕ → ℕ
rows_in e n = rows_of e.data_units e.cell_size n

-- so many cells are there that the row can be made again: d of the n, and of the old codec every data cell
pub record Enough (codec : Codec) (d n : ℕ) (there : ℕ → Bool) : Type 0 where
  pub any : d ≤ count there n
  pub old : codec ≡ RsLegacy → count there d ≡ d

-- u are the data bytes of the row whose cells have the bytes w where they are there
pub record RowFrom (codec : Codec) (d n s : ℕ) (there : ℕ → Bool) (w u : ℕ → ℕ → ℕ) : Type 0 where
  pub enough : Enough codec d n there
  pub bytes : (c j : ℕ) → c < d → j < s → u c j < 256
  pub there_kept : (c j : ℕ) → c < d → there c ≡ true → j < s → u c j ≡ w c j
  -- from them the code makes the lowest d cells that are there
  pub determined : (i j : ℕ) → i < d → j < s → w (lowest_there there n i) j ≡ coded codec d (lowest_there there n i) (λ c. u c j)
  -- and no other row that follows the code has the cells that are there
  pub only : (v : ℕ → ℕ) (j : ℕ) → j < s → Bytes d v → FollowsCode codec d n v → ((r : ℕ) → r < n → there r ≡ true → w r j ≡ v r) → (c : ℕ) → c < d → u c j ≡ v c

-- row k of a block: its data bytes, and each that belongs to the block in its place
pub record RowIn (e : EcSchema) (n : ℕ) (held : ℕ → Option (List ℕ)) (block : List ℕ) (k : ℕ) : Type 0 where
  pub row : ℕ → ℕ → ℕ
  pub made : RowFrom e.codec e.data_units (units e) e.cell_size (there_in e n held k) (bytes_in e n held k) row
  pub placed : (c j : ℕ) → c < e.data_units → j < e.cell_size → (k * e.data_units + c) * e.cell_size + j < n
      → slice_index block ((k * e.data_units + c) * e.cell_size + j) ≡ row c j

-- enough cells of row k are there
abbrev pub EnoughIn : EcSchema → ℕ → (ℕ → Option (List ℕ)) → ℕ → Type 0
EnoughIn e n held k = Enough e.codec e.data_units (units e) (there_in e n held k)

-- row k has too few cells, so many
abbrev pub TooFewIn : EcSchema → ℕ → (ℕ → Option (List ℕ)) → ℕ → ℕ → Type 0
TooFewIn e n held k cells = (cells ≡ count (there_in e n held k) (units e)) × (cells < e.data_units)

-- row k has enough cells for another codec, but is of the old one and a data cell is missing
abbrev pub LegacyIn : EcSchema → ℕ → (ℕ → Option (List ℕ)) → ℕ → Type 0
LegacyIn e n held k =
    (e.codec ≡ RsLegacy) × (e.data_units ≤ count (there_in e n held k) (units e)) × (count (there_in e n held k) e.data_units < e.data_units)

-- the block from the shards that are held, or the first row that cannot be made again
abbrev pub Rebuilt : EcSchema → ℕ → (ℕ → Option (List ℕ)) → Result (List ℕ) RebuildFault → Type 0
Rebuilt e n held (Ok block) = (n ≤ 2 ^ 40) × (length block ≡ n) × ((k : ℕ) → k < rows_in e n → RowIn e n held block k)
Rebuilt e n held (Err Block) = 2 ^ 40 < n
Rebuilt e n held (Err (TooFew k cells)) =
    (n ≤ 2 ^ 40) × (k < rows_in e n) × TooFewIn e n held k cells × ((q : ℕ) → q < k → EnoughIn e n held q)
Rebuilt e n held (Err (Legacy k)) =
    (n ≤ 2 ^ 40) × (k < rows_in e n) × LegacyIn e n held k × ((q : ℕ) → q < k → EnoughIn e n held q)
Rebuilt e n held (Err Memory) = n ≤ 2 ^ 40

-- an answer with the bytes of its block
abbrev pub answered : Result (Vec ℕ) RebuildFault → Result (List ℕ) RebuildFault
answered (Ok block) = Ok (vec_items block)
answered (Err f) = Err f

-- one row made again in a buffer whose cells are x after the call
abbrev pub RowRebuilt : EcSchema → ℕ → (ℕ → Option (List ℕ)) → ℕ → (ℕ → ℕ → ℕ) → Result (Unit {0}) RebuildFault → Type 0
RowRebuilt e n held k x (Ok u) = RowFrom e.codec e.data_units (units e) e.cell_size (there_in e n held k) (bytes_in e n held k) x
RowRebuilt e n held k x (Err (TooFew q cells)) = (q ≡ k) × TooFewIn e n held k cells
RowRebuilt e n held k x (Err (Legacy q)) = (q ≡ k) × LegacyIn e n held k
RowRebuilt e n held k x (Err Block) = ⊥
RowRebuilt e n held k x (Err Memory) = ⊥
