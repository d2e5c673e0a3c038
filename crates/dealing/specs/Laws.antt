-- What holds of every block that is dealt out with d data cells to a row and s bytes to a cell, both at least 1.
use Rattle.std.specs.Prelude.{◌≡◌, ℕ, ◌+◌, ◌*◌, ◌<◌, ◌≤◌, max, List, length, take, drop, slice_index}
use Rattle.dealing.specs.Places.{cell_of, shard_of, shard_place, row_place, byte_of, row_bytes, rows_of}
use Rattle.dealing.specs.Dealt.{joined_to, own_bytes, shard_bytes, row_cells, first_rows, row_part}

-- the list has byte v at place t
abbrev pub HasAt : List ℕ → ℕ → ℕ → Type 0
HasAt bytes t v = (t < length bytes) × (slice_index bytes t ≡ v)

-- byte b of the block is at this place of this cell and at this one of this shard, and nowhere else
pub record Placed (d s : ℕ) (block : List ℕ) (b cell row shard in_shard in_cell : ℕ) : Type 0 where
  pub cell_is : cell ≡ row * d + shard
  pub cell_has : HasAt (own_bytes s block cell) in_cell (slice_index block b)
  pub shard_has : HasAt (shard_bytes d s block shard) in_shard (slice_index block b)
  pub one_cell : (c t : ℕ) → t < s → c * s + t ≡ b → (c ≡ cell) × (t ≡ in_cell)
  pub one_shard : (i o : ℕ) → i < d → byte_of d s i o ≡ b → (i ≡ shard) × (o ≡ in_shard)

-- place o of data shard i is one byte of the block, which has that place
pub record FromShard (d s : ℕ) (block : List ℕ) (i o : ℕ) : Type 0 where
  pub in_block : HasAt block (byte_of d s i o) (slice_index (shard_bytes d s block i) o)
  pub its_shard : shard_of d (cell_of s (byte_of d s i o)) ≡ i
  pub its_place : shard_place d s (byte_of d s i o) ≡ o

-- the data cells of the first m rows, cut to the block's length, are the block
abbrev pub RowsAreBlock : ℕ → ℕ → List ℕ → ℕ → Type 0
RowsAreBlock d s block m = take (length block) (first_rows d s block m) ≡ block

-- r rows hold n bytes, and fewer do not
pub record Least (d s n r : ℕ) : Type 0 where
  pub holds : n ≤ r * row_bytes d s
  pub fewest : (k : ℕ) → n ≤ k * row_bytes d s → r ≤ k

-- what a cell has for its own is what its shard has from the row's first place, at most s bytes
abbrev pub CellOfShard : ℕ → ℕ → List ℕ → ℕ → ℕ → Type 0
CellOfShard d s block i k = own_bytes s block (k * d + i) ≡ take s (drop (row_place s k) (shard_bytes d s block i))

-- the len bytes from start in the data cells of row k are the block's, from byte a or from the row's first
abbrev pub PartOfBlock : ℕ → ℕ → List ℕ → ℕ → ℕ → ℕ → ℕ → Type 0
PartOfBlock d s block k a start len = take len (drop start (row_cells d s block k)) ≡ take len (drop (max a (k * row_bytes d s)) block)

-- what the rows have of a range, joined, is the range
abbrev pub PartsAreRange : ℕ → ℕ → List ℕ → ℕ → ℕ → Type 0
PartsAreRange d s block a l = joined_to (row_part d s block a l) (rows_of d s (length block)) ≡ take l (drop a block)
