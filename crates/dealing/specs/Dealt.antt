-- The bytes of a block in cells, rows and data shards, with d data cells to a row and s bytes to a cell.
use Rattle.std.specs.Prelude.{ℕ, zero, suc, ◌+◌, ◌-◌, ◌*◌, List, [], ◌++◌, length, take, drop, replicate}
use Rattle.dealing.specs.Places.{row_bytes, rows_of, part_len, part_start}

-- the first m of the bytes, filled with zeros to m
unfoldable pub padded : ℕ → List ℕ → List ℕ
padded m bytes = take m bytes ++ replicate (m - length bytes) 0

-- the lists f 0, f 1, .. joined, n of them
unfoldable pub joined_to : (ℕ → List ℕ) → ℕ → List ℕ
joined_to f zero = []
joined_to f (suc n) = joined_to f n ++ f n

-- the bytes of the block that data cell c has for its own, and the same filled with zeros to s
abbrev pub own_bytes : ℕ → List ℕ → ℕ → List ℕ
own_bytes s block c = take s (drop (c * s) block)

abbrev pub cell_bytes : ℕ → List ℕ → ℕ → List ℕ
cell_bytes s block c = padded s (drop (c * s) block)

-- the data cells of row k, one after the other
abbrev pub row_cells : ℕ → ℕ → List ℕ → ℕ → List ℕ
row_cells d s block k = joined_to (λ i. cell_bytes s block (k * d + i)) d

-- the data cells of the first m rows
abbrev pub first_rows : ℕ → ℕ → List ℕ → ℕ → List ℕ
first_rows d s block m = joined_to (row_cells d s block) m

-- data shard i: what its cells have for their own, row by row
abbrev pub shard_bytes : ℕ → ℕ → List ℕ → ℕ → List ℕ
shard_bytes d s block i = joined_to (λ k. own_bytes s block (k * d + i)) (rows_of d s (length block))

-- what row k has of the l bytes from byte a
abbrev pub row_part : ℕ → ℕ → List ℕ → ℕ → ℕ → ℕ → List ℕ
row_part d s block a l k = take (part_len (row_bytes d s) k a l) (drop (part_start (row_bytes d s) k a l) (row_cells d s block k))
