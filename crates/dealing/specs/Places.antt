-- Where the n bytes of a block lie, with d data and p parity cells to a row and s bytes to a cell.
use Rattle.std.specs.Prelude.{ℕ, ◌+◌, ◌-◌, ◌*◌, ◌/◌, ◌%◌, min, max, cond, ◌==◌, nat_lt}

-- the cell of byte b
abbrev pub cell_of : ℕ → ℕ → ℕ
cell_of s b = b / s

-- the row of cell c, and its shard
abbrev pub row_of : ℕ → ℕ → ℕ
row_of d c = c / d

abbrev pub shard_of : ℕ → ℕ → ℕ
shard_of d c = c % d

-- the place in its shard of byte b
abbrev pub shard_place : ℕ → ℕ → ℕ → ℕ
shard_place d s b = row_of d (cell_of s b) * s + b % s

-- where in a shard its cell of row k begins
abbrev pub row_place : ℕ → ℕ → ℕ
row_place s k = k * s

-- the byte of the block that stands at place o of data shard i
abbrev pub byte_of : ℕ → ℕ → ℕ → ℕ → ℕ
byte_of d s i o = (o / s * d + i) * s + o % s

-- how many bytes the data cells of a row have together
abbrev pub row_bytes : ℕ → ℕ → ℕ
row_bytes d s = d * s

-- how many rows a block has: the whole ones, and the one that is begun
abbrev pub rows_of : ℕ → ℕ → ℕ → ℕ
rows_of d s n = n / row_bytes d s + cond (n % row_bytes d s == 0) 0 1

-- how many bytes of the block data cell c has
abbrev pub cell_len_of : ℕ → ℕ → ℕ → ℕ
cell_len_of s n c = min s (n - c * s)

-- the data shard that shard i is as long as: itself, or shard 0 for parity
abbrev pub like_shard_of : ℕ → ℕ → ℕ
like_shard_of d i = cond (nat_lt i d) i 0

-- how many bytes a data shard has: a cell for each whole row, and its part of the row that is begun
abbrev pub data_len_of : ℕ → ℕ → ℕ → ℕ → ℕ
data_len_of d s n i = n / row_bytes d s * s + min s (n % row_bytes d s - i * s)

-- how many bytes shard i has: none past the last parity shard
abbrev pub shard_len : ℕ → ℕ → ℕ → ℕ → ℕ → ℕ
shard_len d p s n i = cond (nat_lt i (d + p)) (data_len_of d s n (like_shard_of d i)) 0

-- how many bytes of its own the cell of shard i has in row k
abbrev pub own_len_of : ℕ → ℕ → ℕ → ℕ → ℕ → ℕ → ℕ
own_len_of d p s n i k = cond (nat_lt i (d + p)) (cell_len_of s n (k * d + like_shard_of d i)) 0

-- how many of the l bytes from byte a lie in row k, and where in the row's data cells the first of them is; w is the row's bytes
abbrev pub part_len : ℕ → ℕ → ℕ → ℕ → ℕ
part_len w k a l = min (a + l) ((k + 1) * w) - max a (k * w)

abbrev pub part_start : ℕ → ℕ → ℕ → ℕ → ℕ
part_start w k a l = cond (part_len w k a l == 0) 0 (a - k * w)
