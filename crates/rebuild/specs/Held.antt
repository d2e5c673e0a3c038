-- The shards that are held, and the cells of a row that are there, with d data and p parity cells to a row, s bytes to a cell and n bytes in the block. Assumes nothing.
use Rattle.std.specs.Prelude.{ℕ, ◌+◌, ◌*◌, Bool, cond, ◌&&◌, ◌||◌, List, [], length, is_some, Some, None, Option, ◌==◌, nat_lt, slice_index, slice_index_or}
use Rattle.std.specs.Borrow.{Bor}
use Rattle.std.specs.Option.{unwrap_or, option_map}
use Rattle.dealing.specs.Places.{shard_len, own_len_of}

-- the bytes of each shard that is given
abbrev pub held_in : List (Option (Bor (List ℕ))) → ℕ → Option (List ℕ)
held_in shards i = option_map (λ x. x.now) (slice_index_or shards i None)

-- bytes that are just so many
abbrev pub of_len : ℕ → Option (List ℕ) → Option (List ℕ)
of_len n None = None
of_len n (Some bytes) = cond (length bytes == n) (Some bytes) None

-- shard i where it is held whole: with just the length that it should have
abbrev pub whole_at : ℕ → ℕ → ℕ → ℕ → (ℕ → Option (List ℕ)) → ℕ → Option (List ℕ)
whole_at d p s n held i = of_len (shard_len d p s n i) (held i)

-- cell i of row k is there: its shard is held whole, or it has no bytes of its own and so is zeros alone
abbrev pub cell_there : ℕ → ℕ → ℕ → ℕ → (ℕ → Option (List ℕ)) → ℕ → ℕ → Bool
cell_there d p s n held k i = nat_lt i (d + p) && (is_some (whole_at d p s n held i) || own_len_of d p s n i k == 0)

-- byte j of that cell: its shard's, and zero past the shard's end and where the shard is not held whole
abbrev pub cell_byte : ℕ → ℕ → ℕ → ℕ → (ℕ → Option (List ℕ)) → ℕ → ℕ → ℕ → ℕ
cell_byte d p s n held k i j = slice_index (unwrap_or (whole_at d p s n held i) []) (k * s + j)
