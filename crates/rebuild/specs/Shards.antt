-- What is held and what is answered, of a block and its shards as the code has them. Assumes nothing.
use Rattle.std.specs.Prelude.{ℕ, Bool, List, Option, Result}
use Rattle.rebuild.specs.declared.fault.RebuildFault.{RebuildFault}
use Rattle.rebuild.specs.declared.held.HeldShards.{HeldShards}
use Rattle.rebuild.specs.Held.{held_in, whole_at}
use Rattle.rebuild.specs.Rebuilt.{there_in, bytes_in, Rebuilt, RowRebuilt}
use Rattle.rebuild.specs.Dealt.{BlockDealt}

-- shard i where it is held whole
abbrev pub whole_held : HeldShards → ℕ → Option (List ℕ)
whole_held h i =
    whole_at h.block.schema.data_units h.block.schema.parity_units h.block.schema.cell_size h.block.len (held_in h.shards.now) i

-- which cells of row k are there, and the bytes that they have
abbrev pub there_held : HeldShards → ℕ → ℕ → Bool
there_held h k = there_in h.block.schema h.block.len (held_in h.shards.now) k

abbrev pub bytes_held : HeldShards → ℕ → ℕ → ℕ → ℕ
bytes_held h k = bytes_in h.block.schema h.block.len (held_in h.shards.now) k

-- the block from the shards that are held, or the first row that cannot be made again
abbrev pub RebuiltFrom : HeldShards → Result (List ℕ) RebuildFault → Type 0
RebuiltFrom h answer = Rebuilt h.block.schema h.block.len (held_in h.shards.now) answer

-- whatever block the shards were dealt from, the answer is that block
abbrev pub IsBlockDealt : HeldShards → Result (List ℕ) RebuildFault → Type 0
IsBlockDealt h answer = BlockDealt h.block.schema h.block.len (held_in h.shards.now) answer

-- row k made again in a buffer whose cells are x after the call
abbrev pub RowRebuiltFrom : HeldShards → ℕ → (ℕ → ℕ → ℕ) → Result (Unit {0}) RebuildFault → Type 0
RowRebuiltFrom h k x answer = RowRebuilt h.block.schema h.block.len (held_in h.shards.now) k x answer
