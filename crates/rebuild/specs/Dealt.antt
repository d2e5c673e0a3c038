-- Shards that were dealt from a block, and an answer that is that block. Assumes nothing.
use Rattle.std.specs.Prelude.{◌≡◌, ℕ, ◌+◌, ◌*◌, ◌/◌, ◌%◌, ◌<◌, ◌≤◌, List, length, Some, Ok, Err, Option, Result, ◌≢◌, slice_index}
use Rattle.policy.specs.declared.codec.Codec.{Codec}
use Rattle.policy.specs.declared.codec.Codec.TheVariants.{RsLegacy}
use Rattle.policy.specs.declared.schema.EcSchema.{EcSchema}
use Rattle.stripe.specs.Coded.{coded}
use Rattle.dealing.specs.Dealt.{shard_bytes, cell_bytes}
use Rattle.rebuild.specs.declared.fault.RebuildFault.{RebuildFault}
use Rattle.rebuild.specs.Held.{whole_at}

-- the block has bytes alone
abbrev pub AllBytes : List ℕ → Type 0
AllBytes block = (b : ℕ) → b < length block → slice_index block b < 256

-- what the code makes for place o of parity shard i: from the bytes at that place in the data cells of its row
abbrev pub parity_byte : Codec → ℕ → ℕ → List ℕ → ℕ → ℕ → ℕ
parity_byte codec d s block i o = coded codec d i (λ c. slice_index (cell_bytes s block (o / s * d + c)) (o % s))

-- shard i of the block has these bytes; of parity by the old codec nothing is known
pub record DealtShard (codec : Codec) (d s : ℕ) (block : List ℕ) (i : ℕ) (bytes : List ℕ) : Type 0 where
  pub data_shard : i < d → bytes ≡ shard_bytes d s block i
  pub parity_shard : d ≤ i → (codec ≢ RsLegacy) → (o : ℕ) → o < length bytes → slice_index bytes o ≡ parity_byte codec d s block i o

-- each shard that is held whole was dealt from the block
abbrev pub HeldDealt : Codec → ℕ → ℕ → ℕ → (ℕ → Option (List ℕ)) → List ℕ → Type 0
HeldDealt codec d p s held block = (i : ℕ) (bytes : List ℕ) → i < d + p → whole_at d p s (length block) held i ≡ Some bytes → DealtShard codec d s block i bytes

-- whatever block the shards were dealt from, the answer is that block
abbrev pub BlockDealt : EcSchema → ℕ → (ℕ → Option (List ℕ)) → Result (List ℕ) RebuildFault → Type 0
BlockDealt e n held (Ok bytes) =
    (block : List ℕ) → length block ≡ n → AllBytes block → HeldDealt e.codec e.data_units e.parity_units e.cell_size held block → bytes ≡ block
BlockDealt e n held (Err f) = Unit {0}
