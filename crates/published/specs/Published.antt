-- The published values, as one list over the definitions. Assumes nothing.
use Rattle.std.specs.Prelude.{◌≡◌, ℕ, ◌+◌, [], ◌∷◌, map, codes}
use Rattle.crcmath.specs.Registers.{ieee, castagnoli, crc_of}
use Rattle.dealing.specs.Places.{row_bytes, shard_len, part_len}
use Rattle.policy.specs.declared.codec.Codec.TheVariants.{Rs}
use Rattle.stripe.specs.Coded.{coded}

-- one byte of three cells: 1, 2 and 3
abbrev pub one_two_three : ℕ → ℕ
one_two_three c = c + 1

pub record PublishedValues : Type 0 where
  pub parity : coded Rs 3 3 one_two_three ∷ coded Rs 3 4 one_two_three ∷ [] ≡ 0xF6 ∷ 0x9A ∷ []
  pub shards : map (shard_len 3 2 4 30) (0 ∷ 1 ∷ 2 ∷ 3 ∷ 4 ∷ []) ≡ 12 ∷ 10 ∷ 8 ∷ 12 ∷ 12 ∷ []
  pub handed_out : map (λ k. part_len (row_bytes 3 4) k 5 20) (0 ∷ 1 ∷ 2 ∷ []) ≡ 7 ∷ 12 ∷ 1 ∷ []
  pub checksums : crc_of ieee (codes "123456789") ∷ crc_of castagnoli (codes "123456789") ∷ [] ≡ 0xCBF43926 ∷ 0xE3069283 ∷ []

-- how many values the list has
abbrev pub count_of : ℕ
count_of = 2 + 5 + 3 + 2
