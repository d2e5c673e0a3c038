-- The checksum of bytes, for each kind. Assumes nothing.
use Rattle.std.specs.Prelude.{ℕ, ◌<◌, ◌≡◌, List, get_or}
use Rattle.crcmath.specs.Registers.{ieee, castagnoli, ones, reversed, steps, fed, crc_of}
use Rattle.checksum.specs.declared.kind.Checksum.{Checksum}
use Rattle.checksum.specs.declared.kind.Checksum.TheVariants.{Crc32, Crc32c}

-- the generator polynomial of each kind, as its document writes it
abbrev pub polynomial : Checksum → ℕ
polynomial Crc32 = ieee
polynomial Crc32c = castagnoli

-- the same with its bits in reverse order
abbrev pub generator : Checksum → ℕ
generator kind = reversed 32 (polynomial kind)

-- a table of a generator, in which each byte stands as what it becomes when its eight bits leave
abbrev pub IsTableOf : ℕ → List ℕ → Type 0
IsTableOf g table = (b : ℕ) → b < 256 → get_or table b 0 ≡ steps g 8 b

-- the register after bytes, from its beginning on
abbrev pub register_of : Checksum → List ℕ → ℕ
register_of kind bs = fed (generator kind) ones bs

-- the checksum of bytes
abbrev pub sum_of : Checksum → List ℕ → ℕ
sum_of kind bs = crc_of (polynomial kind) bs
