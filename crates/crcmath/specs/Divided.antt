-- A checksum as the remainder of a division. Numbers stand for polynomials over the two elements with the lowest bit for the
-- highest power, as in a message whose lowest bits go first. Assumes nothing.
use Rattle.std.specs.Prelude.{◌≡◌, ℕ, ◌+◌, ◌*◌, ◌^◌, ◌<◌, List, [], ◌∷◌, length, bit_xor}
use Rattle.gfmath.specs.Polynomials.{carryless}
use Rattle.crcmath.specs.Registers.{ones, reversed}

-- the bits of a message, those of its first byte lowest
abbrev pub message : List ℕ → ℕ
message [] = 0
message (b ∷ bs) = bit_xor b (message bs * 256)

-- the generator polynomial x^32 + p
abbrev pub whole : ℕ → ℕ
whole p = reversed 33 (2 ^ 32 + p)

-- what division by f of m, of n bits and 32 more, leaves: m is a multiple of f and r, which takes the last 32 bits
pub record Leaves (f n m r : ℕ) : Type 0 where
  pub quotient : ℕ
  pub small : quotient < 2 ^ n
  pub divided : m ≡ bit_xor (carryless n f quotient) (r * 2 ^ n)
  pub short : r < 2 ^ 32

-- the checksum of a message: 32 zeros go after it, its first 32 bits are turned, and what division leaves is turned
abbrev pub Divides : ℕ → List ℕ → ℕ → Type 0
Divides p bs sum = Leaves (whole p) (8 * length bs) (bit_xor (message bs) ones) (bit_xor sum ones)
