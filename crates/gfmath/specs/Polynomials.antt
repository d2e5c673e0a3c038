-- Polynomials over the two elements as numbers, bit i standing for x ^ i: their product without carries, the remainder by
-- 0x11D = x^8 + x^4 + x^3 + x^2 + 1, and from these the product of the field of 256 elements. Assumes nothing.
use Rattle.std.specs.Prelude.{◌≡◌, ℕ, zero, suc, ◌+◌, ◌*◌, ◌/◌, ◌%◌, ◌^◌, ◌<◌, Bool, cond, ◌==◌, bit_xor}

-- whether bit i of n is set
abbrev pub bit : ℕ → ℕ → Bool
bit i n = n / 2 ^ i % 2 == 1

-- the product without carries of a and the n lowest bits of b: for each that is set, a shifted as far
unfoldable pub carryless : ℕ → ℕ → ℕ → ℕ
carryless zero a b = 0
carryless (suc n) a b = bit_xor (carryless n a b) (cond (bit n b) (a * 2 ^ n) 0)

-- bit 8 + k is cleared by taking 0x11D, shifted by k, away
abbrev pub cleared : ℕ → ℕ → ℕ
cleared k n = bit_xor n (cond (bit (8 + k) n) (0x11D * 2 ^ k) 0)

-- the remainder by 0x11D of a polynomial of 8 + k bits: long division, the highest bit first
unfoldable pub remainder : ℕ → ℕ → ℕ
remainder zero n = n
remainder (suc k) n = remainder k (cleared k n)

-- the product of two elements: two bytes make a polynomial of 15 bits
unfoldable pub product : ℕ → ℕ → ℕ
product a b = remainder 7 (carryless 8 a b)

-- a ^ 1 * a ^ 2 * a ^ 4 * .., n factors
unfoldable pub powers : ℕ → ℕ → ℕ
powers zero a = 1
powers (suc n) a = product a (powers n (product a a))

-- a ^ 254 = a ^ 2 * a ^ 4 * .. * a ^ 128: the inverse of a, since a ^ 255 is 1 for every a but 0
unfoldable pub inverse_of : ℕ → ℕ
inverse_of a = powers 7 (product a a)

-- r is what division of n by 0x11D leaves: n is a multiple of it and r, and r is a byte
pub record LeftBy (n r : ℕ) : Type 0 where
  pub quotient : ℕ
  pub small : quotient < 256
  pub divided : n ≡ bit_xor (carryless 8 0x11D quotient) r
  pub byte : r < 256
