-- Cyclic redundancy checks of 32 bits, bit by bit. The lowest bit of each byte goes first, so the register and the generator
-- polynomial have their bits in reverse order. Assumes nothing.
use Rattle.std.specs.Prelude.{ℕ, zero, suc, ◌+◌, ◌*◌, ◌/◌, ◌%◌, ◌^◌, cond, List, [], ◌∷◌, ◌==◌, bit_xor}

-- the generator polynomial of IEEE 802.3, without its term x^32
abbrev pub ieee : ℕ
ieee = 0x04C11DB7

-- the generator polynomial of RFC 3720, Castagnoli's, without its term x^32
abbrev pub castagnoli : ℕ
castagnoli = 0x1EDC6F41

-- 32 bits that are set
abbrev pub ones : ℕ
ones = 0xFFFFFFFF

-- the n lowest bits of a number in reverse order
unfoldable pub reversed : ℕ → ℕ → ℕ
reversed zero p = 0
reversed (suc n) p = p % 2 * 2 ^ n + reversed n (p / 2)

-- one bit leaves the register r, and where it was set the generator g is taken away
unfoldable pub step : ℕ → ℕ → ℕ
step g r = bit_xor (r / 2) (cond (r % 2 == 1) g 0)

-- n bits leave the register
unfoldable pub steps : ℕ → ℕ → ℕ → ℕ
steps g zero r = r
steps g (suc n) r = steps g n (step g r)

-- the register after more bytes: each is added to the eight lowest bits, and these leave
abbrev pub fed : ℕ → ℕ → List ℕ → ℕ
fed g r [] = r
fed g r (b ∷ bs) = fed g (steps g 8 (bit_xor r b)) bs

-- the checksum of bytes by a polynomial: all bits of the register are set at the beginning and turned at the end
unfoldable pub crc_of : ℕ → List ℕ → ℕ
crc_of p bs = bit_xor (fed (reversed 32 p) ones bs) ones
