-- Sums over the numbers below n. Assumes nothing.
use Rattle.std.specs.Prelude.{Bool, cond, ℕ, zero, suc, ◌+◌}
use Rattle.std.specs.Int.Bits.{bit_xor}
use Rattle.algebra.specs.Fields.{Ops}

-- f 0 + f 1 + .. of n elements
abbrev pub sum : {F : Type 0} → Ops F → ℕ → (ℕ → F) → F
sum K zero f = K.zero
sum K (suc n) f = K.plus (sum K n f) (f n)

-- the xor of n bytes
abbrev pub xors : ℕ → (ℕ → ℕ) → ℕ
xors zero f = 0
xors (suc n) f = bit_xor (xors n f) (f n)

-- how many numbers below n pass a test
abbrev pub count : (ℕ → Bool) → ℕ → ℕ
count f zero = 0
count f (suc n) = count f n + cond (f n) 1 0
