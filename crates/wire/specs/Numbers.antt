-- Numbers of fixed width, and what kinds of fields make of a varint. Assumes nothing.
use Rattle.std.specs.Prelude.{ℕ, ◌+◌, ◌*◌, ◌%◌, ◌^◌, Bool, not, List, [], ◌∷◌, ◌==◌}

-- the number of bytes, the lowest first
abbrev pub little : List ℕ → ℕ
little [] = 0
little (b ∷ bs) = b + 256 * little bs

-- a field of 32 bits takes the low 32 bits of a varint; a negative number stays as its two's complement
abbrev pub low32 : ℕ → ℕ
low32 n = n % 2 ^ 32

-- a field of type bool is true if its varint is anything but 0
abbrev pub truth : ℕ → Bool
truth n = not (n == 0)
