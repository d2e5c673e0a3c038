-- The limits of a scheme of d data and p parity cells to a row and s bytes to a cell.
use Rattle.std.specs.Prelude.{ℕ, ◌+◌, Bool, true, ◌&&◌, ◌==◌, nat_le}
use Rattle.policy.specs.declared.codec.Codec.{Codec}
use Rattle.policy.specs.declared.codec.Codec.TheVariants.{Rs, RsLegacy, Xor}

-- xor makes one parity cell, the others any number
abbrev pub parity_for : Codec → ℕ → Bool
parity_for Rs p = true
parity_for RsLegacy p = true
parity_for Xor p = p == 1

abbrev pub within_limits : Codec → ℕ → ℕ → ℕ → Bool
within_limits c d p s = nat_le 1 d && nat_le 1 p && nat_le (d + p) 16 && nat_le 1 s && nat_le s 1048576 && parity_for c p
