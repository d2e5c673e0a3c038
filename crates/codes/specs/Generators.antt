-- The generator matrices of the codes. Assumes nothing.
use Rattle.std.specs.Prelude.{◌≡◌, ℕ, ◌+◌, ◌%◌, ◌<◌, ◌≤◌, bit_xor}
use Rattle.std.proofs.Common.{mod-lt, lit<}
use Rattle.algebra.specs.Fields.{Ops}
use Rattle.algebra.specs.Matrices.{identity}
use Rattle.algebra.specs.Codes.{generator}
use Rattle.field.specs.declared.gf2.Gf2.{Gf2}
use Rattle.field.specs.declared.gf256.Gf256.{Gf256}
use Rattle.field.specs.Models.{gf2, gf256}

-- how many data units d and parity units p a row may have
pub record Permitted (d p : ℕ) : Type 0 where
  pub some_data : 1 ≤ d
  pub some_parity : 1 ≤ p
  pub narrow : d + p ≤ 16

-- the first d rows of a matrix are the identity
abbrev pub Systematic : {F : Type 0} → Ops F → ℕ → (ℕ → ℕ → F) → Type 0
Systematic K d m = (r c : ℕ) → r < d → m r c ≡ identity K r c

-- the element of a number
abbrev pub element : ℕ → Gf256
element n = record { value = n % 256; byte = mod-lt n (lit< tt) }

-- rs: below the identity the inverse of the element r xor c
abbrev pub rs_part : ℕ → ℕ → Gf256
rs_part r c = gf256.inverse (element (bit_xor r c))

abbrev pub rs_generator : ℕ → ℕ → ℕ → Gf256
rs_generator d = generator gf256 d rs_part

-- xor: below the identity ones
abbrev pub xor_part : ℕ → ℕ → Gf2
xor_part r c = gf2.one

abbrev pub xor_generator : ℕ → ℕ → ℕ → Gf2
xor_generator d = generator gf2 d xor_part
