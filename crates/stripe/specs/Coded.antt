-- Rows of cells that follow a code, byte by byte. Assumes nothing.
use Rattle.std.specs.Prelude.{◌≡◌, ℕ, ◌+◌, ◌*◌, ◌<◌, ◌≤◌, Bool, true, List, length, ◌≢◌}
use Rattle.algebra.specs.Sums.{count}
use Rattle.algebra.specs.Matrices.{mixed}
use Rattle.algebra.specs.Codes.{Bytes}
use Rattle.field.specs.Models.{gf2, gf256}
use Rattle.codes.specs.Generators.{rs_generator, xor_generator}
use Rattle.matrix.specs.Grids.{grid}
use Rattle.policy.specs.declared.codec.Codec.{Codec}
use Rattle.policy.specs.declared.codec.Codec.TheVariants.{Rs, RsLegacy, Xor}
use Rattle.policy.specs.declared.schema.EcSchema.{EcSchema}

-- byte i of cell r in a row buffer of cells of s bytes
abbrev pub byte_at : ℕ → List ℕ → ℕ → ℕ → ℕ
byte_at s row r i = grid 0 s row r i

-- what a code makes for cell r from d data bytes; of the old codec nothing is known
abbrev pub coded : Codec → ℕ → ℕ → (ℕ → ℕ) → ℕ
coded Rs d r v = mixed gf256 d (rs_generator d r) v
coded Xor d r v = mixed gf2 d (xor_generator d r) v
coded RsLegacy d r v = v r

-- one byte of each of n cells follows the code
abbrev pub FollowsCode : Codec → ℕ → ℕ → (ℕ → ℕ) → Type 0
FollowsCode codec d n v = (r : ℕ) → r < n → v r ≡ coded codec d r v

-- how many cells a row of a scheme has
abbrev pub units : EcSchema → ℕ
units s = s.data_units + s.parity_units

-- a row buffer has room for the cells of a row
abbrev pub RowRoom : EcSchema → List ℕ → Type 0
RowRoom s row = units s * s.cell_size ≤ length row

-- any d of n cells determine the row, for a code that is known
abbrev pub CellsDetermine : Codec → ℕ → ℕ → Type 0
CellsDetermine codec d n =
    (codec ≢ RsLegacy) → (there : ℕ → Bool) → d ≤ count there n → (u v : ℕ → ℕ) → Bytes d u → Bytes d v → FollowsCode codec d n u → FollowsCode codec d n v
    → ((r : ℕ) → r < n → there r ≡ true → u r ≡ v r) → (r : ℕ) → r < n → u r ≡ v r
