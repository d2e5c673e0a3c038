-- What asking for a generator matrix answers, and what it leaves in the buffer. Assumes nothing.
use Rattle.std.specs.Prelude.{◌≡◌, ℕ, ◌*◌, ◌<◌, ◌≤◌, List, length, drop, Ok, Err, Result}
use Rattle.algebra.specs.Fields.{Ops}
use Rattle.algebra.specs.Codes.{Invertible}
use Rattle.matrix.specs.Grids.{grid}
use Rattle.codes.specs.declared.fault.GeneratorFault.{GeneratorFault}
use Rattle.codes.specs.declared.fault.GeneratorFault.TheVariants.{Limit, Sides}

-- a matrix g of n rows and d columns where these are permitted, the buffer before and then after the call, by its answer
abbrev pub Laid : {F : Type 0} → Ops F → Type 0 → ℕ → ℕ → (ℕ → ℕ → F) → List F → List F → Result (Unit {0}) GeneratorFault → Type 0
Laid K permitted d n g out out' (Ok u) =
    permitted
    × (n * d ≤ length out)
    × ((r c : ℕ) → r < n → c < d → grid K.zero d out' r c ≡ g r c)
    × Invertible K d n (grid K.zero d out')
    × (drop (n * d) out' ≡ drop (n * d) out)
Laid K permitted d n g out out' (Err Limit) = (permitted → ⊥) × (out' ≡ out)
Laid K permitted d n g out out' (Err Sides) = permitted × (n * d ≤ length out → ⊥) × (out' ≡ out)
