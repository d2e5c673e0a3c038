-- What is known of a message field by field. Assumes nothing.
use Rattle.std.specs.Prelude.{ℕ, Bool, cond, List, Ok, Err}
use Rattle.wire.specs.declared.faults.WireFault.TheVariants.{Malformed}
use Rattle.wire.specs.Readings.{Reading}
use Rattle.wire.specs.Fields.{Field}
use Rattle.wire.specs.Messages.{fields_that, outcome}

-- what is known after one field more, if it fits
abbrev pub taken : {S : Type 0} → (Field → Bool) → (S → Field → S) → S → Field → Reading S
taken fits step s f = cond (fits f) (Ok (step s f)) (Err Malformed)

-- what is known after all fields of a message
abbrev pub gathered : {S : Type 0} → (Field → Bool) → (S → Field → S) → S → List ℕ → Reading S
gathered fits step s m = outcome step Ok Err s (fields_that fits m)
