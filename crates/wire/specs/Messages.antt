-- All fields of a message, in order. Assumes nothing.
use Rattle.std.specs.Prelude.{ℕ, zero, suc, ◌-◌, Bool, true, cond, List, [], ◌∷◌, length, Ok, Err, fold, nat_lt}
use Rattle.wire.specs.declared.faults.WireFault.{WireFault}
use Rattle.wire.specs.declared.faults.WireFault.TheVariants.{Malformed}
use Rattle.wire.specs.Readings.{Reading, and_then}
use Rattle.wire.specs.Fields.{Field, Found, field_at}

-- a field and those after it; one that is read and does not fit the kind of message is malformed
abbrev pub before : (Field → Bool) → (ℕ → Reading (List Field)) → Found → Reading (List Field)
before fits after f = cond (fits f.field) (and_then (after f.next) (λ fs. Ok (f.field ∷ fs))) (Err Malformed)

-- the fields from a place on, at most so many
abbrev pub fields_in : (Field → Bool) → ℕ → List ℕ → ℕ → Reading (List Field)
fields_in fits zero m at = Ok []
fields_in fits (suc n) m at = cond (nat_lt at (length m)) (and_then (field_at m at) (before fits (fields_in fits n m))) (Ok [])

-- the fields from a place to the message's end: there are no more of them than bytes
abbrev pub fields_from : (Field → Bool) → List ℕ → ℕ → Reading (List Field)
fields_from fits m at = fields_in fits (length m - at) m at

-- the fields of a message that all have to fit; the first fault decides
abbrev pub fields_that : (Field → Bool) → List ℕ → Reading (List Field)
fields_that fits m = fields_from fits m 0

-- the fields of any message
abbrev pub fields_of : List ℕ → Reading (List Field)
fields_of m = fields_that (λ f. true) m

-- what comes of the fields: each moves a state on, and the last state or the fault decides
abbrev pub outcome : {S R : Type 0} → (S → Field → S) → (S → R) → (WireFault → R) → S → Reading (List Field) → R
outcome step close fail s (Ok fs) = close (fold step s fs)
outcome step close fail s (Err e) = fail e
