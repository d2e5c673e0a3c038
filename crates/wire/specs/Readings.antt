-- What comes of reading bytes: a value, or the first fault. Assumes nothing.
use Rattle.std.specs.Prelude.{Ok, Err, Result}
use Rattle.wire.specs.declared.faults.WireFault.{WireFault}

abbrev pub Reading : Type 0 → Type 0
Reading A = Result A WireFault

-- one reading after another, as long as there is no fault
abbrev pub and_then : {A B : Type 0} → Reading A → (A → Reading B) → Reading B
and_then (Ok a) f = f a
and_then (Err e) f = Err e

-- the value of a reading as a function shows it
abbrev pub seen : {A B : Type 0} → (A → B) → Reading A → Reading B
seen f (Ok a) = Ok (f a)
seen f (Err e) = Err e
