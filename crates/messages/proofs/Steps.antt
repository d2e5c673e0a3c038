-- What is known of a message, field after field, for any kind of message. Assumes nothing.
use Rattle.std.proofs.Common.{◌≡◌, ℕ, ◌<◌, ◌≤◌, Bool, true, false, cond, List, length, Ok, Err, sym, refl, ap, ◌∙◌, arith}
use Rattle.wire.specs.declared.faults.WireFault.{WireFault}
use Rattle.wire.specs.declared.faults.WireFault.TheVariants.{Malformed}
use Rattle.wire.specs.Readings.{Reading}
use Rattle.wire.specs.Fields.{Field, found, field_at}
use Rattle.wire.specs.Messages.{fields_from, outcome}
use Rattle.wire.proofs.Loops.{outcome_end, outcome_fault, outcome_unfit, outcome_step}
use Rattle.messages.specs.Gathering.{taken, gathered}

-- what comes of a message of which the fields before a place are read; kept shut, so that the lemmas are found by it
pub gathered_from : {S : Type 0} → (Field → Bool) → (S → Field → S) → S → List ℕ → ℕ → Reading S
gathered_from fits step s m at = outcome step Ok Err s (fields_from fits m at)

pub from_start : {S : Type 0} (fits : Field → Bool) (step : S → Field → S) (s : S) (m : List ℕ) → gathered_from fits step s m 0 ≡ gathered fits step s m
unfolding gathered_from
from_start fits step s m = refl

pub from_end : {S : Type 0} (fits : Field → Bool) (step : S → Field → S) (s : S) (m : List ℕ) (at : ℕ) → length m ≤ at → gathered_from fits step s m at ≡ Ok s
unfolding gathered_from
from_end fits step s m at h = outcome_end fits step Ok Err s m at h

pub from_fault : {S : Type 0} (fits : Field → Bool) (step : S → Field → S) (s : S) (m : List ℕ) (at : ℕ) (e : WireFault)
    → at < length m → Err e ≡ field_at m at → gathered_from fits step s m at ≡ Err e
unfolding gathered_from
from_fault fits step s m at e h q = outcome_fault fits step Ok Err s m at e h q

-- a field that is taken fits, and one that is not does not
step_by : {S : Type 0} (fits : Field → Bool) (step : S → Field → S) (s t : S) (m : List ℕ) (at : ℕ) (f : Field) (next : ℕ) (b : Bool)
    → at < length m → Ok (found f next) ≡ field_at m at → b ≡ fits f → Ok t ≡ cond b (Ok (step s f)) (Err Malformed) → gathered_from fits step s m at ≡ gathered_from fits step t m next
unfolding gathered_from
step_by fits step s t m at f next true h q e k =
    let u : step s f ≡ t = cc in outcome_step fits step Ok Err s m at f next h q e ∙ ap (λ t. outcome step Ok Err t (fields_from fits m next)) u
step_by fits step s t m at f next false h q e k = let u : ◌≡◌ {A = ℕ} 0 1 = cc in absurd (omega (arith, u))

unfit_by : {S : Type 0} (fits : Field → Bool) (step : S → Field → S) (s : S) (m : List ℕ) (at : ℕ) (f : Field) (next : ℕ) (e : WireFault) (b : Bool)
    → at < length m → Ok (found f next) ≡ field_at m at → b ≡ fits f → Err e ≡ cond b (Ok (step s f)) (Err Malformed) → gathered_from fits step s m at ≡ Err e
unfolding gathered_from
unfit_by fits step s m at f next e true h q u k = let u : ◌≡◌ {A = ℕ} 0 1 = cc in absurd (omega (arith, u))
unfit_by fits step s m at f next e false h q u k = outcome_unfit fits step Ok Err s m at f next h q u ∙ sym k

pub from_step : {S : Type 0} (fits : Field → Bool) (step : S → Field → S) (s t : S) (m : List ℕ) (at : ℕ) (f : Field) (next : ℕ)
    → at < length m → Ok (found f next) ≡ field_at m at → Ok t ≡ taken fits step s f → gathered_from fits step s m at ≡ gathered_from fits step t m next
from_step fits step s t m at f next h q k = step_by fits step s t m at f next (fits f) h q refl k

pub from_unfit : {S : Type 0} (fits : Field → Bool) (step : S → Field → S) (s : S) (m : List ℕ) (at : ℕ) (f : Field) (next : ℕ) (e : WireFault)
    → at < length m → Ok (found f next) ≡ field_at m at → Err e ≡ taken fits step s f → gathered_from fits step s m at ≡ Err e
from_unfit fits step s m at f next e h q k = unfit_by fits step s m at f next e (fits f) h q refl k

pub ruleset gathering = (from_start, from_end, from_fault, from_step, from_unfit)
