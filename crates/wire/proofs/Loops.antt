-- A message field by field: what the fields from a place on come to, and what they come to after one more. Assumes nothing.
use Rattle.std.proofs.Common.{◌≡◌, ℕ, zero, suc, ◌+◌, ◌-◌, ◌<◌, ◌≤◌, Bool, true, false, cond, ltb, List, [], ◌∷◌, length, IfOk, Ok, Err, sym, refl, ap, ◌∙◌, arith}
use Rattle.std.proofs.lemmas.Bool.{lt-ltb, le-ltb, cond-true, cond-false}
use Rattle.wire.specs.declared.faults.WireFault.{WireFault}
use Rattle.wire.specs.declared.faults.WireFault.TheVariants.{Malformed}
use Rattle.wire.specs.Readings.{Reading, and_then}
use Rattle.wire.specs.Fields.{Field, Found, found, field_at}
use Rattle.wire.specs.Messages.{before, fields_in, fields_from, outcome}
use Rattle.wire.proofs.Ends.{field_within}

-- with no byte left there is no field
in_end : (fits : Field → Bool) (n : ℕ) (m : List ℕ) (at : ℕ) → length m ≤ at → fields_in fits n m at ≡ Ok []
in_end fits zero m at h = refl
in_end fits (suc n) m at h = cond-false (ltb at (length m)) _ _ (le-ltb at (length m) h)

-- two ways to go on that agree past a place agree after a field that ends there
then_same : (fits : Field → Bool) (m : List ℕ) (at : ℕ) (a b : ℕ → Reading (List Field)) (r : Reading Found)
    → IfOk r (λ f. (at < f.next) × (f.next ≤ length m)) → ((next : ℕ) → at < next → a next ≡ b next)
    → and_then r (before fits a) ≡ and_then r (before fits b)
then_same fits m at a b (Ok f) h same = ap (λ (x : Reading (List Field)). cond (fits f.field) (and_then x (λ fs. Ok (f.field ∷ fs))) (Err Malformed)) (same f.next h.0)
then_same fits m at a b (Err e) h same = refl

-- a bound on how many fields there are says nothing, once it reaches to the message's end
in_enough : (fits : Field → Bool) (n k : ℕ) (m : List ℕ) (at : ℕ) → length m ≤ at + n → length m ≤ at + k → fields_in fits n m at ≡ fields_in fits k m at
in_enough fits zero k m at h l = sym (in_end fits k m at (omega arith))
in_enough fits (suc n) zero m at h l = in_end fits (suc n) m at (omega arith)
in_enough fits (suc n) (suc k) m at h l =
    ap (λ (x : Reading (List Field)). cond (ltb at (length m)) x (Ok []))
    (then_same fits m at (fields_in fits n m) (fields_in fits k m) (field_at m at) (field_within m at) (λ next p. in_enough fits n k m next (omega arith) (omega arith)))

-- the fields from a place on, with no bound: none at the end, else the one at the place and those after it
pub fields_end : (fits : Field → Bool) (m : List ℕ) (at : ℕ) → length m ≤ at → fields_from fits m at ≡ Ok []
fields_end fits m at h = in_end fits (length m - at) m at h

pub fields_more : (fits : Field → Bool) (m : List ℕ) (at : ℕ) → at < length m → fields_from fits m at ≡ and_then (field_at m at) (before fits (fields_from fits m))
fields_more fits m at h =
    in_enough fits (length m - at) (suc (length m)) m at (omega arith) (omega arith)
    ∙ cond-true (ltb at (length m)) _ _ (lt-ltb at (length m) h)
    ∙ then_same fits m at (fields_in fits (length m) m) (fields_from fits m) (field_at m at) (field_within m at) (λ next p. in_enough fits (length m) (length m - next) m next (omega arith) (omega arith))

-- For a loop over a message that holds what it has read in a state s and stands at a place: what is left gives the answer.
pub outcome_end : {S R : Type 0} (fits : Field → Bool) (step : S → Field → S) (close : S → R) (fail : WireFault → R) (s : S) (m : List ℕ) (at : ℕ)
    → length m ≤ at → outcome step close fail s (fields_from fits m at) ≡ close s
outcome_end fits step close fail s m at h = ap (outcome step close fail s) (fields_end fits m at h)

outcome_more : {S R : Type 0} (fits : Field → Bool) (step : S → Field → S) (close : S → R) (fail : WireFault → R) (s : S) (m : List ℕ) (at : ℕ) (r : Reading Found)
    → at < length m → r ≡ field_at m at → outcome step close fail s (fields_from fits m at) ≡ outcome step close fail s (and_then r (before fits (fields_from fits m)))
outcome_more fits step close fail s m at r h e =
    ap (outcome step close fail s) (fields_more fits m at h ∙ ap (λ (r : Reading Found). and_then r (before fits (fields_from fits m))) (sym e))

pub outcome_fault : {S R : Type 0} (fits : Field → Bool) (step : S → Field → S) (close : S → R) (fail : WireFault → R) (s : S) (m : List ℕ) (at : ℕ) (e : WireFault)
    → at < length m → Err e ≡ field_at m at → outcome step close fail s (fields_from fits m at) ≡ fail e
outcome_fault fits step close fail s m at e h q = outcome_more fits step close fail s m at (Err e) h q

pub outcome_unfit : {S R : Type 0} (fits : Field → Bool) (step : S → Field → S) (close : S → R) (fail : WireFault → R) (s : S) (m : List ℕ) (at : ℕ) (f : Field) (next : ℕ)
    → at < length m → Ok (found f next) ≡ field_at m at → false ≡ fits f → outcome step close fail s (fields_from fits m at) ≡ fail Malformed
outcome_unfit fits step close fail s m at f next h q b =
    outcome_more fits step close fail s m at (Ok (found f next)) h q
    ∙ ap (outcome step close fail s) (cond-false (fits f) (and_then (fields_from fits m next) (λ fs. Ok (f ∷ fs))) (Err Malformed) (sym b))

after_one : {S R : Type 0} (step : S → Field → S) (close : S → R) (fail : WireFault → R) (s : S) (f : Field) (r : Reading (List Field))
    → outcome step close fail s (and_then r (λ fs. Ok (f ∷ fs))) ≡ outcome step close fail (step s f) r
after_one step close fail s f (Ok fs) = refl
after_one step close fail s f (Err e) = refl

pub outcome_step : {S R : Type 0} (fits : Field → Bool) (step : S → Field → S) (close : S → R) (fail : WireFault → R) (s : S) (m : List ℕ) (at : ℕ) (f : Field) (next : ℕ)
    → at < length m → Ok (found f next) ≡ field_at m at → true ≡ fits f
    → outcome step close fail s (fields_from fits m at) ≡ outcome step close fail (step s f) (fields_from fits m next)
outcome_step fits step close fail s m at f next h q b =
    outcome_more fits step close fail s m at (Ok (found f next)) h q
    ∙ ap (outcome step close fail s) (cond-true (fits f) (and_then (fields_from fits m next) (λ fs. Ok (f ∷ fs))) (Err Malformed) (sym b))
    ∙ after_one step close fail s f (fields_from fits m next)
