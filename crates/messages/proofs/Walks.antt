-- A walk for embedded messages carries the kind of message that it walks over. Assumes nothing.
use Rattle.std.proofs.Common.{◌≡◌, ℕ, List, [], ◌∷◌, Ok, Err, refl, sym, ap, ◌∙◌, fold}
use Rattle.wire.specs.declared.faults.WireFault.{WireFault}
use Rattle.wire.specs.Readings.{Reading, and_then}
use Rattle.wire.specs.Fields.{Field}
use Rattle.wire.specs.Messages.{fields_that, outcome}
use Rattle.messages.specs.declared.known.Kind.{Kind}
use Rattle.messages.specs.declared.known.Known.{Known}
use Rattle.messages.specs.declared.known.PartsOf.{PartsOf}
use Rattle.messages.specs.declared.known.DeeperOf.{DeeperOf}
use Rattle.messages.specs.Gathering.{gathered}
use Rattle.messages.specs.Kinds.{kind_meant}
use Rattle.messages.specs.Levels.{any_field, with_held, with_inner, with_inner_held, with_deeper, with_parts_of, with_deeper_of}

-- a walk by its state, which folds as the known of it does
same_walk : {W : Type 0} (wrap : Reading Known → W) (known : W → Reading Known) (step : W → Field → W) (add : Known → Field → Reading Known)
    → ((r : Reading Known) (f : Field) → step (wrap r) f ≡ wrap (and_then r (λ s. add s f))) → ((r : Reading Known) → known (wrap r) ≡ r)
    → (r : Reading Known) (fs : List Field) → known (fold step (wrap r) fs) ≡ fold (λ r f. and_then r (λ s. add s f)) r fs
same_walk wrap known step add moves shows r [] = shows r
same_walk wrap known step add moves shows r (f ∷ fs) =
    ap (λ w. known (fold step w fs)) (moves r f) ∙ same_walk wrap known step add moves shows (and_then r (λ s. add s f)) fs

walk_ends : {W : Type 0} (wrap : Reading Known → W) (known : W → Reading Known) (step : W → Field → W) (add : Known → Field → Reading Known)
    → ((r : Reading Known) (f : Field) → step (wrap r) f ≡ wrap (and_then r (λ s. add s f))) → ((r : Reading Known) → known (wrap r) ≡ r)
    → (s : Known) (q : Reading (List Field))
    → and_then (outcome (λ r f. and_then r (λ s. add s f)) Ok Err (Ok s) q) (λ r. r) ≡ and_then (outcome step Ok Err (wrap (Ok s)) q) known
walk_ends wrap known step add moves shows s (Ok fs) = sym (same_walk wrap known step add moves shows (Ok s) fs)
walk_ends wrap known step add moves shows s (Err e) = refl

abbrev parts_of : Kind → Reading Known → PartsOf
parts_of k r = record { kind = k; known = r }

abbrev deeper_of : Kind → Reading Known → DeeperOf
deeper_of k r = record { kind = k; known = r }

parts_by : (s : Known) (k : Kind) (m : List ℕ) (r : Reading PartsOf) → r ≡ gathered any_field with_parts_of (parts_of k (Ok s)) m
    → with_inner s (kind_meant k) m ≡ and_then r (λ w. w.known)
parts_by s k m r h =
    walk_ends (parts_of k) (λ w. w.known) with_parts_of (with_held (kind_meant k)) (λ r f. refl) (λ r. refl) s (fields_that any_field m)
    ∙ ap (λ (r : Reading PartsOf). and_then r (λ w. w.known)) (sym h)

deeper_by : (s : Known) (k : Kind) (m : List ℕ) (r : Reading DeeperOf) → r ≡ gathered any_field with_deeper_of (deeper_of k (Ok s)) m
    → with_deeper s (kind_meant k) m ≡ and_then r (λ w. w.known)
deeper_by s k m r h =
    walk_ends (deeper_of k) (λ w. w.known) with_deeper_of (with_inner_held (kind_meant k)) (λ r f. refl) (λ r. refl) s (fields_that any_field m)
    ∙ ap (λ (r : Reading DeeperOf). and_then r (λ w. w.known)) (sym h)

-- for a function that has walked over all fields
pub parts_done : (s : Known) (k : Kind) (m : List ℕ) (w : PartsOf) → Ok w ≡ gathered any_field with_parts_of (record { kind = k; known = Ok s }) m → w.known ≡ with_inner s (kind_meant k) m
parts_done s k m w h = sym (parts_by s k m (Ok w) h)

pub parts_fault : (s : Known) (k : Kind) (m : List ℕ) (e : WireFault) → Err e ≡ gathered any_field with_parts_of (record { kind = k; known = Ok s }) m → Err e ≡ with_inner s (kind_meant k) m
parts_fault s k m e h = sym (parts_by s k m (Err e) h)

pub deeper_done : (s : Known) (k : Kind) (m : List ℕ) (w : DeeperOf) → Ok w ≡ gathered any_field with_deeper_of (record { kind = k; known = Ok s }) m → w.known ≡ with_deeper s (kind_meant k) m
deeper_done s k m w h = sym (deeper_by s k m (Ok w) h)

pub deeper_fault : (s : Known) (k : Kind) (m : List ℕ) (e : WireFault) → Err e ≡ gathered any_field with_deeper_of (record { kind = k; known = Ok s }) m → Err e ≡ with_deeper s (kind_meant k) m
deeper_fault s k m e h = sym (deeper_by s k m (Err e) h)

pub ruleset walking = (parts_done, parts_fault, deeper_done, deeper_fault)
