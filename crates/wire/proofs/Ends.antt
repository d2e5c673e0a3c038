-- What is read ends after its place and inside the message. Assumes nothing.
use Rattle.std.proofs.Common.{◌≡◌, ℕ, ◌+◌, ◌%◌, ◌^◌, ◌<◌, ◌≤◌, eqb, ltb, leb, List, length, take, drop, IfOk, Ok, Err, arith, length-drop}
use Rattle.std.proofs.lemmas.Result.{IfOk-at_ok}
use Rattle.std.proofs.lemmas.Bool.{leb-true, leb-false, cond_both}
use Rattle.wire.specs.declared.varints.Varint.{Varint}
use Rattle.wire.specs.Readings.{Reading, and_then}
use Rattle.wire.specs.Varints.{followed, joined, varint_from}
use Rattle.wire.specs.Fields.{Reached, Found, bytes_at, value_at, bad_key, field_at}

made_then : {X Y : Type 0} (r : Reading X) (f : X → Reading Y) (P : X → Type 0) (Q : Y → Type 0)
    → IfOk r P → ((x : X) → P x → IfOk (f x) Q) → IfOk (and_then r f) Q
made_then (Ok x) f P Q h k = k x h
made_then (Err e) f P Q h k = tt

-- a place after another, and inside a message
abbrev Past : List ℕ → ℕ → ℕ → Type 0
Past m at next = (at < next) × (next ≤ length m)

varint_within : (m : List ℕ) (at : ℕ) → IfOk (varint_from m at) (λ v. Past m at v.next)
varint_within m at =
    let P : Reading Varint → Type 0 = λ r. IfOk r (λ v. Past m at v.next) in
    cond_both (leb 10 (followed (drop at m))) _ _ P (λ _. tt)
    (λ _. cond_both (leb (length (drop at m)) (followed (drop at m))) _ _ P (λ _. tt)
    (λ e. cond_both (ltb (joined (take (followed (drop at m) + 1) (drop at m))) (2 ^ 64)) _ _ P
    (λ _. (omega arith, omega (arith, leb-false (length (drop at m)) (followed (drop at m)) e, length-drop at m))) (λ _. tt)))

bytes_within : (m : List ℕ) (at n : ℕ) → IfOk (bytes_at m at n) (λ _. at + n ≤ length m)
bytes_within m at n = cond_both (leb (at + n) (length m)) _ _ (λ (r : Reading (List ℕ)). IfOk r (λ _. at + n ≤ length m)) (λ e. leb-true (at + n) (length m) e) (λ _. tt)

value_within : (m : List ℕ) (type at : ℕ) → IfOk (value_at m type at) (λ v. Past m at v.next)
value_within m type at =
    let P : Reading Reached → Type 0 = λ r. IfOk r (λ v. Past m at v.next) in
    cond_both (eqb type 0) _ _ P (λ _. made_then (varint_from m at) _ (λ v. Past m at v.next) (λ v. Past m at v.next) (varint_within m at) (λ v h. h))
    (λ _. cond_both (eqb type 1) _ _ P (λ _. made_then (bytes_at m at 8) _ (λ _. at + 8 ≤ length m) (λ v. Past m at v.next) (bytes_within m at 8) (λ v h. (omega arith, h)))
    (λ _. cond_both (eqb type 2) _ _ P
    (λ _. made_then (varint_from m at) _ (λ v. Past m at v.next) (λ v. Past m at v.next) (varint_within m at)
    (λ v h. made_then (bytes_at m v.next v.value) _ (λ _. v.next + v.value ≤ length m) (λ w. Past m at w.next) (bytes_within m v.next v.value) (λ _ k. (omega arith, k))))
    (λ _. cond_both (eqb type 5) _ _ P (λ _. made_then (bytes_at m at 4) _ (λ _. at + 4 ≤ length m) (λ v. Past m at v.next) (bytes_within m at 4) (λ v h. (omega arith, h))) (λ _. tt))))

pub field_within : (m : List ℕ) (at : ℕ) → IfOk (field_at m at) (λ f. Past m at f.next)
unfolding field_at
field_within m at =
    made_then (varint_from m at) _ (λ v. Past m at v.next) (λ f. Past m at f.next) (varint_within m at)
    (λ k h. cond_both (bad_key k.value) _ _ (λ (r : Reading Found). IfOk r (λ f. Past m at f.next)) (λ _. tt)
    (λ _. made_then (value_at m (k.value % 8) k.next) _ (λ v. Past m k.next v.next) (λ f. Past m at f.next) (value_within m (k.value % 8) k.next) (λ v i. (omega arith, omega arith))))

-- a field that is read moves on
pub varint_ends : (m : List ℕ) (at : ℕ) (v : Varint) → varint_from m at ≡ Ok v → (at < v.next) × (v.next ≤ length m)
varint_ends m at v e = IfOk-at_ok (λ v. Past m at v.next) e (varint_within m at)

pub field_ends : (m : List ℕ) (at : ℕ) (f : Found) → field_at m at ≡ Ok f → (at < f.next) × (f.next ≤ length m)
field_ends m at f e = IfOk-at_ok (λ f. Past m at f.next) e (field_within m at)
