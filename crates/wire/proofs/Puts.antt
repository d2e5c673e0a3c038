-- Varints byte by byte as they are written. Assumes nothing.
use Rattle.std.proofs.Common.{◌≡◌, ℕ, zero, suc, ◌+◌, ◌-◌, ◌/◌, ◌%◌, ◌<◌, ◌≤◌, ◌≢◌, ◌*◌, ◌^◌, List, [], ◌∷◌, ◌++◌, length, take, set, Option, MatchOption, None, Some, sym, refl, ap, ◌∙◌, ap₂, inl, inr, append_assoc, arith, length-append}
use Rattle.std.proofs.lemmas.Bool.{cases_lt}
use Rattle.std.proofs.lemmas.Nat.{shr-shr, shr_le}
use Rattle.std.specs.Option.{unwrap_or}
use Rattle.std.proofs.lemmas.List.{length-take-le, set-append_right, take_all, take_more_set}
use Rattle.wire.specs.Varints.{groups_of, varint_bytes}
use Rattle.wire.proofs.Written.{limit, few, many}

-- the last byte of a number of which some are written
pub groups_last : (k n : ℕ) → n < 128 → groups_of k n ≡ n ∷ []
unfolding groups_of
groups_last zero n h = refl
groups_last (suc k) n h = few k n h

-- a number of which some bytes are written and more than one is left
pub groups_left : (done n : ℕ) → done ≤ 9 → n < limit (10 - done) → 128 ≤ n → done < 9
groups_left done n l h g =
    elim (cases_lt done 9) [
      | inl less ↦ less
      | inr full ↦ let one : 10 - done ≡ 1 = omega arith in absurd (omega (arith, rw one at h))
    ]

pub limit_next : (done n : ℕ) → done < 9 → n < limit (10 - done) → n / 128 < limit (10 - (done + 1))
limit_next done n l h = let more : 10 - done ≡ suc (10 - (done + 1)) = omega arith in omega (arith, rw more at h)

groups_next : (done n : ℕ) → done < 9 → 128 ≤ n → groups_of (9 - done) n ≡ (128 + n % 128) ∷ groups_of (9 - (done + 1)) (n / 128)
groups_next done n l g = let more : 9 - done ≡ suc (9 - (done + 1)) = omega arith in ap (λ (k : ℕ). groups_of k n) more ∙ many (9 - (done + 1)) n g

pub bytes_are : (n : ℕ) → groups_of (9 - 0) n ≡ varint_bytes n
unfolding varint_bytes
bytes_are n = refl

-- how many bytes are left, by what is left
length_last : (k n : ℕ) → n < 128 → length (groups_of k n) ≡ 1
length_last k n h = ap length (groups_last k n h)

-- how many bytes there are, by the bits that so many of them leave
groups_count : (m k n : ℕ) → k ≤ m → n / 2 ^ (7 * k + 7) ≡ 0 → (1 ≤ k → 1 ≤ n / 2 ^ (7 * k)) → length (groups_of m n) ≡ k + 1
groups_count m zero n le none some = length_last m n (omega arith)
groups_count zero (suc k) n le none some = absurd (omega arith)
groups_count (suc m) (suc k) n le none some =
    let bits : 7 * suc k ≡ 7 + 7 * k = omega arith in
    let rest : n / 2 ^ (7 * suc k) ≡ n / 128 / 2 ^ (7 * k) = ap (λ (j : ℕ). n / 2 ^ j) bits ∙ sym (shr-shr n 7 (7 * k)) in
    let all : 7 * suc k + 7 ≡ 7 + (7 * k + 7) = omega arith in
    let past : n / 128 / 2 ^ (7 * k + 7) ≡ 0 = shr-shr n 7 (7 * k + 7) ∙ sym (ap (λ (j : ℕ). n / 2 ^ j) all) ∙ none in
    let more : 1 ≤ n / 128 / 2 ^ (7 * k) = omega (arith, some (omega arith), rest) in
    omega (arith, ap length (many m n (omega (arith, shr_le (n / 128) (7 * k)))), groups_count m k (n / 128) (omega arith) past (λ _. more))

pub count_found : (n : ℕ) (r : Option ℕ) → n < 2 ^ 64
    → MatchOption r ((k : ℕ) → 1 ≤ k → k < 10 → n / 2 ^ (7 * k) ≢ 0) (λ i. (1 ≤ i) × (i < 10) × (n / 2 ^ (7 * i) ≡ 0) × ((k : ℕ) → 1 ≤ k → k < i → n / 2 ^ (7 * k) ≢ 0))
    → unwrap_or r 10 ≡ length (varint_bytes n)
unfolding varint_bytes
count_found n None h all = sym (groups_count 9 9 n (omega arith) (omega arith) (λ l. let some = all 9 l (omega arith) in omega arith))
count_found n (Some zero) h first = absurd (omega (arith, first.0))
count_found n (Some (suc i)) h first =
    let bits : 7 * suc i ≡ 7 * i + 7 = omega arith in
    let none : n / 2 ^ (7 * i + 7) ≡ 0 = sym (ap (λ (j : ℕ). n / 2 ^ j) bits) ∙ first.2 in
    omega (arith, groups_count 9 i n (omega (arith, first.1)) none (λ l. let some = first.3 i l (omega arith) in omega arith))

-- what is left, by how many bytes are left
groups_some : (k n : ℕ) → 1 ≤ length (groups_of k n)
unfolding groups_of
groups_some zero n = omega arith
groups_some (suc k) n =
    elim (cases_lt n 128) [
      | inl l ↦ omega (arith, length_last (suc k) n l)
      | inr g ↦ omega (arith, ap length (many k n g))
    ]

pub more_left : (k n : ℕ) → 1 < length (groups_of k n) → 128 ≤ n
more_left k n h =
    elim (cases_lt n 128) [
      | inl l ↦ absurd (omega (arith, length_last k n l))
      | inr g ↦ g
    ]

one_of : (k n : ℕ) → n < limit (suc k) → length (groups_of k n) ≡ 1 → n < 128
one_of zero n h e = omega arith
one_of (suc k) n h e =
    elim (cases_lt n 128) [
      | inl l ↦ l
      | inr g ↦ absurd (omega (arith, ap length (many k n g), groups_some k (n / 128)))
    ]

pub one_left : (done n : ℕ) → done ≤ 9 → n < limit (10 - done) → length (groups_of (9 - done) n) ≡ 1 → n < 128
one_left done n l h e = let more : 10 - done ≡ suc (9 - done) = omega arith in one_of (9 - done) n (rw more at h) e

pub varint_some : (n : ℕ) → 1 ≤ length (varint_bytes n)
unfolding varint_bytes
varint_some n = groups_some 9 n

pub ruleset putting = (bytes_are, varint_some)

-- how many bytes are left, by how many are written
pub length_left : (xs all : List ℕ) (i n : ℕ) → i ≤ length xs → take i xs ++ groups_of (9 - i) n ≡ all → i + length (groups_of (9 - i) n) ≡ length all
length_left xs all i n h e = omega (arith, ap length e, length-append (take i xs) (groups_of (9 - i) n), length-take-le i xs h)

-- one byte more of those that are written
pub put_next : (xs all : List ℕ) (i n : ℕ) → i < length xs → i < 9 → 128 ≤ n → take i xs ++ groups_of (9 - i) n ≡ all
    → take (i + 1) (set xs i (128 + n % 128)) ++ groups_of (9 - (i + 1)) (n / 128) ≡ all
put_next xs all i n h l g e =
    ap (λ (ys : List ℕ). ys ++ groups_of (9 - (i + 1)) (n / 128)) (take_more_set xs i (128 + n % 128) h)
    ∙ append_assoc (take i xs) ((128 + n % 128) ∷ []) (groups_of (9 - (i + 1)) (n / 128))
    ∙ ap (λ (ys : List ℕ). take i xs ++ ys) (sym (groups_next i n l g))
    ∙ e

-- the last byte, in place of the one that is there
pub put_last : (xs ys all : List ℕ) (i n : ℕ) → length xs ≡ i → length ys ≡ 1 → n < 128 → take i xs ++ groups_of (9 - i) n ≡ all → set (xs ++ ys) i n ≡ all
put_last xs [] all i n h one l e = absurd (omega arith)
put_last xs (y ∷ z ∷ ys) all i n h one l e = absurd (omega arith)
put_last xs (y ∷ []) all i n h one l e =
    let none : i - i ≡ 0 = omega arith in
    set-append_right xs (y ∷ []) i i n h (omega arith)
    ∙ ap (λ (k : ℕ). xs ++ set (y ∷ []) k n) none
    ∙ ap₂ (λ (zs ws : List ℕ). zs ++ ws) (sym (take_all i xs (omega arith))) (sym (groups_last (9 - i) n l))
    ∙ e
