-- A number that is written as a varint is read back. Assumes nothing.
use Rattle.std.proofs.Common.{◌≡◌, ℕ, zero, suc, ◌+◌, ◌*◌, ◌/◌, ◌%◌, ◌^◌, ◌<◌, ◌≤◌, ltb, leb, List, [], ◌∷◌, ◌++◌, length, take, Ok, ap, ◌∙◌, ap₂, inl, inr, arith, length-append}
use Rattle.std.proofs.Math.Seq.{take-append_seam, drop-append_seam}
use Rattle.std.proofs.lemmas.Bool.{lt-ltb, le-ltb, lt-leb, cond-true, cond-false, cases_lt}
use Rattle.wire.specs.Varints.{followed, joined, fitting, varint, varint_of, varint_from, groups_of, varint_bytes}

-- what so many groups of seven bits can say
abbrev pub limit : ℕ → ℕ
limit zero = 1
limit (suc n) = 128 * limit n

-- a number below 128 is one byte, a larger one has its low seven bits before the rest
pub few : (k n : ℕ) → n < 128 → groups_of (suc k) n ≡ n ∷ []
unfolding groups_of
few k n h = cond-true (ltb n 128) _ _ (lt-ltb n 128 h)

pub many : (k n : ℕ) → 128 ≤ n → groups_of (suc k) n ≡ (128 + n % 128) ∷ groups_of k (n / 128)
unfolding groups_of
many k n h = cond-false (ltb n 128) _ _ (le-ltb n 128 h)

followed_one : (n : ℕ) (ys : List ℕ) → n < 128 → followed (n ∷ ys) ≡ 0
followed_one n ys h = cond-true (ltb n 128) _ _ (lt-ltb n 128 h)

followed_top : (b : ℕ) (ys : List ℕ) → 128 ≤ b → followed (b ∷ ys) ≡ followed ys + 1
followed_top b ys h = cond-false (ltb b 128) _ _ (le-ltb b 128 h)

-- all bytes but the last have another after them
groups_followed : (k n : ℕ) (ys : List ℕ) → n < limit (suc k) → followed (groups_of k n ++ ys) + 1 ≡ length (groups_of k n)
unfolding groups_of
groups_followed zero n ys h = omega (arith, followed_one n ys h)
groups_followed (suc k) n ys h =
    elim (cases_lt n 128) [
      | inl l ↦ rw (few k n l) (omega (arith, followed_one n ys l))
      | inr g ↦ rw (many k n g) (omega (arith, followed_top (128 + n % 128) (groups_of k (n / 128) ++ ys) (omega arith), groups_followed k (n / 128) ys (omega arith)))
    ]

groups_joined : (k n : ℕ) → n < limit (suc k) → joined (groups_of k n) ≡ n
unfolding groups_of
groups_joined zero n h = omega arith
groups_joined (suc k) n h =
    elim (cases_lt n 128) [
      | inl l ↦ rw (few k n l) (omega arith)
      | inr g ↦ rw (many k n g) (omega (arith, groups_joined k (n / 128) (omega arith)))
    ]

groups_length : (k n : ℕ) → length (groups_of k n) ≤ suc k
unfolding groups_of
groups_length zero n = omega arith
groups_length (suc k) n =
    elim (cases_lt n 128) [
      | inl l ↦ rw (few k n l) (omega arith)
      | inr g ↦ rw (many k n g) (omega (arith, groups_length k (n / 128)))
    ]

-- the varint of bytes of which all but the last have another after them
varint_of_groups : (at n : ℕ) (gs ys : List ℕ) → followed (gs ++ ys) + 1 ≡ length gs → length gs ≤ 10 → joined gs ≡ n → n < 2 ^ 64
    → varint_of at (gs ++ ys) ≡ Ok (varint n (at + length gs))
varint_of_groups at n gs ys f l j h =
    let number : joined (take (followed (gs ++ ys) + 1) (gs ++ ys)) ≡ n = ap (λ (k : ℕ). joined (take k (gs ++ ys))) f ∙ ap joined (take-append_seam gs ys) ∙ j in
    let end : at + followed (gs ++ ys) + 1 ≡ at + length gs = omega arith in
    cond-false (leb 10 (followed (gs ++ ys))) _ _ (lt-leb 10 (followed (gs ++ ys)) (omega arith))
    ∙ cond-false (leb (length (gs ++ ys)) (followed (gs ++ ys))) _ _ (lt-leb (length (gs ++ ys)) (followed (gs ++ ys)) (omega (arith, length-append gs ys)))
    ∙ ap₂ fitting number end
    ∙ cond-true (ltb n (2 ^ 64)) _ _ (lt-ltb n (2 ^ 64) h)

-- the shortest form of a number
bytes_back : (at n : ℕ) (ys : List ℕ) → n < 2 ^ 64 → varint_of at (varint_bytes n ++ ys) ≡ Ok (varint n (at + length (varint_bytes n)))
unfolding varint_bytes
bytes_back at n ys h =
    let small : n < limit 10 = omega arith in
    varint_of_groups at n (groups_of 9 n) ys (groups_followed 9 n ys small) (groups_length 9 n) (groups_joined 9 n small) h

-- the same anywhere in a message
pub varint_back : (n : ℕ) (xs ys : List ℕ) → n < 2 ^ 64 → varint_from (xs ++ (varint_bytes n ++ ys)) (length xs) ≡ Ok (varint n (length xs + length (varint_bytes n)))
varint_back n xs ys h = ap (varint_of (length xs)) (drop-append_seam xs (varint_bytes n ++ ys)) ∙ bytes_back (length xs) n ys h
