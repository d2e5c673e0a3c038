-- Varints byte by byte. Assumes nothing.
use Rattle.std.proofs.Common.{◌≡◌, ℕ, zero, suc, ◌+◌, ◌*◌, ◌%◌, ◌<◌, ◌≤◌, min, ltb, leb, List, [], ◌∷◌, take, drop, Err, ap, ◌∙◌, refl, sym, arith, length-drop, inl, inr}
use Rattle.std.specs.List.{prefix_len, push}
use Rattle.std.proofs.lemmas.Bool.Decides.{nat_tests}
use Rattle.std.proofs.lemmas.Bool.{lt-ltb, le-ltb, lt-leb, le-leb, cond-true, cond-false, cases_lt}
use Rattle.wire.specs.Varints.{followed, joined, fitting, varint_from}
use Rattle.wire.specs.Fields.{bytes_at}
use Rattle.wire.specs.Readings.{and_then}
use Rattle.wire.specs.declared.faults.WireFault.TheVariants.{Malformed}

-- the bytes at the front that have another after them, counted up to so many
pub followed_front : (k : ℕ) (bs : List ℕ) → prefix_len (leb 128) (take k bs) ≡ min k (followed bs)
followed_front zero bs = omega arith
followed_front (suc k) [] = omega arith
followed_front (suc k) (b ∷ bs) =
    elim (cases_lt b 128) [
      | inl l ↦ omega (arith, cond-true (ltb b 128) 0 (followed bs + 1) (lt-ltb b 128 l), cond-false (leb 128 b) (1 + prefix_len (leb 128) (take k bs)) 0 (lt-leb 128 b l))
      | inr g ↦ omega (arith, cond-false (ltb b 128) 0 (followed bs + 1) (le-ltb b 128 g), cond-true (leb 128 b) (1 + prefix_len (leb 128) (take k bs)) 0 (le-leb 128 b g), followed_front k bs)
    ]

-- what bytes join to with a number in place of those that come after them
abbrev pub onto : List ℕ → ℕ → ℕ
onto [] n = n
onto (b ∷ bs) n = b % 128 + 128 * onto bs n

pub onto_none : (bs : List ℕ) → onto bs 0 ≡ joined bs
onto_none [] = refl
onto_none (b ∷ bs) = ap (λ (n : ℕ). b % 128 + 128 * n) (onto_none bs)

onto-push : (bs : List ℕ) (b n : ℕ) → onto (push bs b) n ≡ onto bs (n * 128 + b % 128)
onto-push [] b n = omega arith
onto-push (a ∷ bs) b n = ap (λ (n : ℕ). a % 128 + 128 * n) (onto-push bs b n)

pub onto_next : (bs rest : List ℕ) (b n all : ℕ) → bs ≡ push rest b → onto bs n ≡ all → onto rest (n * 128 + b % 128) ≡ all
onto_next bs rest b n all is so_far = sym (onto-push rest b n) ∙ sym (ap (λ (bs : List ℕ). onto bs n) is) ∙ so_far

-- the bytes before a number only add to it
pub onto_more : (bs : List ℕ) (n : ℕ) → n ≤ onto bs n
onto_more [] n = omega arith
onto_more (b ∷ bs) n = omega (arith, onto_more bs n)

pub onto_before : (bs rest : List ℕ) (b n : ℕ) → bs ≡ push rest b → n * 128 ≤ onto bs n
onto_before bs rest b n is = omega (arith, ap (λ (bs : List ℕ). onto bs n) is, onto-push rest b n, onto_more rest (n * 128 + b % 128))

pub ruleset joining = (onto_none, onto_next, onto_more, onto_before)

-- what a varint is, by how many of its bytes have another after them, counted up to ten
pub varint_long : (m : List ℕ) (at n : ℕ) → n ≡ min 10 (followed (drop at m)) → n ≡ 10 → varint_from m at ≡ Err Malformed
varint_long m at n e h = grind (arith, nat_tests)

pub varint_short : (m : List ℕ) (at n : ℕ) → n ≡ min 10 (followed (drop at m)) → n < 10
    → varint_from m at ≡ and_then (bytes_at m at (n + 1)) (λ gs. fitting (joined gs) (at + n + 1))
varint_short m at n e h = let left = length-drop at m in grind (arith, nat_tests)

pub ruleset reading = (varint_long, varint_short)
