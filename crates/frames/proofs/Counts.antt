-- How many runs data have. Assumes nothing.
use Rattle.std.proofs.Common.{◌≡◌, ℕ, suc, ◌+◌, ◌-◌, ◌*◌, ◌<◌, ◌≤◌, sym, arith, inl, inr, div-add-mod', mod-lt, mul-le-mul_right, suc-mul}
use Rattle.std.proofs.lemmas.Bool.{cases_lt}
use Rattle.std.proofs.lemmas.Grind.{div_ceil_times}
use Rattle.std.specs.Int.{div_ceil}
use Rattle.packets.specs.Frames.{run_count}

-- so many runs are the data, and one less is not
count_bounds : (c n : ℕ) → 0 < c → (n ≤ run_count c n * c) × (run_count c n * c < n + c)
count_bounds c n h = let e = div-add-mod' (n + c - 1) c in let m = mod-lt (n + c - 1) h in (omega arith, omega arith)

-- there is just one such number
fewer : (c n p q : ℕ) → n ≤ p * c → q * c < n + c → p < q → ⊥
fewer c n p q a b l = let m : suc p * c ≤ q * c = mul-le-mul_right c l in omega (arith, m, suc-mul p c)

count_is : (c n q : ℕ) → 0 < c → n ≤ q * c → q * c < n + c → q ≡ run_count c n
count_is c n q h a b =
    let k = count_bounds c n h in
    elim (cases_lt q (run_count c n)) [
      | inl l ↦ absurd (fewer c n q (run_count c n) a k.1 l)
      | inr g ↦ elim (cases_lt (run_count c n) q) [
        | inl l ↦ absurd (fewer c n (run_count c n) q k.0 b l)
        | inr f ↦ omega arith
      ]
    ]

pub count_rounds_up : (c n : ℕ) → 0 < c → div_ceil n c ≡ run_count c n
count_rounds_up c n h = let k = div_ceil_times n c h in count_is c n (div_ceil n c) h k.0 k.1

-- without data there is none, and without the first run one less
pub count_none : (c n : ℕ) → 0 < c → run_count c n ≡ 0 → n ≡ 0
count_none c n h e = let k = (count_bounds c n h).0 in omega (arith, rw e at k)

pub count_less : (c n k : ℕ) → 0 < c → run_count c n ≡ suc k → run_count c (n - c) ≡ k
count_less c n k h e =
    let b = count_bounds c n h in
    let a : n ≤ suc k * c = rw e at b.0 in
    let d : suc k * c < n + c = rw e at b.1 in
    sym (count_is c (n - c) k h (omega (arith, suc-mul k c)) (omega (arith, suc-mul k c)))

pub count_some : (c n k : ℕ) → 0 < c → run_count c n ≡ suc k → 0 < n
count_some c n k h e = let b : suc k * c < n + c = rw e at (count_bounds c n h).1 in omega (arith, suc-mul k c)
