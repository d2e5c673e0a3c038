-- What a test that passes at each number below n shows. Assumes nothing.
use Rattle.std.proofs.Common.{ℕ, zero, suc, ◌<◌, Bool, true, false, ◌&&◌, T, sym, subst, ⊎_elim, le_of_suc-le-suc, not-suc-le-zero, eq-or-lt_of_le}

-- the test f passes at each number below n
abbrev pub all_below : ℕ → (ℕ → Bool) → Bool
all_below zero f = true
all_below (suc n) f = f n && all_below n f

and_left : (a b : Bool) → T (a && b) → T a
and_left true b t = tt
and_left false b t = t

and_right : (a b : Bool) → T (a && b) → T b
and_right true b t = t
and_right false b t = absurd t

pub below_at : (n : ℕ) (f : ℕ → Bool) → T (all_below n f) → (k : ℕ) → k < n → T (f k)
below_at zero f t k h = absurd (not-suc-le-zero h)
below_at (suc n) f t k h =
    ⊎_elim (λ e. subst (λ (m : ℕ). T (f m)) (sym e) (and_left (f n) (all_below n f) t)) (λ l. below_at n f (and_right (f n) (all_below n f) t) k l)
    (eq-or-lt_of_le (le_of_suc-le-suc h))

pub pair_at : (m n : ℕ) (f : ℕ → ℕ → Bool) → T (all_below m (λ a. all_below n (λ b. f a b))) → (a b : ℕ) → a < m → b < n → T (f a b)
pair_at m n f t a b ha hb = below_at n (λ b. f a b) (below_at m (λ a. all_below n (λ b. f a b)) t a ha) b hb
