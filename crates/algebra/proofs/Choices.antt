-- d different rows are d rows that are there; what takes nothing but zero to zero has an inverse. Assumes nothing.
use mathlib.Core.Path.{◌≡◌, refl, sym, ap, ap₂, ◌∙◌, subst}
use mathlib.Core.Bool.{Bool, true, false, cond, ◌||◌}
use mathlib.Core.Logic.{⊎_elim}
use Prim.Native.Nat.{ℕ, zero, suc, ◌+◌, ◌<◌}
use native.Mathlib.Nat.{not-suc-le-zero, le_of_suc-le-suc, eq-or-lt_of_le}
use native.Mathlib.Omega.{arith}
use borrow.Author.Tests.{clash, eq-eqb, ne_eqb, eqb-true}
use lib.Dec.{eqb}
use Rattle.algebra.specs.Fields.{Ops, FieldLaws}
use Rattle.algebra.specs.Sums.{sum, count}
use Rattle.algebra.specs.Matrices.{Singular}
use Rattle.algebra.specs.Codes.{Choice, Invertible}
use Rattle.algebra.proofs.Inverses.{inverse_or_singular}
use Rattle.algebra.proofs.Lists.{Independent}

-- whether r is among the first d rows chosen
abbrev among : (ℕ → ℕ) → ℕ → ℕ → Bool
among chosen zero r = false
among chosen (suc d) r = among chosen d r || eqb (chosen d) r

count_same : (f g : ℕ → Bool) (n : ℕ) → ((r : ℕ) → r < n → f r ≡ g r) → count f n ≡ count g n
count_same f g zero h = refl
count_same f g (suc n) h = ap₂ (λ a b. a + cond b 1 0) (count_same f g n (λ r l. h r (omega arith))) (h n (omega arith))

or_false : (a b : Bool) → b ≡ false → (a || b) ≡ a
or_false true b e = refl
or_false false b e = e

or_second : (a b : Bool) → b ≡ true → (a || b) ≡ true
or_second true b e = refl
or_second false b e = e

or_first : (a b : Bool) → a ≡ true → (a || b) ≡ true
or_first true b e = refl
or_first false b e = absurd (clash e)

-- one row more is counted once
count_more : (f : ℕ → Bool) (x n : ℕ) → x < n → f x ≡ false → count (λ r. f r || eqb x r) n ≡ suc (count f n)
count_more f x zero h e = absurd (not-suc-le-zero h)
count_more f x (suc n) h e = ⊎_elim last (λ l. before l (count_more f x n l e)) (eq-or-lt_of_le (le_of_suc-le-suc h))
  where
    last : x ≡ n → count (λ r. f r || eqb x r) (suc n) ≡ suc (count f (suc n))
    last q =
        let a : count (λ r. f r || eqb x r) n ≡ count f n = count_same (λ r. f r || eqb x r) f n (λ r l. or_false (f r) (eqb x r) (ne_eqb x r (λ z. omega arith))) in
        let b : ◌≡◌ {A = ℕ} (cond (f n || eqb x n) 1 0) 1 = ap (λ t. cond {A = ℕ} t 1 0) (or_second (f n) (eqb x n) (eq-eqb x n q)) in
        let c : ◌≡◌ {A = ℕ} (cond (f n) 1 0) 0 = ap (λ t. cond {A = ℕ} t 1 0) (ap f (sym q) ∙ e) in
        omega arith

    before : x < n → count (λ r. f r || eqb x r) n ≡ suc (count f n) → count (λ r. f r || eqb x r) (suc n) ≡ suc (count f (suc n))
    before l more =
        let b : ◌≡◌ {A = ℕ} (cond (f n || eqb x n) 1 0) (cond (f n) 1 0) = ap (λ t. cond {A = ℕ} t 1 0) (or_false (f n) (eqb x n) (ne_eqb x n (λ z. omega arith))) in
        omega arith

among_not : (chosen : ℕ → ℕ) (d r : ℕ) → ((i : ℕ) → i < d → chosen i ≡ r → ⊥) → among chosen d r ≡ false
among_not chosen zero r h = refl
among_not chosen (suc d) r h = or_false (among chosen d r) (eqb (chosen d) r) (ne_eqb (chosen d) r (h d (omega arith))) ∙ among_not chosen d r (λ i l. h i (omega arith))

-- a row that is among them is one of them
among_of : (P : ℕ → Type 0) (chosen : ℕ → ℕ) (d : ℕ) → ((k : ℕ) → k < d → P (chosen k)) → (r : ℕ) → among chosen d r ≡ true → P r
among_of P chosen zero h r e = absurd (clash e)
among_of P chosen (suc d) h r e = by (among chosen d r) (λ q. among_of P chosen d (λ k l. h k (omega arith)) r q) e
  where
    by : (b : Bool) → (b ≡ true → P r) → (b || eqb (chosen d) r) ≡ true → P r
    by true f e = f refl
    by false f e = subst P (eqb-true (chosen d) r e) (h d (omega arith))

none_counted : (n : ℕ) → count (λ r. false) n ≡ 0
none_counted zero = refl
none_counted (suc n) = ap (λ (m : ℕ). m + 0) (none_counted n)

among_count : (chosen : ℕ → ℕ) (d n : ℕ) → Choice d n chosen → count (among chosen d) n ≡ d
among_count chosen zero n h = none_counted n
among_count chosen (suc d) n h =
    count_more (among chosen d) (chosen d) n (h.below d (omega arith)) (among_not chosen d (chosen d) (λ i l. h.apart i d l (omega arith)))
    ∙ ap suc (among_count chosen d n (record { below = λ k l. h.below k (omega arith); apart = λ i k l j. h.apart i k l (omega arith) }))

pub invertible : {F : Type 0} {K : Ops F} (L : FieldLaws K) (d n : ℕ) (m : ℕ → ℕ → F) → Independent K d n m → Invertible K d n m
invertible {K = K} L d n m h chosen c = ⊎_elim (λ b. b) (λ s. absurd (s.nonzero (zero_at s))) (inverse_or_singular L d (λ k. m (chosen k)))
  where
    zero_at : (s : Singular K d (λ k. m (chosen k))) → s.vector s.place ≡ K.zero
    zero_at s =
        let e = among_count chosen d n c in
        h (among chosen d) (omega arith) s.vector (λ r l t. among_of (λ r. sum K d (λ y. K.times (m r y) (s.vector y)) ≡ K.zero) chosen d s.taken r t) s.place s.within
