-- The identity over an independent part: any d rows take nothing but zero to zero. Assumes nothing.
use mathlib.Core.Path.{◌≡◌, refl, sym, ap, ap₂, ◌∙◌}
use mathlib.Core.Bool.{Bool, true, false, cond}
use mathlib.Core.List.{List, [], ◌∷◌}
use Prim.Native.Nat.{ℕ, zero, suc, ◌+◌, ◌≤◌, ◌<◌}
use native.Mathlib.Nat.{not-suc-le-zero, add-suc, add-zero}
use native.Mathlib.Omega.{arith}
use borrow.Author.Tests.{clash, lt-ltb, le-ltb}
use lib.ListN.{length}
use Rattle.algebra.specs.Fields.{Ops, FieldLaws}
use Rattle.algebra.specs.Sums.{sum, count}
use Rattle.algebra.specs.Matrices.{identity}
use Rattle.algebra.specs.Codes.{generator}
use Rattle.algebra.proofs.Numbers.{below_next}
use Rattle.algebra.proofs.Algebra.{zero_plus, times_zero, sum_same, pick_left}
use Rattle.algebra.proofs.Lists.{Each, total, Falling, Independent, PartIndependent, falling_up}

pub generator_upper : {F : Type 0} (K : Ops F) (d : ℕ) (part : ℕ → ℕ → F) (r c : ℕ) → r < d → generator K d part r c ≡ identity K r c
generator_upper K d part r c h = ap (λ t. cond t (identity K r c) (part r c)) (lt-ltb r d h)

pub generator_lower : {F : Type 0} (K : Ops F) (d : ℕ) (part : ℕ → ℕ → F) (r c : ℕ) → d ≤ r → generator K d part r c ≡ part r c
generator_lower K d part r c h = ap (λ t. cond t (identity K r c) (part r c)) (le-ltb r d h)

-- the columns below n that are not there, the last first
abbrev missing : (ℕ → Bool) → ℕ → List ℕ
missing there zero = []
missing there (suc n) = cond (there n) (missing there n) (n ∷ missing there n)

-- of the p rows from d on those that are there, the last first
abbrev spare : (ℕ → Bool) → ℕ → ℕ → List ℕ
spare there d zero = []
spare there d (suc p) = cond (there (d + p)) ((d + p) ∷ spare there d p) (spare there d p)

either : (P : List ℕ → Type 0) (b : Bool) (l m : List ℕ) → P l → P m → P (cond b l m)
either P true l m p q = p
either P false l m p q = q

missing_falling : (there : ℕ → Bool) (n : ℕ) → Falling n (missing there n)
missing_falling there zero = tt
missing_falling there (suc n) =
    let f = missing_falling there n in
    either (Falling (suc n)) (there n) (missing there n) (n ∷ missing there n) (falling_up n (suc n) (missing there n) (omega arith) f) (omega arith, f)

spare_falling : (there : ℕ → Bool) (d p : ℕ) → Falling (d + p) (spare there d p)
spare_falling there d zero = tt
spare_falling there d (suc p) =
    let f = spare_falling there d p in
    either (Falling (d + suc p)) (there (d + p)) ((d + p) ∷ spare there d p) (spare there d p) (omega arith, f) (falling_up (d + p) (d + suc p) (spare there d p) (omega arith) f)

missing_count : (there : ℕ → Bool) (n : ℕ) → count there n + length (missing there n) ≡ n
missing_count there zero = refl
missing_count there (suc n) = by (there n) (missing_count there n)
  where
    by : (b : Bool) → count there n + length (missing there n) ≡ n → (count there n + cond b 1 0) + length (cond b (missing there n) (n ∷ missing there n)) ≡ suc n
    by true h = omega arith
    by false h = omega arith

spare_count : (there : ℕ → Bool) (d p : ℕ) → count there (d + p) ≡ count there d + length (spare there d p)
spare_count there d zero = ap (count there) (add-zero d) ∙ sym (add-zero (count there d))
spare_count there d (suc p) = ap (count there) (add-suc d p) ∙ by (there (d + p)) (spare_count there d p)
  where
    by : (b : Bool) → count there (d + p) ≡ count there d + length (spare there d p) → count there (d + p) + cond b 1 0 ≡ count there d + length (cond b ((d + p) ∷ spare there d p) (spare there d p))
    by true h = omega arith
    by false h = omega arith

missing_at : (P : ℕ → Type 0) (there : ℕ → Bool) (n : ℕ) → Each P (missing there n) → (c : ℕ) → c < n → there c ≡ false → P c
missing_at P there zero h c l e = absurd (not-suc-le-zero l)
missing_at P there (suc n) h c l e = below_next (λ c. there c ≡ false → P c) n (λ c. missing_at P there n (tail (there n) h) c) (λ e. head (there n) e h) c l e
  where
    tail : (b : Bool) → Each P (cond b (missing there n) (n ∷ missing there n)) → Each P (missing there n)
    tail true h = h
    tail false h = h.1

    head : (b : Bool) → b ≡ false → Each P (cond b (missing there n) (n ∷ missing there n)) → P n
    head true e h = absurd (clash (sym e))
    head false e h = h.0

spare_each : (P : ℕ → Type 0) (there : ℕ → Bool) (d p : ℕ) → ((r : ℕ) → d ≤ r → r < d + p → there r ≡ true → P r) → Each P (spare there d p)
spare_each P there d zero f = tt
spare_each P there d (suc p) f = by (spare_each P there d p (λ r h k. f r h (omega arith))) (there (d + p)) refl
  where
    by : Each P (spare there d p) → (b : Bool) → there (d + p) ≡ b → Each P (cond b ((d + p) ∷ spare there d p) (spare there d p))
    by more true e = (f (d + p) (omega arith) (omega arith) e, more)
    by more false e = more

module _ {F : Type 0} {K : Ops F} (L : FieldLaws K) where
  open K use {zero as O, plus as ◌⊕◌, times as ◌⊗◌}
  open L use {plus_comm}

  infixl 60 ◌⊕◌
  infixl 70 ◌⊗◌
  -- a sum whose terms there are zero is the sum over the missing ones
  sum_missing : (there : ℕ → Bool) (n : ℕ) (f : ℕ → F) → ((c : ℕ) → c < n → there c ≡ true → f c ≡ O) → sum K n f ≡ total K f (missing there n)
  sum_missing there zero f h = refl
  sum_missing there (suc n) f h = by (sum_missing there n f (λ c l. h c (omega arith))) (there n) refl
    where
      by : sum K n f ≡ total K f (missing there n) → (b : Bool) → there n ≡ b → sum K (suc n) f ≡ total K f (cond b (missing there n) (n ∷ missing there n))
      by more true e = ap₂ (λ x y. x ⊕ y) more (h n (omega arith) e) ∙ zero_plus L (total K f (missing there n))
      by more false e = ap (λ x. x ⊕ f n) more ∙ plus_comm (total K f (missing there n)) (f n)

  pub independent : (d p : ℕ) (part : ℕ → ℕ → F) → PartIndependent K d (d + p) part → Independent K d (d + p) (generator K d part)
  independent d p part squares there enough v h c l = by (there c) refl
    where
      -- a row of the identity says that its unknown is zero
      shown : (c : ℕ) → c < d → there c ≡ true → v c ≡ O
      shown c l e =
          sym (pick_left L d c v l) ∙ sum_same L d (λ k. identity K c k ⊗ v k) (λ k. generator K d part c k ⊗ v k)
          (λ k i. ap (λ x. x ⊗ v k) (sym (generator_upper K d part c k l))) ∙ h c (omega arith) e

      -- a row of the part is an equation of the missing ones alone
      lower : (r : ℕ) → d ≤ r → r < d + p → there r ≡ true → total K (λ y. part r y ⊗ v y) (missing there d) ≡ O
      lower r i k e =
          sym (sum_missing there d (λ y. part r y ⊗ v y) (λ y j t. ap (λ a. part r y ⊗ a) (shown y j t) ∙ times_zero L (part r y)))
          ∙ sum_same L d (λ y. part r y ⊗ v y) (λ y. generator K d part r y ⊗ v y)
          (λ y j. ap (λ x. x ⊗ v y) (sym (generator_lower K d part r y i))) ∙ h r k e

      few : length (missing there d) ≤ length (spare there d p)
      few = let a = missing_count there d in let b = spare_count there d p in omega arith

      hidden : Each (λ y. v y ≡ O) (missing there d)
      hidden =
          squares (missing there d) (spare there d p) (missing_falling there d) (spare_falling there d p)
          (spare_each (λ r. d ≤ r) there d p (λ r i k e. i)) few v
          (spare_each (λ r. total K (λ y. part r y ⊗ v y) (missing there d) ≡ O) there d p lower)

      by : (b : Bool) → there c ≡ b → v c ≡ O
      by true e = shown c l e
      by false e = missing_at (λ y. v y ≡ O) there d hidden c l e
