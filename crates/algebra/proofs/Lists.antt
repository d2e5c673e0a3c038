-- Sums over lists of points, and lists of numbers that fall. Assumes nothing.
use mathlib.Core.Path.{◌≡◌, refl, ap₂, ◌∙◌}
use mathlib.Core.Bool.{Bool, true}
use mathlib.Core.List.{List, [], ◌∷◌}
use Prim.Native.Nat.{ℕ, ◌<◌, ◌≤◌}
use native.Mathlib.Omega.{arith}
use lib.ListN.{length}
use Rattle.algebra.specs.Fields.{Ops, FieldLaws}
use Rattle.algebra.specs.Sums.{sum, count}

-- P holds of each element
abbrev pub Each : {A : Type 0} → (A → Type 0) → List A → Type 0
Each P [] = Unit {0}
Each P (a ∷ l) = P a × Each P l

-- the sum of f over a list
abbrev pub total : {F A : Type 0} → Ops F → (A → F) → List A → F
total K f [] = K.zero
total K f (a ∷ l) = K.plus (f a) (total K f l)

-- each later point differs from each earlier one
abbrev pub Distinct : {F A : Type 0} → Ops F → (A → A → F) → List A → Type 0
Distinct K diff [] = Unit {0}
Distinct K diff (a ∷ l) = Each (λ b. diff b a ≡ K.zero → ⊥) l × Distinct K diff l

-- numbers below b, each below the one before
abbrev pub Falling : ℕ → List ℕ → Type 0
Falling b [] = Unit {0}
Falling b (a ∷ l) = (a < b) × Falling a l

-- any d of the first n rows take nothing but zero to zero
abbrev pub Independent : {F : Type 0} → Ops F → ℕ → ℕ → (ℕ → ℕ → F) → Type 0
Independent {F = F} K d n m =
    (there : ℕ → Bool) → d ≤ count there n → (v : ℕ → F) → ((r : ℕ) → r < n → there r ≡ true → sum K d (λ c. K.times (m r c) (v c)) ≡ K.zero)
    → (c : ℕ) → c < d → v c ≡ K.zero

-- the same of the parity part alone: of its rows d to n - 1, any that are at least as many as some columns, on those columns
abbrev pub PartIndependent : {F : Type 0} → Ops F → ℕ → ℕ → (ℕ → ℕ → F) → Type 0
PartIndependent {F = F} K d n part =
    (cols rows : List ℕ) → Falling d cols → Falling n rows → Each (λ r. d ≤ r) rows → length cols ≤ length rows → (v : ℕ → F)
    → Each (λ r. total K (λ c. K.times (part r c) (v c)) cols ≡ K.zero) rows → Each (λ c. v c ≡ K.zero) cols

pub each_map : {A : Type 0} (P Q : A → Type 0) (l : List A) → ((a : A) → P a → Q a) → Each P l → Each Q l
each_map P Q [] f h = tt
each_map P Q (a ∷ l) f h = (f a h.0, each_map P Q l f h.1)

pub each_map₂ : {A : Type 0} (P Q R : A → Type 0) (l : List A) → ((a : A) → P a → Q a → R a) → Each P l → Each Q l → Each R l
each_map₂ P Q R [] f h k = tt
each_map₂ P Q R (a ∷ l) f h k = (f a h.0 k.0, each_map₂ P Q R l f h.1 k.1)

pub falling_each : (b : ℕ) (l : List ℕ) → Falling b l → Each (λ k. k < b) l
falling_each b [] f = tt
falling_each b (a ∷ l) f = (f.0, each_map (λ k. k < a) (λ k. k < b) l (λ k h. let i : a < b = f.0 in omega arith) (falling_each a l f.1))

pub falling_up : (a b : ℕ) (l : List ℕ) → a ≤ b → Falling a l → Falling b l
falling_up a b [] h f = tt
falling_up a b (c ∷ l) h f = let k : c < a = f.0 in (omega arith, f.1)

pub total_zero : {F A : Type 0} {K : Ops F} (L : FieldLaws K) (f : A → F) (l : List A) → Each (λ a. f a ≡ K.zero) l → total K f l ≡ K.zero
total_zero L f [] h = refl
total_zero {K = K} L f (a ∷ l) h = ap₂ K.plus h.0 (total_zero L f l h.1) ∙ L.plus_zero K.zero
