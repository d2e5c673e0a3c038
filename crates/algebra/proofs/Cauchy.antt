-- Equations whose coefficients are 1 / (x - y), at least as many as unknowns, have no solution but zero: one row and one
-- column are taken out at a time. And one row of ones. Assumes nothing.
use mathlib.Core.Path.{◌≡◌, sym, ap, ap₂, ◌∙◌}
use mathlib.Core.List.{List, [], ◌∷◌}
use Prim.Native.Nat.{ℕ, ◌+◌, ◌≤◌, ◌<◌}
use native.Mathlib.Nat.{not-suc-le-zero, le_of_suc-le-suc}
use native.Mathlib.Omega.{arith}
use lib.ListN.{length}
use Rattle.algebra.specs.Fields.{Ops, FieldLaws}
use Rattle.algebra.proofs.Algebra.{zero_plus, times_zero, one_times, plus_times, plus_four, times_left, cancel, other_zero, inverse_not_zero}
use Rattle.algebra.proofs.Lists.{Each, total, Distinct, Falling, PartIndependent, each_map, each_map₂, falling_each, total_zero}

module _ {F A : Type 0} {K : Ops F} (L : FieldLaws K) (diff : A → A → F) (chain : (x y z : A) → diff x z ≡ K.plus (diff x y) (diff y z)) where
  open K use {zero as O, one as I, plus as ◌⊕◌, times as ◌⊗◌, inverse as inv}
  open L use {plus_zero, plus_comm, plus_assoc, times_one, times_comm, times_assoc, times_plus, times_inverse}

  infixl 60 ◌⊕◌
  infixl 70 ◌⊗◌
  -- the left side of the equation of x
  abbrev row : (A → F) → A → List A → F
  row v x cols = total K (λ y. inv (diff x y) ⊗ v y) cols

  -- the unknowns that are left once the equation of o and the column of z are taken out
  abbrev left : (A → F) → A → A → A → F
  left v o z y = inv (diff o y) ⊗ diff y z ⊗ v y

  -- p = e + q with the inverses a of p and b of q: b = a + e a b
  two_inverses : (p q e a b : F) → p ≡ e ⊕ q → p ⊗ a ≡ I → q ⊗ b ≡ I → b ≡ a ⊕ e ⊗ (a ⊗ b)
  two_inverses p q e a b h ha hb =
      sym (times_one b) ∙ ap (λ x. x ⊗ b) (sym ha ∙ ap (λ x. x ⊗ a) h) ∙ times_assoc (e ⊕ q) a b ∙ plus_times L e q (a ⊗ b)
      ∙ plus_comm (e ⊗ (a ⊗ b)) (q ⊗ (a ⊗ b)) ∙ ap (λ x. x ⊕ e ⊗ (a ⊗ b)) (times_left L q a b ∙ ap (λ x. a ⊗ x) hb ∙ one_times L a)

  -- one coefficient: x - y = p, o - y = q, x - o = e, y - z = g, x - z = c, o - z = d
  coefficient : (p q e g a b c d : F) → p ≡ e ⊕ q → c ≡ p ⊕ g → d ≡ q ⊕ g → p ⊗ a ≡ I → q ⊗ b ≡ I → d ⊗ b ≡ c ⊗ a ⊕ e ⊗ (a ⊗ (b ⊗ g))
  coefficient p q e g a b c d he hc hd ha hb =
      ap (λ x. x ⊗ b) hd ∙ plus_times L q g b ∙ ap (λ x. x ⊕ g ⊗ b) hb
      ∙ ap (λ x. I ⊕ x) (ap (λ x. g ⊗ x) (two_inverses p q e a b he ha hb) ∙ times_plus g a (e ⊗ (a ⊗ b)))
      ∙ sym (plus_assoc I (g ⊗ a) (g ⊗ (e ⊗ (a ⊗ b))))
      ∙ ap₂ (λ x y. x ⊕ y) (sym (ap (λ x. x ⊗ a) hc ∙ plus_times L p g a ∙ ap (λ x. x ⊕ g ⊗ a) ha))
      (times_left L g e (a ⊗ b) ∙ ap (λ x. e ⊗ x) (times_left L g a b ∙ ap (λ x. a ⊗ x) (times_comm g b)))

  term : (c e a b g d v : F) → d ⊗ b ≡ c ⊗ a ⊕ e ⊗ (a ⊗ (b ⊗ g)) → d ⊗ (b ⊗ v) ≡ c ⊗ (a ⊗ v) ⊕ e ⊗ (a ⊗ (b ⊗ g ⊗ v))
  term c e a b g d v h =
      sym (times_assoc d b v) ∙ ap (λ x. x ⊗ v) h ∙ plus_times L (c ⊗ a) (e ⊗ (a ⊗ (b ⊗ g))) v
      ∙ ap₂ (λ x y. x ⊕ y) (times_assoc c a v) (times_assoc e (a ⊗ (b ⊗ g)) v ∙ ap (λ x. e ⊗ x) (times_assoc a (b ⊗ g) v))

  -- the equation of o from that of x and the one that is left
  row_split : (v : A → F) (x o z : A) (cols : List A) → Each (λ y. diff x y ≡ O → ⊥) cols → Each (λ y. diff o y ≡ O → ⊥) cols
      → diff o z ⊗ row v o cols ≡ diff x z ⊗ row v x cols ⊕ diff x o ⊗ row (left v o z) x cols
  row_split v x o z [] h k = times_zero L (diff o z) ∙ sym (ap₂ (λ a b. a ⊕ b) (times_zero L (diff x z)) (times_zero L (diff x o)) ∙ plus_zero O)
  row_split v x o z (y ∷ cols) h k =
      times_plus (diff o z) (inv (diff o y) ⊗ v y) (row v o cols)
      ∙ ap₂ (λ a b. a ⊕ b)
      (term (diff x z) (diff x o) (inv (diff x y)) (inv (diff o y)) (diff y z) (diff o z) (v y)
      (coefficient (diff x y) (diff o y) (diff x o) (diff y z) (inv (diff x y)) (inv (diff o y)) (diff x z) (diff o z) (chain x o y) (chain x y z) (chain o y z) (times_inverse (diff x y) h.0) (times_inverse (diff o y) k.0)))
      (row_split v x o z cols h.1 k.1)
      ∙ plus_four L (diff x z ⊗ (inv (diff x y) ⊗ v y)) (diff x o ⊗ (inv (diff x y) ⊗ left v o z y)) (diff x z ⊗ row v x cols) (diff x o ⊗ row (left v o z) x cols)
      ∙ ap₂ (λ a b. a ⊕ b) (sym (times_plus (diff x z) (inv (diff x y) ⊗ v y) (row v x cols))) (sym (times_plus (diff x o) (inv (diff x y) ⊗ left v o z y) (row (left v o z) x cols)))

  -- (1 / p) u + s = 0 says u + p s = 0
  cleared : (p u s : F) → (p ≡ O → ⊥) → inv p ⊗ u ⊕ s ≡ O → u ⊕ p ⊗ s ≡ O
  cleared p u s n e =
      ap (λ a. a ⊕ p ⊗ s) (sym (times_one u) ∙ ap (λ a. a ⊗ u) (sym (times_inverse p n)) ∙ times_assoc p (inv p) u)
      ∙ sym (times_plus p (inv p ⊗ u) s) ∙ ap (λ a. p ⊗ a) e ∙ times_zero L p

  smaller : (v : A → F) (x o z : A) (cols : List A) → Each (λ y. diff x y ≡ O → ⊥) (z ∷ cols) → Each (λ y. diff o y ≡ O → ⊥) (z ∷ cols)
      → (diff x o ≡ O → ⊥) → row v x (z ∷ cols) ≡ O → row v o (z ∷ cols) ≡ O → row (left v o z) x cols ≡ O
  smaller v x o z cols h k n e f =
      let t = row (left v o z) x cols in
      let same : diff o z ⊗ row v o cols ≡ diff x z ⊗ row v x cols = cancel L (v z) (diff o z ⊗ row v o cols) (diff x z ⊗ row v x cols) (cleared (diff o z) (v z) (row v o cols) k.0 f ∙ sym (cleared (diff x z) (v z) (row v x cols) h.0 e)) in
      other_zero L (diff x o) t n
      (cancel L (diff x z ⊗ row v x cols) (diff x o ⊗ t) O (sym (row_split v x o z cols h.1 k.1) ∙ same ∙ sym (zero_plus L (diff x z ⊗ row v x cols))))

  smaller_each : (v : A → F) (o z : A) (cols rows : List A) → Each (λ y. diff o y ≡ O → ⊥) (z ∷ cols) → row v o (z ∷ cols) ≡ O
      → Each (λ x. Each (λ y. diff x y ≡ O → ⊥) (z ∷ cols)) rows → Each (λ x. diff x o ≡ O → ⊥) rows → Each (λ x. row v x (z ∷ cols) ≡ O) rows → Each (λ x. row (left v o z) x cols ≡ O) rows
  smaller_each v o z cols [] k f h n e = tt
  smaller_each v o z cols (x ∷ rows) k f h n e = (smaller v x o z cols h.0 k n.0 e.0 f, smaller_each v o z cols rows k f h.1 n.1 e.1)

  left_zero : (v : A → F) (o z y : A) → (diff o y ≡ O → ⊥) → (diff y z ≡ O → ⊥) → left v o z y ≡ O → v y ≡ O
  left_zero v o z y h k e =
      other_zero L (diff y z) (v y) k (other_zero L (inv (diff o y)) (diff y z ⊗ v y) (inverse_not_zero L (diff o y) h) (sym (times_assoc (inv (diff o y)) (diff y z) (v y)) ∙ e))

  pub vanish : (cols rows : List A) (v : A → F) → length cols ≤ length rows → Distinct K diff cols → Distinct K diff rows
      → Each (λ x. Each (λ y. diff x y ≡ O → ⊥) cols) rows → Each (λ x. row v x cols ≡ O) rows → Each (λ y. v y ≡ O) cols
  vanish [] rows v l dc dr h e = tt
  vanish (z ∷ cols) [] v l dc dr h e = absurd (not-suc-le-zero l)
  vanish (z ∷ cols) (o ∷ rows) v l dc dr h e =
      let inner : Each (λ x. Each (λ y. diff x y ≡ O → ⊥) cols) rows = each_map (λ x. Each (λ y. diff x y ≡ O → ⊥) (z ∷ cols)) (λ x. Each (λ y. diff x y ≡ O → ⊥) cols) rows (λ x k. k.1) h.1 in
      let below : Each (λ y. left v o z y ≡ O) cols = vanish cols rows (left v o z) (le_of_suc-le-suc l) dc.1 dr.1 inner (smaller_each v o z cols rows h.0 e.0 h.1 dr.0 e.1) in
      let others : Each (λ y. v y ≡ O) cols =
      each_map₂ (λ y. (diff o y ≡ O → ⊥) × (diff y z ≡ O → ⊥)) (λ y. left v o z y ≡ O) (λ y. v y ≡ O) cols (λ y i. left_zero v o z y i.0 i.1)
      (each_map₂ (λ y. diff o y ≡ O → ⊥) (λ y. diff y z ≡ O → ⊥) (λ y. (diff o y ≡ O → ⊥) × (diff y z ≡ O → ⊥)) cols (λ y i j. (i, j)) h.0.1 dc.0) below in
      let none : row v o cols ≡ O =
      total_zero L (λ y. inv (diff o y) ⊗ v y) cols (each_map (λ y. v y ≡ O) (λ y. inv (diff o y) ⊗ v y ≡ O) cols (λ y i. ap (λ a. inv (diff o y) ⊗ a) i ∙ times_zero L (inv (diff o y))) others) in
      (other_zero L (inv (diff o z)) (v z) (inverse_not_zero L (diff o z) h.0.0) (sym (zero_plus L (inv (diff o z) ⊗ v z)) ∙ ap (λ a. inv (diff o z) ⊗ v z ⊕ a) (sym none) ∙ e.0), others)

-- the part with the entries 1 / (r - c) at numbers below top that differ
module _ {F : Type 0} {K : Ops F} (L : FieldLaws K) (diff : ℕ → ℕ → F) (top : ℕ) (apart : (a b : ℕ) → a < top → b < top → (a ≡ b → ⊥) → diff a b ≡ K.zero → ⊥) where
  falling_distinct : (b : ℕ) (l : List ℕ) → b ≤ top → Falling b l → Distinct K diff l
  falling_distinct b [] h f = tt
  falling_distinct b (a ∷ l) h f =
      let i : a < b = f.0 in
      (each_map (λ k. k < a) (λ k. diff k a ≡ K.zero → ⊥) l (λ k j. apart k a (omega arith) (omega arith) (λ e. omega arith)) (falling_each a l f.1), falling_distinct a l (omega arith) f.1)

  pub cauchy_independent : (chain : (x y z : ℕ) → diff x z ≡ K.plus (diff x y) (diff y z)) (d n : ℕ) → d ≤ n → n ≤ top → PartIndependent K d n (λ r c. K.inverse (diff r c))
  cauchy_independent chain d n h k cols rows fc fr low few v e =
      vanish L diff chain cols rows v few (falling_distinct d cols (omega arith) fc) (falling_distinct n rows k fr)
      (each_map₂ (λ r. r < n) (λ r. d ≤ r) (λ r. Each (λ c. diff r c ≡ K.zero → ⊥) cols) rows
      (λ r i j. each_map (λ c. c < d) (λ c. diff r c ≡ K.zero → ⊥) cols (λ c g. apart r c (omega arith) (omega arith) (λ q. omega arith)) (falling_each d cols fc))
      (falling_each n rows fr) low)
      e

-- one row of ones: it serves one column
pub ones_independent : {F : Type 0} {K : Ops F} (L : FieldLaws K) (d : ℕ) → PartIndependent K d (d + 1) (λ r c. K.one)
ones_independent L d [] rows fc fr low few v e = tt
ones_independent L d (c ∷ []) [] fc fr low few v e = absurd (omega arith)
ones_independent {K = K} L d (c ∷ []) (r ∷ rows) fc fr low few v e = (sym (L.times_one (v c)) ∙ sym (zero_plus L (K.times K.one (v c))) ∙ e.0, tt)
ones_independent L d (c ∷ b ∷ cols) [] fc fr low few v e = absurd (omega arith)
ones_independent L d (c ∷ b ∷ cols) (r ∷ []) fc fr low few v e = absurd (omega arith)
ones_independent L d (c ∷ b ∷ cols) (r ∷ q ∷ rows) fc fr low few v e =
    let i : r < d + 1 = fr.0 in
    let j : q < r = fr.1.0 in
    let l : d ≤ q = low.1.0 in
    absurd (omega arith)
