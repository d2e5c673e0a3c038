-- Matrices acting on bytes: what an inverse gives back, and what d cells determine. Assumes nothing.
use mathlib.Core.Path.{◌≡◌, refl, sym, ap, ap₂, ◌∙◌}
use mathlib.Core.Bool.{Bool, true, false, cond}
use mathlib.Core.Logic.{⊎_elim}
use Prim.Native.Nat.{ℕ, zero, suc, ◌+◌, ◌≤◌, ◌<◌}
use native.Mathlib.Nat.{not-suc-le-zero, le_of_suc-le-suc, eq-or-lt_of_le, add-zero}
use native.Mathlib.Omega.{arith}
use borrow.Author.Tests.{lt-ltb, le-ltb}
use lib.Bits.{bit_xor, xor_assoc, xor_comm, xor_self, xor_zero_l, xor_zero_r, xor_lt}
use lib.Dec.{lit<, ltb}
use Rattle.algebra.specs.Fields.{Ops, FieldLaws}
use Rattle.algebra.specs.Sums.{sum, xors, count}
use Rattle.algebra.specs.Matrices.{identity, Undoes, mixed}
use Rattle.algebra.specs.Codes.{Choice, Invertible, Bytes, Determined}
use Rattle.algebra.proofs.Numbers.{less_or_not}
use Rattle.algebra.proofs.Algebra.{identity_on, identity_off}

pub xors_same : (n : ℕ) (f g : ℕ → ℕ) → ((c : ℕ) → c < n → f c ≡ g c) → xors n f ≡ xors n g
xors_same zero f g h = refl
xors_same (suc n) f g h = ap₂ bit_xor (xors_same n f g (λ c l. h c (omega arith))) (h n (omega arith))

xors_zero : (n : ℕ) (f : ℕ → ℕ) → ((c : ℕ) → c < n → f c ≡ 0) → xors n f ≡ 0
xors_zero zero f h = refl
xors_zero (suc n) f h = ap₂ bit_xor (xors_zero n f (λ c l. h c (omega arith))) (h n (omega arith))

xor_four : (a b c d : ℕ) → bit_xor (bit_xor a b) (bit_xor c d) ≡ bit_xor (bit_xor a c) (bit_xor b d)
xor_four a b c d =
    xor_assoc a b (bit_xor c d) ∙ ap (bit_xor a) (sym (xor_assoc b c d) ∙ ap (λ (n : ℕ). bit_xor n d) (xor_comm b c) ∙ xor_assoc c b d)
    ∙ sym (xor_assoc a c (bit_xor b d))

xors_both : (n : ℕ) (f g : ℕ → ℕ) → xors n (λ c. bit_xor (f c) (g c)) ≡ bit_xor (xors n f) (xors n g)
xors_both zero f g = refl
xors_both (suc n) f g = ap (λ (x : ℕ). bit_xor x (bit_xor (f n) (g n))) (xors_both n f g) ∙ xor_four (xors n f) (xors n g) (f n) (g n)

xors_turned : (n m : ℕ) (f : ℕ → ℕ → ℕ) → xors n (λ c. xors m (λ k. f k c)) ≡ xors m (λ k. xors n (λ c. f k c))
xors_turned zero m f = sym (xors_zero m (λ k. 0) (λ k l. refl))
xors_turned (suc n) m f = ap (λ (x : ℕ). bit_xor x (xors m (λ k. f k n))) (xors_turned n m f) ∙ sym (xors_both m (λ k. xors n (λ c. f k c)) (λ k. f k n))

pub xors_byte : (n : ℕ) (f : ℕ → ℕ) → Bytes n f → xors n f < 256
xors_byte zero f h = lit< tt
xors_byte (suc n) f h = xor_lt 8 (xors n f) (f n) (xors_byte n f (λ c l. h c (omega arith))) (h n (omega arith))

-- a xor of which one term alone is not zero
xors_one : (n j : ℕ) (f : ℕ → ℕ) → j < n → ((c : ℕ) → c < n → (j ≡ c → ⊥) → f c ≡ 0) → xors n f ≡ f j
xors_one zero j f h z = absurd (not-suc-le-zero h)
xors_one (suc n) j f h z = ⊎_elim last (λ l. before l (xors_one n j f l (λ c i. z c (omega arith)))) (eq-or-lt_of_le (le_of_suc-le-suc h))
  where
    last : j ≡ n → xors (suc n) f ≡ f j
    last e = ap₂ bit_xor (xors_zero n f (λ c l. z c (omega arith) (λ q. omega arith))) (ap f (sym e)) ∙ xor_zero_l (f j)

    before : j < n → xors n f ≡ f j → xors (suc n) f ≡ f j
    before l more = ap₂ bit_xor more (z n (omega arith) (λ q. omega arith)) ∙ xor_zero_r (f j)

module _ {F : Type 0} {K : Ops F} (L : FieldLaws K) where
  open K use {zero as O, one as I, plus as ◌⊕◌, times as ◌⊗◌, act}
  open L use {plus_zero, act_byte, act_one, act_times, act_plus, act_xor}

  infixl 60 ◌⊕◌
  infixl 70 ◌⊗◌
  pub act_zero : (b : ℕ) → b < 256 → act O b ≡ 0
  act_zero b h = ap (λ x. act x b) (sym (plus_zero O)) ∙ act_plus O O b h ∙ xor_self (act O b)

  pub act_on_zero : (x : F) → act x 0 ≡ 0
  act_on_zero x = act_xor x 0 0 (lit< tt) (lit< tt) ∙ xor_self (act x 0)

  act_xors : (x : F) (n : ℕ) (f : ℕ → ℕ) → Bytes n f → act x (xors n f) ≡ xors n (λ c. act x (f c))
  act_xors x zero f h = act_on_zero x
  act_xors x (suc n) f h =
      act_xor x (xors n f) (f n) (xors_byte n f (λ c l. h c (omega arith))) (h n (omega arith))
      ∙ ap (λ (y : ℕ). bit_xor y (act x (f n))) (act_xors x n f (λ c l. h c (omega arith)))

  act_sum : (n : ℕ) (f : ℕ → F) (b : ℕ) → b < 256 → act (sum K n f) b ≡ xors n (λ k. act (f k) b)
  act_sum zero f b h = act_zero b h
  act_sum (suc n) f b h = act_plus (sum K n f) (f n) b h ∙ ap (λ (y : ℕ). bit_xor y (act (f n) b)) (act_sum n f b h)

  pub mixed_byte : (n : ℕ) (f : ℕ → F) (v : ℕ → ℕ) → Bytes n v → mixed K n f v < 256
  mixed_byte n f v h = xors_byte n (λ c. act (f c) (v c)) (λ c l. act_byte (f c) (v c) (h c l))

  pub mixed_same : (n : ℕ) (f : ℕ → F) (u v : ℕ → ℕ) → ((c : ℕ) → c < n → u c ≡ v c) → mixed K n f u ≡ mixed K n f v
  mixed_same n f u v h = xors_same n (λ c. act (f c) (u c)) (λ c. act (f c) (v c)) (λ c l. ap (act (f c)) (h c l))

  -- a row of the identity leaves a byte as it is
  pub mixed_identity : (n r : ℕ) (v : ℕ → ℕ) → Bytes n v → r < n → mixed K n (identity K r) v ≡ v r
  mixed_identity n r v h l =
      xors_one n r (λ c. act (identity K r c) (v c)) l (λ c o ne. ap (λ x. act x (v c)) (identity_off L r c ne) ∙ act_zero (v c) (h c o))
      ∙ ap (λ x. act x (v r)) (identity_on L r r refl) ∙ act_one (v r) (h r l)

  -- what a matrix mixes, one that undoes it from the left gives back
  pub mixed_back : (d : ℕ) (a b : ℕ → ℕ → F) → Undoes K d b a → (v : ℕ → ℕ) → Bytes d v → (c : ℕ) → c < d → mixed K d (b c) (λ k. mixed K d (a k) v) ≡ v c
  mixed_back d a b u v h c l =
      xors_same d (λ k. act (b c k) (mixed K d (a k) v)) (λ k. xors d (λ j. act (b c k ⊗ a k j) (v j)))
      (λ k i. act_xors (b c k) d (λ j. act (a k j) (v j)) (λ j o. act_byte (a k j) (v j) (h j o))
      ∙ xors_same d (λ j. act (b c k) (act (a k j) (v j))) (λ j. act (b c k ⊗ a k j) (v j)) (λ j o. sym (act_times (b c k) (a k j) (v j) (h j o))))
      ∙ xors_turned d d (λ j k. act (b c k ⊗ a k j) (v j))
      ∙ xors_same d (λ j. xors d (λ k. act (b c k ⊗ a k j) (v j))) (λ j. act (identity K c j) (v j)) (λ j o. sym (act_sum d (λ k. b c k ⊗ a k j) (v j) (h j o)) ∙ ap (λ x. act x (v j)) (u c j l o))
      ∙ mixed_identity d c v h l

-- the rows that are there, the lowest first
pub record Listed (there : ℕ → Bool) (n : ℕ) (chosen : ℕ → ℕ) : Type 0 where
  pub each : (k : ℕ) → k < count there n → (chosen k < n) × (there (chosen k) ≡ true)
  pub rising : (i k : ℕ) → i < k → k < count there n → chosen i < chosen k

abbrev then_one : (ℕ → ℕ) → ℕ → ℕ → ℕ → ℕ
then_one f m n k = cond (ltb k m) (f k) n

then_before : (f : ℕ → ℕ) (m n k : ℕ) → k < m → then_one f m n k ≡ f k
then_before f m n k h = ap (λ t. cond t (f k) n) (lt-ltb k m h)

then_last : (f : ℕ → ℕ) (m n k : ℕ) → m ≤ k → then_one f m n k ≡ n
then_last f m n k h = ap (λ t. cond t (f k) n) (le-ltb k m h)

listed : (there : ℕ → Bool) (n : ℕ) → (chosen : ℕ → ℕ) × Listed there n chosen
listed there zero = (λ k. 0, record { each = λ k h. absurd (not-suc-le-zero h); rising = λ i k l h. absurd (not-suc-le-zero h) })
listed there (suc n) = by (listed there n) (there n) refl
  where
    by : (chosen : ℕ → ℕ) × Listed there n chosen → (b : Bool) → there n ≡ b → (chosen : ℕ → ℕ) × Listed there (suc n) chosen
    by q false e =
        let z : count there (suc n) ≡ count there n = ap (λ t. count there n + cond t 1 0) e ∙ add-zero (count there n) in
        (q.0, record { each = λ k h. let i = q.1.each k (omega arith) in (omega arith, i.1); rising = λ i k l h. q.1.rising i k l (omega arith) })
    by q true e =
        let m = count there n in
        let z : count there (suc n) ≡ count there n + 1 = ap (λ t. count there n + cond t 1 0) e in (
          then_one q.0 m n,
          record {
            each = λ k h. ⊎_elim
                (λ l. let i = q.1.each k l in let o = then_before q.0 m n k l in (omega arith, ap there o ∙ i.1))
                (λ l. let o = then_last q.0 m n k l in (omega arith, ap there o ∙ e)) (less_or_not k m);
            rising = λ i k l h. let o = then_before q.0 m n i (omega arith) in ⊎_elim
                (λ j. let p = then_before q.0 m n k j in let r = q.1.rising i k l j in omega arith)
                (λ j. let p = then_last q.0 m n k j in let r = (q.1.each i (omega arith)).0 in omega arith) (less_or_not k m);
          },
        )

enough : (there : ℕ → Bool) (d n : ℕ) → d ≤ count there n → (chosen : ℕ → ℕ) × Choice d n chosen × ((k : ℕ) → k < d → there (chosen k) ≡ true)
enough there d n h =
    let q = listed there n in
    (q.0, record { below = λ k l. (q.1.each k (omega arith)).0; apart = λ i k l j e. let r = q.1.rising i k l (omega arith) in omega arith }, λ k l. (q.1.each k (omega arith)).1)

pub determined : {F : Type 0} {K : Ops F} (L : FieldLaws K) (d n : ℕ) (m : ℕ → ℕ → F) → Invertible K d n m → d ≤ n → Determined K d n m
determined {K = K} L d n m inv dn there h u v bu bv fu fv e r l = fu r l ∙ mixed_same L d (m r) u v first ∙ sym (fv r l)
  where
    first : (c : ℕ) → c < d → u c ≡ v c
    first c o =
        let q = enough there d n h in
        let b = inv q.0 q.1 in
        sym (mixed_back L d (λ k. m (q.0 k)) b.0 b.1.left u bu c o)
        ∙ mixed_same L d (b.0 c) (λ k. mixed K d (m (q.0 k)) u) (λ k. mixed K d (m (q.0 k)) v)
        (λ k i. sym (fu (q.0 k) (q.1.below k i)) ∙ e (q.0 k) (q.1.below k i) (q.2 k i) ∙ fv (q.0 k) (q.1.below k i))
        ∙ mixed_back L d (λ k. m (q.0 k)) b.0 b.1.left v bv c o
