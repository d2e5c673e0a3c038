-- Any d rows of the matrices of rs and xor have an inverse. Assumes nothing.
use Rattle.std.specs.Prelude.{◌≡◌, ℕ, ◌+◌, ◌%◌, ◌<◌, ◌≤◌, ◌≢◌, bit_xor}
use Rattle.std.proofs.Common.{sym, ap, ◌∙◌, subst, arith}
use Rattle.std.specs.Int.Bits.{xor_assoc, xor_zero_l}
use Rattle.std.proofs.lemmas.Nat.{xor_mod, xor_lt}
use Rattle.algebra.specs.Fields.{Ops, FieldLaws}
use Rattle.algebra.specs.Codes.{Invertible}
use Rattle.algebra.proofs.Algebra.{sum_same}
use Rattle.algebra.proofs.Cauchy.{cauchy_independent, ones_independent}
use Rattle.algebra.proofs.Parts.{independent}
use Rattle.algebra.proofs.Choices.{invertible}
use Rattle.field.specs.declared.gf256.Gf256.{Gf256}
use Rattle.field.specs.Models.{gf2, gf256, zero256, plus256}
use Rattle.field.specs.Elements.{same_value}
use Rattle.field.specs.Laws256.{laws256, xor_back}
use Rattle.field.specs.Laws2.{laws2}
use Rattle.codes.specs.Generators.{Permitted, element, rs_part, rs_generator, xor_part, xor_generator}

-- the differences of three numbers
chain : (a b c : ℕ) → element (bit_xor a c) ≡ plus256 (element (bit_xor a b)) (element (bit_xor b c))
chain a b c =
    same_value _ _ (ap (λ (n : ℕ). n % 256) (ap (λ (n : ℕ). bit_xor n c) (sym (xor_back a b)) ∙ xor_assoc (bit_xor a b) b c) ∙ xor_mod (bit_xor a b) (bit_xor b c) 8)

-- numbers below 256 that differ have a difference
differ : (a b : ℕ) → a < 256 → b < 256 → (a ≢ b) → element (bit_xor a b) ≢ zero256
differ a b h k n e =
    let z : bit_xor a b % 256 ≡ 0 = ap (λ (x : Gf256). x.value) e in
    let l : bit_xor a b < 256 = xor_lt 8 a b h k in
    let y : bit_xor a b ≡ 0 = omega arith in
    n (sym (xor_back a b) ∙ ap (λ (m : ℕ). bit_xor m b) y ∙ xor_zero_l b)

pub rs_invertible : (d p : ℕ) → d + p ≤ 256 → Invertible gf256 d (d + p) (rs_generator d)
rs_invertible d p h =
    invertible laws256 d (d + p) (rs_generator d)
    (independent laws256 d p rs_part (cauchy_independent laws256 (λ r c. element (bit_xor r c)) 256 differ chain d (d + p) (omega arith) h))

-- the same under the limits of the code
pub rs_permitted : (d p : ℕ) → Permitted d p → Invertible gf256 d (d + p) (rs_generator d)
rs_permitted d p h = rs_invertible d p (omega arith)

pub xor_invertible : (d p : ℕ) → p ≡ 1 → Invertible gf2 d (d + p) (xor_generator d)
xor_invertible d p e =
    subst (λ (p : ℕ). Invertible gf2 d (d + p) (xor_generator d)) (sym e)
    (invertible laws2 d (d + 1) (xor_generator d) (independent laws2 d 1 xor_part (ones_independent laws2 d)))

-- a matrix that is the same in n rows and d columns has the same inverses
pub invertible_same : {F : Type 0} {K : Ops F} (L : FieldLaws K) (d n : ℕ) (g m : ℕ → ℕ → F) → ((r c : ℕ) → r < n → c < d → m r c ≡ g r c) → Invertible K d n g → Invertible K d n m
invertible_same {K = K} L d n g m h inv chosen c =
    let b = inv chosen c in (
      b.0,
      record {
        right = λ r j l o. sum_same L d (λ k. K.times (m (chosen r) k) (b.0 k j)) (λ k. K.times (g (chosen r) k) (b.0 k j)) (λ k i. ap (λ x. K.times x (b.0 k j)) (h (chosen r) k (c.below r l) i)) ∙ b.1.right r j l o;
        left = λ r j l o. sum_same L d (λ k. K.times (b.0 r k) (m (chosen k) j)) (λ k. K.times (b.0 r k) (g (chosen k) j)) (λ k i. ap (K.times (b.0 r k)) (h (chosen k) j (c.below k i) o)) ∙ b.1.left r j l o;
      },
    )
