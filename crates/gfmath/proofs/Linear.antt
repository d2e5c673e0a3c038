-- The product is linear in each factor, and what holds of the powers of two and of sums holds of each byte. Assumes nothing.
use Rattle.std.proofs.Common.{◌≡◌, ℕ, zero, suc, ◌+◌, ◌*◌, ◌/◌, ◌%◌, ◌^◌, ◌<◌, ◌≤◌, Bool, true, false, cond, T, eqb, sym, refl, ap, ◌∙◌, subst, ap₂, add-zero, le_of_lt, arith, lit<, eqb→eq, pow_pos}
use lib.Bits.{bit_xor, xor_lt, xor_assoc, xor_comm, xor_zero_r, xor_self, xor_mod, xor_shr, xor_block}
use Rattle.std.proofs.lemmas.Nat.{pow_below}
use Rattle.gfmath.specs.Polynomials.{bit, carryless, cleared, remainder, product}
use Rattle.gfmath.proofs.Tests.{all_below, below_at}

pub xor_four : (a b c d : ℕ) → bit_xor (bit_xor a b) (bit_xor c d) ≡ bit_xor (bit_xor a c) (bit_xor b d)
xor_four a b c d =
    xor_assoc a b (bit_xor c d) ∙ ap (bit_xor a) (sym (xor_assoc b c d) ∙ ap (λ (n : ℕ). bit_xor n d) (xor_comm b c) ∙ xor_assoc c b d)
    ∙ sym (xor_assoc a c (bit_xor b d))

-- of two binary digits
digit : (p q a : ℕ) → p < 2 → q < 2 → cond (eqb (bit_xor p q) 1) a 0 ≡ bit_xor (cond (eqb p 1) a 0) (cond (eqb q 1) a 0)
digit zero zero a hp hq = refl
digit zero (suc zero) a hp hq = refl
digit (suc zero) zero a hp hq = sym (xor_zero_r a)
digit (suc zero) (suc zero) a hp hq = sym (xor_self a)
digit (suc (suc p)) q a hp hq = omega arith
digit zero (suc (suc q)) a hp hq = omega arith
digit (suc zero) (suc (suc q)) a hp hq = omega arith

where_set : (i b c a : ℕ) → cond (bit i (bit_xor b c)) a 0 ≡ bit_xor (cond (bit i b) a 0) (cond (bit i c) a 0)
where_set i b c a =
    ap (λ (n : ℕ). cond (eqb n 1) a 0) (ap (λ (n : ℕ). n % 2) (xor_shr b c i) ∙ xor_mod (b / 2 ^ i) (c / 2 ^ i) 1)
    ∙ digit (b / 2 ^ i % 2) (c / 2 ^ i % 2) a (omega arith) (omega arith)

pub carryless_second : (n a b c : ℕ) → carryless n a (bit_xor b c) ≡ bit_xor (carryless n a b) (carryless n a c)
unfolding carryless
carryless_second zero a b c = refl
carryless_second (suc n) a b c =
    ap₂ bit_xor (carryless_second n a b c) (where_set n b c (a * 2 ^ n))
    ∙ xor_four (carryless n a b) (carryless n a c) (cond (bit n b) (a * 2 ^ n) 0) (cond (bit n c) (a * 2 ^ n) 0)

shifted : (k a b : ℕ) → bit_xor a b * 2 ^ k ≡ bit_xor (a * 2 ^ k) (b * 2 ^ k)
shifted k a b =
    sym (add-zero (bit_xor a b * 2 ^ k)) ∙ sym (xor_block k a b 0 0 (pow_pos k) (pow_pos k))
    ∙ ap₂ bit_xor (add-zero (a * 2 ^ k)) (add-zero (b * 2 ^ k))

cond_xor : (t : Bool) (a b : ℕ) → cond t (bit_xor a b) 0 ≡ bit_xor (cond t a 0) (cond t b 0)
cond_xor true a b = refl
cond_xor false a b = refl

carryless_first : (n a b c : ℕ) → carryless n (bit_xor a b) c ≡ bit_xor (carryless n a c) (carryless n b c)
unfolding carryless
carryless_first zero a b c = refl
carryless_first (suc n) a b c =
    ap₂ bit_xor (carryless_first n a b c) (ap (λ (m : ℕ). cond (bit n c) m 0) (shifted n a b) ∙ cond_xor (bit n c) (a * 2 ^ n) (b * 2 ^ n))
    ∙ xor_four (carryless n a c) (carryless n b c) (cond (bit n c) (a * 2 ^ n) 0) (cond (bit n c) (b * 2 ^ n) 0)

cleared_xor : (k a b : ℕ) → cleared k (bit_xor a b) ≡ bit_xor (cleared k a) (cleared k b)
cleared_xor k a b =
    ap (bit_xor (bit_xor a b)) (where_set (8 + k) a b (0x11D * 2 ^ k))
    ∙ xor_four a b (cond (bit (8 + k) a) (0x11D * 2 ^ k) 0) (cond (bit (8 + k) b) (0x11D * 2 ^ k) 0)

pub remainder_xor : (k a b : ℕ) → remainder k (bit_xor a b) ≡ bit_xor (remainder k a) (remainder k b)
unfolding remainder
remainder_xor zero a b = refl
remainder_xor (suc k) a b = ap (remainder k) (cleared_xor k a b) ∙ remainder_xor k (cleared k a) (cleared k b)

pub product_second : (a b c : ℕ) → product a (bit_xor b c) ≡ bit_xor (product a b) (product a c)
unfolding product
product_second a b c = ap (remainder 7) (carryless_second 8 a b c) ∙ remainder_xor 7 (carryless 8 a b) (carryless 8 a c)

pub product_first : (a b c : ℕ) → product (bit_xor a b) c ≡ bit_xor (product a c) (product b c)
unfolding product
product_first a b c = ap (remainder 7) (carryless_first 8 a b c) ∙ remainder_xor 7 (carryless 8 a c) (carryless 8 b c)

pub second_zero : (a : ℕ) → product a 0 ≡ 0
second_zero a = product_second a 0 0 ∙ xor_self (product a 0)

pub first_zero : (a : ℕ) → product 0 a ≡ 0
first_zero a = product_first 0 0 a ∙ xor_self (product 0 a)

-- ---- a byte is the xor of the powers of two at its bits
bits : ℕ → ℕ → ℕ
bits zero a = 0
bits (suc n) a = bit_xor (cond (bit n a) (2 ^ n) 0) (bits n a)

bits_test : T (all_below 256 (λ a. eqb (bits 8 a) a))
unfolding bits
bits_test = tt

module _ (P : ℕ → Type 0) (none : P 0) (one : (i : ℕ) → i < 8 → P (2 ^ i)) (join : (a b : ℕ) → a < 256 → b < 256 → P a → P b → P (bit_xor a b)) where
  bit_holds : (t : Bool) (i : ℕ) → i < 8 → P (cond t (2 ^ i) 0)
  bit_holds true i h = one i h
  bit_holds false i h = none

  bit_lt : (t : Bool) (i : ℕ) → i < 8 → cond t (2 ^ i) 0 < 256
  bit_lt true i h = pow_below i 8 h
  bit_lt false i h = lit< tt

  bits_lt : (n a : ℕ) → n ≤ 8 → bits n a < 256
  unfolding bits
  bits_lt zero a h = lit< tt
  bits_lt (suc n) a h = xor_lt 8 _ _ (bit_lt (bit n a) n h) (bits_lt n a (le_of_lt h))

  bits_hold : (n a : ℕ) → n ≤ 8 → P (bits n a)
  unfolding bits
  bits_hold zero a h = none
  bits_hold (suc n) a h = join _ _ (bit_lt (bit n a) n h) (bits_lt n a (le_of_lt h)) (bit_holds (bit n a) n h) (bits_hold n a (le_of_lt h))

  pub every : (a : ℕ) → a < 256 → P a
  every a h = subst P (eqb→eq _ _ (below_at 256 (λ a. eqb (bits 8 a) a) bits_test a h)) (bits_hold 8 a (omega arith))
