-- The laws of the field of 256 elements: each is linear in its factors, so it is computed at powers of two. Assumes nothing.
use Rattle.std.proofs.Common.{◌≡◌, ℕ, zero, suc, ◌+◌, ◌*◌, ◌/◌, ◌%◌, ◌^◌, ◌<◌, ◌≤◌, Bool, true, false, cond, ◌||◌, T, eqb, ltb, sym, refl, ap, ◌∙◌, subst, ap₂, arith, lit<, eqb→eq, ltb→lt}
use lib.Bits.{bit_xor, xor_lt, xor_comm, xor_assoc, xor_self, xor_zero_l, xor_shifted}
use Rattle.std.proofs.lemmas.Nat.{pow_below}
use Rattle.gfmath.specs.Polynomials.{bit, carryless, cleared, remainder, product, powers, inverse_of, LeftBy}
use Rattle.gfmath.proofs.Tests.{all_below, below_at, pair_at}
use Rattle.gfmath.proofs.Linear.{carryless_second, product_first, product_second, first_zero, second_zero, every}

-- ---- bytes
lt_test : T (all_below 8 (λ i. all_below 8 (λ j. ltb (product (2 ^ i) (2 ^ j)) 256)))
unfolding product carryless remainder
lt_test = tt

lt_power : (i : ℕ) → i < 8 → (b : ℕ) → b < 256 → product (2 ^ i) b < 256
lt_power i hi =
    every (λ b. product (2 ^ i) b < 256) (subst (λ (n : ℕ). n < 256) (sym (second_zero (2 ^ i))) (lit< tt))
    (λ j hj. ltb→lt _ _ (pair_at 8 8 (λ i j. ltb (product (2 ^ i) (2 ^ j)) 256) lt_test i j hi hj))
    (λ b c hb hc p q. subst (λ (n : ℕ). n < 256) (sym (product_second (2 ^ i) b c)) (xor_lt 8 _ _ p q))

pub product_lt : (a b : ℕ) → a < 256 → b < 256 → product a b < 256
product_lt a b ha hb =
    every (λ a. product a b < 256) (subst (λ (n : ℕ). n < 256) (sym (first_zero b)) (lit< tt)) (λ i hi. lt_power i hi b hb)
    (λ c d hc hd p q. subst (λ (n : ℕ). n < 256) (sym (product_first c d b)) (xor_lt 8 _ _ p q)) a ha

pub powers_lt : (n a : ℕ) → a < 256 → powers n a < 256
unfolding powers
powers_lt zero a h = lit< tt
powers_lt (suc n) a h = product_lt a _ h (powers_lt n (product a a) (product_lt a a h h))

pub inverse_lt : (a : ℕ) → a < 256 → inverse_of a < 256
unfolding inverse_of
inverse_lt a h = powers_lt 7 _ (product_lt a a h h)

-- ---- commutative
comm_test : T (all_below 8 (λ i. all_below 8 (λ j. eqb (product (2 ^ i) (2 ^ j)) (product (2 ^ j) (2 ^ i)))))
unfolding product carryless remainder
comm_test = tt

comm_power : (j : ℕ) → j < 8 → (a : ℕ) → a < 256 → product a (2 ^ j) ≡ product (2 ^ j) a
comm_power j hj =
    every (λ a. product a (2 ^ j) ≡ product (2 ^ j) a) (first_zero (2 ^ j) ∙ sym (second_zero (2 ^ j)))
    (λ i hi. eqb→eq _ _ (pair_at 8 8 (λ i j. eqb (product (2 ^ i) (2 ^ j)) (product (2 ^ j) (2 ^ i))) comm_test i j hi hj))
    (λ a b ha hb p q. product_first a b (2 ^ j) ∙ ap₂ bit_xor p q ∙ sym (product_second (2 ^ j) a b))

pub product_comm : (a b : ℕ) → a < 256 → b < 256 → product a b ≡ product b a
product_comm a b ha hb =
    every (λ b. product a b ≡ product b a) (second_zero a ∙ sym (first_zero a)) (λ j hj. comm_power j hj a ha)
    (λ c d hc hd p q. product_second a c d ∙ ap₂ bit_xor p q ∙ sym (product_first c d a)) b hb

-- ---- associative
assoc_test : T (all_below 8 (λ i. all_below 8 (λ j. all_below 8 (λ k. eqb (product (product (2 ^ i) (2 ^ j)) (2 ^ k)) (product (2 ^ i) (product (2 ^ j) (2 ^ k)))))))
unfolding product carryless remainder
assoc_test = tt

assoc_powers : (i j : ℕ) → i < 8 → j < 8 → (c : ℕ) → c < 256 → product (product (2 ^ i) (2 ^ j)) c ≡ product (2 ^ i) (product (2 ^ j) c)
assoc_powers i j hi hj =
    every (λ c. product (product (2 ^ i) (2 ^ j)) c ≡ product (2 ^ i) (product (2 ^ j) c))
    (second_zero (product (2 ^ i) (2 ^ j)) ∙ sym (ap (product (2 ^ i)) (second_zero (2 ^ j)) ∙ second_zero (2 ^ i)))
    (λ k hk. eqb→eq _ _ (below_at 8 (λ k. eqb (product (product (2 ^ i) (2 ^ j)) (2 ^ k)) (product (2 ^ i) (product (2 ^ j) (2 ^ k)))) (pair_at 8 8 (λ i j. all_below 8 (λ k. eqb (product (product (2 ^ i) (2 ^ j)) (2 ^ k)) (product (2 ^ i) (product (2 ^ j) (2 ^ k))))) assoc_test i j hi hj) k hk))
    (λ c d hc hd p q. product_second (product (2 ^ i) (2 ^ j)) c d ∙ ap₂ bit_xor p q
    ∙ sym (ap (product (2 ^ i)) (product_second (2 ^ j) c d) ∙ product_second (2 ^ i) (product (2 ^ j) c) (product (2 ^ j) d)))

assoc_power : (i : ℕ) → i < 8 → (b c : ℕ) → b < 256 → c < 256 → product (product (2 ^ i) b) c ≡ product (2 ^ i) (product b c)
assoc_power i hi b c hb hc =
    every (λ b. product (product (2 ^ i) b) c ≡ product (2 ^ i) (product b c))
    (ap (λ (n : ℕ). product n c) (second_zero (2 ^ i)) ∙ first_zero c ∙ sym (ap (product (2 ^ i)) (first_zero c) ∙ second_zero (2 ^ i)))
    (λ j hj. assoc_powers i j hi hj c hc)
    (λ d e hd he p q. ap (λ (n : ℕ). product n c) (product_second (2 ^ i) d e) ∙ product_first (product (2 ^ i) d) (product (2 ^ i) e) c ∙ ap₂ bit_xor p q
    ∙ sym (ap (product (2 ^ i)) (product_first d e c) ∙ product_second (2 ^ i) (product d c) (product e c))) b hb

pub product_assoc : (a b c : ℕ) → a < 256 → b < 256 → c < 256 → product (product a b) c ≡ product a (product b c)
product_assoc a b c ha hb hc =
    every (λ a. product (product a b) c ≡ product a (product b c))
    (ap (λ (n : ℕ). product n c) (first_zero b) ∙ first_zero c ∙ sym (first_zero (product b c)))
    (λ i hi. assoc_power i hi b c hb hc)
    (λ d e hd he p q. ap (λ (n : ℕ). product n c) (product_first d e b) ∙ product_first (product d b) (product e b) c ∙ ap₂ bit_xor p q ∙ sym (product_first d e (product b c))) a ha

-- ---- one, and the inverse
one_test : T (all_below 256 (λ a. eqb (product a 1) a))
unfolding product carryless remainder
one_test = tt

pub product_one : (a : ℕ) → a < 256 → product a 1 ≡ a
product_one a h = eqb→eq _ _ (below_at 256 (λ a. eqb (product a 1) a) one_test a h)

inverse_test : T (all_below 256 (λ a. eqb a 0 || eqb (product a (inverse_of a)) 1))
unfolding product carryless remainder powers inverse_of
inverse_test = tt

or_second : (a b : Bool) → (T a → ⊥) → T (a || b) → T b
or_second true b h t = absurd (h tt)
or_second false b h t = t

pub product_inverse : (a : ℕ) → a < 256 → (a ≡ 0 → ⊥) → product a (inverse_of a) ≡ 1
product_inverse a h n =
    eqb→eq _ _ (or_second (eqb a 0) _ (λ t. n (eqb→eq a 0 t)) (below_at 256 (λ a. eqb a 0 || eqb (product a (inverse_of a)) 1) inverse_test a h))

-- ---- bit by bit: the lowest bit of b stands for a, the others for the double of a
double_test : T (all_below 256 (λ a. eqb (product a 2) (cond (ltb a 128) (2 * a) (bit_xor (2 * a) 0x11D))))
unfolding product carryless remainder
double_test = tt

pub product_two : (a : ℕ) → a < 256 → product a 2 ≡ cond (ltb a 128) (2 * a) (bit_xor (2 * a) 0x11D)
product_two a h = eqb→eq _ _ (below_at 256 (λ a. eqb (product a 2) (cond (ltb a 128) (2 * a) (bit_xor (2 * a) 0x11D))) double_test a h)

two_test : T (all_below 128 (λ b. eqb (product 2 b) (b * 2)))
unfolding product carryless remainder
two_test = tt

lowest : (a r : ℕ) → a < 256 → r < 2 → product a r ≡ cond (eqb r 1) a 0
lowest a zero h l = second_zero a
lowest a (suc zero) h l = product_one a h
lowest a (suc (suc r)) h l = omega arith

pub product_step : (a b : ℕ) → a < 256 → b < 256 → product a b ≡ bit_xor (cond (eqb (b % 2) 1) a 0) (product (product a 2) (b / 2))
product_step a b ha hb =
    ap (product a) split ∙ product_second a (b / 2 * 2) (b % 2) ∙ xor_comm (product a (b / 2 * 2)) (product a (b % 2))
    ∙ ap₂ bit_xor (lowest a (b % 2) ha (omega arith))
    (ap (product a) (sym (eqb→eq _ _ (below_at 128 (λ b. eqb (product 2 b) (b * 2)) two_test (b / 2) half))) ∙ sym (product_assoc a 2 (b / 2) ha (lit< tt) (omega arith)))
  where
    half : b / 2 < 128
    half = omega arith

    split : b ≡ bit_xor (b / 2 * 2) (b % 2)
    split = let e : b / 2 * 2 + b % 2 ≡ b = omega arith in sym (xor_shifted (b / 2) 1 (b % 2) (omega arith) ∙ e)

-- ---- the remainder is what division leaves
quotient_of : ℕ → ℕ → ℕ
quotient_of zero n = 0
quotient_of (suc k) n = bit_xor (cond (bit (8 + k) n) (2 ^ k) 0) (quotient_of k (cleared k n))

if_lt : (t : Bool) (k : ℕ) → k < 8 → cond t (2 ^ k) 0 < 256
if_lt true k h = pow_below k 8 h
if_lt false k h = lit< tt

quotient_lt : (k n : ℕ) → k ≤ 8 → quotient_of k n < 256
unfolding quotient_of
quotient_lt zero n h = lit< tt
quotient_lt (suc k) n h = xor_lt 8 _ _ (if_lt (bit (8 + k) n) k h) (quotient_lt k (cleared k n) (omega arith))

multiple_test : T (all_below 8 (λ k. eqb (carryless 8 0x11D (2 ^ k)) (0x11D * 2 ^ k)))
unfolding carryless
multiple_test = tt

carryless_none : carryless 8 0x11D 0 ≡ 0
unfolding carryless
carryless_none = refl

multiple : (t : Bool) (k : ℕ) → k < 8 → carryless 8 0x11D (cond t (2 ^ k) 0) ≡ cond t (0x11D * 2 ^ k) 0
multiple true k h = eqb→eq _ _ (below_at 8 (λ k. eqb (carryless 8 0x11D (2 ^ k)) (0x11D * 2 ^ k)) multiple_test k h)
multiple false k h = carryless_none

-- taking the same twice away leaves what was there
xor_twice : (n m : ℕ) → bit_xor m (bit_xor n m) ≡ n
xor_twice n m = ap (bit_xor m) (xor_comm n m) ∙ sym (xor_assoc m m n) ∙ ap (λ (i : ℕ). bit_xor i n) (xor_self m) ∙ xor_zero_l n

divides : (k n : ℕ) → k ≤ 8 → bit_xor (carryless 8 0x11D (quotient_of k n)) (remainder k n) ≡ n
unfolding quotient_of remainder
divides zero n h = ap (λ (m : ℕ). bit_xor m n) carryless_none ∙ xor_zero_l n
divides (suc k) n h =
    let t = bit (8 + k) n in
    let m = cond t (0x11D * 2 ^ k) 0 in
    ap (λ (i : ℕ). bit_xor i (remainder k (cleared k n)))
    (carryless_second 8 0x11D (cond t (2 ^ k) 0) (quotient_of k (cleared k n)) ∙ ap (λ (i : ℕ). bit_xor i (carryless 8 0x11D (quotient_of k (cleared k n)))) (multiple t k h))
    ∙ xor_assoc m (carryless 8 0x11D (quotient_of k (cleared k n))) (remainder k (cleared k n))
    ∙ ap (bit_xor m) (divides k (cleared k n) (omega arith)) ∙ xor_twice n m

pub left_by : (a b : ℕ) → a < 256 → b < 256 → LeftBy (carryless 8 a b) (product a b)
left_by a b ha hb = record {
  quotient = quotient_of 7 (carryless 8 a b);
  small = quotient_lt 7 (carryless 8 a b) (omega arith);
  divided = sym (ap (bit_xor (carryless 8 0x11D (quotient_of 7 (carryless 8 a b)))) (product_is a b) ∙ divides 7 (carryless 8 a b) (omega arith));
  byte = product_lt a b ha hb;
}
  where
    product_is : (a b : ℕ) → product a b ≡ remainder 7 (carryless 8 a b)
    product_is a b = unfold product in refl
