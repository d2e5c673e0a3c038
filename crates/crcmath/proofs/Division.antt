-- The bits that leave a register are a quotient, and the register is what division leaves. Assumes nothing.
use Rattle.std.proofs.Common.{◌≡◌, ℕ, zero, suc, ◌+◌, ◌*◌, ◌/◌, ◌%◌, ◌^◌, ◌<◌, Bool, true, false, cond, eqb, List, [], ◌∷◌, length, sym, refl, ap, ◌∙◌, ap₂, add-zero, mul_assoc, suc-add, pow-suc, zero-add, one-add, arith, lit<}
use lib.Bits.{bit_xor, xor_zero_r, xor_self, xor_comm, xor_assoc, xor_block, xor_lt}
use Rattle.std.proofs.lemmas.Nat.{pow_pos, shr-shr}
use Rattle.gfmath.specs.Polynomials.{bit, carryless}
use Rattle.crcmath.specs.Registers.{ones, reversed, step, steps, fed, crc_of}
use Rattle.crcmath.specs.Divided.{message, Divides}
use Rattle.crcmath.proofs.Linear.{step_xor, steps_xor, steps_shifted}

-- the generator g, its bits reversed, under its first term
abbrev odd : ℕ → ℕ
odd g = g * 2 + 1

-- ---- products without carries, from the lowest bit up
xor_twice : (a b : ℕ) → bit_xor (bit_xor a b) b ≡ a
xor_twice a b = xor_assoc a b b ∙ ap (bit_xor a) (xor_self b) ∙ xor_zero_r a

double_xor : (a b : ℕ) → bit_xor a b * 2 ≡ bit_xor (a * 2) (b * 2)
double_xor a b =
    sym (add-zero (bit_xor a b * 2)) ∙ sym (xor_block 1 a b 0 0 (pow_pos 1) (pow_pos 1)) ∙ ap₂ bit_xor (add-zero (a * 2)) (add-zero (b * 2))

double_power : (a n : ℕ) → a * 2 ^ suc n ≡ a * 2 ^ n * 2
double_power a n = ap (λ (m : ℕ). a * m) (pow-suc 2 n) ∙ sym (mul_assoc a (2 ^ n) 2)

double_if : (t : Bool) (a n : ℕ) → cond t (a * 2 ^ suc n) 0 ≡ cond t (a * 2 ^ n) 0 * 2
double_if true a n = double_power a n
double_if false a n = refl

bit_above : (n b : ℕ) → bit (suc n) b ≡ bit n (b / 2)
bit_above n b = ap (λ (m : ℕ). eqb (m % 2) 1) (ap (λ (m : ℕ). b / 2 ^ m) (sym (one-add n)) ∙ sym (shr-shr b 1 n))

carryless_low : (n a b : ℕ) → carryless (suc n) a b ≡ bit_xor (cond (eqb (b % 2) 1) a 0) (carryless n a (b / 2) * 2)
unfolding carryless
carryless_low zero a b =
    let e : b / 1 ≡ b = omega arith in
    let f : a * 1 ≡ a = omega arith in
    ap₂ (λ (m n : ℕ). cond (eqb (m % 2) 1) n 0) e f ∙ sym (xor_zero_r (cond (eqb (b % 2) 1) a 0))
carryless_low (suc n) a b =
    ap₂ bit_xor (carryless_low n a b) (ap (λ (t : Bool). cond t (a * 2 ^ suc n) 0) (bit_above n b) ∙ double_if (bit n (b / 2)) a n)
    ∙ xor_assoc (cond (eqb (b % 2) 1) a 0) (carryless n a (b / 2) * 2) (cond (bit n (b / 2)) (a * 2 ^ n) 0 * 2)
    ∙ ap (bit_xor (cond (eqb (b % 2) 1) a 0)) (sym (double_xor (carryless n a (b / 2)) (cond (bit n (b / 2)) (a * 2 ^ n) 0)))

-- ---- the generator with its first term
mul_two : (d m : ℕ) → d * (m * 2) ≡ d * m * 2
mul_two d m = sym (mul_assoc d m 2)

whole_is : (n p : ℕ) → p < 2 ^ n → reversed (suc n) (2 ^ n + p) ≡ reversed n p * 2 + 1
unfolding reversed
whole_is zero p h = let none : p ≡ 0 = omega arith in ap (λ (m : ℕ). (1 + m) % 2 * 1 + 0) none
whole_is (suc n) p h =
    let twice : 2 ^ suc n ≡ 2 ^ n * 2 = pow-suc 2 n in
    let low : (2 ^ suc n + p) % 2 ≡ p % 2 = omega arith in
    let high : (2 ^ suc n + p) / 2 ≡ 2 ^ n + p / 2 = omega arith in
    let half : p / 2 < 2 ^ n = omega arith in
    ap₂ (λ (d m : ℕ). d * 2 ^ suc n + reversed (suc n) m) low high
    ∙ ap₂ ◌+◌ (ap (λ (m : ℕ). p % 2 * m) twice ∙ mul_two (p % 2) (2 ^ n)) (whole_is n (p / 2) half)
    ∙ omega arith

-- ---- a register is what it becomes, moved up again, with the generator added where a set bit left
back : (g h d : ℕ) → d < 2 → h * 2 + d ≡ bit_xor (cond (eqb d 1) (odd g) 0) (bit_xor h (cond (eqb d 1) g 0) * 2)
back g h zero l = add-zero (h * 2) ∙ ap (λ (m : ℕ). m * 2) (sym (xor_zero_r h))
back g h (suc zero) l =
    ap (λ (m : ℕ). m * 2 + 1) (sym (xor_comm g (bit_xor h g) ∙ xor_twice h g)) ∙ sym (xor_block 1 g (bit_xor h g) 1 0 (lit< tt) (lit< tt))
    ∙ ap (bit_xor (g * 2 + 1)) (add-zero (bit_xor h g * 2))
back g h (suc (suc d)) l = omega arith

step_back : (g r : ℕ) → r ≡ bit_xor (cond (eqb (r % 2) 1) (odd g) 0) (step g r * 2)
unfolding step
step_back g r = let e : r ≡ r / 2 * 2 + r % 2 = omega arith in e ∙ back g (r / 2) (r % 2) (omega arith)

-- the bits that leave, the first lowest
quotient_of : ℕ → ℕ → ℕ → ℕ
quotient_of g zero r = 0
quotient_of g (suc n) r = quotient_of g n (step g r) * 2 + r % 2

quotient_small : (g n r : ℕ) → quotient_of g n r < 2 ^ n
unfolding quotient_of
quotient_small g zero r = lit< tt
quotient_small g (suc n) r = omega (arith, quotient_small g n (step g r), pow-suc 2 n)

quotient_divides : (g n r : ℕ) → r ≡ bit_xor (carryless n (odd g) (quotient_of g n r)) (steps g n r * 2 ^ n)
unfolding quotient_of carryless steps
quotient_divides g zero r = omega arith
quotient_divides g (suc n) r =
    let s = step g r in
    let q = quotient_of g n s in
    let first = cond (eqb (r % 2) 1) (odd g) 0 in
    let low : r % 2 ≡ (q * 2 + r % 2) % 2 = omega arith in
    let high : q ≡ (q * 2 + r % 2) / 2 = omega arith in
    step_back g r
    ∙ ap (bit_xor first)
    (ap (λ (m : ℕ). m * 2) (quotient_divides g n s) ∙ double_xor (carryless n (odd g) q) (steps g n s * 2 ^ n)
    ∙ ap (bit_xor (carryless n (odd g) q * 2)) (sym (double_power (steps g n s) n)))
    ∙ sym (xor_assoc first (carryless n (odd g) q * 2) (steps g n s * 2 ^ suc n))
    ∙ ap (λ (m : ℕ). bit_xor m (steps g n s * 2 ^ suc n))
    (ap₂ (λ (d h : ℕ). bit_xor (cond (eqb d 1) (odd g) 0) (carryless n (odd g) h * 2)) low high ∙ sym (carryless_low n (odd g) (q * 2 + r % 2)))

-- ---- nothing is left of a multiple of the generator
odd_leaves : (g d : ℕ) → d < 2 → step g (cond (eqb d 1) (odd g) 0) ≡ 0
unfolding step
odd_leaves g zero l = refl
odd_leaves g (suc zero) l =
    let half : (g * 2 + 1) / 2 ≡ g = omega arith in
    let low : (g * 2 + 1) % 2 ≡ 1 = omega arith in
    ap₂ (λ (h d : ℕ). bit_xor h (cond (eqb d 1) g 0)) half low ∙ xor_self g
odd_leaves g (suc (suc d)) l = omega arith

step_none : (g d x : ℕ) → d < 2 → step g (bit_xor (cond (eqb d 1) (odd g) 0) (x * 2)) ≡ x
unfolding steps
step_none g d x l = step_xor g (cond (eqb d 1) (odd g) 0) (x * 2) ∙ ap₂ bit_xor (odd_leaves g d l) (steps_shifted g 1 x)

multiple_leaves : (g n q : ℕ) → steps g n (carryless n (odd g) q) ≡ 0
unfolding steps carryless
multiple_leaves g zero q = refl
multiple_leaves g (suc n) q =
    ap (λ (r : ℕ). steps g n (step g r)) (carryless_low n (odd g) q)
    ∙ ap (steps g n) (step_none g (q % 2) (carryless n (odd g) (q / 2)) (omega arith)) ∙ multiple_leaves g n (q / 2)

-- ---- bytes that are added one after another might be added all at once
steps_more : (g m n r : ℕ) → steps g n (steps g m r) ≡ steps g (m + n) r
unfolding steps
steps_more g zero n r = ap (λ (k : ℕ). steps g k r) (sym (zero-add n))
steps_more g (suc m) n r = steps_more g m n (step g r) ∙ ap (λ (k : ℕ). steps g k r) (sym (suc-add m n))

fed_message : (g r : ℕ) (bs : List ℕ) → fed g r bs ≡ steps g (8 * length bs) (bit_xor r (message bs))
unfolding steps
fed_message g r [] = sym (xor_zero_r r)
fed_message g r (b ∷ bs) =
    let count : 8 + 8 * length bs ≡ 8 * suc (length bs) = omega arith in
    fed_message g (steps g 8 (bit_xor r b)) bs
    ∙ ap (steps g (8 * length bs))
    (ap (bit_xor (steps g 8 (bit_xor r b))) (sym (steps_shifted g 8 (message bs))) ∙ sym (steps_xor g 8 (bit_xor r b) (message bs * 256))
    ∙ ap (steps g 8) (xor_assoc r b (message bs * 256)))
    ∙ steps_more g 8 (8 * length bs) (bit_xor r (message (b ∷ bs))) ∙ ap (λ (k : ℕ). steps g k (bit_xor r (message (b ∷ bs)))) count

-- ---- the checksum is what division leaves, and nothing else is
module _ (p : ℕ) (h : p < 2 ^ 32) where
  g : ℕ
  g = reversed 32 p

  pub crc_divides : (bs : List ℕ) → crc_of p bs < 2 ^ 32 → Divides p bs (crc_of p bs)
  unfolding crc_of g
  crc_divides bs l =
      let n = 8 * length bs in
      let start = bit_xor (message bs) ones in
      let left : steps g n start ≡ bit_xor (crc_of p bs) ones =
      ap (steps g n) (xor_comm (message bs) ones) ∙ sym (fed_message g ones bs) ∙ sym (xor_twice (fed g ones bs) ones)
      in record {
        quotient = quotient_of g n start;
        small = quotient_small g n start;
        divided =
            quotient_divides g n start
            ∙ ap₂ (λ (f r : ℕ). bit_xor (carryless n f (quotient_of g n start)) (r * 2 ^ n)) (sym (whole_is 32 p h)) left;
        short = xor_lt 32 (crc_of p bs) ones l (lit< tt);
      }

  pub divides_only : (bs : List ℕ) (sum : ℕ) → Divides p bs sum → sum ≡ crc_of p bs
  unfolding crc_of g
  divides_only bs sum d =
      let n = 8 * length bs in
      let f = carryless n (odd g) d.quotient in
      let left = bit_xor sum ones in
      sym (xor_twice sum ones)
      ∙ ap (λ (r : ℕ). bit_xor r ones)
      (sym (steps_shifted g n left) ∙ ap (λ (r : ℕ). bit_xor r (steps g n (left * 2 ^ n))) (sym (multiple_leaves g n d.quotient))
      ∙ sym (steps_xor g n f (left * 2 ^ n))
      ∙ ap (steps g n)
      (sym (d.divided ∙ ap (λ (f : ℕ). bit_xor (carryless n f d.quotient) (left * 2 ^ n)) (whole_is 32 p h)) ∙ xor_comm (message bs) ones)
      ∙ sym (fed_message g ones bs))
