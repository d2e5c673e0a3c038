-- A register is linear: the xor of two registers goes on as the xor of what each becomes. Assumes nothing.
use Rattle.std.proofs.Common.{◌≡◌, ℕ, zero, suc, ◌*◌, ◌/◌, ◌%◌, ◌^◌, ◌<◌, cond, eqb, List, [], ◌∷◌, ◌++◌, sym, refl, ap, ◌∙◌, ap₂, arith}
use lib.Bits.{bit_xor, xor_zero_r, xor_self, xor_mod, xor_shr, xor_shifted, shifted_half, shifted_even}
use Rattle.std.proofs.lemmas.Nat.{shr_split, mod_below, pow_pos}
use Rattle.gfmath.proofs.Linear.{xor_four}
use Rattle.crcmath.specs.Registers.{step, steps, fed}

-- what two lowest bits take away
taken : (p q g : ℕ) → p < 2 → q < 2 → cond (eqb (bit_xor p q) 1) g 0 ≡ bit_xor (cond (eqb p 1) g 0) (cond (eqb q 1) g 0)
taken zero zero g hp hq = refl
taken zero (suc zero) g hp hq = refl
taken (suc zero) zero g hp hq = sym (xor_zero_r g)
taken (suc zero) (suc zero) g hp hq = sym (xor_self g)
taken (suc (suc p)) q g hp hq = omega arith
taken zero (suc (suc q)) g hp hq = omega arith
taken (suc zero) (suc (suc q)) g hp hq = omega arith

pub step_xor : (g r s : ℕ) → step g (bit_xor r s) ≡ bit_xor (step g r) (step g s)
unfolding step
step_xor g r s =
    ap₂ bit_xor (xor_shr r s 1)
    (ap (λ (n : ℕ). cond (eqb n 1) g 0) (xor_mod r s 1) ∙ taken (r % 2) (s % 2) g (omega arith) (omega arith))
    ∙ xor_four (r / 2) (s / 2) (cond (eqb (r % 2) 1) g 0) (cond (eqb (s % 2) 1) g 0)

pub steps_xor : (g n r s : ℕ) → steps g n (bit_xor r s) ≡ bit_xor (steps g n r) (steps g n s)
unfolding steps
steps_xor g zero r s = refl
steps_xor g (suc n) r s = ap (steps g n) (step_xor g r s) ∙ steps_xor g n (step g r) (step g s)

-- an even register is only halved
step_even : (g a k : ℕ) → step g (a * 2 ^ suc k) ≡ a * 2 ^ k
unfolding step
step_even g a k =
    ap₂ bit_xor (shifted_half a k) (ap (λ (n : ℕ). cond (eqb n 1) g 0) (shifted_even a k)) ∙ xor_zero_r (a * 2 ^ k)

-- bits above the n lowest only move down
pub steps_shifted : (g n a : ℕ) → steps g n (a * 2 ^ n) ≡ a
unfolding steps
steps_shifted g zero a = omega arith
steps_shifted g (suc n) a = ap (steps g n) (step_even g a n) ∙ steps_shifted g n a

-- the n lowest bits alone decide what is taken away
pub steps_split : (g n r : ℕ) → steps g n r ≡ bit_xor (r / 2 ^ n) (steps g n (r % 2 ^ n))
steps_split g n r =
    ap (steps g n) whole ∙ steps_xor g n (r / 2 ^ n * 2 ^ n) (r % 2 ^ n) ∙ ap (λ (m : ℕ). bit_xor m (steps g n (r % 2 ^ n))) (steps_shifted g n (r / 2 ^ n))
  where
    whole : r ≡ bit_xor (r / 2 ^ n * 2 ^ n) (r % 2 ^ n)
    whole = sym (xor_shifted (r / 2 ^ n) n (r % 2 ^ n) (mod_below r (2 ^ n) (pow_pos n)) ∙ shr_split r n)

-- a list that is fed after another goes on from where that left the register
pub fed_append : (g r : ℕ) (xs ys : List ℕ) → fed g r (xs ++ ys) ≡ fed g (fed g r xs) ys
fed_append g r [] ys = refl
fed_append g r (x ∷ xs) ys = fed_append g (steps g 8 (bit_xor r x)) xs ys
