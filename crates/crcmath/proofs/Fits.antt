-- A register has 32 bits, and so has a checksum. Assumes nothing.
use Rattle.std.proofs.Common.{ℕ, zero, suc, ◌*◌, ◌/◌, ◌%◌, ◌^◌, ◌<◌, ◌≤◌, cond, eqb, List, [], ◌∷◌, pow-suc, arith, lit<}
use lib.Bits.{bit_xor, xor_lt}
use Rattle.std.specs.List.{AllByRecursion as All}
use Rattle.std.proofs.lemmas.Bool.{cond_both}
use Rattle.crcmath.specs.Registers.{ones, reversed, step, steps, fed, crc_of}

step_fits : (g r : ℕ) → g < 2 ^ 32 → r < 2 ^ 32 → step g r < 2 ^ 32
unfolding step
step_fits g r hg hr = xor_lt 32 (r / 2) (cond (eqb (r % 2) 1) g 0) (omega arith) (cond_both (eqb (r % 2) 1) g 0 (λ n. n < 2 ^ 32) (λ _. hg) (λ _. lit< tt))

steps_fit : (g n r : ℕ) → g < 2 ^ 32 → r < 2 ^ 32 → steps g n r < 2 ^ 32
unfolding steps
steps_fit g zero r hg hr = hr
steps_fit g (suc n) r hg hr = steps_fit g n (step g r) hg (step_fits g r hg hr)

pub fed_fits : (g r : ℕ) (bs : List ℕ) → g < 2 ^ 32 → r < 2 ^ 32 → All (λ b. b < 256) bs → fed g r bs < 2 ^ 32
fed_fits g r [] hg hr all = hr
fed_fits g r (b ∷ bs) hg hr all =
    fed_fits g (steps g 8 (bit_xor r b)) bs hg (steps_fit g 8 (bit_xor r b) hg (xor_lt 32 r b hr (omega (arith, all.0)))) all.1

reversed_fits : (n p : ℕ) → reversed n p < 2 ^ n
unfolding reversed
reversed_fits zero p = lit< tt
reversed_fits (suc n) p = omega (arith, reversed_fits n (p / 2), pow-suc 2 n, bound (p % 2) (omega arith))
  where
    bound : (d : ℕ) → d < 2 → d * 2 ^ n ≤ 2 ^ n
    bound zero l = omega arith
    bound (suc zero) l = omega arith
    bound (suc (suc d)) l = omega arith

pub crc_fits : (p : ℕ) (bs : List ℕ) → All (λ b. b < 256) bs → crc_of p bs < 2 ^ 32
unfolding crc_of
crc_fits p bs all = xor_lt 32 (fed (reversed 32 p) ones bs) ones (fed_fits (reversed 32 p) ones bs (reversed_fits 32 p) (lit< tt) all) (lit< tt)
