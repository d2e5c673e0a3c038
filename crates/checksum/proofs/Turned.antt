-- A register with all its bits turned: the checksum, and what division leaves of the message. Assumes nothing.
use Rattle.std.proofs.Common.{◌≡◌, ℕ, ◌^◌, ◌<◌, List, sym, ap, subst, lit<}
use Rattle.std.proofs.lemmas.Nat.{xor_lt}
use Rattle.crcmath.specs.Registers.{ones, crc_of}
use Rattle.crcmath.specs.Divided.{Divides}
use Rattle.crcmath.proofs.Division.{crc_divides}
use Rattle.checksum.specs.declared.kind.Checksum.{Checksum}
use Rattle.checksum.specs.declared.kind.Checksum.TheVariants.{Crc32, Crc32c}
use Rattle.checksum.specs.declared.running.Running.{Running}
use Rattle.checksum.specs.Sums.{polynomial, sum_of}
use Rattle.checksum.specs.Running.{running_of, finished}

polynomial_fits : (k : Checksum) → polynomial k < 2 ^ 32
polynomial_fits Crc32 = lit< tt
polynomial_fits Crc32c = lit< tt

pub sums : (s : Running) (k : Checksum) (xs : List ℕ) → s ≡ running_of k xs → finished s ≡ sum_of k xs
unfolding crc_of
sums s k xs is = ap finished is

pub divides : (s : Running) (k : Checksum) (xs : List ℕ) → s.register < 2 ^ 32 → s ≡ running_of k xs → Divides (polynomial k) xs (finished s)
divides s k xs h is =
    let fits : sum_of k xs < 2 ^ 32 = subst (λ (n : ℕ). n < 2 ^ 32) (sums s k xs is) (xor_lt 32 s.register ones h (lit< tt)) in
    subst (λ (n : ℕ). Divides (polynomial k) xs n) (sym (sums s k xs is)) (crc_divides (polynomial k) (polynomial_fits k) xs fits)
