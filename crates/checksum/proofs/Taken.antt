-- A running checksum that takes bytes in. Assumes nothing.
use Rattle.std.proofs.Common.{◌≡◌, ℕ, List, [], ◌∷◌, ◌++◌, bit_xor, fold, refl, sym, ap, ◌∙◌}
use Rattle.crcmath.specs.Registers.{ones, steps, fed}
use Rattle.crcmath.proofs.Linear.{fed_append}
use Rattle.checksum.specs.declared.kind.Checksum.{Checksum}
use Rattle.checksum.specs.declared.running.Running.{Running}
use Rattle.checksum.specs.Sums.{generator}
use Rattle.checksum.specs.Running.{running_of, taken_in}

-- byte by byte
pub fed_is : (g r : ℕ) (bs : List ℕ) → fed g r bs ≡ fold (λ (r b : ℕ). steps g 8 (bit_xor r b)) r bs
fed_is g r [] = refl
fed_is g r (b ∷ bs) = fed_is g (steps g 8 (bit_xor r b)) bs

-- bytes after those that a running checksum was given are given to it too
pub joins : (s : Running) (k : Checksum) (r : ℕ) (bs xs : List ℕ) → r ≡ fed (generator s.kind) s.register bs → s ≡ running_of k xs
    → record { kind = s.kind; register = r } ≡ running_of k (xs ++ bs)
joins s k r bs xs takes is =
    ap (λ (n : ℕ). record { kind = s.kind; register = n }) takes
    ∙ ap (λ (s : Running). taken_in s bs) is
    ∙ ap (λ (n : ℕ). record { kind = k; register = n }) (sym (fed_append (generator k) ones xs bs))
