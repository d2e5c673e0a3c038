-- Eight bits leave a register at once, by a table of what each byte becomes. Assumes nothing.
use Rattle.std.proofs.Common.{◌≡◌, ℕ, ◌/◌, ◌%◌, ◌<◌, List, map, get_or, ap, ◌∙◌, arith}
use lib.Bits.{bit_xor, xor_shr, xor_zero_r}
use Rattle.std.specs.List.{range_with_len}
use Rattle.std.proofs.lemmas.List.FromFn.{get_or-map-range_with_len}
use Rattle.crcmath.specs.Registers.{steps}
use Rattle.crcmath.proofs.Linear.{steps_split}

-- what each byte becomes when its eight bits leave
unfoldable pub table_for : ℕ → List ℕ
table_for g = map (steps g 8) (range_with_len 0 256)

pub entry_is : (g i : ℕ) → i < 256 → get_or (table_for g) i 0 ≡ steps g 8 i
unfolding table_for
entry_is g i h = get_or-map-range_with_len (steps g 8) 0 256 i i 0 h (omega arith)

-- the high bits of the register move down, and its low byte with the new one goes by the table
pub byte_fed : (g r b : ℕ) → b < 256 → steps g 8 (bit_xor r b) ≡ bit_xor (r / 256) (steps g 8 (bit_xor r b % 256))
byte_fed g r b h =
    steps_split g 8 (bit_xor r b) ∙ ap (λ (n : ℕ). bit_xor n (steps g 8 (bit_xor r b % 256))) high
  where
    high : bit_xor r b / 256 ≡ r / 256
    high = let none : b / 256 ≡ 0 = omega arith in xor_shr r b 8 ∙ ap (bit_xor (r / 256)) none ∙ xor_zero_r (r / 256)
