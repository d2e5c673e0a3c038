use Rattle.std.proofs.Common.{◌≡◌, ◌-◌, ◌^◌, ◌<◌}
use Rattle.std.specs.Int.Bits.{bit_xor}
use Rattle.gfmath.specs.Polynomials.{product}
use Rattle.field.proofs.bytes.multiply.Given as goal

-- what is summed and what is left to sum make the product; each turn uses one bit up
abbrev pub invariant-loop-i : goal.invariant-loop-i
invariant-loop-i l = (bit_xor l.sum (product l.shifted l.rest) ≡ product l.a l.b) × (l.rest < 2 ^ (8 - l._i)) × (l.rest < 256) × (l.shifted < 256)
