use Rattle.std.proofs.Common.{◌≡◌, ◌-◌, ◌<◌}
use Rattle.gfmath.specs.Polynomials.{product, powers}
use Rattle.field.proofs.field256.Gf256Field.inverse.Given as goal

-- what is multiplied and what is left to multiply make the whole power
abbrev pub invariant-loop-i : goal.invariant-loop-i
invariant-loop-i l = (product l.found (powers (7 - l._i) l.power) ≡ powers 7 l.initial.power) × (l.found < 256) × (l.power < 256)
