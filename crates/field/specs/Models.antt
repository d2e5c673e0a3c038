-- The field of 256 elements and the field of two. Assumes nothing.
use Rattle.std.specs.Prelude.{Bool, true, false, cond, not, ◌&&◌, bit_xor}
use Rattle.std.proofs.lemmas.Nat.{xor_lt}
use Rattle.std.proofs.Common.{lit<}
use Rattle.algebra.specs.Fields.{Ops}
use Rattle.gfmath.specs.Polynomials.{product, inverse_of}
use Rattle.gfmath.proofs.Laws.{product_lt, inverse_lt}
use Rattle.field.specs.declared.gf2.Gf2.{Gf2}
use Rattle.field.specs.declared.gf256.Gf256.{Gf256}

abbrev pub zero256 : Gf256
zero256 = record { value = 0; byte = lit< tt }

abbrev pub one256 : Gf256
one256 = record { value = 1; byte = lit< tt }

abbrev pub plus256 : Gf256 → Gf256 → Gf256
plus256 x y = record { value = bit_xor x.value y.value; byte = xor_lt 8 _ _ x.byte y.byte }

abbrev pub times256 : Gf256 → Gf256 → Gf256
times256 x y = record { value = product x.value y.value; byte = product_lt _ _ x.byte y.byte }

abbrev pub inverse256 : Gf256 → Gf256
inverse256 x = record { value = inverse_of x.value; byte = inverse_lt _ x.byte }

-- sum and difference by xor, product by the carry-less product and its remainder, which is the action on a byte too
abbrev pub gf256 : Ops Gf256
gf256 = record { zero = zero256; one = one256; plus = plus256; minus = plus256; times = times256; inverse = inverse256; act = λ x b. product x.value b }

abbrev pub xor : Bool → Bool → Bool
xor true b = not b
xor false b = b

abbrev pub bit_of : Bool → Gf2
bit_of b = record { bit = b }

-- sum and difference by exclusive or, product by and; one leaves a byte as it is, zero makes it 0
abbrev pub gf2 : Ops Gf2
gf2 = record {
  zero = bit_of false;
  one = bit_of true;
  plus = λ x y. bit_of (xor x.bit y.bit);
  minus = λ x y. bit_of (xor x.bit y.bit);
  times = λ x y. bit_of (x.bit && y.bit);
  inverse = λ x. x;
  act = λ x b. cond x.bit b 0;
}
