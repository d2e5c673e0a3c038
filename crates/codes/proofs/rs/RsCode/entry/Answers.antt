use Rattle.std.proofs.Common.{◌≡◌, ℕ, Some, None, Option, sym, refl, ap, ◌∙◌}
use Rattle.std.specs.Option.{unwrap_or}
use Rattle.std.specs.Int.Bits.{bit_and, bit_xor}
use Rattle.std.proofs.lemmas.Nat.{and_mask}
use Rattle.algebra.proofs.Parts.{generator_lower}
use Rattle.gfmath.specs.Polynomials.{product, carryless, remainder, powers, inverse_of}
use Rattle.field.specs.declared.gf256.Gf256.{Gf256}
use Rattle.field.specs.Models.{gf256, zero256, inverse256}
use Rattle.field.specs.Elements.{same_value}
use Rattle.field.specs.Inverted.{InverseOf}
use Rattle.codes.specs.Generators.{element, rs_part}
use Rattle.codes.proofs.rs.RsCode.entry.Goals as goal

none_inverse : inverse_of 0 ≡ 0
unfolding inverse_of powers product carryless remainder
none_inverse = refl

-- the inverse of an element, which is 0 of 0
inverse_or_zero : (x : Gf256) (r : Option Gf256) → InverseOf gf256 x r → unwrap_or r zero256 ≡ inverse256 x
inverse_or_zero x (Some y) h = h.1
inverse_or_zero x None h = sym (ap inverse256 h ∙ same_value _ _ none_inverse)

masked : (x : Gf256) (n : ℕ) → x.value ≡ bit_and n 255 → x ≡ element n
masked x n e = same_value _ _ (e ∙ and_mask n 8)

pub returns : goal.returns
returns c =
    let n = bit_xor c.args.row c.args.col in
    c.unwrap_or.ensures ∙ ap (unwrap_or c.inverse.result) c.zero-2.ensures ∙ inverse_or_zero _ c.inverse.result c.inverse.ensures
    ∙ ap inverse256 (masked _ n refl) ∙ sym (generator_lower gf256 c.args.data_units rs_part c.args.row c.args.col c.if-row-data_units.false)
