use Rattle.std.proofs.Common.{◌≡◌, ℕ, suc, ◌+◌, ◌-◌, ◌*◌, ◌/◌, ◌^◌, ◌<◌, sym, ap, ◌∙◌, subst, ap₂, pow-suc, arith}
use Rattle.std.specs.Int.Bits.{bit_xor, xor_assoc, xor_zero_r}
use Rattle.gfmath.specs.Polynomials.{product, LeftBy, carryless}
use Rattle.gfmath.proofs.Linear.{second_zero}
use Rattle.gfmath.proofs.Laws.{product_step, left_by}
use Rattle.field.proofs.bytes.multiply.Goals as goal

-- half of a number below the next power of two
half : (n i : ℕ) → i < 8 → n < 2 ^ (8 - i) → n / 2 < 2 ^ (8 - (i + 1))
half n i h l =
    let e : 8 - i ≡ suc (8 - (i + 1)) = omega arith in
    let p : n < 2 ^ (8 - (i + 1)) * 2 = subst (λ (m : ℕ). n < m) (ap (λ (k : ℕ). 2 ^ k) e ∙ pow-suc 2 (8 - (i + 1))) l in
    omega arith

pub loop-i-preserved : goal.loop-i-preserved
loop-i-preserved c = (
  ap₂ (λ (u v : ℕ). bit_xor (bit_xor c.loop-i.sum u) (product v (c.loop-i.rest / 2))) c.where_odd-sum.ensures c.doubled-shifted.ensures
      ∙ xor_assoc c.loop-i.sum _ _
      ∙ ap (bit_xor c.loop-i.sum) (sym (product_step c.loop-i.shifted c.loop-i.rest (omega arith) (omega arith)))
      ∙ c.loop-i.invariant.0,
  half c.loop-i.rest c.loop-i._i (omega arith) c.loop-i.invariant.1,
  omega arith,
  omega arith,
)

pub returns : goal.returns
returns c =
    let e : 8 - c.loop-i._i ≡ 0 = omega arith in
    let l : c.loop-i.rest < 2 ^ 0 = subst (λ (k : ℕ). c.loop-i.rest < 2 ^ k) e c.loop-i.invariant.1 in
    let z : c.loop-i.rest ≡ 0 = omega arith in
    let done : c.loop-i.sum ≡ product c.args.a c.args.b =
    sym (xor_zero_r c.loop-i.sum) ∙ ap (bit_xor c.loop-i.sum) (sym (ap (product c.loop-i.shifted) z ∙ second_zero c.loop-i.shifted))
    ∙ c.loop-i.invariant.0 in
    record {
      value = done;
      remainder = subst (λ (r : ℕ). LeftBy (carryless 8 c.args.a c.args.b) r) (sym done) (left_by c.args.a c.args.b (omega arith) (omega arith));
    }
