use Rattle.std.proofs.Common.{◌≡◌, ℕ, suc, ◌+◌, ◌-◌, sym, refl, ap, ◌∙◌, ap₂, arith, lit<}
use Rattle.gfmath.specs.Polynomials.{product, powers, inverse_of}
use Rattle.gfmath.proofs.Laws.{product_one, product_comm, product_assoc, product_lt, powers_lt}
use Rattle.field.specs.declared.gf256.Gf256.{Gf256}
use Rattle.field.specs.Elements.{same_value}
use Rattle.field.proofs.field256.Gf256Field.inverse.Goals as goal

powers_suc : (n a : ℕ) → powers (suc n) a ≡ product a (powers n (product a a))
powers_suc n a = unfold powers in refl

powers_none : (a : ℕ) → powers 0 a ≡ 1
powers_none a = unfold powers in refl

inverse_is : (a : ℕ) → inverse_of a ≡ powers 7 (product a a)
inverse_is a = unfold inverse_of in refl

pub loop-i-init : goal.loop-i-init
loop-i-init c = (
  product_comm 1 (powers 7 c.multiply-power.result) (lit< tt) (powers_lt 7 _ (omega arith)) ∙ product_one _ (powers_lt 7 _ (omega arith)),
  lit< tt,
  omega arith,
)

pub loop-i-preserved : goal.loop-i-preserved
loop-i-preserved c =
    let n = 7 - (c.loop-i._i + 1) in
    let e : suc n ≡ 7 - c.loop-i._i = omega arith in
    let f = c.loop-i.found in
    let p = c.loop-i.power in (
      ap₂ (λ (u v : ℕ). product u (powers n v)) c.multiply-found.ensures.value c.multiply-power-in-loop-i.ensures.value
          ∙ product_assoc f p (powers n (product p p)) (omega arith) (omega arith) (powers_lt n _ (product_lt p p (omega arith) (omega arith)))
          ∙ ap (product f) (sym (powers_suc n p)) ∙ ap (λ (m : ℕ). product f (powers m p)) e ∙ c.loop-i.invariant.0,
      omega arith,
      omega arith,
    )

pub returns : goal.returns
returns c =
    let e : 7 - c.loop-i._i ≡ 0 = omega arith in
    let f = c.loop-i.found in (
      λ z. c.if-self-eq0.false (ap (λ (x : Gf256). x.value) z),
      same_value _ _
          (sym (product_one f (omega arith)) ∙ ap (product f) (sym (ap (λ (n : ℕ). powers n c.loop-i.power) e ∙ powers_none c.loop-i.power))
          ∙ c.loop-i.invariant.0 ∙ ap (powers 7) c.multiply-power.ensures.value ∙ sym (inverse_is c.args.self.value)),
    )
