-- The laws of the field of 256 elements. Assumes nothing.
use Rattle.std.specs.Prelude.{◌≡◌, ℕ, Bool, true, false, ◌⊎◌, ◌==◌, ◌≢◌, bit_xor, refl}
use Rattle.std.proofs.Common.{ap, ◌∙◌, inl, inr, arith, eqb-true, lit<}
use Rattle.std.proofs.lemmas.Bool.{eqb-false}
use Rattle.std.specs.Int.Bits.{xor_assoc, xor_zero_l, xor_zero_r, xor_self}
use Rattle.std.proofs.lemmas.Nat.{xor_comm}
use Rattle.gfmath.proofs.Linear.{product_first, product_second}
use Rattle.gfmath.proofs.Laws.{product_lt, product_comm, product_assoc, product_one, product_inverse}
use Rattle.field.specs.declared.gf256.Gf256.{Gf256}
use Rattle.algebra.specs.Fields.{FieldLaws}
use Rattle.field.specs.Models.{zero256, gf256}
use Rattle.field.specs.Elements.{same_value}

pub xor_back : (a b : ℕ) → bit_xor (bit_xor a b) b ≡ a
xor_back a b = xor_assoc a b b ∙ ap (bit_xor a) (xor_self b) ∙ xor_zero_r a

zero_or_not : (x : Gf256) → (x ≡ zero256) ⊎ (x ≢ zero256)
zero_or_not x = by (x.value == 0) refl
  where
    by : (b : Bool) → (x.value == 0) ≡ b → (x ≡ zero256) ⊎ (x ≢ zero256)
    by true e = inl (same_value _ _ (eqb-true _ _ e))
    by false e = inr (λ q. eqb-false _ _ e (ap (λ (x : Gf256). x.value) q))

pub laws256 : FieldLaws gf256
laws256 = record {
  plus_zero = λ x. same_value _ _ (xor_zero_l x.value);
  plus_comm = λ x y. same_value _ _ (xor_comm x.value y.value);
  plus_assoc = λ x y z. same_value _ _ (xor_assoc x.value y.value z.value);
  minus_plus = λ x y. same_value _ _ (xor_back x.value y.value);
  times_one = λ x. same_value _ _ (product_comm 1 x.value (lit< tt) x.byte ∙ product_one x.value x.byte);
  times_comm = λ x y. same_value _ _ (product_comm x.value y.value x.byte y.byte);
  times_assoc = λ x y z. same_value _ _ (product_assoc x.value y.value z.value x.byte y.byte z.byte);
  times_plus = λ x y z. same_value _ _ (product_second x.value y.value z.value);
  times_inverse = λ x n. same_value _ _ (product_inverse x.value x.byte (λ e. n (same_value _ _ e)));
  one_not_zero = λ e. let z : ◌≡◌ {A = ℕ} 1 0 = ap (λ (x : Gf256). x.value) e in omega arith;
  zero_or_not = zero_or_not;
  act_byte = λ x b h. product_lt x.value b x.byte h;
  act_one = λ b h. product_comm 1 b (lit< tt) h ∙ product_one b h;
  act_times = λ x y b h. product_assoc x.value y.value b x.byte y.byte h;
  act_plus = λ x y b h. product_first x.value y.value b;
  act_xor = λ x b c h k. product_second x.value b c;
}
