-- The laws of the field of two elements. Assumes nothing.
use Rattle.std.specs.Prelude.{◌≡◌, ℕ, ◌<◌, Bool, true, false, cond, ◌&&◌, ◌⊎◌, ◌≢◌, bit_xor, refl}
use Rattle.std.proofs.Common.{sym, ap, inl, inr, lit<}
use Rattle.std.specs.Int.Bits.{xor_self, xor_zero_r}
use Rattle.field.specs.declared.gf2.Gf2.{Gf2}
use Rattle.algebra.specs.Fields.{FieldLaws}
use Rattle.field.specs.Models.{xor, bit_of, gf2}

xor_turned : (x y : Bool) → xor x y ≡ xor y x
xor_turned true true = refl
xor_turned true false = refl
xor_turned false true = refl
xor_turned false false = refl

xor_grouped : (x y z : Bool) → xor (xor x y) z ≡ xor x (xor y z)
xor_grouped true true true = refl
xor_grouped true true false = refl
xor_grouped true false z = refl
xor_grouped false y z = refl

xor_back : (x y : Bool) → xor (xor x y) y ≡ x
xor_back true true = refl
xor_back true false = refl
xor_back false true = refl
xor_back false false = refl

and_turned : (x y : Bool) → (x && y) ≡ (y && x)
and_turned true true = refl
and_turned true false = refl
and_turned false true = refl
and_turned false false = refl

and_grouped : (x y z : Bool) → ((x && y) && z) ≡ (x && (y && z))
and_grouped true y z = refl
and_grouped false y z = refl

and_xor : (x y z : Bool) → (x && xor y z) ≡ xor (x && y) (x && z)
and_xor true y z = refl
and_xor false y z = refl

unbit : (x : Gf2) (b : Bool) → x ≡ bit_of b → x.bit ≡ b
unbit x b e = ap (λ (y : Gf2). y.bit) e

true_not_false : true ≡ false → ⊥
true_not_false e = cc

own : (b : Bool) → (b ≢ false) → (b && b) ≡ true
own true n = refl
own false n = absurd (n refl)

zero_or_not : (b : Bool) → (bit_of b ≡ bit_of false) ⊎ (bit_of b ≢ bit_of false)
zero_or_not true = inr (λ e. true_not_false (unbit (bit_of true) false e))
zero_or_not false = inl refl

act_byte : (t : Bool) (b : ℕ) → b < 256 → cond t b 0 < 256
act_byte true b h = h
act_byte false b h = lit< tt

act_times : (s t : Bool) (b : ℕ) → cond (s && t) b 0 ≡ cond s (cond t b 0) 0
act_times true t b = refl
act_times false t b = refl

act_plus : (s t : Bool) (b : ℕ) → cond (xor s t) b 0 ≡ bit_xor (cond s b 0) (cond t b 0)
act_plus true true b = sym (xor_self b)
act_plus true false b = sym (xor_zero_r b)
act_plus false true b = refl
act_plus false false b = refl

act_xor : (t : Bool) (b c : ℕ) → cond t (bit_xor b c) 0 ≡ bit_xor (cond t b 0) (cond t c 0)
act_xor true b c = refl
act_xor false b c = refl

pub laws2 : FieldLaws gf2
laws2 = record {
  plus_zero = λ x. refl;
  plus_comm = λ x y. ap bit_of (xor_turned x.bit y.bit);
  plus_assoc = λ x y z. ap bit_of (xor_grouped x.bit y.bit z.bit);
  minus_plus = λ x y. ap bit_of (xor_back x.bit y.bit);
  times_one = λ x. refl;
  times_comm = λ x y. ap bit_of (and_turned x.bit y.bit);
  times_assoc = λ x y z. ap bit_of (and_grouped x.bit y.bit z.bit);
  times_plus = λ x y z. ap bit_of (and_xor x.bit y.bit z.bit);
  times_inverse = λ x n. ap bit_of (own x.bit (λ e. n (ap bit_of e)));
  one_not_zero = λ e. true_not_false (unbit (bit_of true) false e);
  zero_or_not = λ x. zero_or_not x.bit;
  act_byte = λ x b h. act_byte x.bit b h;
  act_one = λ b h. refl;
  act_times = λ x y b h. act_times x.bit y.bit b;
  act_plus = λ x y b h. act_plus x.bit y.bit b;
  act_xor = λ x b c h k. act_xor x.bit b c;
}
