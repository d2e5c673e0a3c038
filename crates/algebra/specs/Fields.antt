-- What a field is, and how its elements act on bytes. Assumes nothing.
use Rattle.std.specs.Prelude.{◌≡◌, ◌⊎◌, ℕ, ◌<◌}
use Rattle.std.specs.Int.Bits.{bit_xor}

-- the operations: inverse is meant of an element other than zero, act of an element on a byte
pub record Ops (F : Type 0) : Type 0 where
  pub zero : F
  pub one : F
  pub plus : F → F → F
  pub minus : F → F → F
  pub times : F → F → F
  pub inverse : F → F
  pub act : F → ℕ → ℕ

-- the laws of a field, and those of its action on bytes
pub record FieldLaws {F : Type 0} (K : Ops F) : Type 0 where
  pub plus_zero : (x : F) → K.plus K.zero x ≡ x
  pub plus_comm : (x y : F) → K.plus x y ≡ K.plus y x
  pub plus_assoc : (x y z : F) → K.plus (K.plus x y) z ≡ K.plus x (K.plus y z)
  pub minus_plus : (x y : F) → K.plus (K.minus x y) y ≡ x
  pub times_one : (x : F) → K.times K.one x ≡ x
  pub times_comm : (x y : F) → K.times x y ≡ K.times y x
  pub times_assoc : (x y z : F) → K.times (K.times x y) z ≡ K.times x (K.times y z)
  pub times_plus : (x y z : F) → K.times x (K.plus y z) ≡ K.plus (K.times x y) (K.times x z)
  pub times_inverse : (x : F) → (x ≡ K.zero → ⊥) → K.times x (K.inverse x) ≡ K.one
  pub one_not_zero : K.one ≡ K.zero → ⊥
  pub zero_or_not : (x : F) → (x ≡ K.zero) ⊎ (x ≡ K.zero → ⊥)
  pub act_byte : (x : F) (b : ℕ) → b < 256 → K.act x b < 256
  pub act_one : (b : ℕ) → b < 256 → K.act K.one b ≡ b
  pub act_times : (x y : F) (b : ℕ) → b < 256 → K.act (K.times x y) b ≡ K.act x (K.act y b)
  pub act_plus : (x y : F) (b : ℕ) → b < 256 → K.act (K.plus x y) b ≡ bit_xor (K.act x b) (K.act y b)
  pub act_xor : (x : F) (b c : ℕ) → b < 256 → c < 256 → K.act x (bit_xor b c) ≡ bit_xor (K.act x b) (K.act x c)
