-- Elements of the field of 256 by their values. Assumes nothing.
use Rattle.std.specs.Prelude.{◌≡◌, ℕ, ◌<◌}
use Rattle.std.proofs.Common.{ap, subst}
use Rattle.std.proofs.Math.Bridge.{le_prop}
use Rattle.field.specs.declared.gf256.Gf256.{Gf256}

-- two elements of one value are one
pub same_value : (x y : Gf256) → x.value ≡ y.value → x ≡ y
same_value x y e =
    subst (λ (n : ℕ). (h : n < 256) → x ≡ record { value = n; byte = h }) e (λ h. ap (λ (p : x.value < 256). record { value = x.value; byte = p }) (le_prop x.byte h)) y.byte
