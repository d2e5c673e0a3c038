-- What asking for an inverse answers. Assumes nothing.
use Rattle.std.specs.Prelude.{◌≡◌, Some, None, Option, ◌≢◌}
use Rattle.algebra.specs.Fields.{Ops}

-- none of zero, and the inverse of every other element
abbrev pub InverseOf : {F : Type 0} → Ops F → F → Option F → Type 0
InverseOf K x None = x ≡ K.zero
InverseOf K x (Some y) = (x ≢ K.zero) × (y ≡ K.inverse x)
