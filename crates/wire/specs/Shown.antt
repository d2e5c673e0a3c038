-- What the code's answer says: a lent part by its bytes and its place. Assumes nothing.
use Rattle.std.specs.Prelude.{ℕ, Ok, Err, Result}
use Rattle.wire.specs.declared.faults.WireFault.{WireFault}
use Rattle.wire.specs.declared.fields.WireValue.{WireValue}
use Rattle.wire.specs.declared.fields.WireValue.TheVariants.{Varint, Fixed64, Part, Fixed32}
use Rattle.wire.specs.declared.fields.WireField.{WireField}
use Rattle.wire.specs.Readings.{Reading, seen}
use Rattle.wire.specs.Fields.{Value, varint, fixed64, part, fixed32, Reached, reached, Field, field, Found, found}

abbrev pub shown_value : WireValue → Value
shown_value (Varint n) = varint n
shown_value (Fixed64 n) = fixed64 n
shown_value (Part bytes place) = part bytes.now place
shown_value (Fixed32 n) = fixed32 n

abbrev pub shown_reached : Result (WireValue × ℕ) WireFault → Reading Reached
shown_reached r = seen (λ v. reached (shown_value v.0) v.1) r

abbrev pub shown_field : WireField → Field
shown_field f = field f.number (shown_value f.value)

abbrev pub shown : Result WireField WireFault → Reading Found
shown (Ok f) = Ok (found (shown_field f) f.next)
shown (Err e) = Err e
