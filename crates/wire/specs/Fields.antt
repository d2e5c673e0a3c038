-- One field of a message: its key, and the value by its wire type. Assumes nothing.
use Rattle.std.specs.Prelude.{ℕ, ◌+◌, ◌/◌, ◌%◌, ◌^◌, Bool, cond, ◌||◌, List, length, take, drop, Ok, Err, ◌==◌, nat_le}
use Rattle.wire.specs.declared.faults.WireFault.TheVariants.{CutShort, Malformed}
use Rattle.wire.specs.declared.varints.Varint.{Varint}
use Rattle.wire.specs.Readings.{Reading, and_then}
use Rattle.wire.specs.Varints.{varint_from}
use Rattle.wire.specs.Numbers.{little}

-- What a field holds: a number, or a part of the message and the place where it begins.
pub data Value : Type 0 where
  varint : ℕ → Value
  fixed64 : ℕ → Value
  part : List ℕ → ℕ → Value
  fixed32 : ℕ → Value

-- the wire type of a value
abbrev pub wire_type : Value → ℕ
wire_type (varint n) = 0
wire_type (fixed64 n) = 1
wire_type (part bs at) = 2
wire_type (fixed32 n) = 5

-- A value, and the place after it.
pub record Reached : Type 0 where
  pub value : Value
  pub next : ℕ

abbrev pub reached : Value → ℕ → Reached
reached v n = record { value = v; next = n }

-- A field: its number and what it holds.
pub record Field : Type 0 where
  pub number : ℕ
  pub value : Value

abbrev pub field : ℕ → Value → Field
field n v = record { number = n; value = v }

-- A field, and the place after it.
pub record Found : Type 0 where
  pub field : Field
  pub next : ℕ

abbrev pub found : Field → ℕ → Found
found f n = record { field = f; next = n }

-- the bytes of a message from a place on
abbrev pub bytes_from : List ℕ → ℕ → Reading (List ℕ)
bytes_from m at = cond (nat_le at (length m)) (Ok (drop at m)) (Err CutShort)

-- so many bytes of a message from a place on
abbrev pub bytes_at : List ℕ → ℕ → ℕ → Reading (List ℕ)
bytes_at m at n = cond (nat_le (at + n) (length m)) (Ok (take n (drop at m))) (Err CutShort)

-- wire type 0: a varint
abbrev pub varint_value : List ℕ → ℕ → Reading Reached
varint_value m at = and_then (varint_from m at) (λ v. Ok (reached (varint v.value) v.next))

-- wire type 1: eight bytes, the lowest first
abbrev pub fixed64_value : List ℕ → ℕ → Reading Reached
fixed64_value m at = and_then (bytes_at m at 8) (λ bs. Ok (reached (fixed64 (little bs)) (at + 8)))

-- wire type 2: a varint with the length, and as many bytes
abbrev pub part_value : List ℕ → ℕ → Reading Reached
part_value m at = and_then (varint_from m at) (λ v. and_then (bytes_at m v.next v.value) (λ bs. Ok (reached (part bs v.next) (v.next + v.value))))

-- wire type 5: four bytes, the lowest first
abbrev pub fixed32_value : List ℕ → ℕ → Reading Reached
fixed32_value m at = and_then (bytes_at m at 4) (λ bs. Ok (reached (fixed32 (little bs)) (at + 4)))

-- the value at a place by its wire type; all other types are malformed
abbrev pub value_at : List ℕ → ℕ → ℕ → Reading Reached
value_at m type at =
    cond (type == 0) (varint_value m at)
    (cond (type == 1) (fixed64_value m at)
    (cond (type == 2) (part_value m at)
    (cond (type == 5) (fixed32_value m at)
    (Err Malformed))))

-- the field of a number that holds what was read
abbrev pub numbered : ℕ → Reading Reached → Reading Found
numbered n r = and_then r (λ v. Ok (found (field n v.value) v.next))

-- a key has at most 32 bits: the wire type in the three lowest, the field's number, which is not 0, in the others
abbrev pub bad_key : ℕ → Bool
bad_key k = nat_le (2 ^ 32) k || k / 8 == 0

-- the field of a key, from the place after the key on
abbrev pub keyed : List ℕ → Varint → Reading Found
keyed m k = cond (bad_key k.value) (Err Malformed) (numbered (k.value / 8) (value_at m (k.value % 8) k.next))

-- the field at a place: a key, and the value that it asks for
unfoldable pub field_at : List ℕ → ℕ → Reading Found
field_at m at = and_then (varint_from m at) (keyed m)
