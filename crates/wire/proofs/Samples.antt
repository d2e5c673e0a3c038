-- Fields of short messages, each computed. Assumes nothing.
use Rattle.std.proofs.Common.{◌≡◌, ◌+◌, ◌-◌, ◌^◌, true, [], ◌∷◌, Ok, Err, refl}
use Rattle.wire.specs.declared.faults.WireFault.TheVariants.{CutShort, Malformed}
use Rattle.wire.specs.Fields.{varint, fixed64, part, fixed32, field, found, field_at}
use Rattle.wire.specs.Messages.{fields_of}
use Rattle.wire.specs.Numbers.{low32, truth}
use Rattle.wire.specs.Varints.{groups_of, varint_bytes}

-- a length is due
pub cut_short : field_at (0x0a ∷ []) 0 ≡ Err CutShort
unfolding field_at
cut_short = refl

pub nothing_there : field_at [] 0 ≡ Err CutShort
unfolding field_at
nothing_there = refl

pub past_the_end : field_at (0x08 ∷ 0x01 ∷ []) 3 ≡ Err CutShort
unfolding field_at
past_the_end = refl

pub field_zero : field_at (0x02 ∷ []) 0 ≡ Err Malformed
unfolding field_at
field_zero = refl

-- the wire types of groups, and those that stand for nothing
pub type_three : field_at (0x0b ∷ []) 0 ≡ Err Malformed
unfolding field_at
type_three = refl

pub type_seven : field_at (0x0f ∷ []) 0 ≡ Err Malformed
unfolding field_at
type_seven = refl

pub a_varint : field_at (0x08 ∷ 0x96 ∷ 0x01 ∷ []) 0 ≡ Ok (found (field 1 (varint 150)) 3)
unfolding field_at
a_varint = refl

-- "testing"
pub a_part : field_at (0x12 ∷ 0x07 ∷ 0x74 ∷ 0x65 ∷ 0x73 ∷ 0x74 ∷ 0x69 ∷ 0x6e ∷ 0x67 ∷ []) 0
    ≡ Ok (found (field 2 (part (0x74 ∷ 0x65 ∷ 0x73 ∷ 0x74 ∷ 0x69 ∷ 0x6e ∷ 0x67 ∷ []) 2)) 9)
unfolding field_at
a_part = refl

pub a_part_past_the_end : field_at (0x12 ∷ 0x07 ∷ 0x74 ∷ 0x65 ∷ 0x73 ∷ 0x74 ∷ 0x69 ∷ 0x6e ∷ []) 0 ≡ Err CutShort
unfolding field_at
a_part_past_the_end = refl

pub four_bytes : field_at (0x25 ∷ 0x00 ∷ 0x02 ∷ 0x00 ∷ 0x00 ∷ []) 0 ≡ Ok (found (field 4 (fixed32 512)) 5)
unfolding field_at
four_bytes = refl

pub eight_bytes : field_at (0x09 ∷ 0x00 ∷ 0x00 ∷ 0x00 ∷ 0x00 ∷ 0x01 ∷ 0x00 ∷ 0x00 ∷ 0x00 ∷ []) 0 ≡ Ok (found (field 1 (fixed64 (2 ^ 32))) 9)
unfolding field_at
eight_bytes = refl

-- ten bytes can say the largest number of 64 bits, and no more
pub largest : field_at (0x08 ∷ 0xff ∷ 0xff ∷ 0xff ∷ 0xff ∷ 0xff ∷ 0xff ∷ 0xff ∷ 0xff ∷ 0xff ∷ 0x01 ∷ []) 0 ≡ Ok (found (field 1 (varint (2 ^ 64 - 1))) 11)
unfolding field_at
largest = refl

pub too_large : field_at (0x08 ∷ 0xff ∷ 0xff ∷ 0xff ∷ 0xff ∷ 0xff ∷ 0xff ∷ 0xff ∷ 0xff ∷ 0xff ∷ 0x02 ∷ []) 0 ≡ Err Malformed
unfolding field_at
too_large = refl

pub eleven_bytes : field_at (0x08 ∷ 0x80 ∷ 0x80 ∷ 0x80 ∷ 0x80 ∷ 0x80 ∷ 0x80 ∷ 0x80 ∷ 0x80 ∷ 0x80 ∷ 0x80 ∷ 0x00 ∷ []) 0 ≡ Err Malformed
unfolding field_at
eleven_bytes = refl

-- a longer form than need be
pub ten_bytes_of_one : field_at (0x08 ∷ 0x81 ∷ 0x80 ∷ 0x80 ∷ 0x80 ∷ 0x80 ∷ 0x80 ∷ 0x80 ∷ 0x80 ∷ 0x80 ∷ 0x00 ∷ []) 0 ≡ Ok (found (field 1 (varint 1)) 11)
unfolding field_at
ten_bytes_of_one = refl

-- a key of 33 bits
pub wide_key : field_at (0x80 ∷ 0x80 ∷ 0x80 ∷ 0x80 ∷ 0x10 ∷ []) 0 ≡ Err Malformed
unfolding field_at
wide_key = refl

-- a whole message: the first fault decides
pub two_fields : fields_of (0x08 ∷ 0x96 ∷ 0x01 ∷ 0x12 ∷ 0x01 ∷ 0x74 ∷ []) ≡ Ok (field 1 (varint 150) ∷ field 2 (part (0x74 ∷ []) 5) ∷ [])
unfolding field_at
two_fields = refl

pub first_fault : fields_of (0x08 ∷ 0x96 ∷ 0x01 ∷ 0x0b ∷ 0x12 ∷ []) ≡ Err Malformed
unfolding field_at
first_fault = refl

-- the shortest form of a number
pub shortest : varint_bytes 150 ≡ 0x96 ∷ 0x01 ∷ []
unfolding varint_bytes groups_of
shortest = refl

pub shortest_of_zero : varint_bytes 0 ≡ 0x00 ∷ []
unfolding varint_bytes groups_of
shortest_of_zero = refl

pub shortest_of_the_largest : varint_bytes (2 ^ 64 - 1) ≡ 0xff ∷ 0xff ∷ 0xff ∷ 0xff ∷ 0xff ∷ 0xff ∷ 0xff ∷ 0xff ∷ 0xff ∷ 0x01 ∷ []
unfolding varint_bytes groups_of
shortest_of_the_largest = refl

-- a varint of 33 bits in a field of 32, and in one that is true or false
pub low_bits : low32 (2 ^ 32 + 5) ≡ 5
low_bits = refl

pub all_bits : truth (2 ^ 32) ≡ true
all_bits = refl
