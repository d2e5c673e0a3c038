-- Varints: each byte has seven bits of the number, the lowest first, and a top bit that says whether more bytes follow. Assumes nothing.
use Rattle.std.specs.Prelude.{ℕ, zero, suc, ◌+◌, ◌*◌, ◌/◌, ◌%◌, ◌^◌, cond, List, [], ◌∷◌, length, take, drop, Ok, Err, nat_le, nat_lt}
use Rattle.wire.specs.declared.faults.WireFault.TheVariants.{CutShort, Malformed}
use Rattle.wire.specs.declared.varints.Varint.{Varint}
use Rattle.wire.specs.Readings.{Reading}

-- how many bytes at the front have the top bit set, so that another follows
abbrev pub followed : List ℕ → ℕ
followed [] = 0
followed (b ∷ bs) = cond (nat_lt b 128) 0 (followed bs + 1)

-- the number that the low seven bits of the bytes make, the lowest group first
abbrev pub joined : List ℕ → ℕ
joined [] = 0
joined (b ∷ bs) = b % 128 + 128 * joined bs

abbrev pub varint : ℕ → ℕ → Varint
varint v n = record { value = v; next = n }

-- a number of at most 64 bits, and the place after it
abbrev pub fitting : ℕ → ℕ → Reading Varint
fitting v n = cond (nat_lt v (2 ^ 64)) (Ok (varint v n)) (Err Malformed)

-- the varint at the front of bytes that begin at a place: at most nine bytes have another after them
abbrev pub varint_of : ℕ → List ℕ → Reading Varint
varint_of at bs =
    cond (nat_le 10 (followed bs)) (Err Malformed)
    (cond (nat_le (length bs) (followed bs)) (Err CutShort)
    (fitting (joined (take (followed bs + 1) bs)) (at + followed bs + 1)))

-- the varint at a place of a message
abbrev pub varint_from : List ℕ → ℕ → Reading Varint
varint_from m at = varint_of at (drop at m)

-- the bytes of a number, seven bits a byte and no more bytes than need be, at most so many of them with another after them
unfoldable pub groups_of : ℕ → ℕ → List ℕ
groups_of zero n = n ∷ []
groups_of (suc k) n = cond (nat_lt n 128) (n ∷ []) ((128 + n % 128) ∷ groups_of k (n / 128))

-- the shortest varint of a number of 64 bits
unfoldable pub varint_bytes : ℕ → List ℕ
varint_bytes n = groups_of 9 n
