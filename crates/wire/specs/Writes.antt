-- Bytes with a varint written into them. Assumes nothing.
use Rattle.std.specs.Prelude.{ℕ, ◌+◌, Bool, cond, List, ◌++◌, length, take, drop, Ok, Err, Result, nat_le}
use Rattle.wire.specs.declared.writing.WriteFault.{WriteFault}
use Rattle.wire.specs.declared.writing.WriteFault.TheVariants.{Short}
use Rattle.wire.specs.Varints.{varint_bytes}

-- bytes with others in place of theirs from a place on
abbrev pub overwritten : List ℕ → ℕ → List ℕ → List ℕ
overwritten bs at ws = take at bs ++ (ws ++ drop (at + length ws) bs)

-- whether the varint of a number ends inside the bytes
abbrev pub has_room : ℕ → List ℕ → ℕ → Bool
has_room n bs at = nat_le (at + length (varint_bytes n)) (length bs)

-- the place after the varint of a number, and the bytes with it
abbrev pub place_after : ℕ → List ℕ → ℕ → Result ℕ WriteFault
place_after n bs at = cond (has_room n bs at) (Ok (at + length (varint_bytes n))) (Err Short)

abbrev pub bytes_after : ℕ → List ℕ → ℕ → List ℕ
bytes_after n bs at = cond (has_room n bs at) (overwritten bs at (varint_bytes n)) bs
