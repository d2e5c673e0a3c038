-- Buffers with a response at their front. Assumes nothing.
use Rattle.std.specs.Prelude.{ℕ, ◌+◌, Bool, cond, List, [], ◌∷◌, ◌++◌, length, drop, Ok, Err, Option, Result, nat_lt}
use Rattle.wire.specs.declared.writing.WriteFault.{WriteFault}
use Rattle.wire.specs.declared.writing.WriteFault.TheVariants.{Short}
use Rattle.packets.specs.declared.info.ChecksumInfo.{ChecksumInfo}
use Rattle.packets.specs.Written.{response_bytes}

-- a buffer with bytes in place of its first ones
abbrev pub fronted : List ℕ → List ℕ → List ℕ
fronted ws bs = ws ++ drop (length ws) bs

-- whether bytes are longer than a buffer
abbrev pub too_long : List ℕ → List ℕ → Bool
too_long ws bs = nat_lt (length bs) (length ws)

-- the bytes of a response up to those of its run, by the number of the type and the count of the run's bytes
abbrev pub opening_bytes : ℕ → ℕ → List ℕ
opening_bytes t n = 8 ∷ 0 ∷ 34 ∷ (n + 7) ∷ 10 ∷ (n + 3) ∷ 8 ∷ t ∷ 16 ∷ []

-- the length of the response, and the buffer with it
abbrev pub response_end : Option ChecksumInfo → List ℕ → Result ℕ WriteFault
response_end info bs = cond (too_long (response_bytes info) bs) (Err Short) (Ok (length (response_bytes info)))

abbrev pub response_over : Option ChecksumInfo → List ℕ → List ℕ
response_over info bs = cond (too_long (response_bytes info) bs) bs (fronted (response_bytes info) bs)
