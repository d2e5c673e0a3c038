-- What a running checksum holds. Assumes nothing.
use Rattle.std.specs.Prelude.{ℕ, List, bit_xor}
use Rattle.crcmath.specs.Registers.{ones, fed}
use Rattle.checksum.specs.declared.kind.Checksum.{Checksum}
use Rattle.checksum.specs.declared.running.Running.{Running}
use Rattle.checksum.specs.Sums.{generator, register_of}

-- a running checksum of a kind that was given these bytes
abbrev pub running_of : Checksum → List ℕ → Running
running_of k bs = record { kind = k; register = register_of k bs }

-- the same once it has taken more bytes in
abbrev pub taken_in : Running → List ℕ → Running
taken_in s bs = record { kind = s.kind; register = fed (generator s.kind) s.register bs }

-- the checksum that it comes to
abbrev pub finished : Running → ℕ
finished s = bit_xor s.register ones
