-- The numbers of the reasons why a message or a buffer is refused. Assumes nothing.
use Rattle.std.specs.Prelude.{ℕ}
use Rattle.wire.specs.declared.faults.WireFault.{WireFault}
use Rattle.wire.specs.declared.faults.WireFault.TheVariants.{CutShort, Malformed}
use Rattle.wire.specs.declared.writing.WriteFault.{WriteFault}
use Rattle.wire.specs.declared.writing.WriteFault.TheVariants.{Short}

abbrev pub number_of : WireFault → ℕ
number_of CutShort = 20
number_of Malformed = 21

-- a short buffer, as everywhere
abbrev pub write_number_of : WriteFault → ℕ
write_number_of Short = 5
