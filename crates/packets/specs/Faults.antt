-- The numbers of the reasons why a frame or a response is refused, and what a fault of a field becomes. Assumes nothing.
use Rattle.std.specs.Prelude.{ℕ}
use Rattle.wire.specs.declared.faults.WireFault.{WireFault}
use Rattle.wire.specs.declared.faults.WireFault.TheVariants.{CutShort as FieldCutShort, Malformed as FieldMalformed}
use Rattle.packets.specs.declared.faults.PacketFault.{PacketFault}
use Rattle.packets.specs.declared.faults.PacketFault.TheVariants.{CutShort, Malformed, Missing, BadLength, TooFewSums, SumDiffers, NotCovered, Refused}

abbrev pub number_of : PacketFault → ℕ
number_of CutShort = 20
number_of Malformed = 21
number_of Missing = 22
number_of BadLength = 23
number_of TooFewSums = 24
number_of SumDiffers = 25
number_of NotCovered = 26
number_of Refused = 31

-- a fault of a field refuses the whole, by the same number
abbrev pub widened : WireFault → PacketFault
widened FieldCutShort = CutShort
widened FieldMalformed = Malformed
