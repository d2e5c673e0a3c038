-- What comes of a frame or a response: what it tells, or why it is refused. Assumes nothing.
use Rattle.std.specs.Prelude.{Ok, Err, Result}
use Rattle.wire.specs.Readings.{Reading}
use Rattle.packets.specs.declared.faults.PacketFault.{PacketFault}
use Rattle.packets.specs.Faults.{widened}

abbrev pub Answer : Type 0 → Type 0
Answer A = Result A PacketFault

-- what comes of the fields that were read, as long as none of them is at fault
abbrev pub from_fields : {A B : Type 0} → Reading A → (A → Answer B) → Answer B
from_fields (Ok a) f = f a
from_fields (Err e) f = Err (widened e)

-- one answer after another, as long as nothing is refused
abbrev pub onward : {A B : Type 0} → Answer A → (A → Answer B) → Answer B
onward (Ok a) f = f a
onward (Err e) f = Err e
