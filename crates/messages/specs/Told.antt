-- What a call that fills a lent record says of a message. Assumes nothing.
use Rattle.std.specs.Prelude.{◌≡◌, Ok, Err, Result}
use Rattle.packets.specs.declared.faults.PacketFault.{PacketFault}
use Rattle.packets.specs.Answers.{Answer}

-- the record is what the message comes to, or the message is refused and the record stays
abbrev pub tells : {A : Type 0} → Answer A → A → A → Result Unit PacketFault → Type 0
tells meant before after (Ok done) = meant ≡ Ok after
tells meant before after (Err fault) = (meant ≡ Err fault) × (after ≡ before)
