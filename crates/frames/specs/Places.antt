-- Where in a frame its data and the byte due are. Assumes nothing.
use Rattle.std.specs.Prelude.{◌≡◌, ℕ, ◌+◌, ◌<◌, ◌≤◌}
use Rattle.packets.specs.declared.packet.Packet.{Packet}

-- the data end at a place, and the byte due is one of them
abbrev pub EndsAt : ℕ → Packet → Type 0
EndsAt end p = (p.data_at + p.len ≡ end) × (p.data_at ≤ p.due_at) × (p.due_at < end)
