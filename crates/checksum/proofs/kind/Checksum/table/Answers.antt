-- Each table holds what each byte becomes, as computed entry by entry.
use Rattle.std.proofs.Common.{sym, ap, ◌∙◌}
use Rattle.crcmath.specs.Registers.{ieee, castagnoli, reversed, step, steps}
use Rattle.crcmath.proofs.Bytes.{table_for, entry_is}
use Rattle.checksum.specs.declared.kind.Checksum.{Checksum}
use Rattle.checksum.specs.Sums.{generator}
use Rattle.checksum.proofs.kind.Checksum.table.Goals as goal

pub returns-in-Crc32 : goal.returns-in-Crc32
unfolding reversed step steps table_for
returns-in-Crc32 c = λ b h. entry_is (reversed 32 ieee) b h ∙ ap (λ (k : Checksum). steps (generator k) 8 b) (sym c.in-Crc32.is)

pub returns-in-Crc32c : goal.returns-in-Crc32c
unfolding reversed step steps table_for
returns-in-Crc32c c = λ b h. entry_is (reversed 32 castagnoli) b h ∙ ap (λ (k : Checksum). steps (generator k) 8 b) (sym c.in-Crc32c.is)
