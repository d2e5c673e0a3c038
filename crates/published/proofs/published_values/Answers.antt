use Rattle.std.proofs.Common.{refl}
use Rattle.gfmath.specs.Polynomials.{product, carryless, remainder, powers, inverse_of}
use Rattle.crcmath.specs.Registers.{reversed, step, steps, crc_of}
use Rattle.published.proofs.published_values.Goals as goal

pub returns-clause-listed : goal.returns-clause-listed
unfolding product carryless remainder powers inverse_of reversed step steps crc_of
returns-clause-listed c = record { parity = refl; shards = refl; handed_out = refl; checksums = refl }
