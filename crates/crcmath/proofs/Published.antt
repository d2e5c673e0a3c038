-- The published values, computed from the definitions. Assumes nothing.
use Rattle.std.proofs.Common.{refl}
use Rattle.crcmath.specs.Registers.{reversed, step, steps, crc_of}
use Rattle.crcmath.specs.Published.{Published}

pub published : Published
unfolding reversed step steps crc_of
published = record {
  ieee_reversed = refl;
  castagnoli_reversed = refl;
  ieee_of_nine_digits = refl;
  castagnoli_of_nine_digits = refl;
  castagnoli_of_zeros = refl;
  castagnoli_of_ones = refl;
  castagnoli_of_rising = refl;
  castagnoli_of_falling = refl;
}
