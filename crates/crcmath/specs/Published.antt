-- What the documents and the catalogues of checksums publish. Assumes nothing.
use Rattle.std.specs.Prelude.{◌≡◌, reverse, replicate, codes}
use Rattle.std.specs.List.{range_with_len}
use Rattle.crcmath.specs.Registers.{ieee, castagnoli, reversed, crc_of}

pub record Published : Type 0 where
  pub ieee_reversed : reversed 32 ieee ≡ 0xEDB88320
  pub castagnoli_reversed : reversed 32 castagnoli ≡ 0x82F63B78
  pub ieee_of_nine_digits : crc_of ieee (codes "123456789") ≡ 0xCBF43926
  pub castagnoli_of_nine_digits : crc_of castagnoli (codes "123456789") ≡ 0xE3069283
  pub castagnoli_of_zeros : crc_of castagnoli (replicate 32 0) ≡ 0x8A9136AA
  pub castagnoli_of_ones : crc_of castagnoli (replicate 32 255) ≡ 0x62A8AB43
  pub castagnoli_of_rising : crc_of castagnoli (range_with_len 0 32) ≡ 0x46DD794E
  pub castagnoli_of_falling : crc_of castagnoli (reverse (range_with_len 0 32)) ≡ 0x113FDB5C
