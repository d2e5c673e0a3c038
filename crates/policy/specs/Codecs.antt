-- The names of the codecs as a schema spells them.
use Rattle.std.specs.Prelude.{ℕ, cond, List, Some, None, codes, Option}
use Rattle.std.specs.Str.{bytes_eq}
use Rattle.policy.specs.declared.codec.Codec.{Codec}
use Rattle.policy.specs.declared.codec.Codec.TheVariants.{Rs, RsLegacy, Xor}

-- the codec of a name, none where no codec has it
abbrev pub codec_of : List ℕ → Option Codec
codec_of name =
    cond (bytes_eq name (codes "rs")) (Some Rs)
    (cond (bytes_eq name (codes "rs-legacy")) (Some RsLegacy)
    (cond (bytes_eq name (codes "xor")) (Some Xor) None))
