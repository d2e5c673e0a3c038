-- The numbers of the refusals. Assumes nothing.
use Rattle.std.specs.Prelude.{ℕ}
use Rattle.stripe.specs.declared.fault.StripeFault.{StripeFault}
use Rattle.stripe.specs.declared.fault.StripeFault.TheVariants.{Codec, Short, TooFew, Legacy}

abbrev pub number_of : StripeFault → ℕ
number_of Codec = 1
number_of Short = 5
number_of (TooFew cells) = 7
number_of Legacy = 8
