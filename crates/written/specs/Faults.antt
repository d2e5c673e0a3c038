-- The numbers of the reasons why a frame is not written. Assumes nothing.
use Rattle.std.specs.Prelude.{ℕ}
use Rattle.written.specs.declared.faults.FrameFault.{FrameFault}
use Rattle.written.specs.declared.faults.FrameFault.TheVariants.{Short, BadLength, EmptyRuns, BadOffset}

-- those of a frame that would be refused when it is read, and 5 for a short buffer, as everywhere
abbrev pub number_of : FrameFault → ℕ
number_of Short = 5
number_of BadLength = 23
number_of EmptyRuns = 24
number_of BadOffset = 26
