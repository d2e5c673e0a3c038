-- The numbers that the program refuses by. Assumes nothing.
use Rattle.std.specs.Prelude.{ℕ}
use Rattle.policy.specs.Faults.{number_of as policy_number}
use Rattle.rebuild.specs.Faults.{number_of as rebuild_number}
use Rattle.rebuild.specs.declared.fault.RebuildFault.TheVariants.{Memory as NoMemory}
use Rattle.recover.specs.declared.refusal.Refusal.{Refusal}
use Rattle.recover.specs.declared.refusal.Refusal.TheVariants.{Usage, Policy, Rebuild, Memory, File}

-- 40: the command line has another form; 30: a file; no memory as the library numbers it; else the number of what the library refused
abbrev pub number_of : Refusal → ℕ
number_of Usage = 40
number_of (Policy f) = policy_number f
number_of (Rebuild f) = rebuild_number f
number_of (Memory e) = rebuild_number NoMemory
number_of (File e) = 30
