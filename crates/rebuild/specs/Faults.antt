-- The numbers of the refusals. Assumes nothing.
use Rattle.std.specs.Prelude.{ℕ, Some, None, Option}
use Rattle.stripe.specs.declared.fault.StripeFault.{StripeFault}
use Rattle.stripe.specs.declared.fault.StripeFault.TheVariants.{Codec as RowCodec, Short as RowShort, TooFew as RowTooFew, Legacy as RowLegacy}
use Rattle.rebuild.specs.declared.fault.RebuildFault.{RebuildFault}
use Rattle.rebuild.specs.declared.fault.RebuildFault.TheVariants.{Block, TooFew, Legacy, Memory}

-- 3: the block is too long; 7: too few cells; 8: a data cell of the old codec is missing; 9: no memory
abbrev pub number_of : RebuildFault → ℕ
number_of Block = 3
number_of (TooFew row cells) = 7
number_of (Legacy row) = 8
number_of Memory = 9

-- why a block is refused where its row k is; none where the row is not refused for the cells that are there
abbrev pub fault_in_row : ℕ → StripeFault → Option RebuildFault
fault_in_row k (RowTooFew cells) = Some (TooFew k cells)
fault_in_row k RowLegacy = Some (Legacy k)
fault_in_row k RowShort = None
fault_in_row k RowCodec = None
