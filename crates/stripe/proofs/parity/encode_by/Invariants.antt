use Rattle.algebra.specs.Matrices.{mixed}
use Rattle.matrix.specs.Grids.{grid}
use Rattle.stripe.specs.Coded.{byte_at}
use Rattle.stripe.specs.Encoded.{ParityIs}
use Rattle.stripe.proofs.parity.encode_by.Given as goal

abbrev pub invariant-loop-r : goal.invariant-loop-r
invariant-loop-r g l =
    ParityIs l.d l.r l.s (λ r v. mixed g.C.F.Field.ops l.d (grid g.C.F.Field.ops.zero l.d l.m.entries.now r) v) (byte_at l.s l.initial.row) (byte_at l.s l.row)
