use Rattle.std.proofs.Common.{get_or}
use Rattle.algebra.specs.Matrices.{mixed}
use Rattle.matrix.specs.Grids.{grid}
use Rattle.stripe.specs.Coded.{byte_at}
use Rattle.stripe.specs.Recovered.{Filled}
use Rattle.stripe.specs.There.{flag}
use Rattle.stripe.proofs.missing.Chosen.fill_missing.Given as goal

abbrev pub invariant-loop-c : goal.invariant-loop-c
invariant-loop-c g l =
    let K = g.F.Field.ops in
    Filled l.c l.s (flag l.self.there.now) (λ c v. mixed K l.d (grid K.zero l.d l.inverse c) (λ k. v (get_or l.self.cells.now k 0))) (byte_at l.s l.initial.row) (byte_at l.s l.row)
