use Rattle.std.proofs.Common.{vec_items}
use Rattle.stripe.specs.Coded.{RowRoom}
use Rattle.rebuild.specs.Held.{held_in}
use Rattle.rebuild.proofs.RowsAdded.{RowsTo}
use Rattle.rebuild.proofs.held.HeldShards.rebuild.Given as goal

abbrev pub invariant-loop-row : goal.invariant-loop-row
invariant-loop-row l = RowRoom l.schema l.buffer × RowsTo l.schema l.len (held_in l.self.shards.now) (vec_items l.block) l.row
