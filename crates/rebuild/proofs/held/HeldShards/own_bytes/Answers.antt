-- A cell's own bytes lie within its shard, and with zeros after them are the cell.
use Rattle.std.proofs.Common.{◌≡◌, ℕ, ◌+◌, ◌-◌, ◌*◌, get_or, take, drop, sym, ap, ◌∙◌, arith}
use Rattle.rebuild.proofs.OwnBytes.{own_within, own_is}
use Rattle.rebuild.proofs.held.HeldShards.own_bytes.Goals as goal

pub overflow_add-result : goal.overflow_add-result
overflow_add-result c =
    let h = own_within c.args.self c.args.row c.args.index c.in-Some.bytes.now c.own_len-own.result (sym c.in-Some.ensures) c.own_len-own.ensures.of_its_shard c.if-own-gt0.true in
    omega arith

pub returns-in-Some-clause-bytes : goal.returns-in-Some-clause-bytes
returns-in-Some-clause-bytes c = λ j h.
    let from = c.args.row * c.args.self.block.schema.cell_size in
    let own = c.own_len-own.result in
    let cut : c.args.row * c.args.self.block.schema.cell_size + c.own_len-own.result - c.args.row * c.args.self.block.schema.cell_size ≡ c.own_len-own.result = omega arith in
    ap (λ (n : ℕ). get_or (take n (drop from c.in-Some.bytes.now)) j 0) cut
    ∙ own_is c.args.self c.args.row c.args.index c.in-Some.bytes.now own (sym c.in-Some.ensures) c.own_len-own.ensures.of_its_shard j h
