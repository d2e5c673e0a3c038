use Rattle.std.proofs.Common.{◌≡◌, ◌*◌, ◌<◌, cond, sym, ap, ◌∙◌, arith, lit<, rules, le-ltb, lt-ltb}
use Rattle.std.specs.Int.Bits.{bit_xor}
use Rattle.gfmath.specs.Polynomials.{product}
use Rattle.gfmath.proofs.Laws.{product_lt, product_two}
use Rattle.field.proofs.bytes.doubled.Goals as goal

high : (c : goal.Else-a-lt128) → bit_xor (2 * c.args.a) 285 ≡ product c.args.a 2
high c = sym (product_two c.args.a (omega arith) ∙ ap (λ t. cond t (2 * c.args.a) (bit_xor (2 * c.args.a) 285)) (le-ltb c.args.a 128 c.if-a-lt128.false))

pub overflow_cast-result-else-a-lt128 : goal.overflow_cast-result-else-a-lt128
overflow_cast-result-else-a-lt128 c =
    let h = high c in
    let k : product c.args.a 2 < 256 = product_lt c.args.a 2 (omega arith) (lit< tt) in
    search rules

pub returns-then-a-lt128 : goal.returns-then-a-lt128
returns-then-a-lt128 c =
    sym (product_two c.args.a (omega arith) ∙ ap (λ t. cond t (2 * c.args.a) (bit_xor (2 * c.args.a) 285)) (lt-ltb c.args.a 128 c.if-a-lt128.true))

pub returns-else-a-lt128 : goal.returns-else-a-lt128
returns-else-a-lt128 c = high c
