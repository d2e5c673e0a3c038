use Rattle.std.proofs.Common.{◌+◌, ◌*◌, Ok, arith, rules}
use Rattle.policy.specs.declared.codec.Codec.TheVariants.{Rs, Xor}
use Rattle.stripe.proofs.Codecs.{coding, rs_known, xor_known}
use Rattle.stripe.proofs.parity.encode.Goals as goal

pub returns-in-Rs : goal.returns-in-Rs
returns-in-Rs c =
    let s = c.args.schema in
    let a = coding s Rs c.args.row.now c.encode_by.new.row (Ok tt) (search rules) rs_known (λ r i. (c.type_inv.row (r * s.cell_size + i)).fits) (omega arith, c.encode_by.ensures) in
    record { parity_by_the_code = a.parity_by_the_code; row_follows_the_code = a.row_follows_the_code; no_other_parity = a.no_other_parity }

pub returns-in-Xor : goal.returns-in-Xor
returns-in-Xor c =
    let s = c.args.schema in
    let a = coding s Xor c.args.row.now c.encode_by-in-Xor.new.row (Ok tt) (search rules) xor_known (λ r i. (c.type_inv.row (r * s.cell_size + i)).fits) (omega arith, c.encode_by-in-Xor.ensures) in
    record { parity_by_the_code = a.parity_by_the_code; row_follows_the_code = a.row_follows_the_code; no_other_parity = a.no_other_parity }
