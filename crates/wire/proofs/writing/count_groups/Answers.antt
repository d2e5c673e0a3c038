-- The bytes are counted up to the first that leaves nothing.
use Rattle.std.proofs.Common.{◌≡◌, ◌≢◌, ◌*◌, ◌/◌, ◌^◌, ◌∙◌, rules, tests, arith}
use Rattle.std.proofs.lemmas.Iterator.{first_from_Range}
use Rattle.wire.proofs.Puts.{count_found}
use Rattle.wire.proofs.writing.count_groups.Goals as goal

pub returns : goal.returns
returns c =
    let n = c.args.value in
    c.unwrap_or.ensures
    ∙ count_found n c.find.result (omega arith)
    (first_from_Range _ _ _ c.find.result (λ k. n / 2 ^ (7 * k) ≡ 0) (λ k. n / 2 ^ (7 * k) ≢ 0) c.find.ensures.ran
    (λ x q k. search (rules, tests)) (λ x q k. search (rules, tests)))
