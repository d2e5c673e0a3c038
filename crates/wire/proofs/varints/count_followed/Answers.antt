-- The bytes that the chain counts are those at the front that have another after them.
use Rattle.std.proofs.Common.{◌∙◌, leb, take, rules, tests}
use Rattle.std.proofs.lemmas.Iterator.{YieldsList-from_slice, YieldsList-from_take}
use Rattle.std.proofs.lemmas.Iterator.Consumers.{YieldsList-at, count_from_yields_List}
use Rattle.std.proofs.lemmas.Iterator.Search.{YieldsList-from_take_while}
use Rattle.std.proofs.lemmas.List.Folds.{length-prefix_len}
use Rattle.wire.proofs.Groups.{followed_front}
use Rattle.wire.proofs.varints.count_followed.Goals as goal

pub returns : goal.returns
returns c =
    let bytes = c.args.bytes.now in
    count_from_yields_List c.take_while.result _ c.count.ensures.ran
    (YieldsList-from_take_while _ (leb 128) (YieldsList-at c.take_while.ensures.source (YieldsList-from_take 10 (YieldsList-at c.take.ensures.source (YieldsList-from_slice bytes (cc))) c.take.ensures.count)) c.take_while.ensures.closure c.take_while.ensures.done (λ x b q k. search (rules, tests)))
    ∙ length-prefix_len (leb 128) (take 10 bytes)
    ∙ followed_front 10 bytes
