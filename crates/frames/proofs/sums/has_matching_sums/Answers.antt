-- Each run of the data comes beside its checksum.
use Rattle.std.proofs.Common.{◌∙◌, ◌/◌, length, rules}
use Rattle.std.specs.Simd.{first_chunks}
use Rattle.std.proofs.lemmas.Iterator.{YieldsList-from_slice, YieldsList-from_zip}
use Rattle.std.proofs.lemmas.Iterator.Consumers.{YieldsList-at}
use Rattle.std.proofs.lemmas.Iterator.Search.{all_from_yields_List}
use Rattle.frames.proofs.Runs.{matches, enough_says, YieldsList_from_chunks, sums_match_is}
use Rattle.frames.proofs.sums.has_matching_sums.Goals as goal

pub returns : goal.returns
returns c =
    let info = c.args.info in
    let sums = c.args.sums.now in
    let d = c.args.bytes.now in
    all_from_yields_List (matches info) c.all.new.self _ c.all.result c.all.ensures.ran
    (YieldsList-from_zip
    (YieldsList-at c.zip.ensures.first (YieldsList_from_chunks info.bytes_per_checksum d (enough_says info sums d c.requires.has_enough_sums).0 c.chunks.ensures.size c.chunks.ensures.rest))
    (YieldsList-from_slice (first_chunks 4 (length sums / 4) sums) (cc)))
    (λ x b q k. search rules)
    ∙ sums_match_is info sums d c.requires.has_enough_sums
