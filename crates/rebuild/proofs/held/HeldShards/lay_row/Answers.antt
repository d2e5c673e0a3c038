-- One more cell is laid, and those before it stay.
use Rattle.std.proofs.Common.{◌∙◌, below_more, rules}
use Rattle.std.proofs.lemmas.List.{places}
use Rattle.dealing.proofs.Numbers.{row_after}
use Rattle.rebuild.proofs.held.HeldShards.lay_row.Goals as goal

pub loop-i-preserved : goal.loop-i-preserved
loop-i-preserved c =
    below_more _ c.loop-i.i
    (λ q h j l. let before = row_after c.args.self.block.schema.cell_size q c.loop-i.i h in search (rules, places) ∙ c.loop-i.invariant q h j l)
    (λ j l. search (rules, places) ∙ c.lay.ensures j ∙ c.own_bytes.ensures.bytes j l)
