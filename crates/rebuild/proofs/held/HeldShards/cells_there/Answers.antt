-- Each flag is set where its cell is there, and none past the last parity cell.
use Rattle.std.proofs.Common.{◌≡◌, ℕ, ◌+◌, ◌-◌, ◌<◌, ◌≤◌, Bool, false, List, length, get_or, drop, replicate, ◌++◌, ◌∙◌, ⊎_elim, arith, below_more, rules}
use Rattle.std.proofs.lemmas.List.{get_or_past, get_or-drop, get_or-replicate, get_or_append_left, get_or-append_right, length-take-le, places}
use Rattle.std.proofs.lemmas.Bool.{cases_lt, le-ltb}
use Rattle.rebuild.proofs.held.HeldShards.cells_there.Goals as goal

-- past the flags that were written none is set
past : (flags : List Bool) (n i : ℕ) → length flags ≡ n → n ≤ i → get_or (flags ++ drop n (replicate 16 false)) i false ≡ false
past flags n i len h =
    get_or-append_right flags (drop n (replicate 16 false)) n i false len h ∙ get_or-drop n (replicate 16 false) (i - n) false
    ∙ ⊎_elim
    (λ (l : n + (i - n) < 16). get_or-replicate 16 (n + (i - n)) false false l)
    (λ (l : 16 ≤ n + (i - n)). get_or_past (replicate 16 false) (n + (i - n)) false l)
    (cases_lt (n + (i - n)) 16)

pub loop-index-preserved : goal.loop-index-preserved
loop-index-preserved c =
    below_more _ c.loop-index.index
    (λ k l. search (rules, places) ∙ c.loop-index.invariant k l)
    (search (rules, places) ∙ c.is_there.ensures)

pub returns-clause-each_flag : goal.returns-clause-each_flag
returns-clause-each_flag c = λ i.
    let n = c.args.self.block.schema.data_units + c.args.self.block.schema.parity_units in
    let all = length-take-le c.units.result (replicate 16 false) (omega arith) in
    ⊎_elim
    (λ (l : i < n). get_or_append_left c.loop-index.here-items _ false i (omega arith) ∙ c.loop-index.invariant i (omega arith))
    (λ (l : n ≤ i).
    let off = le-ltb i n l in
    past c.loop-index.here-items c.units.result i (omega arith) (omega arith) ∙ grind arith)
    (cases_lt i n)
