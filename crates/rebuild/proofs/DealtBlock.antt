-- The rows of the block that the shards were dealt from, put together, are that block. Assumes nothing.
use Rattle.std.proofs.Common.{◌≡◌, ℕ, ◌+◌, ◌*◌, ◌/◌, ◌%◌, ◌<◌, List, length, get_or, Ok, Option, sym, ap, ◌∙◌, subst, arith}
use Rattle.std.proofs.lemmas.Nat.{div-add-mod', mod_below, div_below}
use Rattle.std.proofs.lemmas.List.{ext_get_or}
use Rattle.policy.specs.declared.schema.EcSchema.{EcSchema}
use Rattle.dealing.specs.Places.{rows_of}
use Rattle.dealing.proofs.Numbers.{rows_least}
use Rattle.rebuild.specs.Rebuilt.{RowIn, rows_in, Rebuilt}
use Rattle.rebuild.specs.Dealt.{AllBytes, HeldDealt, BlockDealt}
use Rattle.rebuild.proofs.DealtRow.{made_is_dealt}

-- the row of a byte of the block is one of its rows
byte_row : (d s n b : ℕ) → 0 < d → 0 < s → b < n → b / s / d < rows_of d s n
byte_row d s n b dp sp h =
    let most = (rows_least d s n dp sp).holds in
    div_below (b / s) d (rows_of d s n) dp (div_below b s (rows_of d s n * d) sp (omega (arith, most)))

block_is_dealt : (e : EcSchema) (held : ℕ → Option (List ℕ)) (block items : List ℕ) → length items ≡ length block
    → ((k : ℕ) → k < rows_in e (length block) → RowIn e (length block) held items k) → AllBytes block
    → HeldDealt e.codec e.data_units e.parity_units e.cell_size held block → items ≡ block
block_is_dealt e held block items len rows b g = ext_get_or 0 items block len each
  where
    each : (t : ℕ) → t < length items → get_or items t 0 ≡ get_or block t 0
    each t h =
        let d = e.data_units in
        let s = e.cell_size in
        let k = t / s / d in
        let at : (k * d + t / s % d) * s + t % s ≡ t = ap (λ (c : ℕ). c * s + t % s) (div-add-mod' (t / s) d) ∙ div-add-mod' t s in
        let row = rows k (byte_row d s (length block) t e.some_data e.some_bytes (omega arith)) in
        let c-in = mod_below (t / s) d e.some_data in
        let j-in = mod_below t s e.some_bytes in
        ap (λ (q : ℕ). get_or items q 0) (sym at) ∙ row.placed (t / s % d) (t % s) c-in j-in (omega (arith, at))
        ∙ made_is_dealt d e.parity_units s block held e.some_data e.some_bytes k (t % s) j-in e.codec row.row b g row.made (t / s % d) c-in
        ∙ ap (λ (q : ℕ). get_or block q 0) at

-- so whatever block the shards were dealt from, the answer is that block
pub answer_is_dealt : (e : EcSchema) (n : ℕ) (held : ℕ → Option (List ℕ)) (items : List ℕ) → Rebuilt e n held (Ok items) → BlockDealt e n held (Ok items)
answer_is_dealt e n held items r block len b g =
    let Rows : ℕ → Type 0 = λ m. (k : ℕ) → k < rows_in e m → RowIn e m held items k in
    block_is_dealt e held block items (r.1 ∙ sym len) (subst Rows (sym len) r.2) b g
