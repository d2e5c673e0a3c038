use Rattle.std.proofs.Common.{◌≡◌, ℕ, ◌+◌, ◌*◌, ◌/◌, ◌%◌, ◌<◌, List, ◌++◌, length, get_or, drop, refl, ◌∙◌, ap₂, arith}
use Rattle.std.proofs.lemmas.List.{get_or_append_left, length-take-le}
use Rattle.std.proofs.lemmas.Nat.{mul-add-lt, div-mul-add, mod-mul-add}
use Rattle.std.proofs.lemmas.Slice.{drop-append-drop}
use Rattle.matrix.specs.Grids.{grid}
use Rattle.codes.specs.Rows.{invertible_same}
use Rattle.codes.proofs.code.Code.matrix.Goals as goal

-- the entries of n rows, and what lies past them
laid : {F : Type 0} (O : F) (d n : ℕ) (g : ℕ → ℕ → F) (x rest : List F) → length x ≡ n * d → ((j : ℕ) → j < n * d → get_or x j O ≡ g (j / d) (j % d))
    → (r k : ℕ) → r < n → k < d → grid O d (x ++ rest) r k ≡ g r k
laid O d n g x rest h entries r k l o =
    let b = mul-add-lt r d k n l o in
    get_or_append_left x rest O (r * d + k) (omega arith) ∙ entries (r * d + k) (omega arith) ∙ ap₂ g (div-mul-add r d k o) (mod-mul-add r d k o)

pub returns : goal.returns
returns g c =
    let O = g.Self.F.Field.ops.zero in
    let d = c.args.data_units in
    let p = c.args.parity_units in
    let m = g.Self.Code.generator d in
    let x = c.loop-i.x-items in
    let rest = drop ((d + p) * d) c.args.out.now in
    let ok = c.if-not-permits.ensures.0 refl in
    let h = c.loop-i.auto.x-items ∙ length-take-le ((d + p) * d) c.args.out.now (omega arith) in
    let entries = laid O d (d + p) m x rest h (λ j l. c.loop-i.invariant j (omega arith)) in (
      ok,
      omega arith,
      entries,
      invertible_same g.met.Self.F.Field.field d (d + p) m (grid O d (x ++ rest)) entries (g.met.Self.Code.rows d p ok),
      drop-append-drop ((d + p) * d) c.args.out.now x ((d + p) * d) (omega arith) h,
    )
