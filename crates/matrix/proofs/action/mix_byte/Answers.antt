use Rattle.std.proofs.Common.{◌≡◌, ℕ, ◌+◌, List, length, get_or, sym, ap, ◌∙◌, ap₂, add-one, length-append}
use Rattle.std.specs.Int.Bits.{bit_xor}
use Rattle.std.proofs.lemmas.Slice.Zip.{zip_turn}
use Rattle.algebra.specs.Fields.{Ops}
use Rattle.algebra.specs.Matrices.{mixed}
use Rattle.matrix.specs.Grids.{grid}
use Rattle.matrix.proofs.action.mix_byte.Goals as goal

-- one source more
module _ {F : Type 0} (K : Ops F) (f : ℕ → F) (cells sources : List ℕ) (size i : ℕ) where
  mixed_more : (n k sum byte source cell : ℕ) (x : F) → sum ≡ mixed K n f (λ j. grid 0 size cells (get_or sources j 0) i) → byte ≡ K.act x source → x ≡ f n
      → source ≡ grid 0 size cells cell i → cell ≡ get_or sources n 0 → k ≡ n + 1 → bit_xor sum byte ≡ mixed K k f (λ j. grid 0 size cells (get_or sources j 0) i)
  mixed_more n k sum byte source cell x s b e p c more =
      ap₂ bit_xor s (b ∙ ap₂ K.act e (p ∙ ap (λ (j : ℕ). grid 0 size cells j i) c))
      ∙ sym (ap (λ (m : ℕ). mixed K m f (λ j. grid 0 size cells (get_or sources j 0) i)) (more ∙ add-one n))

pub loop-x-preserved : goal.loop-x-preserved
loop-x-preserved g c =
    let K = g.F.Field.ops in
    let row = c.args.row.now in
    let sources = c.args.sources.now in
    let of = c.args.of.now in
    let n = length c.loop-x.yielded in
    let turn = zip_turn row sources c.loop-x.yielded c.into_iter-x-iterator.result c.loop-x.x-iterator c.next.new.self c.next.result (cc) (cc) c.loop-x.yielded_by
    (c.in-Some.x, c.in-Some.cell) c.in-Some.is c.next.ensures.steps in
    mixed_more K (λ k. get_or row k K.zero) of.bytes.now sources of.size c.args.i n _ c.loop-x.sum c.act-sum.result c.byte.result c.in-Some.cell.now c.in-Some.x.now
    c.loop-x.invariant c.act-sum.ensures (turn.2 K.zero) c.byte.ensures (turn.3 0) (length-append c.loop-x.yielded _)
