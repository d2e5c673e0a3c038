-- The bytes of its own that a shard held whole has in a cell. Assumes nothing.
use Rattle.std.proofs.Common.{◌≡◌, ℕ, ◌+◌, ◌-◌, ◌*◌, ◌<◌, ◌≤◌, min, eqb, ltb, List, [], length, get_or, take, drop, Some, None, Option, unwrap_or, sym, ap, ◌∙◌, ⊎_elim, arith}
use Rattle.std.proofs.lemmas.List.{length-take, get_or-take, get_or-drop, get_or_past}
use Rattle.std.proofs.lemmas.Bool.{cases_lt, eqb-true, cond_both}
use Rattle.std.proofs.lemmas.Option.{none-some, cond_some}
use Rattle.cells.specs.Striped.{dealt_shard_len}
use Rattle.dealing.specs.Places.{data_len_of, like_shard_of, row_place}
use Rattle.dealing.proofs.Numbers.{data_len_le}
use Rattle.rebuild.specs.declared.held.HeldShards.{HeldShards}
use Rattle.rebuild.specs.Held.{held_in, of_len}
use Rattle.rebuild.specs.Shards.{whole_held, bytes_held}

-- what is held whole has its length
pub whole_length : (m : ℕ) (o : Option (List ℕ)) (bytes : List ℕ) → of_len m o ≡ Some bytes → length bytes ≡ m
whole_length m None bytes e = absurd (none-some bytes e)
whole_length m (Some xs) bytes e =
    let p = cond_some (eqb (length xs) m) xs bytes e in
    ap length (sym p.1) ∙ eqb-true (length xs) m p.0

module _ (h : HeldShards) (k i : ℕ) (bytes : List ℕ) (m : ℕ) (whole : whole_held h i ≡ Some bytes) (own : m ≡ min h.block.schema.cell_size (dealt_shard_len h.block i - row_place h.block.schema.cell_size k)) where
  long : length bytes ≡ dealt_shard_len h.block i
  long = whole_length (dealt_shard_len h.block i) (held_in h.shards.now i) bytes whole

  -- no shard is longer than its block
  shard_len_le : dealt_shard_len h.block i ≤ h.block.len
  shard_len_le =
      let e = h.block.schema in
      cond_both (ltb i (e.data_units + e.parity_units)) (data_len_of e.data_units e.cell_size h.block.len (like_shard_of e.data_units i)) 0 (λ x. x ≤ h.block.len)
      (λ t. data_len_le e.data_units e.cell_size h.block.len e.some_data e.some_bytes (like_shard_of e.data_units i)) (λ t. omega arith)

  -- what a cell has of its own lies within its shard
  pub own_within : 0 < m → (k * h.block.schema.cell_size + m ≤ length bytes) × (length bytes ≤ h.block.len)
  own_within some = (omega (arith, long), omega (arith, long, shard_len_le))

  -- and is the cell, with zeros after it
  pub own_is : (j : ℕ) → j < h.block.schema.cell_size → get_or (take m (drop (k * h.block.schema.cell_size) bytes)) j 0 ≡ bytes_held h k i j
  own_is j hj =
      let s = h.block.schema.cell_size in
      ⊎_elim
      (λ (l : j < m). get_or-take m (drop (k * s) bytes) j 0 l ∙ get_or-drop (k * s) bytes j 0)
      (λ (l : m ≤ j).
      let short : length (take m (drop (k * s) bytes)) ≤ j = simp length-take (omega arith) in
      get_or_past (take m (drop (k * s) bytes)) j 0 short ∙ sym (get_or_past bytes (k * s + j) 0 (omega (arith, long))))
      (cases_lt j m)
      ∙ sym (ap (λ (o : Option (List ℕ)). get_or (unwrap_or o []) (k * s + j) 0) whole)
