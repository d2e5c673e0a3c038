-- A row that was dealt from a block is the row that is made again. Assumes nothing.
use Rattle.std.proofs.Common.{◌≡◌, ℕ, zero, suc, ◌+◌, ◌*◌, ◌/◌, ◌%◌, ◌<◌, ◌≤◌, Bool, true, cond, ◌&&◌, ◌||◌, eqb, ltb, List, [], length, get_or, is_some, Some, None, Option, unwrap_or, sym, refl, ap, ◌∙◌, ap₂, ⊎_elim, arith}
use Rattle.std.specs.Int.Bits.{bit_xor}
use Rattle.std.proofs.lemmas.Nat.{div-mul-add, mod-mul-add}
use Rattle.std.proofs.lemmas.List.{get_or_past}
use Rattle.std.proofs.lemmas.Bool.{cases_lt, lt-ltb, le-ltb, eqb-true, and_parts, cond-true, cond-false}
use Rattle.algebra.specs.Fields.{Ops, FieldLaws}
use Rattle.algebra.specs.Sums.{xors}
use Rattle.algebra.specs.Matrices.{mixed}
use Rattle.algebra.specs.Codes.{Bytes}
use Rattle.algebra.proofs.Bytes.{act_on_zero}
use Rattle.field.specs.Laws2.{laws2}
use Rattle.field.specs.Laws256.{laws256}
use Rattle.codes.specs.Generators.{rs_generator, xor_generator}
use Rattle.policy.specs.declared.codec.Codec.{Codec}
use Rattle.policy.specs.declared.codec.Codec.TheVariants.{Rs, RsLegacy, Xor}
use Rattle.stripe.specs.Coded.{coded, FollowsCode}
use Rattle.stripe.proofs.Codecs.{coded_data, coded_local}
use Rattle.dealing.specs.Places.{cell_len_of, shard_len, data_len_of, like_shard_of, own_len_of}
use Rattle.dealing.specs.Dealt.{shard_bytes, cell_bytes}
use Rattle.dealing.proofs.Numbers.{cell_len_of_shard, shard_len_is, own_len_is, like_shard_data}
use Rattle.dealing.proofs.Rows.{cell_at}
use Rattle.dealing.proofs.Shards.{shard_at, length_shard}
use Rattle.rebuild.specs.Held.{whole_at, cell_there, cell_byte}
use Rattle.rebuild.specs.Rebuilt.{RowFrom}
use Rattle.rebuild.specs.Dealt.{AllBytes, HeldDealt}
use Rattle.rebuild.proofs.OwnBytes.{whole_length}

-- ---- zeros
xors_zeros : (n : ℕ) (f : ℕ → ℕ) → ((c : ℕ) → c < n → f c ≡ 0) → xors n f ≡ 0
xors_zeros zero f h = refl
xors_zeros (suc n) f h = ap₂ bit_xor (xors_zeros n f (λ c l. h c (omega arith))) (h n (omega arith))

mixed_zeros : {F : Type 0} {K : Ops F} (L : FieldLaws K) (d : ℕ) (f : ℕ → F) (v : ℕ → ℕ) → ((c : ℕ) → c < d → v c ≡ 0) → mixed K d f v ≡ 0
mixed_zeros {K = K} L d f v h = xors_zeros d (λ c. K.act (f c) (v c)) (λ c l. ap (λ (b : ℕ). K.act (f c) b) (h c l) ∙ act_on_zero L (f c))

-- a known code makes zeros from zeros
pub coded_zeros : (codec : Codec) (d r : ℕ) (v : ℕ → ℕ) → (codec ≡ RsLegacy → ⊥) → ((c : ℕ) → c < d → v c ≡ 0) → coded codec d r v ≡ 0
coded_zeros Rs d r v k h = mixed_zeros laws256 d (rs_generator d r) v h
coded_zeros Xor d r v k h = mixed_zeros laws2 d (xor_generator d r) v h
coded_zeros RsLegacy d r v k h = absurd (k refl)

-- ---- a row that was dealt
-- its cells: what the code makes of the data bytes; parity of the old codec is as it is held
dealt_row : Codec → ℕ → (ℕ → ℕ) → (ℕ → ℕ) → ℕ → ℕ
dealt_row Rs d v w r = coded Rs d r v
dealt_row Xor d v w r = coded Xor d r v
dealt_row RsLegacy d v w r = cond (ltb r d) (v r) (w r)

dealt_data : (codec : Codec) (d : ℕ) (v w : ℕ → ℕ) (r : ℕ) → Bytes d v → r < d → dealt_row codec d v w r ≡ v r
unfolding dealt_row
dealt_data Rs d v w r b l = coded_data Rs d r v b l
dealt_data Xor d v w r b l = coded_data Xor d r v b l
dealt_data RsLegacy d v w r b l = cond-true (ltb r d) (v r) (w r) (lt-ltb r d l)

dealt_parity : (codec : Codec) (d : ℕ) (v w : ℕ → ℕ) (r : ℕ) → d ≤ r → ((codec ≡ RsLegacy → ⊥) → w r ≡ coded codec d r v) → w r ≡ dealt_row codec d v w r
unfolding dealt_row
dealt_parity Rs d v w r l h = h (λ e. grind arith)
dealt_parity Xor d v w r l h = h (λ e. grind arith)
dealt_parity RsLegacy d v w r l h = sym (cond-false (ltb r d) (v r) (w r) (le-ltb r d l))

dealt_follows : (codec : Codec) (d n : ℕ) (v w : ℕ → ℕ) → Bytes d v → FollowsCode codec d n (dealt_row codec d v w)
unfolding dealt_row
dealt_follows Rs d n v w b r l = coded_local Rs d r (λ e. grind arith) v (dealt_row Rs d v w) (λ c o. sym (dealt_data Rs d v w c b o))
dealt_follows Xor d n v w b r l = coded_local Xor d r (λ e. grind arith) v (dealt_row Xor d v w) (λ c o. sym (dealt_data Xor d v w c b o))
dealt_follows RsLegacy d n v w b r l = refl

-- ---- shards held whole
-- a cell that is there of a shard that is not held whole has no bytes of its own
pub none_own : (o : Option (List ℕ)) (a : Bool) (m : ℕ) → o ≡ None → (a && (is_some o || eqb m 0)) ≡ true → m ≡ 0
none_own o a m e h =
    let q : (is_some o || eqb m 0) ≡ true = (and_parts a (is_some o || eqb m 0) h).1 in
    let z : eqb m 0 ≡ true = ap (λ (x : Option (List ℕ)). is_some x || eqb m 0) (sym e) ∙ q in
    eqb-true m 0 z

module _ (d p s : ℕ) (block : List ℕ) (held : ℕ → Option (List ℕ)) (dp : 0 < d) (sp : 0 < s) (k j : ℕ) (hj : j < s) where
  -- the data bytes at place j of the row's cells
  abbrev column : ℕ → ℕ
  column c = get_or block ((k * d + c) * s + j) 0

  -- and those that its cells have as they are held
  abbrev held_column : ℕ → ℕ
  held_column r = cell_byte d p s (length block) held k r j

  -- past what a cell has of its own the block has ended
  column_past : (c : ℕ) → cell_len_of s (length block) (k * d + c) ≤ j → column c ≡ 0
  column_past c h = get_or_past block ((k * d + c) * s + j) 0 (omega arith)

  -- and where cell 0 has ended every cell has
  all_past : cell_len_of s (length block) (k * d + 0) ≤ j → (c : ℕ) → column c ≡ 0
  all_past h c = get_or_past block ((k * d + c) * s + j) 0 (omega arith)

  data_cell : (codec : Codec) (r : ℕ) → r < d → HeldDealt codec d p s held block → cell_there d p s (length block) held k r ≡ true
      → cell_byte d p s (length block) held k r j ≡ column r
  data_cell codec r l g t = by (whole_at d p s (length block) held r) refl
    where
      own : own_len_of d p s (length block) r k ≡ cell_len_of s (length block) (k * d + r)
      own = own_len_is d p s (length block) r k (omega arith) ∙ ap (λ (i : ℕ). cell_len_of s (length block) (k * d + i)) (like_shard_data d r l)

      by : (o : Option (List ℕ)) → whole_at d p s (length block) held r ≡ o → cell_byte d p s (length block) held k r j ≡ column r
      by None e =
          let z = none_own (whole_at d p s (length block) held r) (ltb r (d + p)) (own_len_of d p s (length block) r k) e t in
          ap (λ (o : Option (List ℕ)). get_or (unwrap_or o []) (k * s + j) 0) e ∙ sym (column_past r (omega (arith, own, z)))
      by (Some bytes) e =
          let is = (g r bytes (omega arith) e).data_shard l in
          ap (λ (o : Option (List ℕ)). get_or (unwrap_or o []) (k * s + j) 0) e ∙ ap (λ (xs : List ℕ). get_or xs (k * s + j) 0) is
          ∙ ⊎_elim
          (λ (h : j < cell_len_of s (length block) (k * d + r)). shard_at d s block dp sp r k j l h)
          (λ (h : cell_len_of s (length block) (k * d + r) ≤ j).
          get_or_past (shard_bytes d s block r) (k * s + j) 0 (omega (arith, length_shard d s block dp sp r l, cell_len_of_shard d s (length block) dp sp k r l)) ∙ sym (column_past r h))
          (cases_lt j (cell_len_of s (length block) (k * d + r)))

  parity_cell : (codec : Codec) (r : ℕ) → d ≤ r → r < d + p → (codec ≡ RsLegacy → ⊥) → HeldDealt codec d p s held block → cell_there d p s (length block) held k r ≡ true
      → cell_byte d p s (length block) held k r j ≡ coded codec d r column
  parity_cell codec r l m known g t = by (whole_at d p s (length block) held r) refl
    where
      first : like_shard_of d r ≡ 0
      first = cond-false (ltb r d) r 0 (le-ltb r d l)

      own : own_len_of d p s (length block) r k ≡ cell_len_of s (length block) (k * d + 0)
      own = own_len_is d p s (length block) r k m ∙ ap (λ (i : ℕ). cell_len_of s (length block) (k * d + i)) first

      long : shard_len d p s (length block) r ≡ data_len_of d s (length block) 0
      long = shard_len_is d p s (length block) r m ∙ ap (λ (i : ℕ). data_len_of d s (length block) i) first

      by : (o : Option (List ℕ)) → whole_at d p s (length block) held r ≡ o → cell_byte d p s (length block) held k r j ≡ coded codec d r column
      by None e =
          let z = none_own (whole_at d p s (length block) held r) (ltb r (d + p)) (own_len_of d p s (length block) r k) e t in
          ap (λ (o : Option (List ℕ)). get_or (unwrap_or o []) (k * s + j) 0) e ∙ sym (coded_zeros codec d r column known (λ c o. all_past (omega (arith, own, z)) c))
      by (Some bytes) e =
          let len = whole_length (shard_len d p s (length block) r) (held r) bytes e in
          ap (λ (o : Option (List ℕ)). get_or (unwrap_or o []) (k * s + j) 0) e
          ∙ ⊎_elim
          (λ (h : k * s + j < length bytes).
          (g r bytes m e).parity_shard l known (k * s + j) h
          ∙ coded_local codec d r known (λ c. get_or (cell_bytes s block ((k * s + j) / s * d + c)) ((k * s + j) % s) 0) column
          (λ c o.
          ap₂ (λ (a b : ℕ). get_or (cell_bytes s block (a * d + c)) b 0) (div-mul-add k s j hj) (mod-mul-add k s j hj)
          ∙ cell_at s block (k * d + c) j hj))
          (λ (h : length bytes ≤ k * s + j).
          get_or_past bytes (k * s + j) 0 h
          ∙ sym (coded_zeros codec d r column known (λ c o. all_past (omega (arith, len, long, cell_len_of_shard d s (length block) dp sp k 0 dp)) c)))
          (cases_lt (k * s + j) (length bytes))

  -- a data cell made again has the block's bytes
  pub made_is_dealt : (codec : Codec) (u : ℕ → ℕ → ℕ) → AllBytes block → HeldDealt codec d p s held block
      → RowFrom codec d (d + p) s (cell_there d p s (length block) held k) (cell_byte d p s (length block) held k) u → (c : ℕ) → c < d → u c j ≡ column c
  made_is_dealt codec u b g from c l =
      from.only (dealt_row codec d column held_column) j hj (λ r o. subst_byte r o) (dealt_follows codec d (d + p) column held_column column_bytes) cells c l ∙ dealt_data codec d column held_column c column_bytes l
    where
      column_bytes : Bytes d column
      column_bytes r o = ⊎_elim
          (λ (h : (k * d + r) * s + j < length block). b ((k * d + r) * s + j) h)
          (λ (h : length block ≤ (k * d + r) * s + j). let z = get_or_past block ((k * d + r) * s + j) 0 h in omega (arith, z))
          (cases_lt ((k * d + r) * s + j) (length block))

      subst_byte : (r : ℕ) → r < d → dealt_row codec d column held_column r < 256
      subst_byte r o = let z = dealt_data codec d column held_column r column_bytes o in omega (arith, z, column_bytes r o)

      cells : (r : ℕ) → r < d + p → cell_there d p s (length block) held k r ≡ true → cell_byte d p s (length block) held k r j ≡ dealt_row codec d column held_column r
      cells r o t = ⊎_elim
          (λ (h : r < d). data_cell codec r h g t ∙ sym (dealt_data codec d column held_column r column_bytes h))
          (λ (h : d ≤ r). dealt_parity codec d column held_column r h (λ known. parity_cell codec r h o known g t))
          (cases_lt r d)
