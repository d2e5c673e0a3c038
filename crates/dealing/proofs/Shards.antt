-- The data shards: how long they are, and which byte of the block stands where.
use Rattle.std.proofs.Common.{◌≡◌, ℕ, ◌+◌, ◌-◌, ◌*◌, ◌/◌, ◌%◌, ◌<◌, ◌≤◌, min, List, length, get_or, take, drop, sym, ap, ◌∙◌, ⊎_elim, add-one, arith}
use Rattle.std.proofs.lemmas.Nat.{mod_below, div-add-mod'}
use Rattle.std.proofs.lemmas.List.{length-append, length-take, length-drop, get_or-take, get_or-drop, ext_get_or}
use Rattle.std.proofs.lemmas.Bool.{cases_lt, cases_order}
use Rattle.dealing.specs.Places.{cell_of, row_of, shard_of, shard_place, rows_of, cell_len_of, like_shard_of, data_len_of, shard_len, own_len_of}
use Rattle.dealing.specs.Dealt.{joined_to, own_bytes, shard_bytes}
use Rattle.dealing.specs.Laws.{Placed, FromShard, CellOfShard}
use Rattle.dealing.proofs.Numbers.{cell_len_full, cell_len_begun, cell_len_past, rows_whole, rows_begun, cell_len_of_shard, only_cell, shard_of_byte_of, place_of_byte_of, like_shard_lt, shard_len_is, own_len_is}
use Rattle.dealing.proofs.Joining.{length_joined, joined_at}

-- a cell has as many bytes of its own as the numbers say
pub length_own : (s : ℕ) (block : List ℕ) (c : ℕ) → length (own_bytes s block c) ≡ cell_len_of s (length block) c
length_own s block c = simp (length-take, length-drop)

pub own_at : (s : ℕ) (block : List ℕ) (c t : ℕ) → t < s → get_or (own_bytes s block c) t 0 ≡ get_or block (c * s + t) 0
own_at s block c t h = get_or-take s (drop (c * s) block) t 0 h ∙ get_or-drop (c * s) block t 0

module _ (d s : ℕ) (block : List ℕ) (dp : 0 < d) (sp : 0 < s) where
  -- a shard is as long as the numbers say
  pub length_shard : (i : ℕ) → i < d → length (shard_bytes d s block i) ≡ data_len_of d s (length block) i
  unfolding joined_to
  length_shard i hi =
      let n : ℕ = length block in
      let q : ℕ = length block / (d * s) in
      let cells : ℕ → List ℕ = λ k. own_bytes s block (k * d + i) in
      let whole : length (joined_to cells q) ≡ q * s =
      length_joined cells s q (λ k l. length_own s block (k * d + i) ∙ cell_len_full d s n dp sp k i hi l) in
      ⊎_elim
      (λ (w : n % (d * s) < 1).
      ap (λ (m : ℕ). length (joined_to cells m)) (rows_whole d s n dp sp (omega arith)) ∙ whole ∙ omega arith)
      (λ (b : 1 ≤ n % (d * s)).
      let last : length (cells q) ≡ min s (n % (d * s) - i * s) = length_own s block (q * d + i) ∙ cell_len_begun d s n dp sp i in
      ap (λ (m : ℕ). length (joined_to cells m)) (rows_begun d s n dp sp b ∙ add-one q)
      ∙ length-append (joined_to cells q) (cells q) ∙ omega (arith, whole, last))
      (cases_lt (n % (d * s)) 1)

  -- a cell with bytes of its own is in a row of the block
  in_rows : (k i : ℕ) → 0 < cell_len_of s (length block) (k * d + i) → k < rows_of d s (length block)
  in_rows k i h =
      let n : ℕ = length block in
      ⊎_elim
      (λ (w : n % (d * s) < 1).
      rw (rows_whole d s n dp sp (omega arith))
      (⊎_elim (λ (l : k < n / (d * s)). l)
      (λ (g : n / (d * s) ≤ k). absurd (⊎_elim
      (λ (e : k ≡ n / (d * s)). let z = rw e at h in omega (arith, z, cell_len_begun d s n dp sp i))
      (λ o. ⊎_elim (λ (x : k < n / (d * s)). omega arith) (λ (x : n / (d * s) < k). omega (arith, cell_len_past d s n dp sp k i x)) o)
      (cases_order k (n / (d * s)))))
      (cases_lt k (n / (d * s)))))
      (λ (b : 1 ≤ n % (d * s)).
      rw (rows_begun d s n dp sp b)
      (⊎_elim (λ (x : n / (d * s) < k). absurd (omega (arith, cell_len_past d s n dp sp k i x)))
      (λ (x : k ≤ n / (d * s)). omega arith)
      (cases_lt (n / (d * s)) k)))
      (cases_lt (n % (d * s)) 1)

  -- each cell before one with bytes of its own is full
  before_full : (k i j : ℕ) → i < d → 0 < cell_len_of s (length block) (k * d + i) → j < k → cell_len_of s (length block) (j * d + i) ≡ s
  before_full k i j hi h l =
      let n : ℕ = length block in
      ⊎_elim
      (λ (x : j < n / (d * s)). cell_len_full d s n dp sp j i hi x)
      (λ (x : n / (d * s) ≤ j). absurd (omega (arith, cell_len_past d s n dp sp k i (omega arith))))
      (cases_lt j (n / (d * s)))

  -- the bytes of a cell in its shard
  pub shard_at : (i k t : ℕ) → i < d → t < cell_len_of s (length block) (k * d + i) → get_or (shard_bytes d s block i) (k * s + t) 0 ≡ get_or block ((k * d + i) * s + t) 0
  shard_at i k t hi h =
      let some : 0 < cell_len_of s (length block) (k * d + i) = omega arith in
      let there : t < length (own_bytes s block (k * d + i)) = rw (length_own s block (k * d + i)) h in
      joined_at (λ r. own_bytes s block (r * d + i)) s (rows_of d s (length block)) k t (in_rows k i some)
      (λ j l. length_own s block (j * d + i) ∙ before_full k i j hi some l) there
      ∙ own_at s block (k * d + i) t (omega arith)

  pub cell_of_shard : (i k : ℕ) → i < d → CellOfShard d s block i k
  cell_of_shard i k hi =
      ext_get_or 0 (own_bytes s block (k * d + i)) (take s (drop (k * s) (shard_bytes d s block i)))
      (length_own s block (k * d + i) ∙ cell_len_of_shard d s (length block) dp sp k i hi
      ∙ simp (length-take, length-drop, length_shard i hi))
      (λ t l.
      let h : t < cell_len_of s (length block) (k * d + i) = rw (length_own s block (k * d + i)) at l in
      let lt : t < s = omega arith in
      own_at s block (k * d + i) t lt ∙ sym (shard_at i k t hi h)
      ∙ sym (get_or-drop (k * s) (shard_bytes d s block i) t 0) ∙ sym (get_or-take s (drop (k * s) (shard_bytes d s block i)) t 0 lt))

  pub placed : (b : ℕ) → b < length block → Placed d s block b (cell_of s b) (row_of d (cell_of s b)) (shard_of d (cell_of s b)) (shard_place d s b) (b % s)
  placed b h =
      let n : ℕ = length block in
      let t = mod_below b s sp in
      let i = mod_below (b / s) d dp in
      let here : b / s / d * d + b / s % d ≡ b / s = div-add-mod' (b / s) d in
      let byte : b / s * s + b % s ≡ b = div-add-mod' b s in
      let own : b % s < cell_len_of s n (b / s) = omega arith in
      let own' : b % s < cell_len_of s n (b / s / d * d + b / s % d) = rw here own in
      record {
        cell_is = sym here;
        cell_has = (rw (length_own s block (b / s)) own, own_at s block (b / s) (b % s) t ∙ ap (λ (x : ℕ). get_or block x 0) byte);
        shard_has = (
          rw (length_shard (b / s % d) i) (omega (arith, own', cell_len_of_shard d s n dp sp (b / s / d) (b / s % d) i)),
          shard_at (b / s % d) (b / s / d) (b % s) i own' ∙ ap (λ (x : ℕ). get_or block (x * s + b % s) 0) here ∙ ap (λ (x : ℕ). get_or block x 0) byte,
        );
        one_cell = only_cell d s b dp sp;
        one_shard = λ i o hi e. (
          sym (shard_of_byte_of d s i o sp hi) ∙ ap (λ (x : ℕ). shard_of d (cell_of s x)) e,
          sym (place_of_byte_of d s i o sp hi) ∙ ap (λ (x : ℕ). shard_place d s x) e,
        );
      }

  pub from_shard : (i o : ℕ) → i < d → o < length (shard_bytes d s block i) → FromShard d s block i o
  from_shard i o hi h =
      let n : ℕ = length block in
      let l : o < data_len_of d s n i = rw (length_shard i hi) at h in
      let t = mod_below o s sp in
      let place : o / s * s + o % s ≡ o = div-add-mod' o s in
      let own : o % s < cell_len_of s n (o / s * d + i) = omega (arith, cell_len_of_shard d s n dp sp (o / s) i hi) in
      record {
        in_block = (omega arith, sym (shard_at i (o / s) (o % s) hi own) ∙ ap (λ (x : ℕ). get_or (shard_bytes d s block i) x 0) place);
        its_shard = shard_of_byte_of d s i o sp hi;
        its_place = place_of_byte_of d s i o sp hi;
      }

  -- any shard is as long as the numbers say, and so is any shard's cell
  pub length_any_shard : (p i : ℕ) → i < d + p → length (shard_bytes d s block (like_shard_of d i)) ≡ shard_len d p s (length block) i
  length_any_shard p i h =
      length_shard (like_shard_of d i) (like_shard_lt d i dp) ∙ sym (shard_len_is d p s (length block) i h)

  pub length_any_own : (p i k : ℕ) → i < d + p → length (own_bytes s block (k * d + like_shard_of d i)) ≡ own_len_of d p s (length block) i k
  length_any_own p i k h = length_own s block (k * d + like_shard_of d i) ∙ sym (own_len_is d p s (length block) i k h)
