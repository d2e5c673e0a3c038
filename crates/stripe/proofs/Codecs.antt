-- What holds of each codec. Assumes nothing.
use Rattle.std.proofs.Common.{◌≡◌, ℕ, zero, suc, ◌+◌, ◌<◌, ◌≤◌, Bool, true, false, cond, List, length, take, not, count_by, Ok, Err, Result, ◌≢◌, sym, refl, ap, ◌∙◌, subst, ⊎_elim, le_of_suc-le-suc, not-suc-le-zero, eq-or-lt_of_le, arith}
use Rattle.algebra.specs.Fields.{Ops, FieldLaws}
use Rattle.algebra.specs.Sums.{count}
use Rattle.algebra.specs.Matrices.{identity, mixed}
use Rattle.algebra.specs.Codes.{Bytes, Invertible}
use Rattle.algebra.proofs.Bytes.{mixed_same, mixed_identity, mixed_back, determined}
use Rattle.algebra.proofs.Numbers.{less_or_not}
use Rattle.algebra.proofs.Parts.{generator_upper}
use Rattle.field.specs.Models.{gf2, gf256}
use Rattle.field.specs.Laws2.{laws2}
use Rattle.field.specs.Laws256.{laws256}
use Rattle.codes.specs.Generators.{rs_part, rs_generator, xor_part, xor_generator}
use Rattle.codes.specs.Rows.{rs_invertible, xor_invertible}
use Rattle.policy.specs.declared.codec.Codec.{Codec}
use Rattle.policy.specs.declared.codec.Codec.TheVariants.{Rs, RsLegacy, Xor}
use Rattle.policy.specs.declared.schema.EcSchema.{EcSchema}
use Rattle.stripe.specs.Coded.{byte_at, coded, units, RowRoom, FollowsCode, CellsDetermine}
use Rattle.stripe.specs.declared.fault.StripeFault.{StripeFault}
use Rattle.stripe.specs.declared.fault.StripeFault.TheVariants.{Codec as NoCodec, Short, TooFew, Legacy}
use Rattle.stripe.specs.Encoded.{ParityIs, EncodedBy, Encoded, RowFollows, OnlyParity}
use Rattle.stripe.specs.Recovered.{MadeAgain, Recovered, DealtCells, RowDetermined}
use Rattle.stripe.specs.There.{flag, lowest_there}
use Rattle.stripe.proofs.Cells.{count_le, rank, choice, listing, missing_count}
use Rattle.stripe.proofs.Rows.{Local, mixed_rows}

-- a data cell of a row that follows a code is itself
pub coded_data : (codec : Codec) (d r : ℕ) (v : ℕ → ℕ) → Bytes d v → r < d → coded codec d r v ≡ v r
coded_data Rs d r v b l = mixed_rows gf256 d (rs_generator d r) (identity gf256 r) v (λ c o. generator_upper gf256 d rs_part r c l) ∙ mixed_identity laws256 d r v b l
coded_data Xor d r v b l = mixed_rows gf2 d (xor_generator d r) (identity gf2 r) v (λ c o. generator_upper gf2 d xor_part r c l) ∙ mixed_identity laws2 d r v b l
coded_data RsLegacy d r v b l = refl

-- a known code looks at the data bytes alone
pub coded_local : (codec : Codec) (d r : ℕ) → (codec ≡ RsLegacy → ⊥) → Local d (coded codec d r)
coded_local Rs d r n u v h = mixed_same laws256 d (rs_generator d r) u v h
coded_local Xor d r n u v h = mixed_same laws2 d (xor_generator d r) u v h
coded_local RsLegacy d r n u v h = absurd (n refl)

pub rs_known : Rs ≡ RsLegacy → ⊥
rs_known e = let z : ◌≡◌ {A = ℕ} 0 1 = cc in omega arith

pub xor_known : Xor ≡ RsLegacy → ⊥
xor_known e = let z : ◌≡◌ {A = ℕ} 0 1 = cc in omega arith

-- ---- parity
pub parity_follows : (codec : Codec) (d n s : ℕ) (w x : ℕ → ℕ → ℕ) → (codec ≡ RsLegacy → ⊥) → ((r i : ℕ) → x r i < 256) → ParityIs d n s (coded codec d) w x
    → (i : ℕ) → i < s → FollowsCode codec d n (λ r. x r i)
parity_follows codec d n s w x k b t i h r l = ⊎_elim data_cell parity_cell (less_or_not r d)
  where
    data_cell : r < d → x r i ≡ coded codec d r (λ c. x c i)
    data_cell o = sym (coded_data codec d r (λ c. x c i) (λ c j. b c i) o)

    parity_cell : d ≤ r → x r i ≡ coded codec d r (λ c. x c i)
    parity_cell o = t.parity r i o l h ∙ coded_local codec d r k (λ c. w c i) (λ c. x c i) (λ c j. sym (t.data_kept c i j h))

pub only_parity : (codec : Codec) (d n : ℕ) (u v : ℕ → ℕ) → (codec ≡ RsLegacy → ⊥) → FollowsCode codec d n u → FollowsCode codec d n v → ((c : ℕ) → c < d → v c ≡ u c) → (r : ℕ) → r < n → v r ≡ u r
only_parity codec d n u v k fu fv h r l = fv r l ∙ coded_local codec d r k v u h ∙ sym (fu r l)

-- what a row whose parity was made answers, for a code that is known
pub record Coding (s : EcSchema) (row row' : List ℕ) (r : Result (Unit {0}) StripeFault) : Type 0 where
  pub parity_by_the_code : Encoded s row row' r
  pub row_follows_the_code : RowFollows s row' r
  pub no_other_parity : OnlyParity s row' r

pub coding : (s : EcSchema) (k : Codec) (row row' : List ℕ) (r : Result (Unit {0}) StripeFault) → s.codec ≡ k → (k ≢ RsLegacy) → ((r i : ℕ) → byte_at s.cell_size row' r i < 256)
    → EncodedBy s (coded k s.data_units) row row' r → Coding s row row' r
coding s k row row' r e known b t =
    by r (λ q. known (sym e ∙ q)) (subst (λ (k : Codec). EncodedBy s (coded k s.data_units) row row' r) (sym e) t)
  where
    by : (r : Result (Unit {0}) StripeFault) → (s.codec ≢ RsLegacy) → EncodedBy s (coded s.codec s.data_units) row row' r → Coding s row row' r
    by (Ok u) k (room, t) =
        let f = parity_follows s.codec s.data_units (units s) s.cell_size (byte_at s.cell_size row) (byte_at s.cell_size row') k b t in
        record {
          parity_by_the_code = (k, room, t);
          row_follows_the_code = f;
          no_other_parity = λ v i h q e r l. only_parity s.codec s.data_units (units s) (λ r. byte_at s.cell_size row' r i) v k (f i h) q e r l;
        }
    by (Err Short) k (short, e) = record { parity_by_the_code = (k, short, e); row_follows_the_code = tt; no_other_parity = tt }
    by (Err NoCodec) k e = absurd e
    by (Err (TooFew cells)) k e = absurd e
    by (Err Legacy) k e = absurd e

-- ---- cells made again
-- where all of the first d are counted, each is there
pub all_there : (there : ℕ → Bool) (d c : ℕ) → count there d ≡ d → c < d → there c ≡ true
all_there there zero c e l = absurd (not-suc-le-zero l)
all_there there (suc d) c e l = by (there d) refl (count_le there d) (λ z y. all_there there d c z y)
  where
    by : (b : Bool) → there d ≡ b → count there d ≤ d → (count there d ≡ d → c < d → there c ≡ true) → there c ≡ true
    by false q h more = let z : count there (suc d) ≡ count there d + 0 = ap (λ b. count there d + cond b 1 0) q in absurd (omega arith)
    by true q h more =
        let z : count there (suc d) ≡ count there d + 1 = ap (λ b. count there d + cond b 1 0) q in
        ⊎_elim (λ y. ap there y ∙ q) (λ y. more (omega arith) y) (eq-or-lt_of_le (le_of_suc-le-suc l))

counted : (there : ℕ → Bool) (d k : ℕ) → count there d ≡ d → k ≤ d → count there k ≡ k
counted there d zero e l = refl
counted there d (suc k) e l = let a = counted there d k e (omega arith) in ap (λ b. count there k + cond b 1 0) (all_there there d k e l) ∙ (let z : count there k + 1 ≡ suc k = omega arith in z)

-- nothing is missing: nothing changes
pub none_missing : (codec : Codec) (d n s : ℕ) (there : ℕ → Bool) (w : ℕ → ℕ → ℕ) → d ≤ n → ((r i : ℕ) → w r i < 256) → count there d ≡ d → MadeAgain d n s (coded codec d) there w w
none_missing codec d n s there w dn b e = record {
  there_kept = λ r i o h. refl;
  past_kept = λ r i o h. refl;
  determined = λ k i l h.
      let at : lowest_there there n k ≡ k = ap (lowest_there there n) (sym (counted there d k e (omega arith))) ∙ rank there n k (omega arith) (all_there there d k e l) in
      ap (λ (q : ℕ). w q i) at ∙ sym (coded_data codec d k (λ c. w c i) (λ c j. b c i) l) ∙ ap (λ (q : ℕ). coded codec d q (λ c. w c i)) (sym at);
}

-- two data rows from which the chosen rows make the same are one
one_row : {F : Type 0} {K : Ops F} (L : FieldLaws K) (d n : ℕ) (g : ℕ → ℕ → F) (there : ℕ → Bool) → d ≤ count there n → Invertible K d n g → (u v : ℕ → ℕ) → Bytes d u → Bytes d v
    → ((k : ℕ) → k < d → mixed K d (g (lowest_there there n k)) u ≡ mixed K d (g (lowest_there there n k)) v) → (c : ℕ) → c < d → u c ≡ v c
one_row {K = K} L d n g there h inv u v bu bv e c l =
    let b = inv (lowest_there there n) (choice there d n h) in
    sym (mixed_back L d (λ k. g (lowest_there there n k)) b.0 b.1.left u bu c l)
    ∙ mixed_same L d (b.0 c) (λ k. mixed K d (g (lowest_there there n k)) u) (λ k. mixed K d (g (lowest_there there n k)) v) e
    ∙ mixed_back L d (λ k. g (lowest_there there n k)) b.0 b.1.left v bv c l

pub is_there : (there : ℕ → Bool) (n k : ℕ) → k < count there n → there (lowest_there there n k) ≡ true
is_there there n k h = ((listing there n).each k h).1

-- what is made again is the row that was dealt
pub dealt : (codec : Codec) (d p s : ℕ) (there : ℕ → Bool) (w x : ℕ → ℕ → ℕ) → d + p ≤ 16 → (codec ≡ Xor → p ≡ 1) → (codec ≡ RsLegacy → count there d ≡ d) → d ≤ count there (d + p)
    → ((r i : ℕ) → x r i < 256) → MadeAgain d (d + p) s (coded codec d) there w x → (v : ℕ → ℕ) (i : ℕ) → i < s → Bytes d v → FollowsCode codec d (d + p) v
    → ((r : ℕ) → r < d + p → there r ≡ true → w r i ≡ v r) → (c : ℕ) → c < d → x c i ≡ v c
dealt Rs d p s there w x n o g enough b t v i h bv fv a c l =
    let q = choice there d (d + p) enough in
    one_row laws256 d (d + p) (rs_generator d) there enough (rs_invertible d p (omega arith)) (λ c. x c i) v (λ c j. b c i) bv
    (λ k j. sym (t.determined k i j h) ∙ a (lowest_there there (d + p) k) (q.below k j) (is_there there (d + p) k (omega arith)) ∙ fv (lowest_there there (d + p) k) (q.below k j)) c l
dealt Xor d p s there w x n o g enough b t v i h bv fv a c l =
    let q = choice there d (d + p) enough in
    one_row laws2 d (d + p) (xor_generator d) there enough (xor_invertible d p (o refl)) (λ c. x c i) v (λ c j. b c i) bv
    (λ k j. sym (t.determined k i j h) ∙ a (lowest_there there (d + p) k) (q.below k j) (is_there there (d + p) k (omega arith)) ∙ fv (lowest_there there (d + p) k) (q.below k j)) c l
dealt RsLegacy d p s there w x n o g enough b t v i h bv fv a c l =
    let e = all_there there d c (g refl) l in
    t.there_kept c i e h ∙ a c (omega arith) e

pub cells_determine : (codec : Codec) (d p : ℕ) → d + p ≤ 16 → (codec ≡ Xor → p ≡ 1) → CellsDetermine codec d (d + p)
cells_determine Rs d p n o k = determined laws256 d (d + p) (rs_generator d) (rs_invertible d p (omega arith)) (omega arith)
cells_determine Xor d p n o k = determined laws2 d (d + p) (xor_generator d) (xor_invertible d p (o refl)) (omega arith)
cells_determine RsLegacy d p n o k = absurd (k refl)

-- ---- the answers of a recovery
-- what a row made again answers
pub record Again (s : EcSchema) (flags : List Bool) (row row' : List ℕ) (made : ℕ) : Type 0 where
  pub from_the_lowest_there : Recovered s flags row row' (Ok made)
  pub the_cells_dealt : DealtCells s flags row row' (Ok made)
  pub cells_determine_the_row : RowDetermined s (Ok made)

-- where the buffer has room for the row, and so many of its cells are there
module _ (s : EcSchema) (flags : List Bool) (row : List ℕ) (cells : ℕ) (room : RowRoom s row) (long : s.data_units ≤ length flags) (held : cells ≡ count (flag flags) (units s)) where
  pub too_few : cells < s.data_units → Recovered s flags row row (Err (TooFew cells))
  too_few h = (room, held, h, refl)

  pub old_codec : s.codec ≡ RsLegacy → s.data_units ≤ cells → (count_by not (take s.data_units flags) ≢ 0) → Recovered s flags row row (Err Legacy)
  old_codec k h m = let t = missing_count flags s.data_units long in (room, omega arith, k, omega arith, refl)

  pub again : (row' : List ℕ) (made : ℕ) → s.data_units ≤ cells → made ≡ count_by not (take s.data_units flags) → (s.codec ≡ RsLegacy → made ≡ 0) → ((r i : ℕ) → byte_at s.cell_size row' r i < 256)
      → MadeAgain s.data_units (units s) s.cell_size (coded s.codec s.data_units) (flag flags) (byte_at s.cell_size row) (byte_at s.cell_size row') → Again s flags row row' made
  again row' made h m old bytes t =
      let c = missing_count flags s.data_units long in
      record {
        from_the_lowest_there = (room, omega arith, omega arith, old, t);
        the_cells_dealt = dealt s.codec s.data_units s.parity_units s.cell_size (flag flags) (byte_at s.cell_size row) (byte_at s.cell_size row') s.narrow s.xor_alone
            (λ k. let z = old k in omega arith) (omega arith) bytes t;
        cells_determine_the_row = cells_determine s.codec s.data_units s.parity_units s.narrow s.xor_alone;
      }

  -- where no data cell is missing
  pub all_held : s.data_units ≤ cells → 0 ≡ count_by not (take s.data_units flags) → ((r i : ℕ) → byte_at s.cell_size row r i < 256) → Again s flags row row 0
  all_held h m bytes =
      let c = missing_count flags s.data_units long in
      again row 0 h m (λ k. refl) bytes (none_missing s.codec s.data_units (units s) s.cell_size (flag flags) (byte_at s.cell_size row) (omega arith) bytes (omega arith))

  -- where a known code made the missing ones
  pub by_code : (k : Codec) (row' : List ℕ) (made : ℕ) → s.codec ≡ k → (k ≢ RsLegacy) → s.data_units ≤ cells → made ≡ count_by not (take s.data_units flags) → ((r i : ℕ) → byte_at s.cell_size row' r i < 256)
      → MadeAgain s.data_units (units s) s.cell_size (coded k s.data_units) (flag flags) (byte_at s.cell_size row) (byte_at s.cell_size row') → Again s flags row row' made
  by_code k row' made e known h m bytes t =
      again row' made h m (λ q. absurd (known (sym e ∙ q))) bytes
      (subst (λ (k : Codec). MadeAgain s.data_units (units s) s.cell_size (coded k s.data_units) (flag flags) (byte_at s.cell_size row) (byte_at s.cell_size row')) (sym e) t)
