-- What one more parity cell or one more cell made again leaves of a row. Assumes nothing.
use Rattle.std.proofs.Common.{◌≡◌, ℕ, ◌+◌, ◌<◌, ◌≤◌, Bool, true, false, List, get_or, sym, ap, ◌∙◌, arith, below_more}
use Rattle.std.proofs.lemmas.Bool.{false≢true}
use Rattle.algebra.specs.Fields.{Ops, FieldLaws}
use Rattle.algebra.specs.Matrices.{mixed}
use Rattle.algebra.proofs.Bytes.{mixed_same, xors_same}
use Rattle.matrix.specs.Grids.{RowIs}
use Rattle.stripe.specs.Encoded.{ParityIs}
use Rattle.stripe.specs.Recovered.{Filled}

-- a row of entries that are the same mixes the same
pub mixed_rows : {F : Type 0} (K : Ops F) (d : ℕ) (f g : ℕ → F) (v : ℕ → ℕ) → ((c : ℕ) → c < d → f c ≡ g c) → mixed K d f v ≡ mixed K d g v
mixed_rows K d f g v h = xors_same d (λ c. K.act (f c) (v c)) (λ c. K.act (g c) (v c)) (λ c l. ap (λ x. K.act x (v c)) (h c l))

pub parity_same : (d m n s : ℕ) (f g : ℕ → (ℕ → ℕ) → ℕ) (w x : ℕ → ℕ → ℕ) → m ≡ n → ((r : ℕ) (v : ℕ → ℕ) → r < n → f r v ≡ g r v) → ParityIs d m s f w x → ParityIs d n s g w x
parity_same d m n s f g w x e h t = record {
  data_kept = t.data_kept;
  parity = λ r i l o j. t.parity r i l (omega arith) j ∙ h r (λ c. w c i) o;
  beyond = λ r i l j. t.beyond r i (omega arith) j;
}

-- f looks at the first d bytes alone
abbrev pub Local : ℕ → ((ℕ → ℕ) → ℕ) → Type 0
Local d f = (u v : ℕ → ℕ) → ((c : ℕ) → c < d → u c ≡ v c) → f u ≡ f v

-- one more parity cell, made from the cells whose numbers a table lists
pub parity_more : {F : Type 0} {K : Ops F} (L : FieldLaws K) (d r s : ℕ) (m : ℕ → ℕ → F) (cells : List ℕ) (w y x : ℕ → ℕ → ℕ) → d ≤ r → ((k : ℕ) → k < d → get_or cells k 0 ≡ k)
    → ParityIs d r s (λ r v. mixed K d (m r) v) w y → RowIs s r (λ i. mixed K d (m r) (λ k. y (get_or cells k 0) i)) y x → ParityIs d (r + 1) s (λ r v. mixed K d (m r) v) w x
parity_more {K = K} L d r s m cells w y x h e t q = record {
  data_kept = λ k i l j. q.others k i j (λ e. omega arith) ∙ t.data_kept k i l j;
  parity = λ k i l o j. below_more (λ k. d ≤ k → x k i ≡ mixed K d (m k) (λ c. w c i)) r
      (λ k o l. q.others k i j (λ e. omega arith) ∙ t.parity k i l o j)
      (λ l. q.this i j ∙ mixed_same L d (m r) (λ k. y (get_or cells k 0) i) (λ k. w k i) (λ k o. ap (λ (q : ℕ). y q i) (e k o) ∙ t.data_kept k i o j)) k o l;
  beyond = λ k i l j. q.others k i j (λ e. omega arith) ∙ t.beyond k i (omega arith) j;
}

-- f looks at cells that are there alone
abbrev pub Reads : (ℕ → Bool) → ((ℕ → ℕ) → ℕ) → Type 0
Reads there f = (u v : ℕ → ℕ) → ((c : ℕ) → there c ≡ true → u c ≡ v c) → f u ≡ f v

pub filled_more : (c s : ℕ) (there : ℕ → Bool) (f : ℕ → (ℕ → ℕ) → ℕ) (w y x : ℕ → ℕ → ℕ) → there c ≡ false → Reads there (f c) → Filled c s there f w y
    → RowIs s c (λ i. f c (λ k. y k i)) y x → Filled (c + 1) s there f w x
filled_more c s there f w y x e g t q = record {
  filled = λ r i l o j. below_more (λ r. there r ≡ false → x r i ≡ f r (λ k. w k i)) c
      (λ r l o. q.others r i j (λ z. omega arith) ∙ t.filled r i l o j)
      (λ o. q.this i j ∙ g (λ k. y k i) (λ k. w k i) (λ k o. t.kept k i o j)) r l o;
  kept = λ r i o j. q.others r i j (λ z. absurd (false≢true (sym (ap there z ∙ e) ∙ o))) ∙ t.kept r i o j;
  past = λ r i l j. q.others r i j (λ z. omega arith) ∙ t.past r i (omega arith) j;
}

-- a cell that is there is passed over
pub filled_over : (c s : ℕ) (there : ℕ → Bool) (f : ℕ → (ℕ → ℕ) → ℕ) (w x : ℕ → ℕ → ℕ) → there c ≡ true → Filled c s there f w x → Filled (c + 1) s there f w x
filled_over c s there f w x e t = record {
  filled = λ r i l o j. below_more (λ r. there r ≡ false → x r i ≡ f r (λ k. w k i)) c (λ r l o. t.filled r i l o j) (λ o. absurd (false≢true (sym o ∙ e))) r l o;
  kept = t.kept;
  past = λ r i l j. t.past r i (omega arith) j;
}
