-- Missing data cells made again from the lowest d that are there, by the inverse of their rows. Assumes nothing.
use Rattle.std.proofs.Common.{◌≡◌, ℕ, ◌<◌, ◌≤◌, Bool, true, false, sym, refl, ap, ◌∙◌, arith}
use Rattle.algebra.specs.Fields.{Ops, FieldLaws}
use Rattle.algebra.specs.Sums.{count}
use Rattle.algebra.specs.Matrices.{identity, Inverse, mixed}
use Rattle.algebra.specs.Codes.{Bytes}
use Rattle.algebra.proofs.Bytes.{mixed_byte, mixed_same, mixed_identity, mixed_back}
use Rattle.stripe.specs.There.{lowest_there}
use Rattle.stripe.specs.Recovered.{Filled, MadeAgain}
use Rattle.stripe.proofs.Cells.{count_le, rank}
use Rattle.stripe.proofs.Rows.{mixed_rows}

module _ {F : Type 0} {K : Ops F} (L : FieldLaws K) (d n s : ℕ) (dn : d ≤ n) (g square inverse : ℕ → ℕ → F) (there : ℕ → Bool) (chosen : ℕ → ℕ)
    (low : (k : ℕ) → k < d → chosen k ≡ lowest_there there n k)
    (systematic : (r c : ℕ) → r < d → g r c ≡ identity K r c)
    (rows : (k c : ℕ) → k < d → c < d → square k c ≡ g (chosen k) c)
    (inv : Inverse K d square inverse)
    (w x : ℕ → ℕ → ℕ) (bytes : (k i : ℕ) → k < d → i < s → w (chosen k) i < 256)
    (f : Filled d s there (λ c v. mixed K d (inverse c) (λ k. v (chosen k))) w x) where
  -- what the inverse makes of the chosen cells
  abbrev made : ℕ → ℕ → ℕ
  made i c = mixed K d (inverse c) (λ k. w (chosen k) i)

  made_bytes : (i : ℕ) → i < s → Bytes d (made i)
  made_bytes i h c l = mixed_byte L d (inverse c) (λ k. w (chosen k) i) (λ k o. bytes k i o h)

  -- the rows of the chosen cells take it back to these
  back : (i k : ℕ) → i < s → k < d → mixed K d (g (chosen k)) (made i) ≡ w (chosen k) i
  back i k h l =
      sym (mixed_rows K d (square k) (g (chosen k)) (made i) (λ c o. rows k c l o))
      ∙ mixed_back L d inverse square inv.right (λ k. w (chosen k) i) (λ k o. bytes k i o h) k l

  -- a data cell that is there is among the chosen ones
  same : (i c : ℕ) → i < s → c < d → there c ≡ true → made i c ≡ w c i
  same i c h l e =
      let m = count_le there c in
      let at : chosen (count there c) ≡ c = low (count there c) (omega arith) ∙ rank there n c (omega arith) e in
      sym (mixed_identity L d c (made i) (made_bytes i h) l)
      ∙ mixed_rows K d (identity K c) (g (chosen (count there c))) (made i) (λ j o. sym (ap (λ (q : ℕ). g q j) at ∙ systematic c j l))
      ∙ back i (count there c) h (omega arith) ∙ ap (λ (q : ℕ). w q i) at

  is_made : (i c : ℕ) → i < s → c < d → x c i ≡ made i c
  is_made i c h l = by (there c) refl
    where
      by : (b : Bool) → there c ≡ b → x c i ≡ made i c
      by true e = f.kept c i e h ∙ sym (same i c h l e)
      by false e = f.filled c i l e h

  pub made_again : MadeAgain d n s (λ r v. mixed K d (g r) v) there w x
  made_again = record {
    there_kept = f.kept;
    past_kept = f.past;
    determined = λ k i l h.
        ap (λ (q : ℕ). w q i) (sym (low k l)) ∙ sym (back i k h l) ∙ ap (λ (q : ℕ). mixed K d (g q) (made i)) (low k l)
        ∙ mixed_same L d (g (lowest_there there n k)) (made i) (λ c. x c i) (λ c o. sym (is_made i c h o));
  }
