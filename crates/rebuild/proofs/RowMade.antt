-- A row whose missing data cells were made again, as the shards that are held have it. Assumes nothing.
use Rattle.std.proofs.Common.{◌≡◌, ℕ, ◌<◌, Bool, true, List, Some, Ok, Err, Option, Result, MatchResult, sym, refl, ap, ◌∙◌, subst, arith}
use Rattle.std.specs.Result.{is_ok}
use Rattle.std.proofs.lemmas.Bool.{false≢true}
use Rattle.std.proofs.lemmas.Option.{none-some, same_Some}
use Rattle.std.proofs.Math.Path.{fun_ext}
use Rattle.algebra.specs.Sums.{count}
use Rattle.policy.specs.declared.schema.EcSchema.{EcSchema}
use Rattle.stripe.specs.declared.fault.StripeFault.{StripeFault}
use Rattle.stripe.specs.declared.fault.StripeFault.TheVariants.{Codec, Short, TooFew, Legacy}
use Rattle.stripe.specs.Coded.{byte_at, units}
use Rattle.stripe.specs.Recovered.{Recovered, DealtCells}
use Rattle.stripe.specs.There.{flag, lowest_there}
use Rattle.stripe.proofs.Cells.{choice}
use Rattle.rebuild.specs.declared.fault.RebuildFault.{RebuildFault}
use Rattle.rebuild.specs.Faults.{fault_in_row}
use Rattle.rebuild.specs.Rebuilt.{RowFrom, RowRebuilt, there_in, bytes_in}

module _ (e : EcSchema) (n : ℕ) (held : ℕ → Option (List ℕ)) (k : ℕ) (flags : List Bool) (row row' : List ℕ) (there : (i : ℕ) → flag flags i ≡ there_in e n held k i) where
  -- the flags are the cells that are there
  all_flags : flag flags ≡ there_in e n held k
  all_flags = fun_ext there

  pub row_made : (answer : Result ℕ StripeFault) → is_ok answer ≡ true → ((i j : ℕ) → i < units e → j < e.cell_size → byte_at e.cell_size row i j ≡ bytes_in e n held k i j)
      → ((r i : ℕ) → byte_at e.cell_size row' r i < 256) → Recovered e flags row row' answer → DealtCells e flags row row' answer
      → RowFrom e.codec e.data_units (units e) e.cell_size (there_in e n held k) (bytes_in e n held k) (byte_at e.cell_size row')
  row_made (Err fault) is laid bytes r dealt = absurd (false≢true is)
  row_made (Ok made) is laid bytes r dealt =
      let P : (ℕ → Bool) → Type 0 = λ t. RowFrom e.codec e.data_units (units e) e.cell_size t (bytes_in e n held k) (byte_at e.cell_size row') in
      subst P all_flags (record {
        enough = record { any = r.1; old = λ q. omega (arith, r.2, r.3 q) };
        bytes = λ c j hc hj. bytes c j;
        there_kept = λ c j hc t hj. r.4.there_kept c j t hj ∙ laid c j (omega arith) hj;
        determined = λ i j hi hj. sym (laid (lowest_there (flag flags) (units e) i) j ((choice (flag flags) e.data_units (units e) r.1).below i hi) hj) ∙ r.4.determined i j hi hj;
        only = λ v j hj bv fv a c hc. dealt v j hj bv fv (λ q l t. laid q j l hj ∙ a q l t) c hc;
      })

  -- a row that is refused for its cells has too few of them, or is of the old codec
  pub row_short : (answer : Result ℕ StripeFault) (f : RebuildFault) (x : ℕ → ℕ → ℕ) → MatchResult answer (λ made. ⊥) (λ fault. fault_in_row k fault ≡ Some f) → Recovered e flags row row' answer
      → RowRebuilt e n held k x (Err f)
  row_short (Ok made) f x is r = absurd is
  row_short (Err Short) f x is r = absurd (none-some f is)
  row_short (Err Codec) f x is r = absurd r
  row_short (Err (TooFew cells)) f x is r =
      subst (λ (g : RebuildFault). RowRebuilt e n held k x (Err g)) (same_Some _ f is) (refl, (r.1 ∙ ap (λ (t : ℕ → Bool). count t (units e)) all_flags, r.2))
  row_short (Err Legacy) f x is r =
      let all = ap (λ (t : ℕ → Bool). count t (units e)) all_flags in
      let data-cells = ap (λ (t : ℕ → Bool). count t e.data_units) all_flags in
      subst (λ (g : RebuildFault). RowRebuilt e n held k x (Err g)) (same_Some _ f is) (refl, (r.2, omega (arith, all, r.1), omega (arith, data-cells, r.3)))
