-- The cells of a row that are there, counted and listed. Assumes nothing.
use Rattle.std.proofs.Common.{◌≡◌, ℕ, zero, suc, ◌+◌, ◌-◌, ◌<◌, ◌≤◌, Bool, true, false, cond, ◌⊎◌, List, [], ◌∷◌, ◌++◌, length, take, not, count_by, get_or, sym, refl, ap, ◌∙◌, subst, ap₂, inl, inr, ⊎_elim, le_of_suc-le-suc, not-suc-le-zero, add-zero, eq-or-lt_of_le, add-one, arith, length-append}
use Rattle.std.proofs.lemmas.List.Sums.{count_by_more_no, count_by_more_yes}
use Rattle.std.proofs.lemmas.List.{length-take, length-take-le, get_or-take, get_or_append_left, get_or-append_right}
use Rattle.algebra.specs.Sums.{count}
use Rattle.algebra.specs.Codes.{Choice}
use Rattle.stripe.specs.There.{flag, there_below, lowest_there}

pub count_le : (there : ℕ → Bool) (n : ℕ) → count there n ≤ n
count_le there zero = omega arith
count_le there (suc n) = by (there n) (count_le there n)
  where
    by : (b : Bool) → count there n ≤ n → count there n + cond b 1 0 ≤ suc n
    by true h = omega arith
    by false h = omega arith

-- one more cell, where it is there and where not
below_step : (there : ℕ → Bool) (n : ℕ) (b : Bool) → there n ≡ b → there_below there (suc n) ≡ there_below there n ++ cond b (n ∷ []) []
below_step there n b e = ap (λ t. there_below there n ++ cond t (n ∷ []) []) e

pub below_length : (there : ℕ → Bool) (n : ℕ) → length (there_below there n) ≡ count there n
below_length there zero = refl
below_length there (suc n) = length-append (there_below there n) (cond (there n) (n ∷ []) []) ∙ ap₂ (λ (a b : ℕ). a + b) (below_length there n) (by (there n))
  where
    by : (b : Bool) → length (cond b (n ∷ []) []) ≡ cond b 1 0
    by true = refl
    by false = refl

-- flags that agree below n list the same cells
pub below_same : (f g : ℕ → Bool) (n : ℕ) → ((k : ℕ) → k < n → f k ≡ g k) → there_below f n ≡ there_below g n
below_same f g zero h = refl
below_same f g (suc n) h = ap₂ (λ xs b. xs ++ cond b (n ∷ []) []) (below_same f g n (λ k l. h k (omega arith))) (h n (omega arith))

pub lowest_of : (flags : List Bool) (n : ℕ) → n ≤ length flags → there_below (flag (take n flags)) (length (take n flags)) ≡ there_below (flag flags) n
lowest_of flags n h =
    ap (there_below (flag (take n flags))) (length-take-le n flags h) ∙ below_same (flag (take n flags)) (flag flags) n (λ k l. get_or-take n flags k false l)

-- each of the first n cells is missing or there
pub missing_count : (flags : List Bool) (n : ℕ) → n ≤ length flags → count_by not (take n flags) + count (flag flags) n ≡ n
missing_count flags zero h = refl
missing_count flags (suc n) h = by (flag flags n) refl (missing_count flags n (omega arith))
  where
    more : take (suc n) flags ≡ take (n + 1) flags
    more = ap (λ (m : ℕ). take m flags) (sym (add-one n))

    by : (b : Bool) → flag flags n ≡ b → count_by not (take n flags) + count (flag flags) n ≡ n → count_by not (take (suc n) flags) + (count (flag flags) n + cond (flag flags n) 1 0) ≡ suc n
    by true e q =
        let m = ap (count_by not) more ∙ count_by_more_no not flags n false (omega arith) (ap not e) in
        let z = ap (λ b. cond {A = ℕ} b 1 0) e in omega arith
    by false e q =
        let m = ap (count_by not) more ∙ count_by_more_yes not flags n false (omega arith) (ap not e) in
        let z = ap (λ b. cond {A = ℕ} b 1 0) e in omega arith

-- the earlier cells keep their places
pub below_kept : (there : ℕ → Bool) (n k : ℕ) → k < count there n → lowest_there there (n + 1) k ≡ lowest_there there n k
below_kept there n k h =
    let e = below_length there n in
    ap (λ (m : ℕ). lowest_there there m k) (add-one n) ∙ get_or_append_left (there_below there n) (cond (there n) (n ∷ []) []) 0 k (omega arith)

-- a cell that is there comes after as many as are there below it
pub below_last : (there : ℕ → Bool) (n : ℕ) → there n ≡ true → lowest_there there (n + 1) (count there n) ≡ n
below_last there n e =
    let l = below_length there n in
    let z : count there n - count there n ≡ 0 = omega arith in
    ap (λ (m : ℕ). lowest_there there m (count there n)) (add-one n)
    ∙ ap (λ (xs : List ℕ). get_or xs (count there n) 0) (below_step there n true e)
    ∙ get_or-append_right (there_below there n) (n ∷ []) (count there n) (count there n) 0 l (omega arith)
    ∙ ap (λ (i : ℕ). get_or (n ∷ []) i 0) z

-- each cell that is listed is there, and they rise
pub record Listing (there : ℕ → Bool) (n : ℕ) : Type 0 where
  pub each : (k : ℕ) → k < count there n → (lowest_there there n k < n) × (there (lowest_there there n k) ≡ true)
  pub rising : (i k : ℕ) → i < k → k < count there n → lowest_there there n i < lowest_there there n k

pub listing : (there : ℕ → Bool) (n : ℕ) → Listing there n
listing there zero = record { each = λ k h. absurd (not-suc-le-zero h); rising = λ i k l h. absurd (not-suc-le-zero h) }
listing there (suc n) = by (there n) refl (listing there n)
  where
    kept : (k : ℕ) → k < count there n → lowest_there there (suc n) k ≡ lowest_there there n k
    kept k h = ap (λ (m : ℕ). lowest_there there m k) (sym (add-one n)) ∙ below_kept there n k h

    last : there n ≡ true → lowest_there there (suc n) (count there n) ≡ n
    last e = ap (λ (m : ℕ). lowest_there there m (count there n)) (sym (add-one n)) ∙ below_last there n e

    before : Listing there n → (k : ℕ) → k < count there n → (lowest_there there (suc n) k < suc n) × (there (lowest_there there (suc n) k) ≡ true)
    before q k h = let e = kept k h in let i = q.each k h in (omega arith, ap there e ∙ i.1)

    by : (b : Bool) → there n ≡ b → Listing there n → Listing there (suc n)
    by false e q =
        let z : count there (suc n) ≡ count there n = ap (λ t. count there n + cond t 1 0) e ∙ add-zero (count there n) in
        record {
          each = λ k h. before q k (omega arith);
          rising = λ i k l h. let a = kept i (omega arith) in let b = kept k (omega arith) in let r = q.rising i k l (omega arith) in omega arith;
        }
    by true e q =
        let z : count there (suc n) ≡ count there n + 1 = ap (λ t. count there n + cond t 1 0) e in
        let m = count there n in
        let at = last e in
        record {
          each = λ k h. ⊎_elim
              (λ l. before q k l)
              (λ l. let a : lowest_there there (suc n) k ≡ n = ap (lowest_there there (suc n)) l ∙ at in (omega arith, ap there a ∙ e)) (split k (omega arith));
          rising = λ i k l h. ⊎_elim
              (λ j. let a = kept i (omega arith) in let b = kept k j in let r = q.rising i k l j in omega arith)
              (λ j. let a = kept i (omega arith) in let b : lowest_there there (suc n) k ≡ n = ap (lowest_there there (suc n)) j ∙ at in let r = (q.each i (omega arith)).0 in omega arith)
              (split k (omega arith));
        }
      where
        split : (k : ℕ) → k < count there n + 1 → (k < count there n) ⊎ (k ≡ count there n)
        split k h = ⊎_elim (λ x. inr x) (λ x. inl x) (eq-or-lt_of_le (le_of_suc-le-suc (subst (λ (m : ℕ). k < m) (add-one (count there n)) h)))

-- below a cell that is there fewer are there than below any later one
count_up : (there : ℕ → Bool) (c m : ℕ) → there c ≡ true → c < m → count there c < count there m
count_up there c zero e l = absurd (not-suc-le-zero l)
count_up there c (suc m) e l = ⊎_elim
    (λ q. let a : count there (suc m) ≡ count there m + 1 = ap (λ b. count there m + cond b 1 0) (ap there (sym q) ∙ e) in let b = ap (count there) q in omega arith)
    (λ j. let i = count_up there c m e j in let g = mono (there m) in omega arith) (eq-or-lt_of_le (le_of_suc-le-suc l))
  where
    mono : (b : Bool) → count there m ≤ count there m + cond b 1 0
    mono true = omega arith
    mono false = omega arith

-- where a cell that is there stands among them
pub rank : (there : ℕ → Bool) (n c : ℕ) → c < n → there c ≡ true → lowest_there there n (count there c) ≡ c
rank there zero c h e = absurd (not-suc-le-zero h)
rank there (suc n) c h e = ⊎_elim last (λ l. before l (rank there n c l e)) (eq-or-lt_of_le (le_of_suc-le-suc h))
  where
    last : c ≡ n → lowest_there there (suc n) (count there c) ≡ c
    last q =
        ap (λ (m : ℕ). lowest_there there (suc n) (count there m)) q ∙ ap (λ (m : ℕ). lowest_there there m (count there n)) (sym (add-one n))
        ∙ below_last there n (ap there (sym q) ∙ e) ∙ sym q

    before : c < n → lowest_there there n (count there c) ≡ c → lowest_there there (suc n) (count there c) ≡ c
    before l more =
        ap (λ (m : ℕ). lowest_there there m (count there c)) (sym (add-one n)) ∙ below_kept there n (count there c) (count_up there c n e l) ∙ more

-- enough cells are d different ones
pub choice : (there : ℕ → Bool) (d n : ℕ) → d ≤ count there n → Choice d n (lowest_there there n)
choice there d n h =
    let q = listing there n in
    record { below = λ k l. (q.each k (omega arith)).0; apart = λ i k l j e. let r = q.rising i k l (omega arith) in omega arith }

-- what the lowest d of the cells that are there have
module _ (there : ℕ → Bool) (d n : ℕ) (cells : List ℕ) (low : cells ≡ take d (there_below there n)) (enough : length cells ≡ d) where
  counted : d ≤ count there n
  counted =
      let e = ap length low ∙ length-take d (there_below there n) in
      let f = below_length there n in
      omega arith

  pub chosen_lowest : (k : ℕ) → k < d → get_or cells k 0 ≡ lowest_there there n k
  chosen_lowest k l = ap (λ xs. get_or xs k 0) low ∙ get_or-take d (there_below there n) k 0 l

  pub chosen_there : (k : ℕ) → k < d → there (get_or cells k 0) ≡ true
  chosen_there k l = ap there (chosen_lowest k l) ∙ ((listing there n).each k (let m = counted in omega arith)).1

  pub chosen_choice : Choice d n (λ k. get_or cells k 0)
  chosen_choice =
      let q = choice there d n counted in
      record {
        below = λ k l. let e = chosen_lowest k l in let b = q.below k l in omega arith;
        apart = λ i k l j e. q.apart i k l j (sym (chosen_lowest i (omega arith)) ∙ e ∙ chosen_lowest k j);
      }
