-- Rows of a matrix as parts of its list. Assumes nothing.
use Rattle.std.proofs.Common.{◌≡◌, ℕ, suc, ◌+◌, ◌-◌, ◌*◌, ◌<◌, ◌≤◌, List, ◌++◌, length, get_or, take, drop, sym, ap, subst, ◌∙◌, ⊎_elim, arith, length-drop, length-append}
use Rattle.std.proofs.Math.Nat.{mul-le-mul_right}
use Rattle.std.proofs.lemmas.Bool.{cases_lt}
use Rattle.std.proofs.lemmas.List.{get_or-drop, get_or-take, get_or_append_left, get_or-append_right, length-take-le}
use Rattle.matrix.specs.Grids.{grid, RowIs, EachEntry, Beyond}
use Rattle.matrix.specs.Rows.{Exchanged}

-- the k elements from the a-th on have become p
abbrev pub put : {F : Type 0} → ℕ → ℕ → List F → List F → List F
put a k m p = take a m ++ (p ++ drop k (drop a m))

module _ {F : Type 0} (none : F) (a k : ℕ) (m p : List F) (len : length p ≡ k) (fits : a + k ≤ length m) where
  put_length : length (put a k m p) ≡ length m
  put_length =
      let t = length-take-le a m (omega arith) in
      omega (arith, length-append (take a m) (p ++ drop k (drop a m)), length-append p (drop k (drop a m)), length-drop k (drop a m), length-drop a m)

  put_before : (i : ℕ) → i < a → get_or (put a k m p) i none ≡ get_or m i none
  put_before i h =
      let t = length-take-le a m (omega arith) in
      get_or_append_left (take a m) (p ++ drop k (drop a m)) none i (omega arith) ∙ get_or-take a m i none h

  put_within : (i : ℕ) → i < k → get_or (put a k m p) (a + i) none ≡ get_or p i none
  put_within i h =
      let t = length-take-le a m (omega arith) in
      let e : a + i - a ≡ i = omega arith in
      get_or-append_right (take a m) (p ++ drop k (drop a m)) a (a + i) none t (omega arith)
      ∙ ap (λ (j : ℕ). get_or (p ++ drop k (drop a m)) j none) e
      ∙ get_or_append_left p (drop k (drop a m)) none i (omega arith)

  put_after : (i : ℕ) → a + k ≤ i → get_or (put a k m p) i none ≡ get_or m i none
  put_after i h =
      let t = length-take-le a m (omega arith) in
      let e : a + (k + (i - a - k)) ≡ i = omega arith in
      get_or-append_right (take a m) (p ++ drop k (drop a m)) a i none t (omega arith)
      ∙ get_or-append_right p (drop k (drop a m)) k (i - a) none len (omega arith)
      ∙ get_or-drop k (drop a m) (i - a - k) none ∙ get_or-drop a m (k + (i - a - k)) none ∙ ap (λ (j : ℕ). get_or m j none) e

-- the entries of a row stand before those of each row below it
rows_apart : (cols r c s : ℕ) → c < cols → r < s → r * cols + c < s * cols
rows_apart cols r c s h l = let n : suc r ≤ s = l in omega (arith, mul-le-mul_right cols n)

-- a row ends within the matrix
pub row_fits : (cols r rows : ℕ) → r < rows → r * cols + cols ≤ rows * cols
row_fits cols r rows l = let n : suc r ≤ rows = l in omega (arith, mul-le-mul_right cols n)

module _ {F : Type 0} (none : F) (cols row a k : ℕ) (m p : List F) (at : a ≡ row * cols) (wide : k ≡ cols) (len : length p ≡ k) (fits : a + k ≤ length m) where
  put_others : (r c : ℕ) → c < cols → (r ≡ row → ⊥) → grid none cols (put a k m p) r c ≡ grid none cols m r c
  put_others r c h n = ⊎_elim
      (λ l. let o = rows_apart cols r c row h l in put_before none a k m p len fits (r * cols + c) (omega arith))
      (λ l. let o : a + k ≤ r * cols + c = let s : suc row ≤ r = omega arith in omega (arith, mul-le-mul_right cols s) in put_after none a k m p len fits (r * cols + c) o) (cases_lt r row)

  put_row : (c : ℕ) → c < cols → grid none cols (put a k m p) row c ≡ get_or p c none
  put_row c h = ap (λ (j : ℕ). get_or (put a k m p) (j + c) none) (sym at) ∙ put_within none a k m p len fits c (omega arith)

-- each entry in the part of a row became what f makes of it
pub row_changed : {F : Type 0} (none : F) (cols row a k : ℕ) (m p : List F) → a ≡ row * cols → k ≡ cols → length p ≡ length (take k (drop a m)) → a + k ≤ length m
    → (f : F → F) → ((c : ℕ) → c < cols → get_or p c none ≡ f (get_or (take k (drop a m)) c none)) → RowIs cols row (λ c. f (grid none cols m row c)) (grid none cols m) (grid none cols (put a k m p))
row_changed none cols row a k m p at wide same fits f h =
    let len = same ∙ length-take-le k (drop a m) (omega (arith, length-drop a m)) in
    record {
      this = λ c l. put_row none cols row a k m p at wide len fits c l ∙ h c l
          ∙ ap f (get_or-take k (drop a m) c none (omega arith) ∙ get_or-drop a m c none ∙ ap (λ (j : ℕ). get_or m (j + c) none) at);
      others = put_others none cols row a k m p at wide len fits;
    }

-- one row more was written: the rows up to it hold P, and what lies past the matrix is as it was
module _ {F : Type 0} (none : F) (cols row a k : ℕ) (m p : List F) (at : a ≡ row * cols) (wide : k ≡ cols) (same : length p ≡ length (take k (drop a m))) (fits : a + k ≤ length m) where
  part_length : length p ≡ k
  part_length = same ∙ length-take-le k (drop a m) (omega (arith, length-drop a m))

  pub rows_kept : length (put a k m p) ≡ length m
  rows_kept = put_length none a k m p part_length fits

  pub row_filled : (P : ℕ → ℕ → F → Type 0) → EachEntry row cols P (grid none cols m) → ((c : ℕ) → c < cols → P row c (get_or p c none)) → EachEntry (row + 1) cols P (grid none cols (put a k m p))
  row_filled P above this r c hr hc = ⊎_elim
      (λ l. subst (P r c) (sym (put_others none cols row a k m p at wide part_length fits r c hc (λ e. omega arith))) (above r c l hc))
      (λ l.
      let e : row ≡ r = omega arith in
      subst (λ (i : ℕ). P i c (grid none cols (put a k m p) i c)) e (subst (P row c) (sym (put_row none cols row a k m p at wide part_length fits c hc)) (this c hc)))
      (cases_lt r row)

  pub beyond_kept : (rows : ℕ) (w : ℕ → ℕ → F) → row < rows → Beyond rows cols w (grid none cols m) → Beyond rows cols w (grid none cols (put a k m p))
  beyond_kept rows w l b r c h hc = put_others none cols row a k m p at wide part_length fits r c hc (λ e. omega arith) ∙ b r c h hc

-- the list is cut at row b, and a row of the front has changed places with that row
module _ {F : Type 0} (none : F) (cols a b s t k : ℕ) (m u l x y : List F) (at_a : s ≡ a * cols) (at_b : t ≡ b * cols) (wide : k ≡ cols) (below : a < b) (fits : t + cols ≤ length m)
    (front : u ≡ take t m) (back : l ≡ drop t m) (to_a : x ≡ take cols l) (to_b : y ≡ take k (drop s u)) where
  x_length : length x ≡ cols
  x_length = ap length to_a ∙ length-take-le cols l (omega (arith, ap length back, length-drop t m))

  u_length : length u ≡ t
  u_length = ap length front ∙ length-take-le t m (omega arith)

  within : s + cols ≤ t
  within = let h : suc a ≤ b = below in omega (arith, mul-le-mul_right cols h)

  y_length : length y ≡ cols
  y_length = let w = within in ap length to_b ∙ length-take-le k (drop s u) (omega (arith, u_length, length-drop s u)) ∙ wide

  u_at : (i : ℕ) → i < t → get_or u i none ≡ get_or m i none
  u_at i h = ap (λ z. get_or z i none) front ∙ get_or-take t m i none h

  l_at : (i : ℕ) → get_or l i none ≡ get_or m (t + i) none
  l_at i = ap (λ z. get_or z i none) back ∙ get_or-drop t m i none

  new : List F
  new = put s k u x ++ (y ++ drop cols l)

  len_x : length x ≡ k
  len_x = x_length ∙ sym wide

  fits_u : s + k ≤ length u
  fits_u = let w = within in let e = u_length in omega arith

  new_front : (i : ℕ) → i < t → get_or new i none ≡ get_or (put s k u x) i none
  unfolding new
  new_front i h = get_or_append_left (put s k u x) (y ++ drop cols l) none i (omega (arith, put_length none s k u x len_x fits_u, u_length))

  new_back : (i : ℕ) → get_or new (t + i) none ≡ get_or (y ++ drop cols l) i none
  unfolding new
  new_back i =
      let e : t + i - t ≡ i = omega arith in
      get_or-append_right (put s k u x) (y ++ drop cols l) t (t + i) none (put_length none s k u x len_x fits_u ∙ u_length) (omega arith)
      ∙ ap (λ (j : ℕ). get_or (y ++ drop cols l) j none) e

  pub exchanged : Exchanged cols a b (grid none cols m) (grid none cols (put s k u x ++ (y ++ drop cols l)))
  unfolding new
  exchanged = record {
    first = λ c h. let o = within in
        let e = rows_apart cols a c b h below in
        new_front (a * cols + c) (omega arith) ∙ put_row none cols a s k u x at_a wide len_x fits_u c h
        ∙ ap (λ z. get_or z c none) to_a ∙ get_or-take cols l c none h ∙ l_at c ∙ ap (λ (j : ℕ). get_or m (j + c) none) at_b;
    second = λ c h. let o = within in
        ap (λ (j : ℕ). get_or new (j + c) none) (sym at_b) ∙ new_back c
        ∙ get_or_append_left y (drop cols l) none c (omega (arith, y_length))
        ∙ ap (λ z. get_or z c none) to_b ∙ get_or-take k (drop s u) c none (omega arith) ∙ get_or-drop s u c none
        ∙ u_at (s + c) (omega arith) ∙ ap (λ (j : ℕ). get_or m (j + c) none) at_a;
    others = λ r c h n o. ⊎_elim
        (λ lt. let e = rows_apart cols r c b h lt in
        new_front (r * cols + c) (omega arith) ∙ put_others none cols a s k u x at_a wide len_x fits_u r c h n ∙ u_at (r * cols + c) (omega arith))
        (λ ge. let p : suc b ≤ r = omega arith in
        let q = mul-le-mul_right cols p in
        let i = r * cols + c - t in
        let e : t + i ≡ r * cols + c = omega arith in
        let f : cols + (i - cols) ≡ i = omega arith in
        ap (λ (j : ℕ). get_or new j none) (sym e) ∙ new_back i
        ∙ get_or-append_right y (drop cols l) cols i none y_length (omega arith) ∙ get_or-drop cols l (i - cols) none ∙ ap (λ (j : ℕ). get_or l j none) f
        ∙ l_at i ∙ ap (λ (j : ℕ). get_or m j none) e) (cases_lt r b);
  }
