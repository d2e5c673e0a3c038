-- Matrices that lie row by row in lists: their places, and what writes leave of them. Assumes nothing.
use Rattle.std.proofs.Common.{◌≡◌, ℕ, ◌+◌, ◌-◌, ◌*◌, ◌/◌, ◌%◌, ◌<◌, ◌≤◌, List, ◌++◌, length, get_or, take, drop, set, replicate, sym, ap, ◌∙◌, subst, add_assoc, mod-lt, add-mul, div-add-mod', arith, length-drop, take-append-drop, get_or-set_other, get_or-set_same, below_more}
use Rattle.std.proofs.Math.Nat.{div-lt_iff_lt-mul}
use Rattle.std.proofs.lemmas.Nat.{div-mul-add, mod-mul-add, mul-add-lt}
use Rattle.std.proofs.lemmas.List.{ext_get_or, get_or_default, get_or-drop, get_or-take, get_or_append_left, get_or-replicate, length-replicate, length-take-le}
use Rattle.matrix.specs.Grids.{grid, zeroed, EachEntry, Beyond}

-- two places of one matrix are one only where both row and column are
place_row : (cols r c s d : ℕ) → c < cols → d < cols → r * cols + c ≡ s * cols + d → r ≡ s
place_row cols r c s d hc hd e = sym (div-mul-add r cols c hc) ∙ ap (λ (i : ℕ). i / cols) e ∙ div-mul-add s cols d hd

place_col : (cols r c s d : ℕ) → c < cols → d < cols → r * cols + c ≡ s * cols + d → c ≡ d
place_col cols r c s d hc hd e = sym (mod-mul-add r cols c hc) ∙ ap (λ (i : ℕ). i % cols) e ∙ mod-mul-add s cols d hd

-- what was read at the place of an entry is the entry
pub read_is : {F : Type 0} (none x : F) (cols r c place : ℕ) (m : List F) → place ≡ r * cols + c → place < length m → x ≡ get_or m place x → x ≡ grid none cols m r c
read_is none x cols r c place m p h e = e ∙ get_or_default m place x none h ∙ ap (λ (j : ℕ). get_or m j none) p

-- what holds of each place of a list of entries holds of each row and column
pub each_entry : {F : Type 0} (none : F) (rows cols : ℕ) (P : ℕ → ℕ → F → Type 0) (x y : List F) → rows * cols ≤ length x
    → ((k : ℕ) → k < rows * cols → P (k / cols) (k % cols) (get_or x k none)) → EachEntry rows cols P (grid none cols (x ++ y))
each_entry none rows cols P x y fits h r c hr hc =
    let within = mul-add-lt r cols c rows hr hc in
    let l : r * cols + c < rows * cols = omega arith in
    subst (P r c) (sym (get_or_append_left x y none (r * cols + c) (omega arith)))
    (subst (λ (j : ℕ). P r j (get_or x (r * cols + c) none)) (mod-mul-add r cols c hc)
    (subst (λ (i : ℕ). P i ((r * cols + c) % cols) (get_or x (r * cols + c) none)) (div-mul-add r cols c hc) (h (r * cols + c) l)))

-- zeros in each entry
pub all_zero : {F : Type 0} (none : F) (rows cols : ℕ) (w x : List F) → 0 < cols → rows * cols ≤ length x
    → EachEntry rows cols (λ r c v. v ≡ none) (grid none cols x) → drop (rows * cols) x ≡ drop (rows * cols) w → x ≡ zeroed none (rows * cols) w
all_zero none rows cols w x some fits zero rest =
    let n = rows * cols in
    let len = length-take-le n x fits in
    sym (take-append-drop n x)
    ∙ ap (λ l. l ++ drop n x) (ext_get_or none (take n x) (replicate n none) (len ∙ sym (length-replicate n none))
    (λ i h. let l : i < n = omega arith in
    get_or-take n x i none l ∙ ap (λ (j : ℕ). get_or x j none) (sym (div-add-mod' i cols))
    ∙ zero (i / cols) (i % cols) ((div-lt_iff_lt-mul some).1 l) (mod-lt i some) ∙ sym (get_or-replicate n i none none l)))
    ∙ ap (λ l. replicate n none ++ l) rest

-- from w to x one row became f up to column i
pub record RowTo {F : Type 0} (cols i row : ℕ) (f : ℕ → F) (w x : ℕ → ℕ → F) : Type 0 where
  pub done : (c : ℕ) → c < i → x row c ≡ f c
  pub todo : (c : ℕ) → i ≤ c → c < cols → x row c ≡ w row c
  pub others : (r c : ℕ) → c < cols → (r ≡ row → ⊥) → x r c ≡ w r c

-- one entry more was written
module _ {F : Type 0} (none : F) (cols row : ℕ) (f : ℕ → F) (w : ℕ → ℕ → F) where
  pub row_more : (i place : ℕ) (v : F) (y : List F) → i < cols → place ≡ row * cols + i → place < length y → RowTo cols i row f w (grid none cols y)
      → v ≡ f i → RowTo cols (i + 1) row f w (grid none cols (set y place v))
  row_more i place v y h p l t e = record {
    done = below_more (λ c. grid none cols (set y place v) row c ≡ f c) i (λ c o. other row c (omega arith) (λ q. let m = place_col cols row c row i (omega arith) h q in omega arith) ∙ t.done c o)
        (ap (λ (j : ℕ). get_or (set y place v) j none) (sym p) ∙ get_or-set_same y place v none l ∙ e);
    todo = λ c o u. other row c u (λ q. let m = place_col cols row c row i u h q in omega arith) ∙ t.todo c (omega arith) u;
    others = λ r c u n. other r c u (λ q. n (place_row cols r c row i u h q)) ∙ t.others r c u n;
  }
    where
      other : (r c : ℕ) → c < cols → (r * cols + c ≡ row * cols + i → ⊥) → grid none cols (set y place v) r c ≡ grid none cols y r c
      other r c u ne = get_or-set_other y place (r * cols + c) v none (λ q. ne (q ∙ p))

-- ---- what lies past a matrix, as a list
split_place : (rows cols i : ℕ) → 0 < cols → rows * cols + i ≡ (rows + i / cols) * cols + i % cols
split_place rows cols i h =
    ap (λ (j : ℕ). rows * cols + j) (sym (div-add-mod' i cols)) ∙ sym (add_assoc (rows * cols) (i / cols * cols) (i % cols))
    ∙ ap (λ (j : ℕ). j + i % cols) (sym (add-mul rows (i / cols) cols))

pub beyond_list : {F : Type 0} (none : F) (rows cols : ℕ) (w x : List F) → 0 < cols → length x ≡ length w → Beyond rows cols (grid none cols w) (grid none cols x) → drop (rows * cols) x ≡ drop (rows * cols) w
beyond_list none rows cols w x h e b =
    ext_get_or none (drop (rows * cols) x) (drop (rows * cols) w) (length-drop (rows * cols) x ∙ ap (λ (n : ℕ). n - rows * cols) e ∙ sym (length-drop (rows * cols) w))
    (λ i l. get_or-drop (rows * cols) x i none ∙ ap (λ (j : ℕ). get_or x j none) (split_place rows cols i h)
    ∙ b (rows + i / cols) (i % cols) (omega arith) (mod-lt i h)
    ∙ sym (get_or-drop (rows * cols) w i none ∙ ap (λ (j : ℕ). get_or w j none) (split_place rows cols i h)))

-- zeros after writes that left what lies past the matrix
pub zeroed_after : {F : Type 0} (none : F) (rows cols : ℕ) (w v x y : List F) → 0 < cols → length x ≡ length v → drop (rows * cols) v ≡ drop (rows * cols) w
    → Beyond rows cols (grid none cols v) (grid none cols x) → y ≡ zeroed none (rows * cols) x → y ≡ zeroed none (rows * cols) w
zeroed_after none rows cols w v x y h e a b z = z ∙ ap (λ l. replicate (rows * cols) none ++ l) (beyond_list none rows cols v x h e b ∙ a)
