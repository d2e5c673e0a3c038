-- Lists joined one after another: their length, each byte of them, and joined cells as one stretch of the block.
use Rattle.std.proofs.Common.{◌≡◌, ℕ, zero, suc, ◌+◌, ◌-◌, ◌*◌, ◌<◌, ◌≤◌, List, [], ◌++◌, length, get_or, drop, sym, refl, ap, ◌∙◌, ⊎_elim, arith}
use Rattle.std.proofs.lemmas.List.{append_assoc, append-nil, length-append, get_or_append_left, get_or-append_right, drop-drop, nil_from_length}
use Rattle.std.proofs.lemmas.Bool.{cases_lt}
use Rattle.dealing.specs.Dealt.{padded, joined_to}
use Rattle.dealing.proofs.Padding.{padded_append, length_padded}

-- only the lists that are joined count
pub joined_same : (f g : ℕ → List ℕ) (n : ℕ) → ((k : ℕ) → k < n → f k ≡ g k) → joined_to f n ≡ joined_to g n
unfolding joined_to
joined_same f g zero h = refl
joined_same f g (suc n) h =
    let p = joined_same f g n (λ k l. h k (omega arith)) in
    let q = h n (omega arith) in cc

-- one list, what is before it and what follows
pub joined_split : (f : ℕ → List ℕ) (n k : ℕ) → k < n → (rest : List ℕ) × (joined_to f n ≡ joined_to f k ++ (f k ++ rest))
unfolding joined_to
joined_split f zero k h = absurd (omega arith)
joined_split f (suc n) k h =
    ⊎_elim
    (λ (l : k < n).
    let r = joined_split f n k l in
    (r.0 ++ f n, ap (λ (x : List ℕ). x ++ f n) r.1 ∙ simp append_assoc))
    (λ (g : n ≤ k).
    let e : k ≡ n = omega arith in
    ([], rw e (simp append-nil)))
    (cases_lt k n)

-- lists of s bytes each
pub length_joined : (f : ℕ → List ℕ) (s n : ℕ) → ((k : ℕ) → k < n → length (f k) ≡ s) → length (joined_to f n) ≡ n * s
unfolding joined_to
length_joined f s zero h = omega arith
length_joined f s (suc n) h =
    let p = length_joined f s n (λ k l. h k (omega arith)) in
    let q = h n (omega arith) in
    simp length-append (omega arith)

-- a byte of the list k, where each list before it has s bytes
pub joined_at : (f : ℕ → List ℕ) (s n k t : ℕ) → k < n → ((j : ℕ) → j < k → length (f j) ≡ s) → t < length (f k) → get_or (joined_to f n) (k * s + t) 0 ≡ get_or (f k) t 0
joined_at f s n k t h full l =
    let r = joined_split f n k h in
    let e = length_joined f s k full in
    let m : k * s + t - k * s ≡ t = omega arith in
    ap (λ (x : List ℕ). get_or x (k * s + t) 0) r.1
    ∙ get_or-append_right (joined_to f k) (f k ++ r.0) (k * s) (k * s + t) 0 e (omega arith)
    ∙ ap (λ (x : ℕ). get_or (f k ++ r.0) x 0) m ∙ get_or_append_left (f k) r.0 0 t l

-- cells that follow one another are one stretch of the block
pub joined_padded : (s c n : ℕ) (xs : List ℕ) → joined_to (λ i. padded s (drop ((c + i) * s) xs)) n ≡ padded (n * s) (drop (c * s) xs)
unfolding joined_to
joined_padded s c zero xs = sym (nil_from_length (padded (0 * s) (drop (c * s) xs)) (length_padded (0 * s) (drop (c * s) xs) ∙ omega arith))
joined_padded s c (suc n) xs =
    let e : drop ((c + n) * s) xs ≡ drop (n * s) (drop (c * s) xs) =
    ap (λ (k : ℕ). drop k xs) (omega arith) ∙ sym (drop-drop (n * s) (c * s) xs) in
    let m : n * s + s ≡ suc n * s = omega arith in
    ap (λ (x : List ℕ). x ++ padded s (drop ((c + n) * s) xs)) (joined_padded s c n xs)
    ∙ ap (λ (x : List ℕ). padded (n * s) (drop (c * s) xs) ++ padded s x) e
    ∙ padded_append (n * s) s (drop (c * s) xs) ∙ ap (λ (k : ℕ). padded k (drop (c * s) xs)) m
