-- Bytes filled with zeros: their length, each of them, and one such list after another.
use Rattle.std.proofs.Common.{◌≡◌, ℕ, ◌+◌, ◌-◌, ◌<◌, ◌≤◌, min, List, ◌++◌, length, get_or, take, drop, replicate, sym, ap, ◌∙◌, ⊎_elim, arith}
use Rattle.std.proofs.lemmas.List.{length-append, length-take, length-drop, length-replicate, get_or_append_left, get_or-append_right, get_or-take, get_or-drop, get_or_past, get_or-replicate, ext_get_or}
use Rattle.std.proofs.lemmas.Bool.{cases_lt}
use Rattle.dealing.specs.Dealt.{padded}

pub length_padded : (m : ℕ) (xs : List ℕ) → length (padded m xs) ≡ m
unfolding padded
length_padded m xs = simp (length-append, length-take, length-replicate) (omega arith)

-- the zeros are what a read past the end gives
pub padded_at : (m : ℕ) (xs : List ℕ) (t : ℕ) → t < m → get_or (padded m xs) t 0 ≡ get_or xs t 0
unfolding padded
padded_at m xs t h =
    ⊎_elim
    (λ (l : t < length xs).
    let lt : t < length (take m xs) = simp length-take (omega arith) in
    get_or_append_left (take m xs) (replicate (m - length xs) 0) 0 t lt ∙ get_or-take m xs t 0 h)
    (λ (g : length xs ≤ t).
    let e : length (take m xs) ≡ length xs = simp length-take (omega arith) in
    get_or-append_right (take m xs) (replicate (m - length xs) 0) (length xs) t 0 e g
    ∙ get_or-replicate (m - length xs) (t - length xs) 0 0 (omega arith) ∙ sym (get_or_past xs t 0 g))
    (cases_lt t (length xs))

pub padded_append : (a b : ℕ) (xs : List ℕ) → padded a xs ++ padded b (drop a xs) ≡ padded (a + b) xs
padded_append a b xs =
    ext_get_or 0 (padded a xs ++ padded b (drop a xs)) (padded (a + b) xs)
    (simp (length-append, length_padded))
    (λ t h.
    let lt : t < a + b = simp (length-append, length_padded) at h in
    ⊎_elim
    (λ (l : t < a).
    let la : t < length (padded a xs) = simp length_padded (omega arith) in
    get_or_append_left (padded a xs) (padded b (drop a xs)) 0 t la ∙ padded_at a xs t l ∙ sym (padded_at (a + b) xs t lt))
    (λ (g : a ≤ t).
    let e : a + (t - a) ≡ t = omega arith in
    get_or-append_right (padded a xs) (padded b (drop a xs)) a t 0 (length_padded a xs) g
    ∙ padded_at b (drop a xs) (t - a) (omega arith) ∙ get_or-drop a xs (t - a) 0 ∙ ap (λ (k : ℕ). get_or xs k 0) e
    ∙ sym (padded_at (a + b) xs t lt))
    (cases_lt t a))

-- a part that lies within the bytes does not see the zeros
pub part_padded : (m a l : ℕ) (xs : List ℕ) → a + l ≤ m → a + l ≤ length xs → take l (drop a (padded m xs)) ≡ take l (drop a xs)
part_padded m a l xs hm hx =
    ext_get_or 0 (take l (drop a (padded m xs))) (take l (drop a xs))
    (simp (length-take, length-drop, length_padded) (omega arith))
    (λ t h.
    let lt : t < l = (let k : t < min l (m - a) = simp (length-take, length-drop, length_padded) at h in omega arith) in
    get_or-take l (drop a (padded m xs)) t 0 lt
    ∙ get_or-drop a (padded m xs) t 0
    ∙ padded_at m xs (a + t) (omega arith)
    ∙ sym (get_or-drop a xs t 0)
    ∙ sym (get_or-take l (drop a xs) t 0 lt))
