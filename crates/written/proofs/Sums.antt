-- The checksums of data, of one run after another. Assumes nothing.
use Rattle.std.proofs.Common.{◌≡◌, ℕ, zero, suc, ◌+◌, ◌-◌, ◌*◌, ◌/◌, ◌<◌, ◌≤◌, min, List, [], ◌∷◌, ◌++◌, length, take, drop, flat_map, Some, sym, refl, ap, ap₂, ◌∙◌, inl, inr, append-nil, length-append, add-mul, one-mul, zero-mul, div-le_self, arith}
use Rattle.std.proofs.Math.Nat.{add-div_right, div-eq_of_lt}
use Rattle.std.proofs.Math.Seq.{take-append_seam, drop-append-add}
use Rattle.std.proofs.lemmas.Bool.{cases_lt}
use Rattle.std.proofs.lemmas.List.{nil_from_length, take_all}
use Rattle.std.proofs.lemmas.List.FromFn.{length-range_with_len}
use Rattle.std.specs.List.{range_with_len}
use Rattle.std.specs.Int.{w32, to_be_bytes}
use Rattle.checksum.specs.Sums.{sum_of}
use Rattle.packets.specs.declared.info.ChecksumInfo.{ChecksumInfo}
use Rattle.packets.specs.Frames.{run_count, run_of}
use Rattle.packets.specs.Written.{sum_bytes}

-- no bytes have no run, few have one, and more have one more than the rest
count_none : (c : ℕ) → 0 < c → run_count c 0 ≡ 0
count_none c p = div-eq_of_lt (omega arith)

count_one : (c n : ℕ) → 0 < c → 0 < n → n ≤ c → run_count c n ≡ 1
count_one c n p q l =
    let less : n - 1 < c = omega arith in
    let same : n + c - 1 ≡ n - 1 + c = omega arith in
    omega (arith, ap (λ (x : ℕ). x / c) same, add-div_right (n - 1) p, div-eq_of_lt less)

count_more : (c n : ℕ) → 0 < c → 0 < n → run_count c (c + n) ≡ suc (run_count c n)
count_more c n p q =
    let same : c + n + c - 1 ≡ n + c - 1 + c = omega arith in
    omega (arith, ap (λ (x : ℕ). x / c) same, add-div_right (n + c - 1) p)

-- the length of the checksums
four_each : (f : ℕ → List ℕ) (xs : List ℕ) → ((i : ℕ) → length (f i) ≡ 4) → length (flat_map f xs) ≡ length xs * 4
four_each f [] h = refl
four_each f (x ∷ xs) h = omega (arith, length-append (f x) (flat_map f xs), h x, four_each f xs h)

pub sums_length : (k : ChecksumInfo) (d : List ℕ) → length (sum_bytes (Some k) d) ≡ run_count k.bytes_per_checksum (length d) * 4
sums_length k d =
    let n = run_count k.bytes_per_checksum (length d) in
    four_each (λ (i : ℕ). to_be_bytes w32 (sum_of k.kind (run_of k.bytes_per_checksum d i))) (range_with_len 0 n) (λ i. refl)
    ∙ ap (λ (m : ℕ). m * 4) (length-range_with_len 0 n)

-- what is made of each number but the first
shifted : (f g : ℕ → List ℕ) (a n : ℕ) → ((i : ℕ) → f (i + 1) ≡ g i) → flat_map f (range_with_len (a + 1) n) ≡ flat_map g (range_with_len a n)
shifted f g a zero h = refl
shifted f g a (suc n) h = ap₂ (λ (x y : List ℕ). x ++ y) (h a) (shifted f g (a + 1) n h)

run_next : (c : ℕ) (run rest : List ℕ) (i : ℕ) → length run ≡ c → run_of c (run ++ rest) (i + 1) ≡ run_of c rest i
run_next c run rest i e =
    let at : (i + 1) * c ≡ length run + i * c = omega (arith, add-mul i 1 c, one-mul c) in
    ap (take c) (ap (λ (n : ℕ). drop n (run ++ rest)) at ∙ drop-append-add run rest (i * c))

run_first : (c : ℕ) (d : List ℕ) → run_of c d 0 ≡ take c d
run_first c d = ap (λ (n : ℕ). take c (drop n d)) (zero-mul c)

-- the checksum of the first run, and those of the rest
pub sums_first : (k : ChecksumInfo) (run rest : List ℕ) → 0 < k.bytes_per_checksum → length run ≡ min k.bytes_per_checksum (length (run ++ rest)) → 0 < length (run ++ rest)
    → sum_bytes (Some k) (run ++ rest) ≡ to_be_bytes w32 (sum_of k.kind run) ++ sum_bytes (Some k) rest
sums_first k run rest p e q =
    let c = k.bytes_per_checksum in
    let sum : List ℕ → List ℕ = λ d. to_be_bytes w32 (sum_of k.kind d) in
    let f : ℕ → List ℕ = λ i. sum (run_of c (run ++ rest) i) in
    let g : ℕ → List ℕ = λ i. sum (run_of c rest i) in
    let long = length-append run rest in
    elim (cases_lt c (length (run ++ rest))) [
      | inl more ↦
          let full : length run ≡ c = omega arith in
          let first : run_of c (run ++ rest) 0 ≡ run = run_first c (run ++ rest) ∙ ap (λ (n : ℕ). take n (run ++ rest)) (sym full) ∙ take-append_seam run rest in
          let count : run_count c (length (run ++ rest)) ≡ suc (run_count c (length rest)) = ap (run_count c) (omega arith) ∙ count_more c (length rest) p (omega arith) in
          ap (λ (n : ℕ). flat_map f (range_with_len 0 n)) count
          ∙ ap₂ (λ (x y : List ℕ). x ++ y) (ap sum first) (shifted f g 0 (run_count c (length rest)) (λ i. ap sum (run_next c run rest i full)))
      | inr less ↦
          let none : rest ≡ [] = nil_from_length rest (omega arith) in
          let whole : run ++ rest ≡ run = ap (λ (w : List ℕ). run ++ w) none ∙ append-nil run in
          let first : run_of c (run ++ rest) 0 ≡ run = run_first c (run ++ rest) ∙ ap (take c) whole ∙ take_all c run (omega arith) in
          let nothing : sum_bytes (Some k) rest ≡ [] = ap (sum_bytes (Some k)) none ∙ ap (λ (n : ℕ). flat_map (λ (i : ℕ). sum (run_of c [] i)) (range_with_len 0 n)) (count_none c p) in
          ap (λ (n : ℕ). flat_map f (range_with_len 0 n)) (count_one c (length (run ++ rest)) p q less)
          ∙ ap₂ (λ (x y : List ℕ). x ++ y) (ap sum first) (sym nothing)
    ]

-- the checksums of no bytes
pub sums_none : (k : ChecksumInfo) (d : List ℕ) → 0 < k.bytes_per_checksum → length d ≡ 0 → sum_bytes (Some k) d ≡ []
sums_none k d p e =
    ap (sum_bytes (Some k)) (nil_from_length d e)
    ∙ ap (λ (n : ℕ). flat_map (λ (i : ℕ). to_be_bytes w32 (sum_of k.kind (run_of k.bytes_per_checksum [] i))) (range_with_len 0 n)) (count_none k.bytes_per_checksum p)

pub ruleset counts = (div-le_self)
