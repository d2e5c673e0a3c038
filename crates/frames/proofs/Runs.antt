-- Runs of data, each beside its checksum. Assumes nothing.
use Rattle.std.proofs.Common.{◌≡◌, ℕ, zero, suc, ◌+◌, ◌*◌, ◌/◌, ◌<◌, ◌≤◌, min, Bool, true, not, ◌&&◌, eqb, leb, List, ◌++◌, length, take, drop, zip, refl, sym, ap, ap₂, ◌∙◌, arith, suc-mul, zero-mul, length-drop}
use Rattle.std.proofs.lemmas.Bool.{and_parts, leb-true}
use Rattle.std.proofs.lemmas.Bool.Decides.{nat_tests}
use Rattle.std.proofs.lemmas.Grind.{common_steps}
use Rattle.std.proofs.lemmas.Iterator.{YieldsList}
use Rattle.std.proofs.lemmas.List.{drop-drop, get_or-take}
use Rattle.std.specs.Int.{w32, from_be_bytes}
use Rattle.std.specs.Iterator.{AlwaysYields}
use Rattle.std.specs.List.{list_all, range_with_len}
use Rattle.std.specs.Simd.{first_chunks}
use Rattle.std.specs.Slice.Iter.{chunks_rest, chunks_size, chunks_steps}
use Rattle.checksum.specs.Sums.{sum_of}
use Rattle.packets.specs.declared.info.ChecksumInfo.{ChecksumInfo}
use Rattle.frames.proofs.Counts.{count_none, count_some, count_less}
use Rattle.packets.specs.Frames.{run_count, run_of, run_matches, enough_sums, sums_match}

-- what comes first, and what is left
front : {A : Type 0} (c : ℕ) (xs ys zs : List A) → xs ≡ ys ++ zs → length ys ≡ min c (length xs) → ys ≡ take c xs
front c xs ys zs e l = grind (arith, common_steps)

back : {A : Type 0} (c : ℕ) (xs ys zs : List A) → xs ≡ ys ++ zs → length ys ≡ min c (length xs) → zs ≡ drop c xs
back c xs ys zs e l = grind (arith, common_steps)

-- the pieces that a slice is cut into
pieces : {A : Type 0} (n c : ℕ) (xs : List A) (s : _) → 0 < c → chunks_size s ≡ c → chunks_rest s ≡ xs → run_count c (length xs) ≡ n
    → AlwaysYields (chunks_steps {A = A}) (λ y. y.now) s (first_chunks c n xs)
pieces zero c xs s h e r m = λ x t p. let z = count_none c (length xs) h m in omega (arith, z, p.1.2, ap length r)
pieces (suc n) c xs s h e r m = (
  (λ t p. omega (arith, count_some c (length xs) n h m, p.1.0, ap length r)),
  λ x t p.
      let l : length x.now ≡ min c (length xs) = rw (sym e, sym r) p.1.1 in
      let k : xs ≡ x.now ++ chunks_rest t = sym r ∙ p.1.0 in
      (front c xs x.now (chunks_rest t) k l, pieces n c (drop c xs) t h (p.0 ∙ e) (back c xs x.now (chunks_rest t) k l) (ap (run_count c) (length-drop c xs) ∙ count_less c (length xs) n h m)),
)

-- a number of four bytes is read alike where more bytes follow
word_front : (bs : List ℕ) → from_be_bytes w32 (take 4 bs) ≡ from_be_bytes w32 bs
word_front bs = omega (arith, get_or-take 4 bs 0 0 (omega arith), get_or-take 4 bs 1 0 (omega arith), get_or-take 4 bs 2 0 (omega arith), get_or-take 4 bs 3 0 (omega arith))

-- a run beside its checksum
abbrev pub matches : ChecksumInfo → List ℕ × List ℕ → Bool
matches k p = eqb (from_be_bytes w32 p.1) (sum_of k.kind p.0)

-- run after run, from one of them on
runs_from : (k : ChecksumInfo) (n i m : ℕ) (sums d : List ℕ) → n ≤ m
    → list_all (matches k) (zip (first_chunks k.bytes_per_checksum n (drop (i * k.bytes_per_checksum) d)) (first_chunks 4 m (drop (i * 4) sums)))
    ≡ list_all (run_matches k sums d) (range_with_len i n)
runs_from k zero i m sums d h = refl
runs_from k (suc n) i zero sums d h = absurd (omega arith)
runs_from k (suc n) i (suc m) sums d h =
    let c = k.bytes_per_checksum in
    let f : drop c (drop (i * c) d) ≡ drop ((i + 1) * c) d = drop-drop c (i * c) d ∙ ap (λ (j : ℕ). drop j d) (omega (arith, suc-mul i c)) in
    let g : drop 4 (drop (i * 4) sums) ≡ drop ((i + 1) * 4) sums = drop-drop 4 (i * 4) sums ∙ ap (λ (j : ℕ). drop j sums) (omega arith) in
    ap₂ (λ (a b : Bool). a && b)
    (ap (λ (a : ℕ). eqb a (sum_of k.kind (run_of c d i))) (word_front (drop (i * 4) sums)))
    (ap₂ (λ (x y : List ℕ). list_all (matches k) (zip (first_chunks c n x) (first_chunks 4 m y))) f g ∙ runs_from k n (i + 1) m sums d (omega arith))

pub YieldsList_from_chunks : {A : Type 0} {s : _} (c : ℕ) (xs : List A) → 0 < c → chunks_size s ≡ c → chunks_rest s ≡ xs
    → YieldsList (chunks_steps {A = A}) (λ y. y.now) s (first_chunks c (run_count c (length xs)) xs)
YieldsList_from_chunks {A} {s} c xs h e r = record { runs = pieces (run_count c (length xs)) c xs s h e r refl }

-- where there are enough checksums, runs are of some bytes and each has one
pub enough_says : (k : ChecksumInfo) (sums d : List ℕ) → enough_sums k sums d ≡ true → (0 < k.bytes_per_checksum) × (run_count k.bytes_per_checksum (length d) ≤ length sums / 4)
enough_says k sums d e =
    let p = and_parts (not (eqb k.bytes_per_checksum 0)) (leb (run_count k.bytes_per_checksum (length d) * 4) (length sums)) e in
    let l = leb-true (run_count k.bytes_per_checksum (length d) * 4) (length sums) p.1 in
    (grind (arith, nat_tests), omega arith)

-- then all runs match if each does that stands beside a checksum
pub sums_match_is : (k : ChecksumInfo) (sums d : List ℕ) → enough_sums k sums d ≡ true
    → list_all (matches k) (zip (first_chunks k.bytes_per_checksum (run_count k.bytes_per_checksum (length d)) d) (first_chunks 4 (length sums / 4) sums)) ≡ sums_match k sums d
unfolding sums_match
sums_match_is k sums d e =
    let c = k.bytes_per_checksum in
    ap (λ (j : ℕ). list_all (matches k) (zip (first_chunks c (run_count c (length d)) (drop j d)) (first_chunks 4 (length sums / 4) sums))) (sym (zero-mul c))
    ∙ runs_from k (run_count c (length d)) 0 (length sums / 4) sums d (enough_says k sums d e).1
