-- A response as its bytes, one part after another. Assumes nothing.
use Rattle.std.proofs.Common.{◌≡◌, ℕ, zero, suc, ◌+◌, ◌/◌, ◌<◌, ◌≤◌, List, [], ◌∷◌, ◌++◌, length, Some, None, sym, refl, ap, ap₂, ◌∙◌, inl, inr, append-nil, length-append, arith}
use Rattle.std.proofs.lemmas.Bool.{cases_lt}
use Rattle.std.proofs.Math.Seq.{take-append_seam}
use Rattle.checksum.specs.declared.kind.Checksum.{Checksum}
use Rattle.checksum.specs.declared.kind.Checksum.TheVariants.{Crc32, Crc32c}
use Rattle.wire.specs.Varints.{groups_of, varint_bytes}
use Rattle.wire.proofs.Written.{few, many}
use Rattle.packets.specs.declared.info.ChecksumInfo.{ChecksumInfo}
use Rattle.packets.specs.Written.{type_number, response_bytes}
use Rattle.written.specs.Fronts.{opening_bytes}

groups_length : (k n : ℕ) → length (groups_of k n) ≤ suc k
unfolding groups_of
groups_length zero n = omega arith
groups_length (suc k) n =
    elim (cases_lt n 128) [
      | inl l ↦ rw (few k n l) (omega arith)
      | inr g ↦ rw (many k n g) (omega (arith, groups_length k (n / 128)))
    ]

-- a varint has at most ten bytes
pub varint_length : (n : ℕ) → length (varint_bytes n) ≤ 10
unfolding varint_bytes
varint_length n = groups_length 9 n

-- a small number is one byte
pub varint_small : (n : ℕ) → n < 128 → varint_bytes n ≡ n ∷ []
unfolding varint_bytes
varint_small n h = few 8 n h

pub ruleset varints = (varint_length, take-append_seam)

-- the response without checksum info
pub bare_is : response_bytes None ≡ 8 ∷ 0 ∷ []
unfolding varint_bytes groups_of
bare_is = refl

-- the message of a type and of a run, the message of that, and the response of that
abbrev pub type_bytes : Checksum → List ℕ → List ℕ
type_bytes t r = varint_bytes 8 ++ varint_bytes (type_number t) ++ (varint_bytes 16 ++ r ++ [])

abbrev pub info_bytes : List ℕ → List ℕ
info_bytes xs = varint_bytes 10 ++ (varint_bytes (length xs) ++ xs) ++ (varint_bytes 16 ++ varint_bytes 0 ++ [])

abbrev pub whole_bytes : List ℕ → List ℕ
whole_bytes xs = varint_bytes 8 ++ varint_bytes 0 ++ (varint_bytes 34 ++ (varint_bytes (length xs) ++ xs) ++ [])

pub type_is : (t : Checksum) (r : List ℕ) → type_bytes t r ≡ 8 ∷ type_number t ∷ 16 ∷ r
unfolding varint_bytes groups_of
type_is Crc32 r = ap (λ (e : List ℕ). 8 ∷ 1 ∷ 16 ∷ e) (append-nil r)
type_is Crc32c r = ap (λ (e : List ℕ). 8 ∷ 2 ∷ 16 ∷ e) (append-nil r)

pub info_is : (xs : List ℕ) → length xs < 128 → info_bytes xs ≡ 10 ∷ length xs ∷ (xs ++ 16 ∷ 0 ∷ [])
info_is xs h = ap₂ (λ (t n : List ℕ). t ++ (n ++ xs) ++ (varint_bytes 16 ++ varint_bytes 0 ++ [])) (varint_small 10 (omega arith)) (varint_small (length xs) h)
    ∙ ap₂ (λ (t n : List ℕ). 10 ∷ length xs ∷ (xs ++ (t ++ n ++ []))) (varint_small 16 (omega arith)) (varint_small 0 (omega arith))

pub whole_is : (xs : List ℕ) → length xs < 128 → whole_bytes xs ≡ 8 ∷ 0 ∷ 34 ∷ length xs ∷ xs
whole_is xs h = ap₂ (λ (t n : List ℕ). t ++ varint_bytes 0 ++ (n ++ (varint_bytes (length xs) ++ xs) ++ [])) (varint_small 8 (omega arith)) (varint_small 34 (omega arith))
    ∙ ap₂ (λ (t n : List ℕ). 8 ∷ (t ++ (34 ∷ ((n ++ xs) ++ [])))) (varint_small 0 (omega arith)) (varint_small (length xs) h)
    ∙ ap (λ (e : List ℕ). 8 ∷ 0 ∷ 34 ∷ length xs ∷ e) (append-nil xs)

-- the response with one, by the varint of its run
pub checked_is : (k : ChecksumInfo) (r : List ℕ) → r ≡ varint_bytes k.bytes_per_checksum → length r ≤ 10
    → ((opening_bytes (type_number k.kind) (length r) ++ r) ++ 16 ∷ 0 ∷ []) ≡ response_bytes (Some k)
checked_is k r e h =
    let inner : length (type_bytes k.kind r) ≡ length r + 3 = ap length (type_is k.kind r) ∙ omega arith in
    let mid : info_bytes (type_bytes k.kind r) ≡ 10 ∷ (length r + 3) ∷ 8 ∷ type_number k.kind ∷ 16 ∷ (r ++ 16 ∷ 0 ∷ []) =
    info_is (type_bytes k.kind r) (omega arith) ∙ ap₂ (λ (n : ℕ) (xs : List ℕ). 10 ∷ n ∷ (xs ++ 16 ∷ 0 ∷ [])) inner (type_is k.kind r) in
    let long : length (info_bytes (type_bytes k.kind r)) ≡ length r + 7 = ap length mid ∙ omega (arith, length-append r (16 ∷ 0 ∷ [])) in
    sym (sym (ap (λ (w : List ℕ). whole_bytes (info_bytes (type_bytes k.kind w))) e)
    ∙ whole_is (info_bytes (type_bytes k.kind r)) (omega arith) ∙ ap₂ (λ (n : ℕ) (xs : List ℕ). 8 ∷ 0 ∷ 34 ∷ n ∷ xs) long mid)

pub ruleset responses = (bare_is, checked_is)
