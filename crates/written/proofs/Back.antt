-- A frame as it is written is accepted, for each byte that it has. Assumes nothing.
use Rattle.std.proofs.Common.{◌≡◌, ℕ, zero, suc, ◌+◌, ◌-◌, ◌*◌, ◌^◌, ◌<◌, ◌≤◌, max, Bool, true, false, cond, not, ◌&&◌, ◌||◌, eqb, ltb, List, [], ◌∷◌, ◌++◌, length, take, drop, flat_map, Option, Some, None, Ok, Err, sym, refl, ap, ap₂, ◌∙◌, length-append, lt-ltb, le-ltb, le-leb, eq-eqb, arith}
use Rattle.std.proofs.lemmas.Bool.{cond-false, lt-leb}
use Rattle.std.proofs.lemmas.List.{drop-drop}
use Rattle.std.proofs.lemmas.Nat.{from_le_bytes-to_le_bytes_4, from_le_bytes-to_le_bytes_8, from_be_bytes-to_be_bytes_2, from_be_bytes-to_be_bytes_4}
use Rattle.std.proofs.Math.Seq.{take-append_seam, drop-append_seam}
use Rattle.std.specs.List.{AllByRecursion as All, list_all, range_with_len}
use Rattle.std.specs.Int.{w16, w32, w64, to_be_bytes, to_le_bytes, from_be_bytes}
use Rattle.crcmath.proofs.Fits.{crc_fits}
use Rattle.checksum.specs.Sums.{polynomial, sum_of}
use Rattle.wire.specs.Numbers.{little}
use Rattle.wire.specs.Fields.{field_at}
use Rattle.wire.specs.Varints.{groups_of, varint_bytes}
use Rattle.packets.specs.declared.faults.PacketFault.TheVariants.{NotCovered}
use Rattle.packets.specs.declared.header.PacketHeader.{PacketHeader}
use Rattle.packets.specs.declared.info.ChecksumInfo.{ChecksumInfo}
use Rattle.packets.specs.declared.packet.Packet.{Packet}
use Rattle.packets.specs.Answers.{Answer, onward}
use Rattle.packets.specs.Headers.{header_of}
use Rattle.packets.specs.Frames.{run_count, run_of, enough_sums, sums_match, checked_sums, covers, packet_at, data_of, bad_length, payload_of, lengths_of, frame_of}
use Rattle.packets.specs.Written.{header_bytes, sum_bytes, frame_bytes}
use Rattle.written.specs.Frames.{header_with, empty_runs, sums_len}
use Rattle.written.specs.Laws.{FramesReturn}
use Rattle.written.proofs.Sums.{sums_length}
use Rattle.written.proofs.Heads.{header_length, sums_size, frame_size}

abbrev heading : ℕ → ℕ → Bool → ℕ → PacketHeader
heading o s l n = record { offset_in_block = o; seqno = s; last_packet_in_block = l; data_len = n }

little_4 : (n : ℕ) → n < 2 ^ 32 → little (to_le_bytes w32 n) ≡ n
little_4 n h = omega (arith, from_le_bytes-to_le_bytes_4 n h)

little_8 : (n : ℕ) → n < 2 ^ 64 → little (to_le_bytes w64 n) ≡ n
little_8 n h = omega (arith, from_le_bytes-to_le_bytes_8 n h)

-- a header: its numbers have fixed width, so its fields stand at fixed places
header_back : (o s n : ℕ) (l : Bool) → o < 2 ^ 64 → s < 2 ^ 64 → n < 2 ^ 32 → header_of (header_bytes (heading o s l n)) ≡ Ok (heading o s l n)
unfolding header_of field_at varint_bytes groups_of
header_back o s n true ho hs hn =
    ap₂ (λ (a b : ℕ). Ok (heading a b true (little (to_le_bytes w32 n)))) (little_8 o ho) (little_8 s hs) ∙ ap (λ (c : ℕ). Ok (heading o s true c)) (little_4 n hn)
header_back o s n false ho hs hn =
    ap₂ (λ (a b : ℕ). Ok (heading a b false (little (to_le_bytes w32 n)))) (little_8 o ho) (little_8 s hs) ∙ ap (λ (c : ℕ). Ok (heading o s false c)) (little_4 n hn)

-- the checksums that stand for numbers say these numbers
all_match : (v : ℕ → ℕ) (w : List ℕ) (n a : ℕ) → ((i : ℕ) → v i < 2 ^ 32) → drop (a * 4) w ≡ flat_map (λ (i : ℕ). to_be_bytes w32 (v i)) (range_with_len a n)
    → list_all (λ (i : ℕ). eqb (from_be_bytes w32 (drop (i * 4) w)) (v i)) (range_with_len a n) ≡ true
all_match v w zero a h e = refl
all_match v w (suc n) a h e =
    let after : a * 4 + 4 ≡ (a + 1) * 4 = omega arith in
    ap₂ (λ (x y : Bool). x && y)
    (ap (λ (x : List ℕ). eqb (from_be_bytes w32 x) (v a)) e ∙ ap (λ (m : ℕ). eqb m (v a)) (from_be_bytes-to_be_bytes_4 (v a) (h a)) ∙ eq-eqb (v a) (v a) refl)
    (all_match v w n (a + 1) h (ap (λ (k : ℕ). drop k w) (sym after) ∙ sym (drop-drop 4 (a * 4) w) ∙ ap (drop 4) e))

all_drop : (P : ℕ → Type 0) (n : ℕ) (xs : List ℕ) → All P xs → All P (drop n xs)
all_drop P zero xs h = h
all_drop P (suc n) [] h = h
all_drop P (suc n) (x ∷ xs) h = all_drop P n xs h.1

all_take : (P : ℕ → Type 0) (n : ℕ) (xs : List ℕ) → All P xs → All P (take n xs)
all_take P zero xs h = tt
all_take P (suc n) [] h = h
all_take P (suc n) (x ∷ xs) h = (h.0, all_take P n xs h.1)

match_back : (k : ChecksumInfo) (d : List ℕ) → All (λ b. b < 256) d → sums_match k (sum_bytes (Some k) d) d ≡ true
unfolding sums_match
match_back k d h =
    let c = k.bytes_per_checksum in
    all_match (λ (i : ℕ). sum_of k.kind (run_of c d i)) (sum_bytes (Some k) d) (run_count c (length d)) 0
    (λ i. crc_fits (polynomial k.kind) (run_of c d i) (all_take _ c (drop (i * c) d) (all_drop _ (i * c) d h))) refl

checked_back : (info : Option ChecksumInfo) (d : List ℕ) (r : Answer Packet) → empty_runs info ≡ false → All (λ b. b < 256) d → checked_sums info (sum_bytes info d) d r ≡ r
checked_back None d r e h = refl
checked_back (Some k) d r e h =
    let count = run_count k.bytes_per_checksum (length d) * 4 in
    let enough : enough_sums k (sum_bytes (Some k) d) d ≡ true = ap₂ (λ (x y : Bool). not x && y) e (le-leb count (length (sum_bytes (Some k) d)) (omega (arith, sums_length k d))) in
    cond-false (not (enough_sums k (sum_bytes (Some k) d) d)) _ _ (ap not enough)
    ∙ cond-false (not (sums_match k (sum_bytes (Some k) d) d)) _ _ (ap not (match_back k d h))

-- a frame of the right length is what its payload says
sized : (info : Option ChecksumInfo) (q : ℕ) (bs : List ℕ) (p n : ℕ) (h : PacketHeader) → length bs ≡ 2 + p + n → 4 ≤ p → from_be_bytes w32 bs ≡ p → from_be_bytes w16 (drop 4 bs) ≡ n
    → header_of (take n (drop 6 bs)) ≡ Ok h → frame_of info q bs ≡ payload_of info q p (6 + n) (drop (6 + n) bs) h
unfolding frame_of
sized info q bs p n h l k ep en eh =
    cond-false (ltb (length bs) 6) _ _ (le-ltb (length bs) 6 (omega arith))
    ∙ ap₂ (lengths_of info q bs) ep en
    ∙ cond-false (ltb (length bs) (2 + max p 4 + n)) _ _ (le-ltb (length bs) (2 + max p 4 + n) (omega arith))
    ∙ cond-false (ltb (2 + max p 4 + n) (length bs)) _ _ (le-ltb (2 + max p 4 + n) (length bs) (omega arith))
    ∙ ap (λ (r : Answer PacketHeader). onward r (payload_of info q p (6 + n) (drop (6 + n) bs))) eh

-- checksums and data after a header are what they say
body : (info : Option ChecksumInfo) (q p at : ℕ) (d : List ℕ) (o s : ℕ) (l : Bool) → 4 ≤ p → length d < 2 ^ 31 → empty_runs info ≡ false → All (λ b. b < 256) d → o < 2 ^ 63 → o ≤ q → q < o + length d
    → payload_of info q p at (sum_bytes info d ++ d) (heading o s l (length d)) ≡ Ok (packet_at (heading o s l (length d)) (at + length (sum_bytes info d)) q)
body info q p at d o s l hp hd he hb ho hq hc =
    let h = heading o s l (length d) in
    let sums = sum_bytes info d in
    let long = length-append sums d in
    let seam : length (sums ++ d) - length d ≡ length sums = omega (arith, long) in
    cond-false (bad_length p (sums ++ d) h) _ _
    (ap₂ (λ (x y : Bool). x || y) (ap₂ (λ (x y : Bool). x || y) (le-ltb p 4 hp) (lt-leb (2 ^ 31) (length d) hd)) (le-ltb (length (sums ++ d)) (length d) (omega (arith, long))))
    ∙ ap (λ (m : ℕ). data_of info q h (take m (sums ++ d)) (drop m (sums ++ d)) (at + m)) seam
    ∙ ap₂ (λ (x y : List ℕ). data_of info q h x y (at + length sums)) (take-append_seam sums d) (drop-append_seam sums d)
    ∙ checked_back info d (cond (not (covers h q)) (Err NotCovered) (Ok (packet_at h (at + length sums) q))) he hb
    ∙ cond-false (not (covers h q)) _ _ (ap not (ap₂ (λ (x y : Bool). x && y) (ap₂ (λ (x y : Bool). x && y) (lt-ltb o (2 ^ 63) ho) (le-leb o q hq)) (lt-ltb q (o + length d) hc)))

pub frames_return : FramesReturn
frames_return info o s q l d he hd hp ho hs hb hq hc =
    let h = header_with o s l d in
    let bs = frame_bytes info h d in
    let sums = sum_bytes info d in
    let n = length (header_bytes h) in
    let p = 4 + length sums + length d in
    let size = sums_size info d in
    let twenty_five = header_length h in
    let place : 6 + n + length sums ≡ 31 + sums_len info (length d) = omega (arith, size, twenty_five) in
    sized info q bs p n h (omega (arith, frame_size info h d, size, twenty_five)) (omega arith) (from_be_bytes-to_be_bytes_4 p (omega (arith, size))) (from_be_bytes-to_be_bytes_2 n (omega (arith, twenty_five)))
    (ap header_of (take-append_seam (header_bytes h) (sums ++ d)) ∙ header_back o s (length d) l (omega arith) hs (omega arith))
    ∙ ap (λ (w : List ℕ). payload_of info q p (6 + n) w h) (sym (drop-drop n 6 bs) ∙ drop-append_seam (header_bytes h) (sums ++ d))
    ∙ body info q p (6 + n) d o s l (omega arith) hd he hb (omega arith) hq hc
    ∙ ap (λ (at : ℕ). Ok (packet_at h at q)) place
