-- A header as its bytes, and bytes that are put one after another. Assumes nothing.
use Rattle.std.proofs.Common.{◌≡◌, ℕ, ◌+◌, true, false, List, [], ◌∷◌, ◌++◌, length, drop, Option, Some, None, sym, refl, ap, ap₂, ◌∙◌, append_assoc, length-append, arith}
use Rattle.std.specs.Int.{w16, w32, w64, to_be_bytes, to_le_bytes}
use Rattle.wire.specs.Varints.{groups_of, varint_bytes}
use Rattle.packets.specs.declared.header.PacketHeader.{PacketHeader}
use Rattle.packets.specs.Written.{bit_of, header_bytes, sum_bytes, frame_bytes}
use Rattle.wire.specs.Writes.{overwritten}
use Rattle.packets.specs.declared.info.ChecksumInfo.{ChecksumInfo}
use Rattle.written.specs.Fronts.{fronted}
use Rattle.written.specs.Frames.{head_bytes, sums_len, payload_len, end_by, frame_end}
use Rattle.written.proofs.Sums.{sums_length}
use Rattle.written.proofs.Puts.{over_next}

marked : (p o s n : ℕ) (l : _) → ((((((to_be_bytes w32 p ++ 0 ∷ 25 ∷ 9 ∷ []) ++ to_le_bytes w64 o) ++ 17 ∷ []) ++ to_le_bytes w64 s) ++ 24 ∷ bit_of l ∷ 37 ∷ []) ++ to_le_bytes w32 n)
    ≡ head_bytes p (record { offset_in_block = o; seqno = s; last_packet_in_block = l; data_len = n })
unfolding varint_bytes groups_of
marked p o s n true = refl
marked p o s n false = refl

pub head_is : (p : ℕ) (h : PacketHeader)
    → ((((((to_be_bytes w32 p ++ 0 ∷ 25 ∷ 9 ∷ []) ++ to_le_bytes w64 h.offset_in_block) ++ 17 ∷ []) ++ to_le_bytes w64 h.seqno) ++ 24 ∷ bit_of h.last_packet_in_block ∷ 37 ∷ []) ++ to_le_bytes w32 h.data_len)
    ≡ head_bytes p h
head_is p h = marked p h.offset_in_block h.seqno h.data_len h.last_packet_in_block

pub head_length : (p : ℕ) (h : PacketHeader) → length (head_bytes p h) ≡ 31
head_length p h = sym (ap length (head_is p h))

pub header_length : (h : PacketHeader) → length (header_bytes h) ≡ 25
header_length h = omega (arith, head_length 0 h)

pub sums_size : (info : Option ChecksumInfo) (d : List ℕ) → length (sum_bytes info d) ≡ sums_len info (length d)
sums_size None d = refl
sums_size (Some k) d = sums_length k d

-- a frame is its head, its checksums and its data
pub frame_parts : (info : Option ChecksumInfo) (h : PacketHeader) (d : List ℕ) → (head_bytes (payload_len info (length d)) h ++ sum_bytes info d) ++ d ≡ frame_bytes info h d
frame_parts info h d =
    let s = sum_bytes info d in
    append_assoc (head_bytes (payload_len info (length d)) h) s d
    ∙ ap₂ (λ (m n : ℕ). to_be_bytes w32 (4 + m + length d) ++ (to_be_bytes w16 n ++ (header_bytes h ++ (s ++ d)))) (sym (sums_size info d)) (sym (header_length h))

pub frame_size : (info : Option ChecksumInfo) (h : PacketHeader) (d : List ℕ) → 27 + payload_len info (length d) ≡ length (frame_bytes info h d)
frame_size info h d =
    let head = head_bytes (payload_len info (length d)) h in
    omega (arith, ap length (frame_parts info h d), length-append (head ++ sum_bytes info d) d, length-append head (sum_bytes info d), head_length (payload_len info (length d)) h, sums_size info d)

pub frame_end_is : (info : Option ChecksumInfo) (h : PacketHeader) (d bs : List ℕ)
    → end_by info h.offset_in_block (length d) (length bs) (27 + payload_len info (length d)) ≡ frame_end info h d bs
frame_end_is info h d bs = ap (end_by info h.offset_in_block (length d) (length bs)) (frame_size info h d)

-- three parts that are put one after another
pub three_put : (bs h s d o1 o2 o3 : List ℕ) (a1 a2 : ℕ) → o1 ≡ overwritten bs 0 h → a1 ≡ 0 + length h → o2 ≡ overwritten o1 a1 s → a2 ≡ a1 + length s → o3 ≡ overwritten o2 a2 d
    → o3 ≡ fronted ((h ++ s) ++ d) bs
three_put bs h s d o1 o2 o3 a1 a2 e1 f1 e2 f2 e3 =
    let two : o2 ≡ overwritten bs 0 (h ++ s) = e2 ∙ ap₂ (λ (w : List ℕ) (n : ℕ). overwritten w n s) e1 f1 ∙ over_next bs h s 0 (omega arith) in
    let long : a2 ≡ 0 + length (h ++ s) = omega (arith, length-append h s) in
    let none : 0 + length ((h ++ s) ++ d) ≡ length ((h ++ s) ++ d) = omega arith in
    e3 ∙ ap₂ (λ (w : List ℕ) (n : ℕ). overwritten w n d) two long ∙ over_next bs (h ++ s) d 0 (omega arith)
    ∙ ap (λ (n : ℕ). ((h ++ s) ++ d) ++ drop n bs) none
