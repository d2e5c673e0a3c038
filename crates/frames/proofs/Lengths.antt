-- A frame by its two lengths. Assumes nothing.
use Rattle.std.proofs.Common.{◌≡◌, ℕ, ◌+◌, ◌*◌, max, ltb, List, length, get_or, take, drop, Option, Ok, arith, ap, ◌∙◌, sym}
use Rattle.std.proofs.lemmas.List.{get_or-drop, drop-take}
use Rattle.std.proofs.lemmas.Bool.{le-ltb, cond-false}
use Rattle.std.specs.Int.{w16, from_be_bytes}
use Rattle.packets.specs.declared.header.PacketHeader.{PacketHeader}
use Rattle.packets.specs.declared.info.ChecksumInfo.{ChecksumInfo}
use Rattle.packets.specs.Answers.{Answer, onward}
use Rattle.packets.specs.Headers.{header_of}
use Rattle.packets.specs.Frames.{payload_of, lengths_of}

-- a frame that is as long as its lengths say, and whose header ends at a place
pub lengths_whole : (info : Option ChecksumInfo) (q : ℕ) (bs : List ℕ) (p n at : ℕ) (h : PacketHeader) → at ≡ 6 + n → length bs ≡ 2 + max p 4 + n
    → Ok h ≡ header_of (drop 6 (take at bs)) → lengths_of info q bs p n ≡ payload_of info q p at (drop at bs) h
lengths_whole info q bs p n at h a l e =
    let m : drop 6 (take at bs) ≡ take n (drop 6 bs) = ap (λ (i : ℕ). drop 6 (take i bs)) a ∙ drop-take 6 n bs in
    cond-false (ltb (length bs) (2 + max p 4 + n)) _ _ (le-ltb (length bs) (2 + max p 4 + n) (omega arith))
    ∙ cond-false (ltb (2 + max p 4 + n) (length bs)) _ _ (le-ltb (2 + max p 4 + n) (length bs) (omega arith))
    ∙ ap (λ (r : Answer PacketHeader). onward r (payload_of info q p (6 + n) (drop (6 + n) bs))) (sym (e ∙ ap header_of m))
    ∙ ap (λ (i : ℕ). payload_of info q p i (drop i bs) h) (sym a)

-- the header length, the highest byte first
pub half_at : (bs : List ℕ) → from_be_bytes w16 (drop 4 bs) ≡ get_or bs 4 0 * 256 + get_or bs 5 0
half_at bs = omega (arith, get_or-drop 4 bs 0 0, get_or-drop 4 bs 1 0)
