-- Bytes that are put into a buffer one part after another. Assumes nothing.
use Rattle.std.proofs.Common.{◌≡◌, ℕ, ◌+◌, ◌<◌, ◌≤◌, min, List, [], ◌++◌, length, take, drop, Some, sym, refl, ap, ap₂, ◌∙◌, subst, append_assoc, append-nil, length-append, length-take-le, length-drop, arith}
use Rattle.std.proofs.lemmas.List.{take-append-drop, drop-drop}
use Rattle.std.proofs.Math.Seq.{take-append_seam, drop-append-add}
use Rattle.std.specs.Int.{w32, to_be_bytes}
use Rattle.checksum.specs.Sums.{sum_of}
use Rattle.wire.specs.Writes.{overwritten}
use Rattle.packets.specs.declared.info.ChecksumInfo.{ChecksumInfo}
use Rattle.packets.specs.Written.{sum_bytes}
use Rattle.written.proofs.Sums.{sums_first, sums_none}

pub length_over : (bs ws : List ℕ) (at : ℕ) → at + length ws ≤ length bs → length (overwritten bs at ws) ≡ length bs
length_over bs ws at h = omega (arith, length-append (take at bs) (ws ++ drop (at + length ws) bs), length-append ws (drop (at + length ws) bs), length-take-le at bs (omega arith), length-drop (at + length ws) bs)

pub over_none : (bs : List ℕ) (at : ℕ) → overwritten bs at [] ≡ bs
over_none bs at = let same : at + 0 ≡ at = omega arith in ap (λ (n : ℕ). take at bs ++ drop n bs) same ∙ take-append-drop at bs

-- bytes that are put right after others
pub over_next : (bs xs ws : List ℕ) (at : ℕ) → at ≤ length bs → overwritten (overwritten bs at xs) (at + length xs) ws ≡ overwritten bs at (xs ++ ws)
over_next bs xs ws at h =
    let t = take at bs in
    let k = at + length xs in
    let rest = drop k bs in
    let seam : length (t ++ xs) ≡ k = length-append t xs ∙ omega (arith, length-take-le at bs h) in
    let split : overwritten bs at xs ≡ (t ++ xs) ++ rest = sym (append_assoc t xs rest) in
    let long = length-append xs ws in
    let end : k + length ws ≡ length (t ++ xs) + length ws = omega arith in
    let sum : k + length ws ≡ at + length (xs ++ ws) = omega arith in
    ap (λ (w : List ℕ). take k w ++ (ws ++ drop (k + length ws) w)) split
    ∙ ap₂ (λ (x y : List ℕ). x ++ (ws ++ y)) (ap (λ (n : ℕ). take n ((t ++ xs) ++ rest)) (sym seam) ∙ take-append_seam (t ++ xs) rest)
    (ap (λ (n : ℕ). drop n ((t ++ xs) ++ rest)) end ∙ drop-append-add (t ++ xs) rest (length ws) ∙ drop-drop (length ws) k bs ∙ ap (λ (n : ℕ). drop n bs) sum)
    ∙ append_assoc t xs (ws ++ drop (at + length (xs ++ ws)) bs)
    ∙ ap (λ (w : List ℕ). t ++ w) (sym (append_assoc xs ws (drop (at + length (xs ++ ws)) bs)))

-- some checksums are put, and those of the rest of the data are left
pub record SoFar (k : ChecksumInfo) (d bs : List ℕ) (at end : ℕ) (out rest : List ℕ) : Type 0 where
  pub done : List ℕ
  pub place : end ≡ at + length done
  pub written : out ≡ overwritten bs at done
  pub left : done ++ sum_bytes (Some k) rest ≡ sum_bytes (Some k) d

module _ (k : ChecksumInfo) (d bs : List ℕ) (at : ℕ) (p : 0 < k.bytes_per_checksum) (room : at + length (sum_bytes (Some k) d) ≤ length bs) where
  pub so_far_none : SoFar k d bs at at bs d
  so_far_none = record { done = []; place = omega arith; written = sym (over_none bs at); left = refl }

  pub so_far_room : (end : ℕ) (out all run rest : List ℕ) → SoFar k d bs at end out all → all ≡ run ++ rest → length run ≡ min k.bytes_per_checksum (length all) → 0 < length all → end + 4 ≤ length out
  so_far_room end out all run rest s e l q =
      let first = sums_first k run rest p (l ∙ ap (λ (w : List ℕ). min k.bytes_per_checksum (length w)) e) (subst (λ (w : List ℕ). 0 < length w) e q) in
      let sums : length (sum_bytes (Some k) all) ≡ 4 + length (sum_bytes (Some k) rest) = ap (λ (w : List ℕ). length (sum_bytes (Some k) w)) e ∙ ap length first ∙ length-append (to_be_bytes w32 (sum_of k.kind run)) (sum_bytes (Some k) rest) in
      let total = ap length s.left in
      omega (arith, s.place, length-append s.done (sum_bytes (Some k) all), ap length s.written, length_over bs s.done at (omega (arith, length-append s.done (sum_bytes (Some k) all))))

  pub so_far_more : (end next : ℕ) (out new all run rest ws : List ℕ) → SoFar k d bs at end out all → all ≡ run ++ rest → length run ≡ min k.bytes_per_checksum (length all) → 0 < length all
      → ws ≡ to_be_bytes w32 (sum_of k.kind run) → next ≡ end + length ws → new ≡ overwritten out end ws → SoFar k d bs at next new rest
  so_far_more end next out new all run rest ws s e l q sum place written =
      let first = sums_first k run rest p (l ∙ ap (λ (w : List ℕ). min k.bytes_per_checksum (length w)) e) (subst (λ (w : List ℕ). 0 < length w) e q) in
      record {
        done = s.done ++ ws;
        place = omega (arith, s.place, length-append s.done ws);
        written = written ∙ ap₂ (λ (w : List ℕ) (n : ℕ). overwritten w n ws) s.written s.place ∙ over_next bs s.done ws at (omega arith);
        left = append_assoc s.done ws (sum_bytes (Some k) rest)
            ∙ ap (λ (w : List ℕ). s.done ++ w) (ap (λ (w : List ℕ). w ++ sum_bytes (Some k) rest) sum ∙ sym first ∙ ap (sum_bytes (Some k)) (sym e))
            ∙ s.left;
      }

  all_done : (end : ℕ) (out rest : List ℕ) (s : SoFar k d bs at end out rest) → length rest ≡ 0 → s.done ≡ sum_bytes (Some k) d
  all_done end out rest s e = sym (append-nil s.done) ∙ ap (λ (w : List ℕ). s.done ++ w) (sym (sums_none k rest p e)) ∙ s.left

  pub so_far_place : (end : ℕ) (out rest : List ℕ) → SoFar k d bs at end out rest → length rest ≡ 0 → end ≡ at + length (sum_bytes (Some k) d)
  so_far_place end out rest s e = s.place ∙ ap (λ (w : List ℕ). at + length w) (all_done end out rest s e)

  pub so_far_written : (end : ℕ) (out rest : List ℕ) → SoFar k d bs at end out rest → length rest ≡ 0 → out ≡ overwritten bs at (sum_bytes (Some k) d)
  so_far_written end out rest s e = s.written ∙ ap (overwritten bs at) (all_done end out rest s e)
