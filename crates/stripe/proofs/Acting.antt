-- What refusals of the matrix calls would say, and cells that lie in a buffer. Assumes nothing.
use Rattle.std.proofs.Common.{◌≡◌, ℕ, ◌+◌, ◌*◌, ◌/◌, ◌<◌, ◌≤◌, List, length, Err, ap, ◌∙◌, le-div_iff_mul-le, arith}
use Rattle.std.proofs.lemmas.Nat.{mul-le}
use Rattle.algebra.specs.Fields.{Ops, FieldLaws}
use Rattle.algebra.specs.Matrices.{Inverse}
use Rattle.algebra.proofs.Algebra.{sum_same}
use Rattle.matrix.specs.declared.fault.MatrixFault.{MatrixFault}
use Rattle.matrix.specs.declared.fault.MatrixFault.TheVariants.{Sides as BadSides, Singular}
use Rattle.matrix.specs.declared.fault.Sides.{Sides}
use Rattle.matrix.specs.Acted.{Acted, CellRoom}
use Rattle.matrix.specs.Grids.{grid}
use Rattle.matrix.specs.Inverted.{Inverted, Room}

-- acting where there is room is not refused
pub acts : {F : Type 0} (K : Ops F) (m : List F) (sides : Sides) (row : ℕ) (sources : List ℕ) (s t : ℕ) (w x : List ℕ) (e : MatrixFault)
    → Acted K m sides row sources s t w x (Err e) → CellRoom (length m) sides row sources s t (length w) → ⊥
acts K m sides row sources s t w x BadSides h room = h.0 room
acts K m sides row sources s t w x Singular h room = h

-- inverting a matrix that has an inverse is not refused where there is room
pub inverts : {F : Type 0} (K : Ops F) (sides : Sides) (m work out work' out' : List F) (e : MatrixFault) → Inverted K sides m work out work' out' (Err e)
    → Room sides (length m) (length work) (length out) → (b : ℕ → ℕ → F) → Inverse K sides.rows (grid K.zero sides.rows m) b → ⊥
inverts K sides m work out work' out' BadSides h room b i = h.0 room
inverts K sides m work out work' out' Singular h room b i = h.1.none_left b i.left

-- cell c of n cells of s bytes is whole in the buffer
pub whole_cell : (c n s len : ℕ) → 0 < s → c < n → n * s ≤ len → c < len / s
whole_cell c n s len h l b = (le-div_iff_mul-le h).1 (let m : (c + 1) * s ≤ n * s = mul-le (c + 1) s n s (omega arith) (omega arith) in omega arith)

-- an inverse of a matrix is one of any that has the same entries
pub same_inverse : {F : Type 0} {K : Ops F} (L : FieldLaws K) (n : ℕ) (a m b : ℕ → ℕ → F) → ((r c : ℕ) → r < n → c < n → m r c ≡ a r c) → Inverse K n a b → Inverse K n m b
same_inverse {K = K} L n a m b h i = record {
  right = λ r j l o. sum_same L n (λ k. K.times (m r k) (b k j)) (λ k. K.times (a r k) (b k j)) (λ k q. ap (λ x. K.times x (b k j)) (h r k l q)) ∙ i.right r j l o;
  left = λ r j l o. sum_same L n (λ k. K.times (b r k) (m k j)) (λ k. K.times (b r k) (a k j)) (λ k q. ap (K.times (b r k)) (h k j q o)) ∙ i.left r j l o;
}

-- the matrices of a recovery fit tables of 256 and 512 entries
pub square_room : (d p : ℕ) → d + p ≤ 16 → d * d ≤ 256
square_room d p h = mul-le d d 16 16 (omega arith) (omega arith)

pub wide_room : (d p : ℕ) → d + p ≤ 16 → d * (d + d) ≤ 512
wide_room d p h = mul-le d (d + d) 16 32 (omega arith) (omega arith)
