-- Which cells of a row are there. Assumes nothing.
use Rattle.std.specs.Prelude.{ℕ, zero, suc, Bool, false, cond, List, [], ◌∷◌, ◌++◌, slice_index, slice_index_or}

-- whether cell r is there, by a list of flags
abbrev pub flag : List Bool → ℕ → Bool
flag flags r = slice_index_or flags r false

-- the cells below n that are there, the lowest first
abbrev pub there_below : (ℕ → Bool) → ℕ → List ℕ
there_below there zero = []
there_below there (suc n) = there_below there n ++ cond (there n) (n ∷ []) []

-- the k-th of them, counted from 0
abbrev pub lowest_there : (ℕ → Bool) → ℕ → ℕ → ℕ
lowest_there there n k = slice_index (there_below there n) k
