-- What making missing data cells again answers, and what it leaves in the row buffer. Assumes nothing.
use Rattle.std.specs.Prelude.{◌≡◌, ℕ, ◌+◌, ◌<◌, ◌≤◌, Bool, true, false, List, Ok, Err, Result}
use Rattle.algebra.specs.Sums.{count}
use Rattle.algebra.specs.Codes.{Bytes}
use Rattle.policy.specs.declared.codec.Codec.TheVariants.{RsLegacy}
use Rattle.policy.specs.declared.schema.EcSchema.{EcSchema}
use Rattle.stripe.specs.declared.fault.StripeFault.{StripeFault}
use Rattle.stripe.specs.declared.fault.StripeFault.TheVariants.{Codec, Short, TooFew, Legacy}
use Rattle.stripe.specs.There.{flag, lowest_there}
use Rattle.stripe.specs.Coded.{byte_at, coded, FollowsCode, units, RowRoom, CellsDetermine}

-- from w to x only missing data cells changed, and from the data cells of x the code makes the lowest d cells that are there
pub record MadeAgain (d n s : ℕ) (f : ℕ → (ℕ → ℕ) → ℕ) (there : ℕ → Bool) (w x : ℕ → ℕ → ℕ) : Type 0 where
  pub there_kept : (r i : ℕ) → there r ≡ true → i < s → x r i ≡ w r i
  pub past_kept : (r i : ℕ) → d ≤ r → i < s → x r i ≡ w r i
  pub determined : (k i : ℕ) → k < d → i < s → w (lowest_there there n k) i ≡ f (lowest_there there n k) (λ c. x c i)

-- from w to x each missing data cell became what f makes of the cells of w
pub record Filled (d s : ℕ) (there : ℕ → Bool) (f : ℕ → (ℕ → ℕ) → ℕ) (w x : ℕ → ℕ → ℕ) : Type 0 where
  pub filled : (r i : ℕ) → r < d → there r ≡ false → i < s → x r i ≡ f r (λ c. w c i)
  pub kept : (r i : ℕ) → there r ≡ true → i < s → x r i ≡ w r i
  pub past : (r i : ℕ) → d ≤ r → i < s → x r i ≡ w r i

-- the row before and then after the call, by its answer
abbrev pub Recovered : EcSchema → List Bool → List ℕ → List ℕ → Result ℕ StripeFault → Type 0
Recovered s flags row row' (Ok made) =
    RowRoom s row × (s.data_units ≤ count (flag flags) (units s)) × (made + count (flag flags) s.data_units ≡ s.data_units) × (s.codec ≡ RsLegacy → made ≡ 0)
    × MadeAgain s.data_units (units s) s.cell_size (coded s.codec s.data_units) (flag flags) (byte_at s.cell_size row) (byte_at s.cell_size row')
Recovered s flags row row' (Err Short) = (RowRoom s row → ⊥) × (row' ≡ row)
Recovered s flags row row' (Err (TooFew cells)) =
    RowRoom s row × (cells ≡ count (flag flags) (units s)) × (cells < s.data_units) × (row' ≡ row)
Recovered s flags row row' (Err Legacy) =
    RowRoom s row × (s.data_units ≤ count (flag flags) (units s)) × (s.codec ≡ RsLegacy) × (count (flag flags) s.data_units < s.data_units) × (row' ≡ row)
Recovered s flags row row' (Err Codec) = ⊥

-- the data cells of whatever row was dealt: if its cells follow the code and those that are there were its cells, its data cells are there now
abbrev pub DealtCells : EcSchema → List Bool → List ℕ → List ℕ → Result ℕ StripeFault → Type 0
DealtCells s flags row row' (Ok made) =
    (v : ℕ → ℕ) (i : ℕ) → i < s.cell_size → Bytes s.data_units v → FollowsCode s.codec s.data_units (units s) v
    → ((r : ℕ) → r < units s → flag flags r ≡ true → byte_at s.cell_size row r i ≡ v r)
    → (c : ℕ) → c < s.data_units → byte_at s.cell_size row' c i ≡ v c
DealtCells s flags row row' (Err e) = Unit {0}

-- a row that is made again is the only one: any d cells determine it
abbrev pub RowDetermined : EcSchema → Result ℕ StripeFault → Type 0
RowDetermined s (Ok made) = CellsDetermine s.codec s.data_units (units s)
RowDetermined s (Err e) = Unit {0}
