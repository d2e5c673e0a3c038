-- What making the parity of a row answers, and what it leaves in the row buffer. Assumes nothing.
use Rattle.std.specs.Prelude.{◌≡◌, ℕ, ◌<◌, ◌≤◌, List, Ok, Err, Result, ◌≢◌}
use Rattle.policy.specs.declared.codec.Codec.TheVariants.{RsLegacy}
use Rattle.policy.specs.declared.schema.EcSchema.{EcSchema}
use Rattle.stripe.specs.declared.fault.StripeFault.{StripeFault}
use Rattle.stripe.specs.declared.fault.StripeFault.TheVariants.{Codec, Short, TooFew, Legacy}
use Rattle.stripe.specs.Coded.{byte_at, coded, FollowsCode, units, RowRoom}

-- from w to x the cells d to n - 1 became what f makes of the bytes of the cells of w; all others are as they were
pub record ParityIs (d n s : ℕ) (f : ℕ → (ℕ → ℕ) → ℕ) (w x : ℕ → ℕ → ℕ) : Type 0 where
  pub data_kept : (r i : ℕ) → r < d → i < s → x r i ≡ w r i
  pub parity : (r i : ℕ) → d ≤ r → r < n → i < s → x r i ≡ f r (λ c. w c i)
  pub beyond : (r i : ℕ) → n ≤ r → i < s → x r i ≡ w r i

-- the row before and then after the call for a code that is known: f is what it makes of the data bytes
abbrev pub EncodedBy : EcSchema → (ℕ → (ℕ → ℕ) → ℕ) → List ℕ → List ℕ → Result (Unit {0}) StripeFault → Type 0
EncodedBy s f row row' (Ok u) =
    RowRoom s row × ParityIs s.data_units (units s) s.cell_size f (byte_at s.cell_size row) (byte_at s.cell_size row')
EncodedBy s f row row' (Err Codec) = ⊥
EncodedBy s f row row' (Err Short) = (RowRoom s row → ⊥) × (row' ≡ row)
EncodedBy s f row row' (Err (TooFew cells)) = ⊥
EncodedBy s f row row' (Err Legacy) = ⊥

-- the row before and then after the call, by its answer
abbrev pub Encoded : EcSchema → List ℕ → List ℕ → Result (Unit {0}) StripeFault → Type 0
Encoded s row row' (Ok u) =
    (s.codec ≢ RsLegacy) × RowRoom s row
    × ParityIs s.data_units (units s) s.cell_size (coded s.codec s.data_units) (byte_at s.cell_size row) (byte_at s.cell_size row')
Encoded s row row' (Err Codec) = (s.codec ≡ RsLegacy) × (row' ≡ row)
Encoded s row row' (Err Short) = (s.codec ≢ RsLegacy) × (RowRoom s row → ⊥) × (row' ≡ row)
Encoded s row row' (Err (TooFew cells)) = ⊥
Encoded s row row' (Err Legacy) = ⊥

-- the row now follows the code
abbrev pub RowFollows : EcSchema → List ℕ → Result (Unit {0}) StripeFault → Type 0
RowFollows s row' (Ok u) = (i : ℕ) → i < s.cell_size → FollowsCode s.codec s.data_units (units s) (λ r. byte_at s.cell_size row' r i)
RowFollows s row' (Err e) = Unit {0}

-- and no other parity would do: a row that follows the code and has these data cells is this row
abbrev pub OnlyParity : EcSchema → List ℕ → Result (Unit {0}) StripeFault → Type 0
OnlyParity s row' (Ok u) =
    (v : ℕ → ℕ) (i : ℕ) → i < s.cell_size → FollowsCode s.codec s.data_units (units s) v
    → ((c : ℕ) → c < s.data_units → v c ≡ byte_at s.cell_size row' c i) → (r : ℕ) → r < units s → v r ≡ byte_at s.cell_size row' r i
OnlyParity s row' (Err e) = Unit {0}
