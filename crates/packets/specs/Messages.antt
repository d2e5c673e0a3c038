-- Messages and those embedded in them, read level by level. Assumes nothing.
use Rattle.std.specs.Prelude.{ℕ, zero, suc, Bool, true, cond, ◌&&◌, ◌==◌, List, [], ◌∷◌, ◌++◌, Ok, Some, None, Option, fold, flat_map, nat_le}
use Rattle.std.specs.List.{list_all, list_any}
use Rattle.std.specs.Option.{is_some, unwrap_or}
use Rattle.wire.specs.Readings.{Reading, and_then}
use Rattle.wire.specs.Numbers.{low32}
use Rattle.wire.specs.Fields.{Value, varint, fixed64, part, fixed32, Field}
use Rattle.wire.specs.Messages.{fields_that}
use Rattle.packets.specs.Kinds.{MessageKind, rank, fits, message_in, required, Choice, choices}

-- the number that a value is, whatever its wire type; a part counts as 0
abbrev pub number_in : Value → ℕ
number_in (varint n) = n
number_in (fixed64 n) = n
number_in (part bs at) = 0
number_in (fixed32 n) = n

-- what field n holds after one more field
abbrev pub latest : ℕ → Option ℕ → Field → Option ℕ
latest n before f = cond (f.number == n) (Some (number_in f.value)) before

-- what field n holds, if it is sent; of one that is sent more than once the last counts
abbrev pub last_of : ℕ → List Field → Option ℕ
last_of n fs = fold (latest n) None fs

-- the same with 0 for one that is not sent
abbrev pub last_number : ℕ → List Field → ℕ
last_number n fs = unwrap_or (last_of n fs) 0

-- an enum that is sent has a value that is known in its low 32 bits
abbrev pub among : ℕ → ℕ → Option ℕ → Bool
among a b (Some v) = nat_le a (low32 v) && nat_le (low32 v) b
among a b None = true

-- all required fields are there, and the value of each enum is known
abbrev pub complete : MessageKind → List Field → Bool
complete k fs = list_all (λ n. is_some (last_of n fs)) (required k) && list_all (λ (c : Choice). among c.lowest c.highest (last_of c.number fs)) (choices k)

-- A message by its bytes.
pub record Message : Type 0 where
  pub kind : MessageKind
  pub bytes : List ℕ

-- A message by its fields.
pub record Opened : Type 0 where
  pub kind : MessageKind
  pub fields : List Field

-- the message that a field holds, if it holds one
abbrev pub embedded : Option MessageKind → Value → List Message
embedded None v = []
embedded (Some k) (varint n) = []
embedded (Some k) (fixed64 n) = []
embedded (Some k) (part bs at) = record { kind = k; bytes = bs } ∷ []
embedded (Some k) (fixed32 n) = []

-- the messages in the fields of others, in their order
abbrev pub inner_of : List Opened → List Message
inner_of os = flat_map (λ (o : Opened). flat_map (λ (f : Field). embedded (message_in o.kind f.number) f.value) o.fields) os

-- the messages of one level, in their order; the first bad field decides
abbrev pub level_of : List Message → Reading (List Opened)
level_of [] = Ok []
level_of (m ∷ ms) = and_then (fields_that (fits m.kind) m.bytes) (λ fs. and_then (level_of ms) (λ os. Ok (record { kind = m.kind; fields = fs } ∷ os)))

-- so many levels, each in full before the next
abbrev pub levels_of : ℕ → List Message → Reading (List Opened)
levels_of zero ms = Ok []
levels_of (suc n) ms = and_then (level_of ms) (λ os. and_then (levels_of n (inner_of os)) (λ deeper. Ok (os ++ deeper)))

abbrev pub is_a : MessageKind → Opened → Bool
is_a k o = rank k == rank o.kind

-- a message of this kind is there
abbrev pub holds : MessageKind → List Opened → Bool
holds k os = list_any (is_a k) os

-- the fields of a kind of message that stands at one place only: sent in several parts, it has the fields of all of them
abbrev pub merged : MessageKind → List Opened → List Field
merged k os = flat_map (λ (o : Opened). cond (is_a k o) o.fields []) os
