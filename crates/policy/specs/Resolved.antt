-- Which scheme a policy comes to, and why it is refused where it comes to none.
use Rattle.std.specs.Prelude.{ℕ, cond, List, Some, None, Ok, Err, Option, Result}
use Rattle.policy.specs.declared.codec.Codec.{Codec}
use Rattle.policy.specs.declared.fault.PolicyFault.{PolicyFault}
use Rattle.policy.specs.declared.fault.PolicyFault.TheVariants.{Unknown, Limit}
use Rattle.policy.specs.declared.schema.EcSchema.{EcSchema}
use Rattle.policy.specs.declared.table.Policy.{Policy}
use Rattle.policy.specs.declared.resolve.SentSchema.{SentSchema}
use Rattle.policy.specs.Codecs.{codec_of}
use Rattle.policy.specs.Limits.{within_limits}
use Rattle.policy.specs.Policies.{policy_of, id_of}

-- the four parts of a scheme
pub record Scheme : Type 0 where
  pub codec : Codec
  pub data_units : ℕ
  pub parity_units : ℕ
  pub cell_size : ℕ

abbrev pub plain : EcSchema → Scheme
plain e = record { codec = e.codec; data_units = e.data_units; parity_units = e.parity_units; cell_size = e.cell_size }

abbrev pub plain_answer : Result EcSchema PolicyFault → Result Scheme PolicyFault
plain_answer (Ok e) = Ok (plain e)
plain_answer (Err f) = Err f

-- parts that keep every limit make a scheme
abbrev pub checked : Codec → ℕ → ℕ → ℕ → Result Scheme PolicyFault
checked c d p s = cond (within_limits c d p s) (Ok (record { codec = c; data_units = d; parity_units = p; cell_size = s })) (Err Limit)

-- a policy of the table, if there is one
abbrev pub listed : Option Policy → Result Scheme PolicyFault
listed (Some p) = checked p.codec p.data_units p.parity_units p.cell_size
listed None = Err Unknown

-- parts sent along: an unknown codec is told before a broken limit
abbrev pub sent : Option Codec → ℕ → ℕ → ℕ → Result Scheme PolicyFault
sent (Some c) d p s = checked c d p s
sent None d p s = Err Unknown

-- a schema sent along wins over the id
abbrev pub resolved : ℕ → ℕ → Option SentSchema → Result Scheme PolicyFault
resolved i s (Some e) = sent (codec_of e.codec_name.now) e.data_units e.parity_units s
resolved i s None = listed (policy_of i)

abbrev pub named_policy : Option ℕ → Result Scheme PolicyFault
named_policy (Some i) = listed (policy_of i)
named_policy None = Err Unknown

abbrev pub named : List ℕ → Result Scheme PolicyFault
named name = named_policy (id_of name)
