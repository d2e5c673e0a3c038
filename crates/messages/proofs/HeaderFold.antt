-- The fields of a header one by one give what the definition takes from all of them. Assumes nothing.
use Rattle.std.proofs.Common.{◌≡◌, ℕ, Bool, true, false, not, ◌&&◌, List, [], ◌∷◌, Ok, Err, None, Some, Option, refl, sym, ap, ◌∙◌, fold, cond}
use Rattle.std.specs.Option.{is_some}
use Rattle.wire.specs.declared.faults.WireFault.{WireFault}
use Rattle.wire.specs.Readings.{Reading}
use Rattle.wire.specs.Fields.{Field}
use Rattle.packets.specs.declared.faults.PacketFault.TheVariants.{Missing}
use Rattle.packets.specs.declared.header.PacketHeader.{PacketHeader}
use Rattle.packets.specs.Faults.{widened}
use Rattle.packets.specs.Answers.{Answer, from_fields}
use Rattle.packets.specs.Kinds.{packet_header, fits}
use Rattle.packets.specs.Messages.{latest, last_of}
use Rattle.packets.specs.Headers.{header_of, header_in, header_from}
use Rattle.messages.specs.declared.headers.HeaderFields.{HeaderFields}
use Rattle.messages.specs.Gathering.{gathered}
use Rattle.messages.specs.HeaderFields.{no_header_fields, with_header_field, header_by}
use Rattle.messages.proofs.Ends.{ends}

-- the fields of a header by what each holds
abbrev header_fields : Option ℕ → Option ℕ → Option ℕ → Option ℕ → HeaderFields
header_fields a b c d = record { offset_in_block = a; seqno = b; last_packet_in_block = c; data_len = d }

-- what each field holds after some more
fold_parts : (s : HeaderFields) (fs : List Field) → fold with_header_field s fs
    ≡ header_fields (fold (latest 1) s.offset_in_block fs) (fold (latest 2) s.seqno fs) (fold (latest 3) s.last_packet_in_block fs) (fold (latest 4) s.data_len fs)
fold_parts s [] = refl
fold_parts s (f ∷ fs) = fold_parts (with_header_field s f) fs

-- the answer where all four are required
abbrev required : Option PacketHeader → Answer PacketHeader
required None = Err Missing
required (Some h) = Ok h

-- four that are required, one by one
all_four : (a b c d : Bool) (h : PacketHeader) → cond (not (a && (b && (c && (d && true))) && true)) (Err Missing) (Ok h) ≡ required (cond (a && b && c && d) (Some h) None)
all_four false b c d h = refl
all_four true false c d h = refl
all_four true true false d h = refl
all_four true true true false h = refl
all_four true true true true h = refl

-- what the definition takes from all fields
header_of_parts : (fs : List Field) → header_in fs ≡ required (header_by (header_fields (last_of 1 fs) (last_of 2 fs) (last_of 3 fs) (last_of 4 fs)))
header_of_parts fs = all_four (is_some (last_of 1 fs)) (is_some (last_of 2 fs)) (is_some (last_of 3 fs)) (is_some (last_of 4 fs)) (header_from fs)

-- the fields of a header when all of a message are read
abbrev pub header_gathered : List ℕ → Reading HeaderFields
header_gathered m = gathered (fits packet_header) with_header_field no_header_fields m

-- what comes of a header by what comes of its fields
header_ends : (m : List ℕ) (r : Reading HeaderFields) → r ≡ header_gathered m → header_of m ≡ from_fields r (λ s. required (header_by s))
unfolding header_of
header_ends m r h =
    ends (fits packet_header) with_header_field no_header_fields (λ s. required (header_by s)) header_in m
    (λ fs. header_of_parts fs ∙ ap (λ s. required (header_by s)) (sym (fold_parts no_header_fields fs)))
    ∙ ap (λ (r : Reading HeaderFields). from_fields r (λ s. required (header_by s))) (sym h)

-- for a loop that has read all fields: a fault, a required one that is missing, the header
pub header_fault : (m : List ℕ) (e : WireFault) → Err e ≡ header_gathered m → header_of m ≡ Err (widened e)
header_fault m e h = header_ends m (Err e) h

pub header_short : (m : List ℕ) (s : HeaderFields) → Ok s ≡ header_gathered m → header_by s ≡ None → header_of m ≡ Err Missing
header_short m s h n = header_ends m (Ok s) h ∙ ap required n

pub header_full : (m : List ℕ) (s : HeaderFields) (r : PacketHeader) → Ok s ≡ header_gathered m → header_by s ≡ Some r → header_of m ≡ Ok r
header_full m s r h n = header_ends m (Ok s) h ∙ ap required n

pub ruleset header_reading = (header_fault, header_short, header_full)
