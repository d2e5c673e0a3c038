-- What is known with the fields of a message, by the kinds that auto leaves. Assumes nothing.
use Rattle.std.proofs.Common.{◌≡◌, ℕ, Bool, false, List, Ok, None, Some, Option, sym, ap, ◌∙◌}
use Rattle.std.specs.Option.{unwrap_or}
use Rattle.wire.specs.Readings.{seen}
use Rattle.packets.specs.Kinds.{fits, op_block_checksum_response, checksum_proto}
use Rattle.messages.specs.declared.parts.ChecksumsFields.{ChecksumsFields}
use Rattle.messages.specs.declared.parts.ChecksumFields.{ChecksumFields}
use Rattle.messages.specs.declared.known.Kind.{Kind}
use Rattle.messages.specs.declared.known.Kind.TheVariants.{Checksums, Checksum}
use Rattle.messages.specs.declared.known.Known.{Known}
use Rattle.messages.specs.Gathering.{gathered}
use Rattle.messages.specs.Kinds.{kind_meant}
use Rattle.messages.specs.PartFields.{no_checksums_fields, no_checksum_fields, with_checksums_field, with_checksum_field}
use Rattle.messages.specs.Levels.{known_parts, with_message}

abbrev checksums_fields : Bool → Bool → Bool → Option ℕ → ChecksumsFields
checksums_fields a b c d = record { bytes_per_crc = a; crc_per_block = b; block_checksum = c; crc_type = d }

abbrev checksum_fields : Option ℕ → Option ℕ → ChecksumFields
checksum_fields a b = record { checksum_type = a; bytes_per_checksum = b }

pub checksums_open : (s : Known) (k : Kind) (m : List ℕ) (none start r : ChecksumsFields) → k ≡ Checksums
    → none.bytes_per_crc ≡ false → none.crc_per_block ≡ false → none.block_checksum ≡ false → none.crc_type ≡ None → start ≡ unwrap_or s.checksums none
    → Ok r ≡ gathered (fits op_block_checksum_response) with_checksums_field start m
    → Ok (known_parts s.response (Some r) s.options s.info s.checksum) ≡ with_message s (kind_meant k) m
checksums_open s k m none start r e a b c d u h =
    let same : none ≡ no_checksums_fields =
    ap (λ x. checksums_fields x none.crc_per_block none.block_checksum none.crc_type) a
    ∙ ap (λ x. checksums_fields false x none.block_checksum none.crc_type) b
    ∙ ap (λ x. checksums_fields false false x none.crc_type) c
    ∙ ap (λ x. checksums_fields false false false x) d in
    ap (seen (λ r. known_parts s.response (Some r) s.options s.info s.checksum))
    (h ∙ ap (λ d. gathered (fits op_block_checksum_response) with_checksums_field d m) (u ∙ ap (unwrap_or s.checksums) same))
    ∙ ap (λ k. with_message s (kind_meant k) m) (sym e)

pub checksum_opens : (s : Known) (k : Kind) (m : List ℕ) (none start r : ChecksumFields) → k ≡ Checksum
    → none.checksum_type ≡ None → none.bytes_per_checksum ≡ None → start ≡ unwrap_or s.checksum none
    → Ok r ≡ gathered (fits checksum_proto) with_checksum_field start m
    → Ok (known_parts s.response s.checksums s.options s.info (Some r)) ≡ with_message s (kind_meant k) m
checksum_opens s k m none start r e a b u h =
    let same : none ≡ no_checksum_fields = ap (λ x. checksum_fields x none.bytes_per_checksum) a ∙ ap (λ x. checksum_fields None x) b in
    ap (seen (λ r. known_parts s.response s.checksums s.options s.info (Some r)))
    (h ∙ ap (λ d. gathered (fits checksum_proto) with_checksum_field d m) (u ∙ ap (unwrap_or s.checksum) same))
    ∙ ap (λ k. with_message s (kind_meant k) m) (sym e)
