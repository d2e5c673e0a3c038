-- What is known of the messages of a response gives what the definition takes from them. Assumes nothing.
use Rattle.std.proofs.Common.{◌≡◌, ℕ, Bool, true, false, not, ◌&&◌, ◌||◌, ◌==◌, List, [], ◌∷◌, ◌++◌, Ok, Err, None, Some, Option, refl, sym, ap, ◌∙◌, fold, cond}
use Rattle.std.specs.Option.{is_some, unwrap_or}
use Rattle.wire.specs.declared.faults.WireFault.{WireFault}
use Rattle.wire.specs.Numbers.{low32}
use Rattle.wire.specs.Readings.{Reading, and_then}
use Rattle.wire.specs.Fields.{Field}
use Rattle.packets.specs.declared.faults.PacketFault.{PacketFault}
use Rattle.packets.specs.declared.faults.PacketFault.TheVariants.{Missing, Refused}
use Rattle.packets.specs.declared.info.ChecksumInfo.{ChecksumInfo}
use Rattle.packets.specs.Faults.{widened}
use Rattle.packets.specs.Answers.{Answer, from_fields}
use Rattle.packets.specs.Kinds.{MessageKind, block_op_response, op_block_checksum_response, block_checksum_options, read_op_checksum_info, checksum_proto}
use Rattle.packets.specs.Messages.{Opened, number_in, latest, last_of, complete, among, levels_of, is_a, holds, merged}
use Rattle.packets.specs.Responses.{response_of, response_in, all_complete}
use Rattle.messages.specs.declared.parts.ResponseFields.{ResponseFields}
use Rattle.messages.specs.declared.parts.ChecksumsFields.{ChecksumsFields}
use Rattle.messages.specs.declared.parts.OptionsFields.{OptionsFields}
use Rattle.messages.specs.declared.parts.InfoFields.{InfoFields}
use Rattle.messages.specs.declared.parts.ChecksumFields.{ChecksumFields}
use Rattle.messages.specs.declared.known.Known.{Known}
use Rattle.messages.specs.PartFields.{sent, no_response_fields, no_checksums_fields, no_options_fields, no_info_fields, no_checksum_fields, with_response_field, with_checksums_field, with_options_field, with_info_field, with_checksum_field}
use Rattle.messages.specs.Levels.{known_parts, nothing_known, known_of}
use Rattle.messages.specs.ResponseBy.{response_complete, checksums_complete, options_complete, info_complete, checksum_complete, passes, all_there, info_by, response_by}
use Rattle.messages.proofs.LevelFold.{kind_after, after, levels_known}

-- what one kind of message says, if it is there
abbrev there : {S : Type 0} → Bool → S → Option S
there true s = Some s
there false s = None

fold_append : {A B : Type 0} (f : B → A → B) (b : B) (xs ys : List A) → fold f b (xs ++ ys) ≡ fold f (fold f b xs) ys
fold_append f b [] ys = refl
fold_append f b (x ∷ xs) ys = fold_append f (f b x) xs ys

-- for one kind: after some messages it is there if one of them is of this kind, with the fields of all of these
abbrev merged_after : {S : Type 0} → MessageKind → (S → Field → S) → S → Option S → List Opened → Option S
merged_after k step none before os = there (is_some before || holds k os) (fold step (unwrap_or before none) (merged k os))

one_merged : {S : Type 0} (k : MessageKind) (step : S → Field → S) (none : S) (before : Option S) (o : Opened) (os : List Opened) (b : Bool)
    → there (is_some (cond b (Some (fold step (unwrap_or before none) o.fields)) before) || holds k os)
    (fold step (unwrap_or (cond b (Some (fold step (unwrap_or before none) o.fields)) before) none) (merged k os))
    ≡ there (is_some before || (b || holds k os)) (fold step (unwrap_or before none) (cond b o.fields [] ++ merged k os))
one_merged k step none None o os true = ap Some (sym (fold_append step none o.fields (merged k os)))
one_merged k step none (Some s) o os true = ap Some (sym (fold_append step s o.fields (merged k os)))
one_merged k step none before o os false = refl

no_merged : {S : Type 0} (none : S) (before : Option S) → before ≡ there (is_some before || false) (unwrap_or before none)
no_merged none None = refl
no_merged none (Some s) = refl

kind_merged : {S : Type 0} (k : MessageKind) (step : S → Field → S) (none : S) (before : Option S) (os : List Opened)
    → fold (kind_after k step none) before os ≡ merged_after k step none before os
kind_merged k step none before [] = no_merged none before
kind_merged k step none before (o ∷ os) = kind_merged k step none (kind_after k step none before o) os ∙ one_merged k step none before o os (is_a k o)

-- all kinds at once
all_folds : (s : Known) (os : List Opened) → fold after s os ≡ known_parts
    (fold (kind_after block_op_response with_response_field no_response_fields) s.response os)
    (fold (kind_after op_block_checksum_response with_checksums_field no_checksums_fields) s.checksums os)
    (fold (kind_after block_checksum_options with_options_field no_options_fields) s.options os)
    (fold (kind_after read_op_checksum_info with_info_field no_info_fields) s.info os)
    (fold (kind_after checksum_proto with_checksum_field no_checksum_fields) s.checksum os)
all_folds s [] = refl
all_folds s (o ∷ os) = all_folds (after s o) os

-- whether a field is there is whether its last value is
one_sent : (n : ℕ) (before : Option ℕ) (f : Field) (b : Bool) (v : ℕ) → cond b true (is_some before) ≡ is_some (cond b (Some v) before)
one_sent n before f true v = refl
one_sent n before f false v = refl

sent_is : (n : ℕ) (before : Option ℕ) (fs : List Field) → is_some (fold (latest n) before fs) ≡ fold (sent n) (is_some before) fs
sent_is n before [] = refl
sent_is n before (f ∷ fs) = sent_is n (latest n before f) fs ∙ ap (λ b. fold (sent n) b fs) (sym (one_sent n before f (f.number == n) (number_in f.value)))

-- what each field holds after some more
response_parts : (s : ResponseFields) (fs : List Field) → fold with_response_field s fs ≡ record { status = fold (latest 1) s.status fs }
response_parts s [] = refl
response_parts s (f ∷ fs) = response_parts (with_response_field s f) fs

abbrev checksums_fields : Bool → Bool → Bool → Option ℕ → ChecksumsFields
checksums_fields a b c d = record { bytes_per_crc = a; crc_per_block = b; block_checksum = c; crc_type = d }

checksums_parts : (s : ChecksumsFields) (fs : List Field) → fold with_checksums_field s fs
    ≡ checksums_fields (fold (sent 1) s.bytes_per_crc fs) (fold (sent 2) s.crc_per_block fs) (fold (sent 3) s.block_checksum fs) (fold (latest 4) s.crc_type fs)
checksums_parts s [] = refl
checksums_parts s (f ∷ fs) = checksums_parts (with_checksums_field s f) fs

options_parts : (s : OptionsFields) (fs : List Field) → fold with_options_field s fs ≡ record { block_checksum_type = fold (latest 1) s.block_checksum_type fs }
options_parts s [] = refl
options_parts s (f ∷ fs) = options_parts (with_options_field s f) fs

abbrev info_fields : Bool → Bool → InfoFields
info_fields a b = record { checksum = a; chunk_offset = b }

info_parts : (s : InfoFields) (fs : List Field) → fold with_info_field s fs ≡ info_fields (fold (sent 1) s.checksum fs) (fold (sent 2) s.chunk_offset fs)
info_parts s [] = refl
info_parts s (f ∷ fs) = info_parts (with_info_field s f) fs

abbrev checksum_fields : Option ℕ → Option ℕ → ChecksumFields
checksum_fields a b = record { checksum_type = a; bytes_per_checksum = b }

checksum_parts : (s : ChecksumFields) (fs : List Field) → fold with_checksum_field s fs ≡ checksum_fields (fold (latest 1) s.checksum_type fs) (fold (latest 2) s.bytes_per_checksum fs)
checksum_parts s [] = refl
checksum_parts s (f ∷ fs) = checksum_parts (with_checksum_field s f) fs

-- a list of tests ends with one that holds
ends_true : (a : Bool) → (a && true) ≡ a
ends_true true = refl
ends_true false = refl

one_and_one : (a b : Bool) → ((a && true) && (b && true)) ≡ (a && b)
one_and_one true b = ends_true b
one_and_one false b = refl

two_and_one : (a b c : Bool) → ((a && (b && true)) && (c && true)) ≡ (a && b && c)
two_and_one true b c = one_and_one b c
two_and_one false b c = refl

three_and_one : (a b c d : Bool) → ((a && (b && (c && true))) && (d && true)) ≡ (a && b && c && d)
three_and_one true b c d = two_and_one b c d
three_and_one false b c d = refl

two_and_none : (a b : Bool) → ((a && (b && true)) && true) ≡ (a && b)
two_and_none true b = ends_true (b && true) ∙ ends_true b
two_and_none false b = refl

-- what is required of each kind
response_is : (fs : List Field) → complete block_op_response fs ≡ response_complete (fold with_response_field no_response_fields fs)
response_is fs = one_and_one (is_some (last_of 1 fs)) (among 0 13 (last_of 1 fs)) ∙ ap response_complete (sym (response_parts no_response_fields fs))

checksums_is : (fs : List Field) → complete op_block_checksum_response fs ≡ checksums_complete (fold with_checksums_field no_checksums_fields fs)
checksums_is fs =
    three_and_one (is_some (last_of 1 fs)) (is_some (last_of 2 fs)) (is_some (last_of 3 fs)) (among 0 2 (last_of 4 fs))
    ∙ ap (λ x. checksums_complete (checksums_fields x (is_some (last_of 2 fs)) (is_some (last_of 3 fs)) (last_of 4 fs))) (sent_is 1 None fs)
    ∙ ap (λ x. checksums_complete (checksums_fields (fold (sent 1) false fs) x (is_some (last_of 3 fs)) (last_of 4 fs))) (sent_is 2 None fs)
    ∙ ap (λ x. checksums_complete (checksums_fields (fold (sent 1) false fs) (fold (sent 2) false fs) x (last_of 4 fs))) (sent_is 3 None fs)
    ∙ ap checksums_complete (sym (checksums_parts no_checksums_fields fs))

options_is : (fs : List Field) → complete block_checksum_options fs ≡ options_complete (fold with_options_field no_options_fields fs)
options_is fs = ends_true (among 1 2 (last_of 1 fs)) ∙ ap options_complete (sym (options_parts no_options_fields fs))

info_is : (fs : List Field) → complete read_op_checksum_info fs ≡ info_complete (fold with_info_field no_info_fields fs)
info_is fs =
    two_and_none (is_some (last_of 1 fs)) (is_some (last_of 2 fs))
    ∙ ap (λ x. info_complete (info_fields x (is_some (last_of 2 fs)))) (sent_is 1 None fs)
    ∙ ap (λ x. info_complete (info_fields (fold (sent 1) false fs) x)) (sent_is 2 None fs)
    ∙ ap info_complete (sym (info_parts no_info_fields fs))

checksum_is : (fs : List Field) → complete checksum_proto fs ≡ checksum_complete (fold with_checksum_field no_checksum_fields fs)
checksum_is fs = two_and_one (is_some (last_of 1 fs)) (is_some (last_of 2 fs)) (among 0 2 (last_of 1 fs)) ∙ ap checksum_complete (sym (checksum_parts no_checksum_fields fs))

-- what a kind of message says after all messages
abbrev said : {S : Type 0} → MessageKind → (S → Field → S) → S → List Opened → Option S
said k step none os = fold (kind_after k step none) None os

passes_there : {S : Type 0} (test : S → Bool) (b : Bool) (s : S) → passes test (there b s) ≡ (not b || test s)
passes_there test true s = refl
passes_there test false s = refl

passes_is : {S : Type 0} (k : MessageKind) (step : S → Field → S) (none : S) (test : S → Bool) (os : List Opened) → ((fs : List Field) → complete k fs ≡ test (fold step none fs))
    → (not (holds k os) || complete k (merged k os)) ≡ passes test (said k step none os)
passes_is k step none test os h =
    ap (λ b. not (holds k os) || b) (h (merged k os))
    ∙ sym (passes_there test (holds k os) (fold step none (merged k os)))
    ∙ ap (passes test) (sym (kind_merged k step none None os))

one_unwrapped : {S : Type 0} (k : MessageKind) (step : S → Field → S) (none : S) (before : Option S) (o : Opened) (os : List Opened) (b : Bool)
    → fold step (unwrap_or (cond b (Some (fold step (unwrap_or before none) o.fields)) before) none) (merged k os)
    ≡ fold step (unwrap_or before none) (cond b o.fields [] ++ merged k os)
one_unwrapped k step none before o os true = sym (fold_append step (unwrap_or before none) o.fields (merged k os))
one_unwrapped k step none before o os false = refl

-- one that is not there has no fields
unwrapped : {S : Type 0} (k : MessageKind) (step : S → Field → S) (none : S) (before : Option S) (os : List Opened)
    → unwrap_or (fold (kind_after k step none) before os) none ≡ fold step (unwrap_or before none) (merged k os)
unwrapped k step none before [] = refl
unwrapped k step none before (o ∷ os) = unwrapped k step none (kind_after k step none before o) os ∙ one_unwrapped k step none before o os (is_a k o)

all_five : (a b c d e : Bool) → (a && (b && (c && (d && (e && true))))) ≡ (a && b && c && d && e)
all_five false b c d e = refl
all_five true false c d e = refl
all_five true true false d e = refl
all_five true true true false e = refl
all_five true true true true e = ends_true e

five : (p q r s t a b c d e : Bool) → p ≡ a → q ≡ b → r ≡ c → s ≡ d → t ≡ e → (p && (q && (r && (s && (t && true))))) ≡ (a && b && c && d && e)
five p q r s t a b c d e h i j k l =
    ap (λ x. x && (q && (r && (s && (t && true))))) h
    ∙ ap (λ x. a && (x && (r && (s && (t && true))))) i
    ∙ ap (λ x. a && (b && (x && (s && (t && true))))) j
    ∙ ap (λ x. a && (b && (c && (x && (t && true))))) k
    ∙ ap (λ x. a && (b && (c && (d && (x && true))))) l
    ∙ all_five a b c d e

abbrev all_said : List Opened → Known
all_said os = known_parts
    (said block_op_response with_response_field no_response_fields os)
    (said op_block_checksum_response with_checksums_field no_checksums_fields os)
    (said block_checksum_options with_options_field no_options_fields os)
    (said read_op_checksum_info with_info_field no_info_fields os)
    (said checksum_proto with_checksum_field no_checksum_fields os)

all_is : (os : List Opened) → all_complete os ≡ all_there (all_said os)
all_is os = five _ _ _ _ _ _ _ _ _ _
    (passes_is block_op_response with_response_field no_response_fields response_complete os response_is)
    (passes_is op_block_checksum_response with_checksums_field no_checksums_fields checksums_complete os checksums_is)
    (passes_is read_op_checksum_info with_info_field no_info_fields info_complete os info_is)
    (passes_is block_checksum_options with_options_field no_options_fields options_complete os options_is)
    (passes_is checksum_proto with_checksum_field no_checksum_fields checksum_complete os checksum_is)

response_said : (os : List Opened) → record { status = last_of 1 (merged block_op_response os) } ≡ unwrap_or (all_said os).response no_response_fields
response_said os = sym (response_parts no_response_fields (merged block_op_response os)) ∙ sym (unwrapped block_op_response with_response_field no_response_fields None os)

checksum_said : (os : List Opened) → checksum_fields (last_of 1 (merged checksum_proto os)) (last_of 2 (merged checksum_proto os)) ≡ unwrap_or (all_said os).checksum no_checksum_fields
checksum_said os = sym (checksum_parts no_checksum_fields (merged checksum_proto os)) ∙ sym (unwrapped checksum_proto with_checksum_field no_checksum_fields None os)

abbrev answer : Bool → ResponseFields → ChecksumFields → Answer (Option ChecksumInfo)
answer b r c = cond (not b) (Err Missing) (cond (not (low32 (unwrap_or r.status 0) == 0)) (Err Refused) (info_by c))

response_said_all : (os : List Opened) → response_in os ≡ response_by (all_said os)
response_said_all os =
    ap (λ b. answer b (record { status = last_of 1 (merged block_op_response os) }) (checksum_fields (last_of 1 (merged checksum_proto os)) (last_of 2 (merged checksum_proto os)))) (all_is os)
    ∙ ap (λ r. answer (all_there (all_said os)) r (checksum_fields (last_of 1 (merged checksum_proto os)) (last_of 2 (merged checksum_proto os)))) (response_said os)
    ∙ ap (answer (all_there (all_said os)) (unwrap_or (all_said os).response no_response_fields)) (checksum_said os)

response_known : (os : List Opened) → response_in os ≡ response_by (fold after nothing_known os)
response_known os = response_said_all os ∙ ap response_by (sym (all_folds nothing_known os))

answer_of : (r : Reading (List Opened)) → from_fields r response_in ≡ from_fields (and_then r (λ os. Ok (fold after nothing_known os))) response_by
answer_of (Ok os) = response_known os
answer_of (Err e) = refl

-- what comes of a response is what comes of all that is known of it
known_answer : (m : List ℕ) (r : Reading Known) → r ≡ known_of m → response_of m ≡ from_fields r response_by
unfolding response_of
known_answer m r h =
    answer_of (levels_of 3 (record { kind = block_op_response; bytes = m } ∷ []))
    ∙ ap (λ (r : Reading Known). from_fields r response_by) (sym (levels_known m) ∙ sym h)

-- for a function that has read all levels: a fault, a refusal, what the response tells
pub response_fault : (m : List ℕ) (e : WireFault) → Err e ≡ known_of m → response_of m ≡ Err (widened e)
response_fault m e h = known_answer m (Err e) h

pub response_refused : (m : List ℕ) (s : Known) (e : PacketFault) → Ok s ≡ known_of m → Err e ≡ response_by s → response_of m ≡ Err e
response_refused m s e h q = known_answer m (Ok s) h ∙ sym q

pub response_told : (m : List ℕ) (s : Known) (r : Option ChecksumInfo) → Ok s ≡ known_of m → Ok r ≡ response_by s → response_of m ≡ Ok r
response_told m s r h q = known_answer m (Ok s) h ∙ sym q

pub ruleset response_reading = (response_fault, response_refused, response_told)
