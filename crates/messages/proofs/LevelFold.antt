-- Messages that are opened one after another, and level by level, give what the definition takes from all of them. Assumes nothing.
use Rattle.std.proofs.Common.{◌≡◌, ℕ, zero, suc, ◌-◌, Bool, true, false, List, [], ◌∷◌, ◌++◌, length, Ok, Err, None, Some, Option, refl, sym, ap, ◌∙◌, fold, cond, nat_lt, flat_map, append-nil, arith}
use Rattle.std.specs.Option.{unwrap_or}
use Rattle.wire.specs.declared.faults.WireFault.TheVariants.{Malformed}
use Rattle.wire.specs.Readings.{Reading, and_then, seen}
use Rattle.wire.specs.Fields.{Value, varint, fixed64, part, fixed32, Field, Found, field_at}
use Rattle.wire.specs.Messages.{before, fields_in, fields_that, outcome}
use Rattle.packets.specs.Kinds.{MessageKind, packet_header, block_op_response, op_block_checksum_response, block_checksum_options, read_op_checksum_info, checksum_proto, fits, message_in}
use Rattle.packets.specs.Messages.{Message, Opened, embedded, inner_of, level_of, levels_of, is_a}
use Rattle.messages.specs.declared.known.Known.{Known}
use Rattle.messages.specs.PartFields.{no_response_fields, no_checksums_fields, no_options_fields, no_info_fields, no_checksum_fields, with_response_field, with_checksums_field, with_options_field, with_info_field, with_checksum_field}
use Rattle.messages.specs.Levels.{any_field, known_parts, with_message, by_held, with_inner, with_deeper, after_all, nothing_known, known_of}

abbrev message : MessageKind → List ℕ → Message
message k m = record { kind = k; bytes = m }

abbrev opened : MessageKind → List Field → Opened
opened k fs = record { kind = k; fields = fs }

-- what is known of one kind of message after one message more
abbrev pub kind_after : {S : Type 0} → MessageKind → (S → Field → S) → S → Option S → Opened → Option S
kind_after k step none before o = cond (is_a k o) (Some (fold step (unwrap_or before none) o.fields)) before

abbrev pub after : Known → Opened → Known
after s o = known_parts
    (kind_after block_op_response with_response_field no_response_fields s.response o)
    (kind_after op_block_checksum_response with_checksums_field no_checksums_fields s.checksums o)
    (kind_after block_checksum_options with_options_field no_options_fields s.options o)
    (kind_after read_op_checksum_info with_info_field no_info_fields s.info o)
    (kind_after checksum_proto with_checksum_field no_checksum_fields s.checksum o)

-- a message by its fields, for each kind
response_after : (s : Known) (r : Reading (List Field)) → seen (λ p. known_parts (Some p) s.checksums s.options s.info s.checksum) (outcome with_response_field Ok Err (unwrap_or s.response no_response_fields) r)
    ≡ and_then r (λ fs. Ok (after s (opened block_op_response fs)))
response_after s (Ok fs) = refl
response_after s (Err e) = refl

checksums_after : (s : Known) (r : Reading (List Field)) → seen (λ p. known_parts s.response (Some p) s.options s.info s.checksum) (outcome with_checksums_field Ok Err (unwrap_or s.checksums no_checksums_fields) r)
    ≡ and_then r (λ fs. Ok (after s (opened op_block_checksum_response fs)))
checksums_after s (Ok fs) = refl
checksums_after s (Err e) = refl

options_after : (s : Known) (r : Reading (List Field)) → seen (λ p. known_parts s.response s.checksums (Some p) s.info s.checksum) (outcome with_options_field Ok Err (unwrap_or s.options no_options_fields) r)
    ≡ and_then r (λ fs. Ok (after s (opened block_checksum_options fs)))
options_after s (Ok fs) = refl
options_after s (Err e) = refl

info_after : (s : Known) (r : Reading (List Field)) → seen (λ p. known_parts s.response s.checksums s.options (Some p) s.checksum) (outcome with_info_field Ok Err (unwrap_or s.info no_info_fields) r)
    ≡ and_then r (λ fs. Ok (after s (opened read_op_checksum_info fs)))
info_after s (Ok fs) = refl
info_after s (Err e) = refl

checksum_after : (s : Known) (r : Reading (List Field)) → seen (λ p. known_parts s.response s.checksums s.options s.info (Some p)) (outcome with_checksum_field Ok Err (unwrap_or s.checksum no_checksum_fields) r)
    ≡ and_then r (λ fs. Ok (after s (opened checksum_proto fs)))
checksum_after s (Ok fs) = refl
checksum_after s (Err e) = refl

header_after : (s : Known) (r : Reading (List Field)) → and_then r (λ fs. Ok s) ≡ and_then r (λ fs. Ok (after s (opened packet_header fs)))
header_after s (Ok fs) = refl
header_after s (Err e) = refl

message_after : (s : Known) (k : MessageKind) (m : List ℕ) → with_message s k m ≡ and_then (fields_that (fits k) m) (λ fs. Ok (after s (opened k fs)))
message_after s packet_header m = header_after s (fields_that (fits packet_header) m)
message_after s block_op_response m = response_after s (fields_that (fits block_op_response) m)
message_after s op_block_checksum_response m = checksums_after s (fields_that (fits op_block_checksum_response) m)
message_after s block_checksum_options m = options_after s (fields_that (fits block_checksum_options) m)
message_after s read_op_checksum_info m = info_after s (fields_that (fits read_op_checksum_info) m)
message_after s checksum_proto m = checksum_after s (fields_that (fits checksum_proto) m)

-- messages one after another, by what one adds
abbrev each : (Known → MessageKind → List ℕ → Reading Known) → Known → List Message → Reading Known
each add s [] = Ok s
each add s (m ∷ ms) = and_then (add s m.kind m.bytes) (λ s. each add s ms)

abbrev all_after : Known → Reading (List Opened) → Reading Known
all_after s r = and_then r (λ os. Ok (fold after s os))

then_level : (s : Known) (o : Opened) (r : Reading (List Opened)) → all_after (after s o) r ≡ all_after s (and_then r (λ os. Ok (o ∷ os)))
then_level s o (Ok os) = refl
then_level s o (Err e) = refl

first_of_level : (s : Known) (k : MessageKind) (ms : List Message) (r : Reading (List Field)) → ((s : Known) → each with_message s ms ≡ all_after s (level_of ms))
    → and_then (and_then r (λ fs. Ok (after s (opened k fs)))) (λ s. each with_message s ms) ≡ all_after s (and_then r (λ fs. and_then (level_of ms) (λ os. Ok (opened k fs ∷ os))))
first_of_level s k ms (Ok fs) later = later (after s (opened k fs)) ∙ then_level s (opened k fs) (level_of ms)
first_of_level s k ms (Err e) later = refl

-- the messages of a level one after another
each_level : (s : Known) (ms : List Message) → each with_message s ms ≡ all_after s (level_of ms)
each_level s [] = refl
each_level s (m ∷ ms) =
    ap (λ (r : Reading Known). and_then r (λ s. each with_message s ms)) (message_after s m.kind m.bytes)
    ∙ first_of_level s m.kind ms (fields_that (fits m.kind) m.bytes) (λ s. each_level s ms)

then_same : (r : Reading Known) (f g : Known → Reading Known) → ((s : Known) → f s ≡ g s) → and_then r f ≡ and_then r g
then_same (Ok s) f g h = h s
then_same (Err e) f g h = refl

then_then : (r : Reading Known) (f g : Known → Reading Known) → and_then (and_then r f) g ≡ and_then r (λ s. and_then (f s) g)
then_then (Ok s) f g = refl
then_then (Err e) f g = refl

then_ok : (r : Reading Known) → and_then r (λ s. Ok s) ≡ r
then_ok (Ok s) = refl
then_ok (Err e) = refl

each_more : (add : Known → MessageKind → List ℕ → Reading Known) (s : Known) (xs ys : List Message) → each add s (xs ++ ys) ≡ and_then (each add s xs) (λ s. each add s ys)
each_more add s [] ys = refl
each_more add s (x ∷ xs) ys =
    then_same (add s x.kind x.bytes) (λ s. each add s (xs ++ ys)) (λ s. and_then (each add s xs) (λ s. each add s ys)) (λ s. each_more add s xs ys)
    ∙ sym (then_then (add s x.kind x.bytes) (λ s. each add s xs) (λ s. each add s ys))

held_is : (add : Known → MessageKind → List ℕ → Reading Known) (k : Option MessageKind) (v : Value) (s : Known) → by_held add k v s ≡ each add s (embedded k v)
held_is add None v s = refl
held_is add (Some k) (varint n) s = refl
held_is add (Some k) (fixed64 n) s = refl
held_is add (Some k) (part bs at) s = sym (then_ok (add s k bs))
held_is add (Some k) (fixed32 n) s = refl

-- the messages in the fields of a message of some kind
abbrev inner : MessageKind → List Field → List Message
inner k fs = flat_map (λ (f : Field). embedded (message_in k f.number) f.value) fs

abbrev adds : (Known → MessageKind → List ℕ → Reading Known) → MessageKind → Known → Field → Reading Known
adds add k s f = by_held add (message_in k f.number) f.value s

first_of_walk : (add : Known → MessageKind → List ℕ → Reading Known) (k : MessageKind) (r : Reading Known) (f : Field) (fs : List Field)
    → and_then (and_then r (λ s. adds add k s f)) (λ s. each add s (inner k fs)) ≡ and_then r (λ s. each add s (inner k (f ∷ fs)))
first_of_walk add k (Ok s) f fs =
    ap (λ (r : Reading Known). and_then r (λ s. each add s (inner k fs))) (held_is add (message_in k f.number) f.value s)
    ∙ sym (each_more add s (embedded (message_in k f.number) f.value) (inner k fs))
first_of_walk add k (Err e) f fs = refl

-- a walk over fields opens the messages in them one after another
walk_is : (add : Known → MessageKind → List ℕ → Reading Known) (k : MessageKind) (r : Reading Known) (fs : List Field)
    → fold (λ (r : Reading Known) f. and_then r (λ s. adds add k s f)) r fs ≡ and_then r (λ s. each add s (inner k fs))
walk_is add k r [] = sym (then_ok r)
walk_is add k r (f ∷ fs) = walk_is add k (and_then r (λ s. adds add k s f)) fs ∙ first_of_walk add k r f fs

-- fields that were read with a kind of message are read with none
one_more : (c : Bool) (x y : Reading (List Field)) (f : Field) (fs : List Field) → ((gs : List Field) → x ≡ Ok gs → y ≡ Ok gs)
    → cond c (and_then x (λ gs. Ok (f ∷ gs))) (Err Malformed) ≡ Ok fs → and_then y (λ gs. Ok (f ∷ gs)) ≡ Ok fs
one_more false x y f fs same h = let u : ◌≡◌ {A = ℕ} 0 1 = cc in absurd (omega (arith, u))
one_more true (Ok gs) y f fs same h = ap (λ (y : Reading (List Field)). and_then y (λ gs. Ok (f ∷ gs))) (same gs refl) ∙ h
one_more true (Err e) y f fs same h = let u : ◌≡◌ {A = ℕ} 0 1 = cc in absurd (omega (arith, u))

one_place : (fits : Field → Bool) (a b : ℕ → Reading (List Field)) (c : Bool) (r : Reading Found) (fs : List Field) → ((at : ℕ) (gs : List Field) → a at ≡ Ok gs → b at ≡ Ok gs)
    → cond c (and_then r (before fits a)) (Ok []) ≡ Ok fs → cond c (and_then r (before any_field b)) (Ok []) ≡ Ok fs
one_place fits a b false r fs same h = h
one_place fits a b true (Ok f) fs same h = one_more (fits f.field) (a f.next) (b f.next) f.field fs (λ gs. same f.next gs) h
one_place fits a b true (Err e) fs same h = h

any_in : (fits : Field → Bool) (n : ℕ) (m : List ℕ) (at : ℕ) (fs : List Field) → fields_in fits n m at ≡ Ok fs → fields_in any_field n m at ≡ Ok fs
any_in fits zero m at fs h = h
any_in fits (suc n) m at fs h = one_place fits (fields_in fits n m) (fields_in any_field n m) (nat_lt at (length m)) (field_at m at) fs (λ next gs. any_in fits n m next gs) h

-- a walk over a message of which the fields are read
walked : (add : Known → MessageKind → List ℕ → Reading Known) (k : MessageKind) (s : Known) (m : List ℕ) (fs : List Field)
    → fields_that (fits k) m ≡ Ok fs → after_all (adds add k) s m ≡ each add s (inner k fs)
walked add k s m fs h =
    ap (λ (r : Reading (List Field)). and_then (outcome (λ (r : Reading Known) f. and_then r (λ s. adds add k s f)) Ok Err (Ok s) r) (λ r. r)) (any_in (fits k) (length m - 0) m 0 fs h)
    ∙ walk_is add k (Ok s) fs

deeper_tail : (s : Known) (k : MessageKind) (m : List ℕ) (ms : List Message) (fs : List Field) (l : Reading (List Opened)) → fields_that (fits k) m ≡ Ok fs
    → ((s : Known) → and_then l (λ os. each with_inner s ms) ≡ and_then l (λ os. each with_message s (inner_of os)))
    → and_then (and_then l (λ os. Ok (opened k fs ∷ os))) (λ os. and_then (with_inner s k m) (λ s. each with_inner s ms))
    ≡ and_then (and_then l (λ os. Ok (opened k fs ∷ os))) (λ os. each with_message s (inner_of os))
deeper_tail s k m ms fs (Ok os) h later =
    ap (λ (r : Reading Known). and_then r (λ s. each with_inner s ms)) (walked with_message k s m fs h)
    ∙ then_same (each with_message s (inner k fs)) (λ s. each with_inner s ms) (λ s. each with_message s (inner_of os)) later
    ∙ sym (each_more with_message s (inner k fs) (inner_of os))
deeper_tail s k m ms fs (Err e) h later = refl

deeper_first : (s : Known) (k : MessageKind) (m : List ℕ) (ms : List Message) (r : Reading (List Field)) (l : Reading (List Opened)) → fields_that (fits k) m ≡ r
    → ((s : Known) → and_then l (λ os. each with_inner s ms) ≡ and_then l (λ os. each with_message s (inner_of os)))
    → and_then (and_then r (λ fs. and_then l (λ os. Ok (opened k fs ∷ os)))) (λ os. and_then (with_inner s k m) (λ s. each with_inner s ms))
    ≡ and_then (and_then r (λ fs. and_then l (λ os. Ok (opened k fs ∷ os)))) (λ os. each with_message s (inner_of os))
deeper_first s k m ms (Ok fs) l h later = deeper_tail s k m ms fs l h later
deeper_first s k m ms (Err e) l h later = refl

-- if a level is read, walks over its messages open the next one
deeper_each : (s : Known) (ms : List Message) → and_then (level_of ms) (λ os. each with_inner s ms) ≡ and_then (level_of ms) (λ os. each with_message s (inner_of os))
deeper_each s [] = refl
deeper_each s (m ∷ ms) = deeper_first s m.kind m.bytes ms (fields_that (fits m.kind) m.bytes) (level_of ms) refl (λ s. deeper_each s ms)

fold_more : (s : Known) (xs ys : List Opened) → fold after s (xs ++ ys) ≡ fold after (fold after s xs) ys
fold_more s [] ys = refl
fold_more s (x ∷ xs) ys = fold_more (after s x) xs ys

third : (s : Known) (os : List Opened) (l : Reading (List Opened))
    → all_after (fold after s os) l ≡ all_after s (and_then (and_then l (λ ps. and_then (Ok []) (λ deeper. Ok (ps ++ deeper)))) (λ deeper. Ok (os ++ deeper)))
third s os (Ok ps) = ap Ok (ap (fold after (fold after s os)) (sym (append-nil ps)) ∙ sym (fold_more s os (ps ++ [])))
third s os (Err e) = refl

second : (s : Known) (ms : List Message) (l : Reading (List Opened)) → and_then l (λ os. each with_inner (fold after s os) ms) ≡ and_then l (λ os. each with_message (fold after s os) (inner_of os))
    → and_then (all_after s l) (λ s. each with_inner s ms)
    ≡ all_after s (and_then l (λ os. and_then (levels_of 1 (inner_of os)) (λ deeper. Ok (os ++ deeper))))
second s ms (Ok os) h = h ∙ each_level (fold after s os) (inner_of os) ∙ third s os (level_of (inner_of os))
second s ms (Err e) h = refl

next_each : (s : Known) (ms : List Message) (l : Reading (List Opened)) → ((s : Known) → and_then l (λ os. each with_inner s ms) ≡ and_then l (λ os. each with_message s (inner_of os)))
    → and_then l (λ os. each with_inner (fold after s os) ms) ≡ and_then l (λ os. each with_message (fold after s os) (inner_of os))
next_each s ms (Ok os) h = h (fold after s os)
next_each s ms (Err e) h = refl

behind : (s : Known) (o : Opened) (r : Reading (List Opened)) → all_after (after s o) r ≡ all_after s (and_then r (λ deeper. Ok ((o ∷ []) ++ deeper)))
behind s o (Ok os) = refl
behind s o (Err e) = refl

abbrev root : List ℕ → List Message
root m = message block_op_response m ∷ []

first : (m : List ℕ) (r : Reading (List Field)) → fields_that (fits block_op_response) m ≡ r
    → and_then (and_then r (λ fs. Ok (after nothing_known (opened block_op_response fs)))) (λ s. and_then (with_inner s block_op_response m) (λ s. with_deeper s block_op_response m))
    ≡ all_after nothing_known (and_then (and_then r (λ fs. Ok (opened block_op_response fs ∷ []))) (λ os. and_then (levels_of 2 (inner_of os)) (λ deeper. Ok (os ++ deeper))))
first m (Ok fs) h =
    let o : Opened = opened block_op_response fs in
    let s : Known = after nothing_known o in
    let ms : List Message = inner block_op_response fs in
    ap (λ (r : Reading Known). and_then r (λ s. with_deeper s block_op_response m)) (walked with_message block_op_response s m fs h)
    ∙ then_same (each with_message s ms) (λ s. with_deeper s block_op_response m) (λ s. each with_inner s ms) (λ s. walked with_inner block_op_response s m fs h)
    ∙ ap (λ (r : Reading Known). and_then r (λ s. each with_inner s ms)) (each_level s ms)
    ∙ second s ms (level_of ms) (next_each s ms (level_of ms) (λ s. deeper_each s ms))
    ∙ ap (λ ms. all_after s (levels_of 2 ms)) (sym (append-nil ms))
    ∙ behind nothing_known o (levels_of 2 (inner_of (o ∷ [])))
first m (Err e) h = refl

-- what is known after all levels
pub levels_known : (m : List ℕ) → known_of m ≡ all_after nothing_known (levels_of 3 (root m))
levels_known m =
    ap (λ (r : Reading Known). and_then r (λ s. and_then (with_inner s block_op_response m) (λ s. with_deeper s block_op_response m))) (message_after nothing_known block_op_response m)
    ∙ first m (fields_that (fits block_op_response) m) refl
