-- A response as it is written is read as what it was written from. Assumes nothing.
use Rattle.std.proofs.Common.{◌≡◌, ℕ, zero, suc, ◌+◌, ◌-◌, ◌/◌, ◌%◌, ◌^◌, ◌<◌, ◌≤◌, Bool, true, false, eqb, ltb, leb, List, [], ◌∷◌, ◌++◌, length, take, drop, Some, None, Ok, sym, refl, ap, ap₂, ◌∙◌, append_assoc, append-nil, length-append, lt-ltb, le-ltb, le-leb, ne_eqb, arith}
use Rattle.std.proofs.lemmas.Bool.{cond-true, cond-false}
use Rattle.std.proofs.Math.Seq.{take-append_seam, drop-append_seam}
use Rattle.checksum.specs.declared.kind.Checksum.{Checksum}
use Rattle.checksum.specs.declared.kind.Checksum.TheVariants.{Crc32, Crc32c}
use Rattle.wire.specs.declared.varints.Varint.{Varint}
use Rattle.wire.specs.Readings.{Reading, and_then}
use Rattle.wire.specs.Numbers.{low32}
use Rattle.wire.specs.Varints.{varint as reached_number, varint_from, groups_of, varint_bytes}
use Rattle.wire.specs.Fields.{varint, part, reached, Field, field, Found, found, bytes_at, value_at, numbered, bad_key, keyed, field_at}
use Rattle.wire.specs.Messages.{before, fields_in, fields_that}
use Rattle.wire.proofs.Written.{varint_back}
use Rattle.packets.specs.declared.info.ChecksumInfo.{ChecksumInfo}
use Rattle.packets.specs.Answers.{from_fields}
use Rattle.packets.specs.Kinds.{MessageKind, block_op_response, read_op_checksum_info, checksum_proto, fits}
use Rattle.packets.specs.Messages.{Opened, inner_of, level_of, levels_of}
use Rattle.packets.specs.Responses.{checked_by, response_in, response_of}
use Rattle.packets.specs.Written.{type_number, response_bytes}
use Rattle.written.specs.Laws.{ResponsesReturn}
use Rattle.written.proofs.Responses.{varint_length, varint_small, info_bytes, whole_bytes, type_is, info_is, whole_is}

-- a byte as a varint, anywhere in a message
byte_at : (n : ℕ) (xs ys : List ℕ) → n < 128 → varint_from (xs ++ n ∷ ys) (length xs) ≡ Ok (reached_number n (length xs + 1))
byte_at n xs ys h =
    let one = varint_small n h in
    ap (λ (w : List ℕ). varint_from (xs ++ (w ++ ys)) (length xs)) (sym one) ∙ varint_back n xs ys (omega arith) ∙ ap (λ (w : List ℕ). Ok (reached_number n (length xs + length w))) one

-- a field that holds a number, and one that holds a short part
number_at : (key k v : ℕ) (xs ys : List ℕ) → key < 128 → bad_key key ≡ false → key / 8 ≡ k → key % 8 ≡ 0 → v < 2 ^ 64
    → field_at (xs ++ key ∷ (varint_bytes v ++ ys)) (length xs) ≡ Ok (found (field k (varint v)) (length xs + 1 + length (varint_bytes v)))
unfolding field_at
number_at key k v xs ys h b ek et hv =
    let m = xs ++ key ∷ (varint_bytes v ++ ys) in
    let split : m ≡ (xs ++ key ∷ []) ++ (varint_bytes v ++ ys) = sym (append_assoc xs (key ∷ []) (varint_bytes v ++ ys)) in
    let one : length (xs ++ key ∷ []) ≡ length xs + 1 = length-append xs (key ∷ []) in
    let value : varint_from m (length xs + 1) ≡ Ok (reached_number v (length xs + 1 + length (varint_bytes v))) =
    ap₂ varint_from split (sym one) ∙ varint_back v (xs ++ key ∷ []) ys hv ∙ ap (λ (n : ℕ). Ok (reached_number v (n + length (varint_bytes v)))) one in
    ap (λ (r : Reading Varint). and_then r (keyed m)) (byte_at key xs (varint_bytes v ++ ys) h)
    ∙ cond-false (bad_key key) _ _ b
    ∙ ap₂ (λ (n t : ℕ). numbered n (value_at m t (length xs + 1))) ek et
    ∙ ap (λ (r : Reading Varint). numbered k (and_then r (λ w. Ok (reached (varint w.value) w.next)))) value

small_at : (key k v : ℕ) (xs ys : List ℕ) → key < 128 → bad_key key ≡ false → key / 8 ≡ k → key % 8 ≡ 0 → v < 128
    → field_at (xs ++ key ∷ v ∷ ys) (length xs) ≡ Ok (found (field k (varint v)) (length xs + 1 + 1))
small_at key k v xs ys h b ek et hv =
    let one = varint_small v hv in
    ap (λ (w : List ℕ). field_at (xs ++ key ∷ (w ++ ys)) (length xs)) (sym one) ∙ number_at key k v xs ys h b ek et (omega arith) ∙ ap (λ (w : List ℕ). Ok (found (field k (varint v)) (length xs + 1 + length w))) one

part_at : (key k : ℕ) (ps xs ys : List ℕ) → key < 128 → bad_key key ≡ false → key / 8 ≡ k → key % 8 ≡ 2 → length ps < 128
    → field_at (xs ++ key ∷ length ps ∷ (ps ++ ys)) (length xs) ≡ Ok (found (field k (part ps (length xs + 1 + 1))) (length xs + 1 + 1 + length ps))
unfolding field_at
part_at key k ps xs ys h b ek et hp =
    let m = xs ++ key ∷ length ps ∷ (ps ++ ys) in
    let split : m ≡ (xs ++ key ∷ []) ++ length ps ∷ (ps ++ ys) = sym (append_assoc xs (key ∷ []) (length ps ∷ (ps ++ ys))) in
    let one : length (xs ++ key ∷ []) ≡ length xs + 1 = length-append xs (key ∷ []) in
    let size : varint_from m (length xs + 1) ≡ Ok (reached_number (length ps) (length xs + 1 + 1)) =
    ap₂ varint_from split (sym one) ∙ byte_at (length ps) (xs ++ key ∷ []) (ps ++ ys) hp ∙ ap (λ (n : ℕ). Ok (reached_number (length ps) (n + 1))) one in
    let split2 : m ≡ (xs ++ key ∷ length ps ∷ []) ++ (ps ++ ys) = sym (append_assoc xs (key ∷ length ps ∷ []) (ps ++ ys)) in
    let two : length (xs ++ key ∷ length ps ∷ []) ≡ length xs + 1 + 1 = length-append xs (key ∷ length ps ∷ []) ∙ omega arith in
    let rest : drop (length xs + 1 + 1) m ≡ ps ++ ys = ap₂ (λ (n : ℕ) (w : List ℕ). drop n w) (sym two) split2 ∙ drop-append_seam (xs ++ key ∷ length ps ∷ []) (ps ++ ys) in
    let room : length xs + 1 + 1 + length ps ≤ length m = omega (arith, ap length split2, length-append (xs ++ key ∷ length ps ∷ []) (ps ++ ys), length-append ps ys) in
    let bytes : bytes_at m (length xs + 1 + 1) (length ps) ≡ Ok ps =
    cond-true (leb (length xs + 1 + 1 + length ps) (length m)) _ _ (le-leb (length xs + 1 + 1 + length ps) (length m) room) ∙ ap (λ (w : List ℕ). Ok (take (length ps) w)) rest ∙ ap (λ (w : List ℕ). Ok w) (take-append_seam ps ys) in
    ap (λ (r : Reading Varint). and_then r (keyed m)) (byte_at key xs (length ps ∷ (ps ++ ys)) h)
    ∙ cond-false (bad_key key) _ _ b
    ∙ ap₂ (λ (n t : ℕ). numbered n (value_at m t (length xs + 1))) ek et
    ∙ ap (λ (r : Reading Varint). numbered k (and_then r (λ v. and_then (bytes_at m v.next v.value) (λ bs. Ok (reached (part bs v.next) (v.next + v.value)))))) size
    ∙ ap (λ (r : Reading (List ℕ)). numbered k (and_then r (λ bs. Ok (reached (part bs (length xs + 1 + 1)) (length xs + 1 + 1 + length ps))))) bytes

-- a message of two fields
more_fields : (ok : Field → Bool) (fuel at : ℕ) (m : List ℕ) (f : Found) (fs : List Field) → at < length m → field_at m at ≡ Ok f → ok f.field ≡ true → fields_in ok fuel m f.next ≡ Ok fs
    → fields_in ok (suc fuel) m at ≡ Ok (f.field ∷ fs)
more_fields ok fuel at m f fs h e t g =
    cond-true (ltb at (length m)) _ _ (lt-ltb at (length m) h)
    ∙ ap (λ (r : Reading Found). and_then r (before ok (fields_in ok fuel m))) e
    ∙ cond-true (ok f.field) _ _ t
    ∙ ap (λ (r : Reading (List Field)). and_then r (λ gs. Ok (f.field ∷ gs))) g

no_fields : (ok : Field → Bool) (fuel at : ℕ) (m : List ℕ) → length m ≤ at → fields_in ok fuel m at ≡ Ok []
no_fields ok zero at m h = refl
no_fields ok (suc fuel) at m h = cond-false (ltb at (length m)) _ _ (le-ltb at (length m) h)

two_fields : (ok : Field → Bool) (m : List ℕ) (f g : Found) → 2 ≤ length m → field_at m 0 ≡ Ok f → f.next < length m → field_at m f.next ≡ Ok g → length m ≤ g.next → ok f.field ≡ true → ok g.field ≡ true
    → fields_that ok m ≡ Ok (f.field ∷ g.field ∷ [])
two_fields ok m f g long e1 h1 e2 h2 t1 t2 =
    let fuel : length m - 0 ≡ suc (suc (length m - 2)) = omega arith in
    ap (λ (n : ℕ). fields_in ok n m 0) fuel
    ∙ more_fields ok (suc (length m - 2)) 0 m f (g.field ∷ []) (omega arith) e1 t1 (more_fields ok (length m - 2) f.next m g [] h1 e2 t2 (no_fields ok (length m - 2) g.next m h2))

one_level : (k : MessageKind) (m : List ℕ) (fs : List Field) → fields_that (fits k) m ≡ Ok fs → level_of (record { kind = k; bytes = m } ∷ []) ≡ Ok (record { kind = k; fields = fs } ∷ [])
one_level k m fs e = ap (λ (r : Reading (List Field)). and_then r (λ gs. Ok (record { kind = k; fields = gs } ∷ []))) e

-- what the fields of the three messages come to
told : (t : Checksum) (n : ℕ) (ts is : List ℕ) (a b : ℕ) → 0 < n → n < 2 ^ 32
    → response_in (record { kind = block_op_response; fields = field 1 (varint 0) ∷ field 4 (part is a) ∷ [] }
    ∷ record { kind = read_op_checksum_info; fields = field 1 (part ts b) ∷ field 2 (varint 0) ∷ [] }
    ∷ record { kind = checksum_proto; fields = field 1 (varint (type_number t)) ∷ field 2 (varint n) ∷ [] } ∷ [])
    ≡ Ok (Some (record { kind = t; bytes_per_checksum = n }))
told Crc32 n ts is a b p h = let low : low32 n ≡ n = omega arith in ap (checked_by (Some Crc32)) low ∙ cond-false (eqb n 0) _ _ (ne_eqb n 0 (λ e. omega arith))
told Crc32c n ts is a b p h = let low : low32 n ≡ n = omega arith in ap (checked_by (Some Crc32c)) low ∙ cond-false (eqb n 0) _ _ (ne_eqb n 0 (λ e. omega arith))

type_small : (t : Checksum) → type_number t < 128
type_small Crc32 = omega arith
type_small Crc32c = omega arith

checked_back : (k : ChecksumInfo) → 0 < k.bytes_per_checksum → k.bytes_per_checksum < 2 ^ 32 → response_of (response_bytes (Some k)) ≡ Ok (Some k)
unfolding response_of
checked_back k p h =
    let t = type_number k.kind in
    let n = k.bytes_per_checksum in
    let r = varint_bytes n in
    let short = varint_length n in
    let ts : List ℕ = 8 ∷ t ∷ 16 ∷ r in
    let is : List ℕ = 10 ∷ length ts ∷ (ts ++ 16 ∷ 0 ∷ []) in
    let ws : List ℕ = 8 ∷ 0 ∷ 34 ∷ length is ∷ is in
    let long = length-append ts (16 ∷ 0 ∷ []) in
    let few : length ts < 128 = omega arith in
    let few2 : length is < 128 = omega (arith, long) in
    let parts : response_bytes (Some k) ≡ ws =
    ap (λ (w : List ℕ). whole_bytes (info_bytes w)) (type_is k.kind r) ∙ ap whole_bytes (info_is ts few) ∙ whole_is is few2 in
    let type_fields : fields_that (fits checksum_proto) ts ≡ Ok (field 1 (varint t) ∷ field 2 (varint n) ∷ []) =
    two_fields (fits checksum_proto) ts (found (field 1 (varint t)) 2) (found (field 2 (varint n)) (2 + 1 + length r)) (omega arith)
    (small_at 8 1 t [] (16 ∷ r) (omega arith) refl refl refl (type_small k.kind)) (omega arith)
    (ap (λ (w : List ℕ). field_at (8 ∷ t ∷ 16 ∷ w) 2) (sym (append-nil r)) ∙ number_at 16 2 n (8 ∷ t ∷ []) [] (omega arith) refl refl refl (omega arith)) (omega arith) refl refl in
    let info_fields : fields_that (fits read_op_checksum_info) is ≡ Ok (field 1 (part ts 2) ∷ field 2 (varint 0) ∷ []) =
    two_fields (fits read_op_checksum_info) is (found (field 1 (part ts 2)) (2 + length ts)) (found (field 2 (varint 0)) (length (10 ∷ length ts ∷ ts) + 1 + 1)) (omega arith)
    (part_at 10 1 ts [] (16 ∷ 0 ∷ []) (omega arith) refl refl refl few) (omega (arith, long))
    (let place : 2 + length ts ≡ length (10 ∷ length ts ∷ ts) = omega arith in
    ap (field_at is) place ∙ small_at 16 2 0 (10 ∷ length ts ∷ ts) [] (omega arith) refl refl refl (omega arith)) (omega (arith, long)) refl refl in
    let whole_fields : fields_that (fits block_op_response) ws ≡ Ok (field 1 (varint 0) ∷ field 4 (part is 4) ∷ []) =
    two_fields (fits block_op_response) ws (found (field 1 (varint 0)) 2) (found (field 4 (part is 4)) (4 + length is)) (omega arith)
    (small_at 8 1 0 [] (34 ∷ length is ∷ is) (omega arith) refl refl refl (omega arith)) (omega arith)
    (ap (λ (w : List ℕ). field_at (8 ∷ 0 ∷ 34 ∷ length is ∷ w) 2) (sym (append-nil is)) ∙ part_at 34 4 is (8 ∷ 0 ∷ []) [] (omega arith) refl refl refl few2) (omega arith) refl refl in
    let o0 : Opened = record { kind = block_op_response; fields = field 1 (varint 0) ∷ field 4 (part is 4) ∷ [] } in
    let o1 : Opened = record { kind = read_op_checksum_info; fields = field 1 (part ts 2) ∷ field 2 (varint 0) ∷ [] } in
    let o2 : Opened = record { kind = checksum_proto; fields = field 1 (varint t) ∷ field 2 (varint n) ∷ [] } in
    let level1 : levels_of 1 (record { kind = checksum_proto; bytes = ts } ∷ []) ≡ Ok (o2 ∷ []) =
    ap (λ (x : Reading (List Opened)). and_then x (λ os. and_then (levels_of 0 (inner_of os)) (λ deeper. Ok (os ++ deeper)))) (one_level checksum_proto ts _ type_fields) in
    let level2 : levels_of 2 (record { kind = read_op_checksum_info; bytes = is } ∷ []) ≡ Ok (o1 ∷ o2 ∷ []) =
    ap (λ (x : Reading (List Opened)). and_then x (λ os. and_then (levels_of 1 (inner_of os)) (λ deeper. Ok (os ++ deeper)))) (one_level read_op_checksum_info is _ info_fields)
    ∙ ap (λ (x : Reading (List Opened)). and_then x (λ deeper. Ok (o1 ∷ deeper))) level1 in
    let level3 : levels_of 3 (record { kind = block_op_response; bytes = ws } ∷ []) ≡ Ok (o0 ∷ o1 ∷ o2 ∷ []) =
    ap (λ (x : Reading (List Opened)). and_then x (λ os. and_then (levels_of 2 (inner_of os)) (λ deeper. Ok (os ++ deeper)))) (one_level block_op_response ws _ whole_fields)
    ∙ ap (λ (x : Reading (List Opened)). and_then x (λ deeper. Ok (o0 ∷ deeper))) level2 in
    ap response_of parts ∙ ap (λ (x : Reading (List Opened)). from_fields x response_in) level3 ∙ told k.kind n ts is 4 2 p h

bare_back : response_of (response_bytes None) ≡ Ok None
unfolding response_of field_at varint_bytes groups_of
bare_back = refl

pub responses_return : ResponsesReturn
responses_return = record { bare = bare_back; checked = checked_back }
