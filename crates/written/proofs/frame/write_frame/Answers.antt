use Rattle.std.proofs.Common.{rules, ◌≡◌, ℕ, ◌-◌, List, ◌++◌, length, sym, ap, ◌∙◌, arith}
use Rattle.packets.specs.Written.{sum_bytes, frame_bytes}
use Rattle.written.specs.Fronts.{fronted}
use Rattle.written.specs.Frames.{header_with, head_bytes, payload_len, over}
use Rattle.written.proofs.Heads.{head_length, sums_size, frame_parts, frame_end_is, three_put}
use Rattle.written.proofs.frame.write_frame.Goals as goal

pub returns-in_err-end-clause-says_its_length : goal.returns-in_err-end-clause-says_its_length
returns-in_err-end-clause-says_its_length c =
    let h = header_with c.args.offset_in_block c.args.seqno c.args.last_packet_in_block c.args.«data».now in
    let e = frame_end_is c.args.info h c.args.«data».now c.args.out.now in
    search (rules, e)

pub returns-in_err-end-clause-writes_the_frame : goal.returns-in_err-end-clause-writes_the_frame
returns-in_err-end-clause-writes_the_frame c =
    let h = header_with c.args.offset_in_block c.args.seqno c.args.last_packet_in_block c.args.«data».now in
    ap (λ r. over r (frame_bytes c.args.info h c.args.«data».now) c.args.out.now) (sym c.in_err-end.was ∙ c.frame_length.ensures.value ∙ frame_end_is c.args.info h c.args.«data».now c.args.out.now)

pub put_sums-data_at-requires-clause-room : goal.put_sums-data_at-requires-clause-room
put_sums-data_at-requires-clause-room c =
    let h = header_with c.args.offset_in_block c.args.seqno c.args.last_packet_in_block c.args.«data».now in
    let long : length c.deref.result.now ≡ 31 = ap length (c.deref.ensures.0 ∙ c.head.ensures) ∙ head_length (c.in_ok-end.end - 27) h in
    omega (arith, long, sums_size c.args.info c.args.«data».now, c.in_ok-end.ensures.size, c.in_ok-end.ensures.fits, c.put-sums_at.ensures.says_the_place_after, c.put-sums_at.auto.out)

pub put-requires : goal.put-requires
put-requires c =
    let h = header_with c.args.offset_in_block c.args.seqno c.args.last_packet_in_block c.args.«data».now in
    let long : length c.deref.result.now ≡ 31 = ap length (c.deref.ensures.0 ∙ c.head.ensures) ∙ head_length (c.in_ok-end.end - 27) h in
    omega (arith, long, sums_size c.args.info c.args.«data».now, c.in_ok-end.ensures.size, c.in_ok-end.ensures.fits, c.put-sums_at.ensures.says_the_place_after, c.put-sums_at.auto.out, c.put_sums-data_at.ensures.says_the_place_after, c.put_sums-data_at.auto.out)

pub returns-clause-writes_the_frame : goal.returns-clause-writes_the_frame
returns-clause-writes_the_frame c =
    let d = c.args.«data».now in
    let bs = c.args.out.now in
    let h = header_with c.args.offset_in_block c.args.seqno c.args.last_packet_in_block d in
    let sums = sum_bytes c.args.info d in
    let head : c.deref.result.now ≡ head_bytes (c.in_ok-end.end - 27) h = c.deref.ensures.0 ∙ c.head.ensures in
    let payload : c.in_ok-end.end - 27 ≡ payload_len c.args.info (length d) = omega (arith, c.in_ok-end.ensures.size) in
    three_put bs c.deref.result.now sums d c.put-sums_at.new.out c.put_sums-data_at.new.out c.put.new.out c.put-sums_at.result c.put_sums-data_at.result
    c.put-sums_at.ensures.puts_the_bytes c.put-sums_at.ensures.says_the_place_after c.put_sums-data_at.ensures.puts_the_sums c.put_sums-data_at.ensures.says_the_place_after c.put.ensures.puts_the_bytes
    ∙ ap (λ (w : List ℕ). fronted ((w ++ sums) ++ d) bs) (head ∙ ap (λ (p : ℕ). head_bytes p h) payload)
    ∙ ap (λ (w : List ℕ). fronted w bs) (frame_parts c.args.info h d)
    ∙ ap (λ r. over r (frame_bytes c.args.info h d) bs) (sym c.in_ok-end.was ∙ c.frame_length.ensures.value ∙ frame_end_is c.args.info h d bs)
