use Rattle.std.proofs.Common.{sym, ◌∙◌}
use Rattle.messages.proofs.Openings.{checksums_open, checksum_opens}
use Rattle.messages.proofs.known.Known.open.Goals as goal

pub returns-in_ok-read_fields-in-Checksums : goal.returns-in_ok-read_fields-in-Checksums
returns-in_ok-read_fields-in-Checksums c = let e = c.default-in-Checksums.ensures in
    checksums_open c.args.self c.args.kind c.args.message.now c.default-in-Checksums.result c.unwrap_or-in-Checksums.result c.in_ok-read_fields-in-Checksums.field-0
    c.in-Checksums.is e.0 e.1.0 e.1.1.0 e.1.1.1 c.unwrap_or-in-Checksums.ensures (sym c.in_ok-read_fields-in-Checksums.was ∙ c.read_fields-in-Checksums.ensures)

pub returns-in_ok-read_fields-in-Checksum : goal.returns-in_ok-read_fields-in-Checksum
returns-in_ok-read_fields-in-Checksum c = let e = c.default-in-Checksum.ensures in
    checksum_opens c.args.self c.args.kind c.args.message.now c.default-in-Checksum.result c.unwrap_or-in-Checksum.result c.in_ok-read_fields-in-Checksum.field-0
    c.in-Checksum.is e.0 e.1 c.unwrap_or-in-Checksum.ensures (sym c.in_ok-read_fields-in-Checksum.was ∙ c.read_fields-in-Checksum.ensures)
