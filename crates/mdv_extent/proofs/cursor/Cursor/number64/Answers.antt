use Rattle.std.proofs.Common.{◌∙◌, sym, ap, []}
use Rattle.byteorder.specs.Endian.{big_bytes, big_number}
use Rattle.byteorder.specs.Numbers.{big_number-reads_back}
use Rattle.mdv_extent.proofs.Fields.{same_fronts}
use Rattle.mdv_extent.proofs.cursor.Cursor.number64.Goals as goal

pub returns-clause-spelled : goal.returns-clause-spelled
returns-clause-spelled c = λ n rest fits is.
    let parts = same_fronts c.bytes.result.now (big_bytes 8 n) c.bytes.new.self rest c.bytes.ensures.length (sym c.bytes.ensures.spelled ∙ is) in
    (c.read_u64.ensures ∙ ap (big_number 8) parts.0 ∙ big_number-reads_back 8 n [] fits, parts.1)
