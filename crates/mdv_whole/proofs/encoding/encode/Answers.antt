use Rattle.std.proofs.Common.{arith}
use Rattle.mdv_whole.proofs.encoding.encode.Goals as goal

pub lay_table-requires : goal.lay_table-requires
lay_table-requires c = omega (arith, c.text_bytes-bytes.ensures, c.min-most.ensures)

pub returns : goal.returns
returns c = record {
  ok = c.lay_table.ensures.placed (omega (arith, c.text_bytes-bytes.ensures, c.min-most.ensures));
  too_long = (λ no. cc (no), λ short. absurd (omega (arith, c.text_bytes-bytes.ensures, c.min-most.ensures)));
  numbers = tt;
  err = tt;
}
