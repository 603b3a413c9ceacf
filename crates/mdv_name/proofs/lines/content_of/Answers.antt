use Rattle.std.proofs.Common.{arith}
use Rattle.std.proofs.lemmas.List.Sums.{prefix_len-le-length}
use Rattle.mdv_name.specs.Lines.{is_within_line}
use Rattle.mdv_name.proofs.lines.content_of.Goals as goal

pub split_at-requires : goal.split_at-requires
split_at-requires c = omega (arith, prefix_len-le-length is_within_line c.args.line.now, c.count_line_bytes.ensures)
