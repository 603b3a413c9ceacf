use Rattle.std.proofs.Common.{ℕ, drop, ◌∙◌, ap, arith}
use Rattle.std.proofs.lemmas.List.Sums.{prefix_len-le-length}
use Rattle.mdv_name.specs.Path.{is_within_part}
use Rattle.mdv_name.proofs.Paths.{cut_set}
use Rattle.mdv_name.proofs.path.split_at_stroke.Goals as goal

pub split_at-requires : goal.split_at-requires
split_at-requires c = omega (arith, prefix_len-le-length is_within_part c.args.text.now, c.count_part_bytes.ensures)

pub returns-in_err-strip-clause-none : goal.returns-in_err-strip-clause-none
returns-in_err-strip-clause-none c =
    rw c.from_residual.ensures (λ set rest front.
    c.in_err-strip.ensures rest (c.split_at.ensures.back ∙ ap (λ (k : ℕ). drop k c.args.text.now) c.count_part_bytes.ensures ∙ (cut_set _ set rest front).1))
