use Rattle.std.proofs.Common.{◌≡◌, sym, subst, arith}
use Rattle.std.specs.Prelude.{All}
use Rattle.mdv_config.specs.Below.{PartStatus}
use Rattle.mdv_config.specs.Table.{quiet_part}
use Rattle.mdv_config.proofs.Quiet.{all_replicated, replicated}
use Rattle.mdv_config.proofs.status.are_parts_quiet.Goals as goal

pub returns-then-parts-count : goal.returns-then-parts-count
returns-then-parts-count c =
    let okay = c.are_okay.ensures in (
      λ is. replicated quiet_part c.args.parts.now c.args.count (omega (arith, c.if-parts-count.true)) (okay.0 is),
      λ is. okay.1 (subst (All (λ (p : PartStatus). p ≡ quiet_part)) (sym is) (all_replicated quiet_part c.args.count)),
    )
