use Rattle.std.proofs.Common.{subst}
use Rattle.mdv_name.specs.declared.slice_lines.SliceAt.{SliceAt}
use Rattle.mdv_config.specs.Slices.{Overlap}
use Rattle.mdv_config.proofs.uses.overlaps.Goals as goal

pub returns-in-Some : goal.returns-in-Some
returns-in-Some c =
    let at = c.in-Some.at in
    let share = c.share_a_block.ensures in (
      λ test. record { at = at; has = c.in-Some.ensures.value; overlap = share.0 test },
      λ over. share.1 (subst (λ (a : SliceAt). Overlap a c.args.other) (c.requires.once c.args.slice over.at at over.has c.in-Some.ensures.value) over.overlap),
    )

pub returns-in-None : goal.returns-in-None
returns-in-None c = (λ test. cc, λ over. absurd (c.in-None.ensures.none over.at over.has))
