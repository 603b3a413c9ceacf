use Rattle.std.proofs.Common.{refl, sym, ◌∙◌, subst}
use Rattle.std.specs.List.{All}
use Rattle.mdv_fitting.specs.Beside.{IsPart}
use Rattle.mdv_fitting.proofs.Named.{lies_named}
use Rattle.mdv_fitting.proofs.Partly.{are_parts}
use Rattle.mdv_fitting.proofs.fit.fits.Goals as goal

pub stand_together-requires-clause-named : goal.stand_together-requires-clause-named
stand_together-requires-clause-named c = lies_named c.args.geometry.now c.args.plan.now.lists c.parts_in-parts.result.now c.requires (sym c.all_lie.ensures ∙ c.if-not-all_lie.false)

pub stand_together-requires-clause-parts : goal.stand_together-requires-clause-parts
stand_together-requires-clause-parts c =
    let parts = c.parts_in-parts.ensures c.args.plan.now refl (c.as_slice.ensures ∙ c.in_ok-uses.ensures) in
    subst (All IsPart) (sym parts) (are_parts c.args.plan.now)
