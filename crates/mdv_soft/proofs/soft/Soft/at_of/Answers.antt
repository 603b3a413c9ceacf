use Rattle.std.proofs.Common.{ℕ, subst, sym}
use Rattle.mdv_soft.specs.Below.{LiesAs}
use Rattle.mdv_soft.specs.Softs.{soft_on}
use Rattle.mdv_soft.specs.OneCopy.{lies_as}
use Rattle.mdv_soft.proofs.soft.Soft.at_of.Goals as goal

pub returns-clause-lies : goal.returns-clause-lies
returns-clause-lies g c =
    let v = g.D.Placed.map c.args.self.now.base.now in
    let extents = c.args.self.now.extents.now in
    subst (λ (n : ℕ). LiesAs (soft_on v extents) c.args.at v n) (sym c.spot_in.ensures.block) (lies_as v extents c.args.at c.requires.well.1.are.on_base c.requires.within)
