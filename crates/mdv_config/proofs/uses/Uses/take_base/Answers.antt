use Rattle.std.proofs.Common.{sym, subst, true}
use Rattle.mdv_config.specs.Below.{Base}
use Rattle.mdv_config.specs.Lists.{base_slices}
use Rattle.mdv_config.specs.Marks.{Takes}
use Rattle.mdv_config.proofs.Taking.{takes_none}
use Rattle.mdv_config.proofs.uses.Uses.take_base.Goals as goal

pub returns-in-Volume : goal.returns-in-Volume
returns-in-Volume c =
    let marks = c.args.self.now in
    subst (λ (b : Base). Takes c.args.geometry.now.slices (base_slices b) marks true marks) (sym c.in-Volume.is) (takes_none c.args.geometry.now.slices marks)
