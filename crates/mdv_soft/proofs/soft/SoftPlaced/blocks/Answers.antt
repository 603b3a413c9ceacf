use Rattle.mdv_soft.specs.OneCopy.{soft_bounded}
use Rattle.mdv_soft.proofs.soft.SoftPlaced.blocks.Goals as goal

pub total_blocks-requires : goal.total_blocks-requires
total_blocks-requires g c = soft_bounded (g.D.Placed.map c.args.self.now.base.now) c.args.self.now.extents.now (g.met.D.Placed.bounded c.args.self.now.base.now c.requires.0) c.requires.1
