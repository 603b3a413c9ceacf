use Rattle.mdv_config.proofs.Taking.{taken_one}
use Rattle.mdv_config.proofs.uses.Uses.take.Goals as goal

pub returns : goal.returns
returns c uses is = taken_one c.args.geometry.now.slices c.args.slice uses c.has-used.result c.mark.new.self (c.has-used.ensures uses is) (c.mark.ensures uses is)
