use Rattle.mdv_engine.proofs.ReadJudging.{too_many}
use Rattle.mdv_engine.proofs.engine.Engine.transfer_place.Goals as goal

pub returns-then-count-gt-MOST_BLOCKS-clause-err : goal.returns-then-count-gt-MOST_BLOCKS-clause-err
returns-then-count-gt-MOST_BLOCKS-clause-err c = too_many c.args.self.now.host c.args.self.now.state.opened c.args.volume c.args.at c.args.count c.if-count-gt-MOST_BLOCKS.true c.in_ok-_there.ensures.free
