use Rattle.std.proofs.Common.{rules}
use Rattle.std.proofs.lemmas.Fn.{filter_same}
use Rattle.mdv_shelf.specs.MemShelf.{has_begun}
use Rattle.mdv_shelf.proofs.mem_shelf.plan.Plan.crash.Goals as goal

pub returns-clause-losses : goal.returns-clause-losses
returns-clause-losses c = filter_same _ (λ l. has_begun c.args.self.now.calls l) _ (λ x b f called. search rules) _ _ c.retain.ensures.filtered
